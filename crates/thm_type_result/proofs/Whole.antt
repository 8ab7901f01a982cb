-- What is stored where one type was lowered is one result of its tree.
use Rattle.std.proofs.Common.{arith, refl, sym, ap, subst, ◌∙◌, ℕ, [], None, is_some, true≢false}
use Rattle.hir_store.specs.Stored.{store_of, map_of}
use Rattle.hir_store.specs.StoreSink.{pat_id, type_id}
use Rattle.hir_store.proofs.Arenas.{prefix_refl}
use Rattle.hir_store.proofs.Maps.{maps_back_none}
use Rattle.hir_store.proofs.Extending.{extends_refl}
use Rattle.hir_lower_builder.specs.Builder.{new_builder}
use Rattle.thm_round_trip.proofs.Now.{type_theorem}
use Rattle.thm_logic.specs.Keeps.{Paired, Mapped, Keeps, KeepsAll}
use Rattle.thm_logic.proofs.Keeping.{types_keep}
use Rattle.thm_logic.proofs.Mapping.{leads_none}
use Rattle.thm_body_result.specs.Theorems.{Defined, Grown, GrownUnless, Settled}
use Rattle.thm_body_result.specs.Leads.{LeadBack}
use Rattle.thm_body_result.specs.Room.{type_part_size}
use Rattle.thm_body_result.specs.Size.{calls_led, led_by, sources_led, target_leads}
use Rattle.thm_body_result.proofs.Fits.{types_fit}
use Rattle.thm_body_result.proofs.Led.{leads_nowhere}
use Rattle.thm_body_result.proofs.PatMappings.{leads_back, targets_back}
use Rattle.thm_body_result.proofs.Took.{Room, Took}
use Rattle.thm_body_result.proofs.TreeBlocks.{type_enters}
use Rattle.thm_body_result.proofs.TreeFaults.{type_reports}
use Rattle.thm_body_result.proofs.TreeRooms.{type_part_takes}
use Rattle.thm_body_result.proofs.TreeCorresponds.{type_left}
use Rattle.thm_body_result.proofs.Whole.{lead_back}
use Rattle.thm_type_result.specs.Roots.{RootsAre, RootsOf, lengths_of, no_lengths}
use Rattle.thm_type_result.specs.TypeResult.{TypeResults, RefusedTypes}
use Rattle.thm_type_result.proofs.Behind.{blocks_behind, faults_behind, type_roots, mappings_behind}
use Rattle.thm_type_result.proofs.Inside.{type_inside}
use Rattle.thm_type_result.proofs.Named.{type_pats_once, types_once}

nothing_paired : (limit : ℕ) → Paired (new_builder limit).stored
nothing_paired limit = record { exprs = refl; labels = refl; pats = refl; types = refl; lifetimes = refl }

nothing_mapped : (limit : ℕ) → Mapped (new_builder limit).stored
nothing_mapped limit = record {
  types = leads_none limit;
  lifetimes = maps_back_none (λ i. i.0) limit;
}

nothing_defined : (limit : ℕ) → Defined (new_builder limit).stored
nothing_defined limit = record {
  as_many = refl;
  each = λ b ps e. absurd (true≢false (sym (ap is_some e)));
  known = λ n b sub e. absurd (true≢false (sym (ap is_some e)));
}

pub type_results : TypeResults
type_results limit t i new is =
    let old = new_builder limit in
    let none = nothing_paired limit in
    let kept : KeepsAll old new = subst (λ r. Keeps old r.0 r.1) is (types_keep None t old) in
    let paired = kept.paired none in
    let mapped = kept.mapped none (nothing_mapped limit) in
    let fits : Grown (type_part_size t) old.stored new.stored =
    subst (λ r. GrownUnless (type_part_size t) old r.0 r.1) is (types_fit None t old none) in
    let took : Took (type_part_size t) old new =
    subst (λ r. Room (type_part_size t) old r.0 r.1) is ((type_part_takes None t).takes old none) in
    let stays = extends_refl new.stored in
    let settled : Settled new.stored new.stored = prefix_refl new.stored.bindings.entries in
    let left = mappings_behind old new i none is (type_left None t) new.stored stays settled in
    let rooted = type_roots None t old new i none is new.stored stays in
    let r : RootsOf [] old.stored new.stored new.stored (type_part_size t).inner = rooted.0 in record {
      reads_back = type_theorem t old new i none is new.stored stays;
      inner = rooted.1;
      exprs = let n = fits.exprs in omega arith;
      labels = let n = fits.labels in omega arith;
      bindings = let n = fits.bindings in omega arith;
      owners = fits.owners refl;
      pats = let n = fits.pats in omega arith;
      types = let n = fits.types in omega arith;
      lifetimes = let n = fits.lifetimes in omega arith;
      expr_sources = paired.exprs;
      label_sources = paired.labels;
      pat_sources = fits.pat_sources;
      type_sources = fits.type_sources;
      lifetime_sources = fits.lifetime_sources;
      pat_map = fits.pat_map;
      pat_mappings = let leads = (type_part_size t).pat_leads in
          subst (λ es. LeadBack (λ i. i.0) es (sources_led leads) (calls_led leads)) (sym fits.pat_map)
          (leads_back (λ i. i.0) pat_id (λ n. refl) leads);
      target_map = fits.target_map;
      target_mappings = let leads = target_leads (type_part_size t).pat_leads in
          subst (λ es. LeadBack (λ i. i.0) es (sources_led leads) (calls_led leads)) (sym fits.target_map)
          (targets_back (λ i. i.0) pat_id (λ n. refl) (type_part_size t).pat_leads);
      types_map = fits.types_map;
      type_mappings = let leads = (type_part_size t).type_leads in
          subst (λ es. LeadBack (λ i. i.0) es new.stored.types.sources (calls_led leads)) (sym fits.types_map)
          (subst (λ ss. LeadBack (λ i. i.0) (led_by type_id 0 leads []) ss (calls_led leads)) (took.type_leads ∙ sym fits.type_sources)
          (leads_back (λ i. i.0) type_id (λ n. refl) leads));
      lifetime_mappings = lead_back (λ i. i.0) new.stored.lifetimes mapped.lifetimes;
      definitions = left.moved.defined (nothing_defined limit);
      mappings = left.mappings;
      corresponds = left.shown;
      covers = left.moved.covers;
      covers_labels = left.moved.covers_labels;
      covers_bindings = left.moved.covers_bindings;
      owner_mappings = (left.moved.owners refl).are;
      leads = left.moved.led [] (leads_nowhere refl refl refl refl);
      types_reached_once = λ depth le.
          types_once None t old new i none is new.stored stays depth le new.stored.exprs.entries refl new.stored.pats.entries refl;
      inside_reached_once = type_inside None t old new i none is new.stored stays;
      pats_reached_once = λ depth le.
          type_pats_once None t old new i none is new.stored stays depth le new.stored.exprs.entries refl new.stored.types.entries refl;
      roots =
          let s = store_of new.stored in
          subst (λ rs. RootsAre s (map_of new.stored) [] no_lengths (lengths_of s) rs (type_part_size t).inner) (sym r.is) (r.each settled);
      blocks = blocks_behind old new i none is (type_enters None t);
      faults = faults_behind old new i none is (type_reports None t) [] refl;
    }

pub refused_types : RefusedTypes
refused_types limit t fault new is =
    let old = new_builder limit in subst (λ r. GrownUnless (type_part_size t) old r.0 r.1) is (types_fit None t old (nothing_paired limit))
