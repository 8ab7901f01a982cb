-- What is stored where one item was lowered is one result of its parts.
use Rattle.std.proofs.Common.{◌∙◌, refl, sym, ap, subst, arith, is_some, true≢false, ℕ, List, []}
use Rattle.hir_store.specs.StoreSink.{pat_id, type_id}
use Rattle.hir_store.proofs.Arenas.{prefix_refl}
use Rattle.hir_store.proofs.Extending.{extends_refl}
use Rattle.hir_store.proofs.Maps.{maps_back_none}
use Rattle.hir_lower_builder.specs.Builder.{new_builder}
use Rattle.hir_lower_builder.specs.Lowering.{Lowering}
use Rattle.thm_logic.specs.Keeps.{Mapped}
use Rattle.thm_logic.proofs.Mapping.{leads_none}
use Rattle.thm_body_result.specs.Theorems.{Defined, Grown, Settled}
use Rattle.thm_body_result.specs.Leads.{LeadBack}
use Rattle.thm_body_result.specs.Size.{calls_led, led_by, sources_led, target_leads}
use Rattle.thm_body_result.proofs.Led.{leads_nowhere}
use Rattle.thm_body_result.proofs.PatMappings.{leads_back, targets_back}
use Rattle.thm_body_result.proofs.Whole.{lead_back}
use Rattle.thm_body_result.proofs.AsExpansions.{expansions_graded}
use Rattle.thm_body_result.proofs.AsEmitting.{entered, fault_listing, emits_graded}
use Rattle.thm_type_result.proofs.Behind.{mappings_behind}
use Rattle.thm_item_result.specs.ItemResult.{FirstResult, ItemResults}
use Rattle.thm_item_result.specs.Parts.{Part}
use Rattle.thm_item_result.specs.Sizes.{parts_size}
use Rattle.thm_item_result.proofs.Quiet.{QuietAll, items_are_quiet, pats_apart, types_apart}
use Rattle.thm_item_result.proofs.Reading.{nothing_paired}
use Rattle.thm_item_result.proofs.Roots.{Records, first_of, items_record, kept_of}
use Rattle.thm_item_result.proofs.Emitted.{EmitsAll, first_blocks, first_expansions, first_faults, items_enter, items_expand}
use Rattle.thm_item_result.proofs.Emitted.{items_report}
use Rattle.thm_item_result.proofs.Took.{TakesAll, came_of, grown_of, items_take}
use Rattle.thm_item_result.proofs.Mappings.{LeavesAll, items_leave}

nothing_mapped : (limit : ℕ) → Mapped (new_builder limit).stored
nothing_mapped limit = record {
  types = leads_none limit;
  lifetimes = maps_back_none (λ i. i.0) limit;
}

nothing_defined : (limit : ℕ) → Defined (new_builder limit).stored
nothing_defined limit = record {
  as_many = refl;
  each = λ b ps e. absurd (true≢false (sym (ap is_some e)));
  known = λ n b sub e. absurd (true≢false (sym (ap is_some e)));
}

-- what is claimed of the steps
record Claims {A : Type 0} (xs : List Part) (p : Lowering A) : Type 0 where
  records : Records xs p
  takes : TakesAll xs p
  leaves : LeavesAll xs p
  quiet : QuietAll xs p
  blocks : EmitsAll (emits_graded entered) xs p
  faults : EmitsAll (emits_graded fault_listing) xs p
  expansions : EmitsAll expansions_graded xs p

result : {A : Type 0} {xs : List Part} {p : Lowering A} → Claims xs p → FirstResult xs p
result {xs = xs} h limit new a is =
    let old = new_builder limit in
    let none = nothing_paired limit in
    let n = parts_size xs in
    let kept = kept_of h.records old new a none is in
    let paired = kept.paired none in
    let mapped = kept.mapped none (nothing_mapped limit) in
    let took = (came_of h.takes old new a none is).took in
    let fits : Grown n old.stored new.stored = grown_of took in
    let stays = extends_refl new.stored in
    let settled : Settled new.stored new.stored = prefix_refl new.stored.bindings.entries in
    let left = mappings_behind old new a none is h.leaves.leaves new.stored stays settled in record {
      exprs = let n = fits.exprs in omega arith;
      labels = let n = fits.labels in omega arith;
      bindings = let n = fits.bindings in omega arith;
      owners = fits.owners refl;
      pats = let n = fits.pats in omega arith;
      types = let n = fits.types in omega arith;
      lifetimes = let n = fits.lifetimes in omega arith;
      expr_sources = paired.exprs;
      label_sources = paired.labels;
      pat_sources = fits.pat_sources;
      type_sources = fits.type_sources;
      lifetime_sources = fits.lifetime_sources;
      pat_map = fits.pat_map;
      pat_mappings = let leads = n.pat_leads in
          subst (λ es. LeadBack (λ i. i.0) es (sources_led leads) (calls_led leads)) (sym fits.pat_map)
          (leads_back (λ i. i.0) pat_id (λ n. refl) leads);
      target_map = fits.target_map;
      target_mappings = let leads = target_leads n.pat_leads in
          subst (λ es. LeadBack (λ i. i.0) es (sources_led leads) (calls_led leads)) (sym fits.target_map)
          (targets_back (λ i. i.0) pat_id (λ n. refl) n.pat_leads);
      types_map = fits.types_map;
      type_mappings = let leads = n.type_leads in
          subst (λ es. LeadBack (λ i. i.0) es new.stored.types.sources (calls_led leads)) (sym fits.types_map)
          (subst (λ ss. LeadBack (λ i. i.0) (led_by type_id 0 leads []) ss (calls_led leads)) (took.type_leads ∙ sym fits.type_sources)
          (leads_back (λ i. i.0) type_id (λ n. refl) leads));
      lifetime_mappings = lead_back (λ i. i.0) new.stored.lifetimes mapped.lifetimes;
      definitions = left.moved.defined (nothing_defined limit);
      mappings = left.mappings;
      corresponds = left.shown;
      covers = left.moved.covers;
      covers_labels = left.moved.covers_labels;
      covers_bindings = left.moved.covers_bindings;
      owner_mappings = (left.moved.owners refl).are;
      leads = left.moved.led [] (leads_nowhere refl refl refl refl);
      types_reached_once = λ depth le. types_apart h.quiet.quiet old new a none is new.stored stays
          depth le new.stored.exprs.entries refl new.stored.pats.entries refl;
      pats_reached_once = λ depth le. pats_apart h.quiet.quiet old new a none is new.stored stays
          depth le new.stored.exprs.entries refl new.stored.types.entries refl;
      roots = first_of h.records limit new a is;
      blocks = first_blocks limit new a none is h.blocks;
      faults = first_faults limit new a none is h.faults;
      expansions = first_expansions limit new a none is h.expansions;
    }

pub item_results : ItemResults
item_results def =
    let r = items_record def in
    let t = items_take def in
    let w = items_leave def in
    let q = items_are_quiet def in
    let b = items_enter def in
    let f = items_report def in
    let e = items_expand def in (
      λ g. result (record {
        records = r.0 g;
        takes = t.0 g;
        leaves = w.0 g;
        quiet = q.0 g;
        blocks = b.0 g;
        faults = f.0 g;
        expansions = e.0 g;
      }),
      λ x. result (record {
        records = r.1 x;
        takes = t.1 x;
        leaves = w.1 x;
        quiet = q.1 x;
        blocks = b.1 x;
        faults = f.1 x;
        expansions = e.1 x;
      }),
      λ x. result (record {
        records = r.2 x;
        takes = t.2 x;
        leaves = w.2 x;
        quiet = q.2 x;
        blocks = b.2 x;
        faults = f.2 x;
        expansions = e.2 x;
      }),
      λ x. result (record {
        records = r.3 x;
        takes = t.3 x;
        leaves = w.3 x;
        quiet = q.3 x;
        blocks = b.3 x;
        faults = f.3 x;
        expansions = e.3 x;
      }),
      λ x. result (record {
        records = r.4 x;
        takes = t.4 x;
        leaves = w.4 x;
        quiet = q.4 x;
        blocks = b.4 x;
        faults = f.4 x;
        expansions = e.4 x;
      }),
    )
