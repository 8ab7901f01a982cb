-- What is stored where one body was lowered is one result of its tree.
use Rattle.std.proofs.Common.{arith, refl, sym, ap, subst, ℕ, is_some, true≢false, [], ◌∷◌, ◌++◌, ◌∙◌, inl}
use Rattle.hir_store.proofs.Extending.{extends_refl, extends_root}
use Rattle.hir_store.specs.Arenas.{Sourced, MapsBack}
use Rattle.hir_store.specs.Stored.{store_of}
use Rattle.hir_store.specs.StoreSink.{pat_id, record_root, root_at, type_id}
use Rattle.hir_store.proofs.Maps.{maps_back_none}
use Rattle.thm_logic.specs.Keeps.{KeepsAll, Keeps, Paired, Mapped}
use Rattle.thm_logic.proofs.Keeping.{any, kept_by}
use Rattle.thm_logic.proofs.Mapping.{leads_none}
use Rattle.thm_body_result.specs.Theorems.{Defined, Grown, GrownUnless}
use Rattle.thm_body_result.specs.Leads.{LeadBack}
use Rattle.thm_body_result.specs.OneResult.{OneResults, fresh_owing, in_root_of, with_root}
use Rattle.thm_body_result.specs.Room.{body_size}
use Rattle.thm_body_result.specs.Size.{calls_led, led_by, sources_led, target_leads}
use Rattle.thm_body_result.proofs.AfterLowering.{after_lowering}
use Rattle.thm_body_result.proofs.Bodies.{body_corresponds}
use Rattle.thm_body_result.proofs.Fits.{bodies_fit}
use Rattle.thm_body_result.proofs.TreeRooms.{body_takes}
use Rattle.thm_body_result.proofs.Lasting.{Unchanged}
use Rattle.thm_body_result.proofs.Led.{leads_nowhere}
use Rattle.thm_body_result.proofs.PatMappings.{leads_back, targets_back}
use Rattle.thm_body_result.proofs.Took.{Room, Took}
use Rattle.thm_body_result.proofs.TreeBlocks.{body_enters}
use Rattle.thm_body_result.proofs.TreeFaults.{body_reports}

-- as it is said of a source map
pub lead_back : {T I : Type 0} (place : I → ℕ) (a : Sourced T I) → MapsBack place a → LeadBack place a.map a.sources []
lead_back place a h = record {
  to_source = λ p i e. inl (h.to_source p i e);
  to_entry = λ n p e. let l = h.to_entry n p e in (l.id, l.is, l.from);
}

pub one_results : OneResults
unfolding record_root
one_results limit owed kind skipped f e given id new is =
    let old = in_root_of (fresh_owing limit owed) in
    let none : Paired old.stored = record { exprs = refl; labels = refl; pats = refl; types = refl; lifetimes = refl } in
    let nowhere : Mapped old.stored = record {
      types = leads_none limit;
      lifetimes = maps_back_none (λ i. i.0) limit;
    } in
    let undefined : Defined old.stored = record {
      as_many = refl;
      each = λ b ps e. absurd (true≢false (sym (ap is_some e)));
      known = λ n b sub e. absurd (true≢false (sym (ap is_some e)));
    } in
    let kept : KeepsAll old new = subst (λ r. Keeps old r.0 r.1) is (kept_by (any (body_corresponds kind skipped f e)) old) in
    let paired = kept.paired none in
    let mapped = kept.mapped none nowhere in
    let final = with_root id new.stored in
    let stays = extends_root new.stored (root_at (store_of new.stored) id) in
    let lasts = after_lowering (body_corresponds kind skipped f e) old (given, id) new none is final stays in
    let same : Unchanged 0 new.stored final = record { at = λ n x le e. e } in
    let standing = (lasts.rel same).shown in
    let moved = standing.moved in
    let fits : Grown (body_size kind skipped f e) old.stored new.stored =
    subst (λ r. GrownUnless (body_size kind skipped f e) old r.0 r.1) is (bodies_fit kind skipped f e old none) in
    let took : Took (body_size kind skipped f e) old new =
    subst (λ r. Room (body_size kind skipped f e) old r.0 r.1) is ((body_takes kind skipped f e).takes old none) in
    let reported = after_lowering (body_reports kind skipped f e) old (given, id) new none is new.stored (extends_refl new.stored) in
    let faults = reported.emitted [] refl in
    let entered = after_lowering (body_enters kind skipped f e) old (given, id) new none is new.stored (extends_refl new.stored) in
    let blocks = entered.emitted [] refl in
    record {
      root = id;
      only = ap (λ rs. rs ++ root_at (store_of new.stored) id ∷ []) (kept.roots refl);
      expr_sources = paired.exprs;
      label_sources = paired.labels;
      pat_sources = fits.pat_sources;
      type_sources = fits.type_sources;
      lifetime_sources = fits.lifetime_sources;
      exprs = let n = fits.exprs in omega (arith, n);
      bindings = let n = fits.bindings in omega (arith, n);
      owners = fits.owners refl;
      pats = let n = fits.pats in omega (arith, n);
      types = let n = fits.types in omega (arith, n);
      lifetimes = let n = fits.lifetimes in omega (arith, n);
      pat_map = fits.pat_map;
      pat_mappings = let leads = (body_size kind skipped f e).pat_leads in
          subst (λ es. LeadBack (λ i. i.0) es (sources_led leads) (calls_led leads)) (sym fits.pat_map)
          (leads_back (λ i. i.0) pat_id (λ n. refl) leads);
      target_map = fits.target_map;
      target_mappings = let leads = target_leads (body_size kind skipped f e).pat_leads in
          subst (λ es. LeadBack (λ i. i.0) es (sources_led leads) (calls_led leads)) (sym fits.target_map)
          (targets_back (λ i. i.0) pat_id (λ n. refl) (body_size kind skipped f e).pat_leads);
      types_map = fits.types_map;
      type_mappings = let leads = (body_size kind skipped f e).type_leads in
          subst (λ es. LeadBack (λ i. i.0) es new.stored.types.sources (calls_led leads)) (sym fits.types_map)
          (subst (λ ss. LeadBack (λ i. i.0) (led_by type_id 0 leads []) ss (calls_led leads)) (took.type_leads ∙ sym fits.type_sources)
          (leads_back (λ i. i.0) type_id (λ n. refl) leads));
      lifetime_mappings = lead_back (λ i. i.0) new.stored.lifetimes mapped.lifetimes;
      definitions = moved.defined undefined;
      mappings = standing.mappings;
      corresponds = standing.shown;
      covers = moved.covers;
      covers_labels = moved.covers_labels;
      covers_bindings = moved.covers_bindings;
      owner_mappings = (moved.owners refl).are;
      leads = moved.led [] (leads_nowhere refl refl refl refl);
      labels = let l = moved.labels in omega (arith, l);
      faults = faults.is ∙ ap (λ ds. owed ++ ds) (sym faults.like);
      blocks = blocks.is ∙ ap (λ ns. [] ++ ns) (sym blocks.like);
    }
