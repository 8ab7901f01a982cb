-- What is lowered as a path is what is written.
use Rattle.std.proofs.Common.{◌≡◌, ◌≢◌, ◌+◌, ◌∙◌, refl, sym, ap, subst, Bool, false, [], Option, Some, None, Result, Ok, Err}
use Rattle.std.specs.Prelude.{IfOk, IsErrAnd, IsErrOf}
use Rattle.hir_syntax.specs.declared.ast.Path.{Path as AstPath}
use Rattle.std.proofs.Math.Logic.{∥∥₁_map}
use Rattle.hir_store.specs.Stored.{Stored, store_of, map_of}
use Rattle.hir_store.specs.StoreSink.{Extends}
use Rattle.hir_store.proofs.Arenas.{prefix_refl}
use Rattle.hir_store.proofs.Extending.{extends_refl}
use Rattle.hir_store.specs.declared.path.Path.{Path}
use Rattle.hir_store.specs.declared.error.StoreError.{StoreError}
use Rattle.hir_store.specs.declared.error.StoreError.TheVariants.{Memory, Full}
use Rattle.hir_env.specs.ResolveCtx.{ResolveCtx}
use Rattle.spec_data.specs.Reading.{stored_path}
use Rattle.spec_data.proofs.Segments.{segment_theorem}
use Rattle.hir_lower_builder.specs.Builder.{Builder}
use Rattle.hir_lower_builder.specs.Lowering.{Checked, SomeEnd}
use Rattle.hir_lower_builder.specs.Lower.{lower_path}
use Rattle.hir_lower_builder.specs.Methods.{LowersPath}
use Rattle.thm_logic.specs.Keeps.{Keeps, KeepsAll, MadeApart, Mapped, Paired}
use Rattle.thm_logic.proofs.ApartTree.{lower_path_apart}
use Rattle.thm_logic.proofs.Keeping.{apart_by, paths_keep}
use Rattle.thm_round_trip.proofs.Now.{path_theorem}
use Rattle.thm_body_result.specs.Theorems.{Defined, Grown, GrownUnless, MayBeOwned, Settled}
use Rattle.thm_body_result.specs.Diagnostics.{Around}
use Rattle.thm_body_result.specs.Room.{Short, whole_size}
use Rattle.thm_body_result.specs.Corresponds.{Open, WholeMappings}
use Rattle.thm_body_result.proofs.Fits.{paths_fit}
use Rattle.thm_body_result.proofs.Leading.{Shown}
use Rattle.thm_body_result.proofs.Emissions.{takes_of}
use Rattle.thm_body_result.proofs.Took.{Room, Took}
use Rattle.thm_body_result.proofs.TreeBlocks.{whole_enters}
use Rattle.thm_body_result.proofs.TreeFaults.{whole_reports}
use Rattle.thm_body_result.proofs.TreeRooms.{path_emits}
use Rattle.thm_body_result.proofs.TreeCorresponds.{whole_left}
use Rattle.thm_body_result.specs.LeadsOn.{Went}
use Rattle.thm_body_result.proofs.AsExpansions.{paths_expand}
use Rattle.thm_body_result.proofs.AsStoredData.{paths_store}
use Rattle.thm_type_result.specs.Roots.{RootsOf, recorded_bodies}
use Rattle.thm_type_result.proofs.Behind.{blocks_behind, faults_behind, path_roots, mappings_behind}
use Rattle.thm_type_result.proofs.Inside.{path_inside}
use Rattle.thm_type_result.proofs.Named.{path_bindings_came, path_pats_once, path_types_once}
use Rattle.thm_item_result.specs.Exceeding.{FitsBehind, HadRoom, InLimits}
use Rattle.thm_item_result.proofs.AsLimits.{room_is_there}
use Rattle.hir_lower.specs.declared.error.LowerError.{LowerError}
use Rattle.hir_lower.specs.declared.error.LowerError.TheVariants as refused
use Rattle.hir_lower.specs.Beside.{TakesArguments}
use Rattle.hir_lower.specs.Calls.{Outside, refusal}
use Rattle.hir_lower.specs.Means.{BearsNames, ConstantsLive, PathRooted, ReadsBack, whole_path}
use Rattle.hir_lower.specs.Stays.{Stays}
use Rattle.hir_lower.proofs.BesideTraits.{beside_theorem}
use Rattle.thm_body_result.proofs.AsMappings.{path_leads}
use Rattle.thm_body_result.proofs.Onward.{step_went}
use Rattle.hir_lower.proofs.StaysOn.{stays_on}

extends_of : (b : Builder) (o : Checked (Option Path)) (c : Builder) → Keeps b o c → Extends b.stored c.stored
extends_of b (Ok x) c h = h.stays
extends_of b (Err e) c h = h

-- `Full` behind a step that was refused is the step's own
pub full_before : {A P : Type 0} (f : StoreError) (r : Result A LowerError) → IsErrAnd r (λ e. e ≡ refusal f) → (f ≡ Full → P)
    → IsErrOf r refused.Full → P
full_before Full (Err e) is h full = h refl
full_before Memory (Err e) is h full = cc
full_before f (Ok x) is h full = cc

-- what is so of a path that stands alone
module _ (at : ResolveCtx) (x : AstPath) (b b' : Builder) where
  abbrev Alone : Checked (Option Path) → Type 0
  Alone r = LowersPath (whole_path at x) b r b'

  pub data_if : (r : Checked (Option Path)) → Alone r → Paired b.stored → IfOk r (λ y. ReadsBack b'.stored y (whole_path at x))
  data_if (Ok y) l d = λ later ext. path_theorem (whole_path at x) b b' y d l.0 later ext
  data_if (Err e) l d = tt

  pub names_if : (r : Checked (Option Path)) → Alone r → Paired b.stored → IfOk r (λ y. BearsNames b'.stored x y)
  names_if (Ok None) l d = tt
  names_if (Ok (Some y)) l d = λ later ext alone plain.
      segment_theorem at x (stored_path (store_of later) (map_of later) y) alone plain
      (sym (path_theorem (whole_path at x) b b' (Some y) d l.0 later ext))
  names_if (Err e) l d = tt

  pub arguments_if : (r : Checked (Option Path)) → Alone r → Paired b.stored → IfOk r (λ y. TakesArguments b'.stored at x y)
  arguments_if (Ok None) l d = tt
  arguments_if (Ok (Some y)) l d = λ later ext alone plain.
      beside_theorem at x (stored_path (store_of later) (map_of later) y) alone plain
      (sym (path_theorem (whole_path at x) b b' (Some y) d l.0 later ext))
  arguments_if (Err e) l d = tt

  -- where no label is open

  none_around : b.scopes ≡ [] → Around [] b.scopes
  none_around none = subst (λ rs. Around [] rs) (sym none) refl

  path_went : Went b.stored (lower_path (whole_path at x) b).1.stored
  path_went = step_went (path_leads (whole_path at x)) b

  path_stays : MayBeOwned b.stored → Stays b.stored (lower_path (whole_path at x) b).1.stored
  path_stays m =
      let o = lower_path (whole_path at x) b in
      stays_on (extends_of b o.0 o.1 (paths_keep (whole_path at x) b)) path_went m

  constants_live : (later : Stored) → b.scopes ≡ [] → MayBeOwned b.stored → Settled b.stored b'.stored
      → Shown (WholeMappings (store_of later) (map_of later) b.scopes (whole_path at x)) b.stored b'.stored
      → ConstantsLive b.stored b'.stored later (WholeMappings (store_of later) (map_of later) [] (whole_path at x))
  constants_live later none may settled w = record {
    mappings = w.mappings;
    corresponds = subst (λ rs. WholeMappings (store_of later) (map_of later) rs (whole_path at x) w.mappings) none w.shown;
    reaches = record {
      covers = w.moved.covers;
      covers_labels = w.moved.covers_labels;
      covers_bindings = w.moved.covers_bindings;
      led = w.moved.led;
      labels = w.moved.labels;
      settled = settled;
      defined = w.moved.defined;
      owner_mappings = λ may. (w.moved.owners may).are;
    };
    owner_mappings = (w.moved.owners may).are;
  }

  abbrev RootsIn : Stored → Open → Bool → Type 0
  RootsIn later around inside = RootsOf around b.stored b'.stored later (recorded_bodies inside (whole_size (whole_path at x)).inner)

  roots_outside : (later : Stored) → Outside b → RootsIn later b.scopes b.in_root → RootsIn later [] false
  roots_outside later out h =
      subst (λ around. RootsIn later around false) out.scopes (subst (λ inside. RootsIn later b.scopes inside) out.in_root h)

  pub rooted_path_if : (r : Checked (Option Path)) → Alone r → Paired b.stored → MayBeOwned b.stored → Outside b
      → IfOk r (λ y. PathRooted b.stored b'.stored y (whole_path at x))
  rooted_path_if (Ok y) l d m out =
      let p = whole_path at x in
      let none = out.scopes in
      let stays : Stays b.stored b'.stored = subst (λ q. Stays b.stored q.1.stored) l.0 (path_stays m) in
      let kept : KeepsAll b b' = subst (λ q. Keeps b q.0 q.1) l.0 (paths_keep (whole_path at x) b) in
      let grown : Grown (whole_size (whole_path at x)) b.stored b'.stored =
      subst (λ q. GrownUnless (whole_size (whole_path at x)) b q.0 q.1) l.0 (paths_fit (whole_path at x) b d) in
      record {
        inner = λ later ext. (path_roots p b b' y d l.0 later ext).1;
        lives = λ later ext still. constants_live later none m stays.bindings (mappings_behind b b' y d l.0 (whole_left p) later ext still);
        roots = λ later ext. roots_outside later out (path_roots p b b' y d l.0 later ext).0;
        faults = faults_behind b b' y d l.0 (whole_reports p) [] (none_around none);
        blocks = blocks_behind b b' y d l.0 (whole_enters p);
        expansions = paths_expand p b b' y d l.0;
        types_reached_once = λ later ext. path_types_once (whole_path at x) b b' y d l.0 later ext;
        pats_reached_once = λ later ext. path_pats_once (whole_path at x) b b' y d l.0 later ext;
        inside_reached_once = λ later ext depth le. path_inside p b b' y d l.0 later ext depth le;
        bindings_came = path_bindings_came p b b' y d l.0;
        grown = grown;
        stored_data = paths_store p b b' y d l.0;
        owners = grown.owners m;
        paired = kept.paired d;
        mapped = kept.mapped d;
      }
  rooted_path_if (Err e) l d m out = tt

  pub path_may_be_owned_if : (r : Checked (Option Path)) → Alone r → MayBeOwned b.stored → IfOk r (λ y. MayBeOwned b'.stored)
  path_may_be_owned_if (Ok y) l m =
      let w : Went b.stored b'.stored = subst (λ q. Went b.stored q.1.stored) l.0 path_went in (w.owners m).1
  path_may_be_owned_if (Err e) l m = tt

  pub path_defined_if : (r : Checked (Option Path)) → Alone r → Paired b.stored → MayBeOwned b.stored → Outside b → Defined b.stored
      → IfOk r (λ y. Defined b'.stored)
  path_defined_if (Ok y) l d m out known =
      let r : PathRooted b.stored b'.stored y (whole_path at x) = rooted_path_if (Ok y) l d m out in
      (r.lives b'.stored (extends_refl b'.stored) (prefix_refl b'.stored.bindings.entries)).reaches.defined known
  path_defined_if (Err e) l d m out known = tt

  pub path_mapped_if : (r : Checked (Option Path)) → Alone r → Paired b.stored → ∥ Mapped b.stored ∥₁
      → IfOk r (λ y. ∥ Mapped b'.stored ∥₁)
  path_mapped_if (Ok y) l d m =
      let kept : KeepsAll b b' = subst (λ q. Keeps b q.0 q.1) l.0 (paths_keep (whole_path at x) b) in ∥∥₁_map m (kept.mapped d)
  path_mapped_if (Err e) l d m = tt

  pub outside_path_if : (r : Checked (Option Path)) → Alone r → Outside b → IfOk r (λ y. Outside b')
  outside_path_if (Ok y) l o =
      let kept : KeepsAll b b' = subst (λ q. Keeps b q.0 q.1) l.0 (paths_keep (whole_path at x) b) in
      record { scopes = kept.scopes ∙ o.scopes; in_root = kept.in_root ∙ o.in_root }
  outside_path_if (Err e) l o = tt

  pub path_apart_if : (r : Checked (Option Path)) → Alone r → Paired b.stored → ∥ MadeApart b.names b.stored ∥₁
      → IfOk r (λ y. ∥ MadeApart b'.names b'.stored ∥₁)
  path_apart_if (Ok y) l d m = ∥∥₁_map m (apart_by (lower_path_apart (whole_path at x)) b b' y d l.0)
  path_apart_if (Err e) l d m = tt

  pub path_names_if : (r : Checked (Option Path)) → Alone r → Paired b.stored
      → IfOk r (λ y. b'.names ≡ b.names + (whole_size (whole_path at x)).names)
  path_names_if (Ok y) l d =
      let n = whole_size (whole_path at x) in
      let took : Took n b b' = subst (λ q. Room n b q.0 q.1) l.0 ((takes_of (path_emits (whole_path at x))).takes b d) in took.names
  path_names_if (Err e) l d = tt

  -- there was room for what came
  path_room : (y : Option Path) → Alone (Ok y) → Paired b.stored → InLimits b → HadRoom (whole_size (whole_path at x)) b b'
  path_room y l d w = room_is_there.paths (whole_path at x) b b' y d w l.0

  pub path_fits_if : (r : Checked (Option Path)) → Alone r → Paired b.stored → InLimits b
      → IfOk r (λ y. FitsBehind (whole_size (whole_path at x)) b)
  path_fits_if (Ok y) l d w = (path_room y l d w).fits
  path_fits_if (Err e) l d w = tt

  pub path_within_if : (r : Checked (Option Path)) → Alone r → Paired b.stored → InLimits b → IfOk r (λ y. InLimits b')
  path_within_if (Ok y) l d w = (path_room y l d w).within
  path_within_if (Err e) l d w = tt

  pub ends_if : (r : Checked (Option Path)) → Alone r → IsErrOf r Full → SomeEnd b'
  ends_if (Ok y) l is = cc
  ends_if (Err e) l is = let other : e ≢ Memory = λ m. cc in (l other).1

  short_if : (e : StoreError) → Paired b.stored → lower_path (whole_path at x) b ≡ (Err e, b') → Short (whole_size (whole_path at x)) b
  short_if e d is = subst (λ q. GrownUnless (whole_size (whole_path at x)) b q.0 q.1) is (paths_fit (whole_path at x) b d)

  pub path_too_large_if : (r : Checked (Option Path)) → Alone r → Paired b.stored → IsErrOf r Full
      → Short (whole_size (whole_path at x)) b
  path_too_large_if (Ok y) l d is = cc
  path_too_large_if (Err e) l d is = let other : e ≢ Memory = λ m. cc in short_if e d (l other).0

  pub path_stays_if : (r : Checked (Option Path)) → Alone r → MayBeOwned b.stored → r ≢ Err Memory → Stays b.stored b'.stored
  path_stays_if (Ok y) l m n = subst (λ q. Stays b.stored q.1.stored) l.0 (path_stays m)
  path_stays_if (Err e) l m n =
      let other : e ≢ Memory = λ is. n (ap Err is) in subst (λ q. Stays b.stored q.1.stored) (l other).0 (path_stays m)
