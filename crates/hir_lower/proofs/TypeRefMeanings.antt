-- What is lowered as a type behind what is stored is what is written.
use Rattle.std.proofs.Common.{◌≡◌, ◌≢◌, ◌+◌, ◌∙◌, refl, sym, ap, subst, Bool, false, [], Option, None, Ok, Err}
use Rattle.std.specs.Prelude.{IfOk, IsErrOf}
use Rattle.hir_syntax.specs.declared.types.Type_.{Type_ as AstType_}
use Rattle.std.proofs.Math.Logic.{∥∥₁_map}
use Rattle.hir_store.specs.Stored.{Stored, store_of, map_of}
use Rattle.hir_store.specs.StoreSink.{Extends}
use Rattle.hir_store.specs.Range.{HasType}
use Rattle.hir_store.proofs.Arenas.{prefix_refl}
use Rattle.hir_store.proofs.Extending.{extends_refl}
use Rattle.hir_store.specs.declared.ids.TypeRefId.{TypeRefId}
use Rattle.hir_store.specs.declared.error.StoreError.{StoreError}
use Rattle.hir_store.specs.declared.error.StoreError.TheVariants.{Memory, Full}
use Rattle.hir_env.specs.ResolveCtx.{ResolveCtx}
use Rattle.hir_lower_builder.specs.Builder.{Builder}
use Rattle.hir_lower_builder.specs.Lowering.{Checked, Lowers, SomeEnd}
use Rattle.hir_lower_builder.specs.Lower.{type_part}
use Rattle.thm_logic.specs.Keeps.{Keeps, KeepsAll, MadeApart, Mapped, Paired}
use Rattle.thm_logic.proofs.ApartTree.{type_apart}
use Rattle.thm_logic.proofs.GradedTree.{part_graded}
use Rattle.thm_logic.proofs.Keeping.{apart_by, types_keep}
use Rattle.thm_round_trip.proofs.Now.{type_theorem}
use Rattle.thm_body_result.specs.Theorems.{Defined, Grown, GrownUnless, MayBeOwned, Settled}
use Rattle.thm_body_result.specs.Diagnostics.{Around}
use Rattle.thm_body_result.specs.Room.{Short, type_part_size}
use Rattle.thm_body_result.specs.Corresponds.{Open, TypePartMappings}
use Rattle.thm_body_result.proofs.Fits.{types_fit}
use Rattle.thm_body_result.proofs.Leading.{Shown}
use Rattle.thm_body_result.proofs.Took.{Room, Took}
use Rattle.thm_body_result.proofs.TreeBlocks.{type_enters}
use Rattle.thm_body_result.proofs.TreeFaults.{type_reports}
use Rattle.thm_body_result.proofs.TreeRooms.{type_part_takes}
use Rattle.thm_body_result.proofs.TreeCorresponds.{type_left}
use Rattle.thm_body_result.specs.LeadsOn.{Went}
use Rattle.thm_body_result.proofs.AsExpansions.{types_expand}
use Rattle.thm_body_result.proofs.AsMappings.{mappings_graded}
use Rattle.thm_body_result.proofs.AsStoredData.{types_store}
use Rattle.thm_body_result.proofs.Onward.{step_went}
use Rattle.thm_type_result.specs.Roots.{RootsOf, recorded_bodies}
use Rattle.thm_type_result.proofs.Behind.{blocks_behind, faults_behind, type_roots, mappings_behind}
use Rattle.thm_type_result.proofs.Inside.{type_inside}
use Rattle.thm_type_result.proofs.Named.{type_bindings_came, type_pats_once, types_once}
use Rattle.thm_item_result.specs.Exceeding.{FitsBehind, HadRoom, InLimits}
use Rattle.thm_item_result.proofs.AsLimits.{room_is_there}
use Rattle.hir_lower.specs.Calls.{Outside}
use Rattle.hir_lower.specs.Means.{ConstantsLive, TypeReadsBack, TypeRooted, whole_type}
use Rattle.hir_lower.specs.Stays.{Stays}
use Rattle.hir_lower.proofs.StaysOn.{stays_on}

extends_of : (b : Builder) (o : Checked TypeRefId) (c : Builder) → Keeps b o c → Extends b.stored c.stored
extends_of b (Ok x) c h = h.stays
extends_of b (Err e) c h = h

-- what is so of a type that stands alone
module _ (at : ResolveCtx) (x : Option AstType_) (b b' : Builder) where
  abbrev Alone : Checked TypeRefId → Type 0
  Alone r = Lowers HasType (type_part None (whole_type at x)) b r b'

  pub type_data_if : (r : Checked TypeRefId) → Alone r → Paired b.stored → IfOk r (λ i. TypeReadsBack b'.stored i (whole_type at x))
  type_data_if (Ok i) l d = λ later ext. type_theorem (whole_type at x) b b' i d l.0 later ext
  type_data_if (Err e) l d = tt

  -- where no label is open

  none_around : b.scopes ≡ [] → Around [] b.scopes
  none_around none = subst (λ rs. Around [] rs) (sym none) refl

  type_went : Went b.stored (type_part None (whole_type at x) b).1.stored
  type_went = step_went (part_graded mappings_graded None (whole_type at x)) b

  type_stays : MayBeOwned b.stored → Stays b.stored (type_part None (whole_type at x) b).1.stored
  type_stays m =
      let o = type_part None (whole_type at x) b in
      stays_on (extends_of b o.0 o.1 (types_keep None (whole_type at x) b)) type_went m

  constants_live : (later : Stored) → b.scopes ≡ [] → MayBeOwned b.stored → Settled b.stored b'.stored
      → Shown (TypePartMappings (store_of later) (map_of later) b.scopes (whole_type at x)) b.stored b'.stored
      → ConstantsLive b.stored b'.stored later (TypePartMappings (store_of later) (map_of later) [] (whole_type at x))
  constants_live later none may settled w = record {
    mappings = w.mappings;
    corresponds = subst (λ rs. TypePartMappings (store_of later) (map_of later) rs (whole_type at x) w.mappings) none w.shown;
    reaches = record {
      covers = w.moved.covers;
      covers_labels = w.moved.covers_labels;
      covers_bindings = w.moved.covers_bindings;
      led = w.moved.led;
      labels = w.moved.labels;
      settled = settled;
      defined = w.moved.defined;
      owner_mappings = λ may. (w.moved.owners may).are;
    };
    owner_mappings = (w.moved.owners may).are;
  }

  abbrev RootsIn : Stored → Open → Bool → Type 0
  RootsIn later around inside =
      RootsOf around b.stored b'.stored later (recorded_bodies inside (type_part_size (whole_type at x)).inner)

  roots_outside : (later : Stored) → Outside b → RootsIn later b.scopes b.in_root → RootsIn later [] false
  roots_outside later out h =
      subst (λ around. RootsIn later around false) out.scopes (subst (λ inside. RootsIn later b.scopes inside) out.in_root h)

  pub rooted_type_if : (r : Checked TypeRefId) → Alone r → Paired b.stored → MayBeOwned b.stored → Outside b
      → IfOk r (λ i. TypeRooted b.stored b'.stored i (whole_type at x))
  rooted_type_if (Ok i) l d m out =
      let t = whole_type at x in
      let none = out.scopes in
      let stays : Stays b.stored b'.stored = subst (λ q. Stays b.stored q.1.stored) l.0 (type_stays m) in
      let kept : KeepsAll b b' = subst (λ q. Keeps b q.0 q.1) l.0 (types_keep None (whole_type at x) b) in
      let grown : Grown (type_part_size (whole_type at x)) b.stored b'.stored =
      subst (λ q. GrownUnless (type_part_size (whole_type at x)) b q.0 q.1) l.0 (types_fit None (whole_type at x) b d) in
      record {
        inner = λ later ext. (type_roots None t b b' i d l.0 later ext).1;
        lives = λ later ext still.
            constants_live later none m stays.bindings (mappings_behind b b' i d l.0 (type_left None t) later ext still);
        roots = λ later ext. roots_outside later out (type_roots None t b b' i d l.0 later ext).0;
        faults = faults_behind b b' i d l.0 (type_reports None t) [] (none_around none);
        blocks = blocks_behind b b' i d l.0 (type_enters None t);
        expansions = types_expand None t b b' i d l.0;
        types_reached_once = λ later ext. types_once None (whole_type at x) b b' i d l.0 later ext;
        pats_reached_once = λ later ext. type_pats_once None (whole_type at x) b b' i d l.0 later ext;
        inside_reached_once = λ later ext depth le. type_inside None t b b' i d l.0 later ext depth le;
        bindings_came = type_bindings_came None t b b' i d l.0;
        grown = grown;
        stored_data = types_store None t b b' i d l.0;
        owners = grown.owners m;
        paired = kept.paired d;
        mapped = kept.mapped d;
      }
  rooted_type_if (Err e) l d m out = tt

  pub type_may_be_owned_if : (r : Checked TypeRefId) → Alone r → MayBeOwned b.stored → IfOk r (λ i. MayBeOwned b'.stored)
  type_may_be_owned_if (Ok i) l m =
      let w : Went b.stored b'.stored = subst (λ q. Went b.stored q.1.stored) l.0 type_went in (w.owners m).1
  type_may_be_owned_if (Err e) l m = tt

  pub type_defined_if : (r : Checked TypeRefId) → Alone r → Paired b.stored → MayBeOwned b.stored → Outside b → Defined b.stored
      → IfOk r (λ i. Defined b'.stored)
  type_defined_if (Ok i) l d m out known =
      let r : TypeRooted b.stored b'.stored i (whole_type at x) = rooted_type_if (Ok i) l d m out in
      (r.lives b'.stored (extends_refl b'.stored) (prefix_refl b'.stored.bindings.entries)).reaches.defined known
  type_defined_if (Err e) l d m out known = tt

  pub type_mapped_if : (r : Checked TypeRefId) → Alone r → Paired b.stored → ∥ Mapped b.stored ∥₁
      → IfOk r (λ i. ∥ Mapped b'.stored ∥₁)
  type_mapped_if (Ok i) l d m =
      let kept : KeepsAll b b' = subst (λ q. Keeps b q.0 q.1) l.0 (types_keep None (whole_type at x) b) in ∥∥₁_map m (kept.mapped d)
  type_mapped_if (Err e) l d m = tt

  pub type_outside_if : (r : Checked TypeRefId) → Alone r → Outside b → IfOk r (λ i. Outside b')
  type_outside_if (Ok i) l o =
      let kept : KeepsAll b b' = subst (λ q. Keeps b q.0 q.1) l.0 (types_keep None (whole_type at x) b) in
      record { scopes = kept.scopes ∙ o.scopes; in_root = kept.in_root ∙ o.in_root }
  type_outside_if (Err e) l o = tt

  pub type_apart_if : (r : Checked TypeRefId) → Alone r → Paired b.stored → ∥ MadeApart b.names b.stored ∥₁
      → IfOk r (λ i. ∥ MadeApart b'.names b'.stored ∥₁)
  type_apart_if (Ok i) l d m = ∥∥₁_map m (apart_by (type_apart None (whole_type at x)) b b' i d l.0)
  type_apart_if (Err e) l d m = tt

  pub type_names_if : (r : Checked TypeRefId) → Alone r → Paired b.stored
      → IfOk r (λ i. b'.names ≡ b.names + (type_part_size (whole_type at x)).names)
  type_names_if (Ok i) l d =
      let n = type_part_size (whole_type at x) in
      let took : Took n b b' = subst (λ q. Room n b q.0 q.1) l.0 ((type_part_takes None (whole_type at x)).takes b d) in took.names
  type_names_if (Err e) l d = tt

  -- there was room for what came
  type_room : (i : TypeRefId) → Alone (Ok i) → Paired b.stored → InLimits b → HadRoom (type_part_size (whole_type at x)) b b'
  type_room i l d w = room_is_there.types (whole_type at x) b b' i d w l.0

  pub type_fits_behind_if : (r : Checked TypeRefId) → Alone r → Paired b.stored → InLimits b
      → IfOk r (λ i. FitsBehind (type_part_size (whole_type at x)) b)
  type_fits_behind_if (Ok i) l d w = (type_room i l d w).fits
  type_fits_behind_if (Err e) l d w = tt

  pub type_within_if : (r : Checked TypeRefId) → Alone r → Paired b.stored → InLimits b → IfOk r (λ i. InLimits b')
  type_within_if (Ok i) l d w = (type_room i l d w).within
  type_within_if (Err e) l d w = tt

  pub type_ends_if : (r : Checked TypeRefId) → Alone r → IsErrOf r Full → SomeEnd b'
  type_ends_if (Ok i) l is = cc
  type_ends_if (Err e) l is = let other : e ≢ Memory = λ m. cc in (l other).1

  short_if : (e : StoreError) → Paired b.stored → type_part None (whole_type at x) b ≡ (Err e, b')
      → Short (type_part_size (whole_type at x)) b
  short_if e d is =
      subst (λ q. GrownUnless (type_part_size (whole_type at x)) b q.0 q.1) is (types_fit None (whole_type at x) b d)

  pub type_too_large_if : (r : Checked TypeRefId) → Alone r → Paired b.stored → IsErrOf r Full
      → Short (type_part_size (whole_type at x)) b
  type_too_large_if (Ok i) l d is = cc
  type_too_large_if (Err e) l d is = let other : e ≢ Memory = λ m. cc in short_if e d (l other).0

  pub type_stays_if : (r : Checked TypeRefId) → Alone r → MayBeOwned b.stored → r ≢ Err Memory → Stays b.stored b'.stored
  type_stays_if (Ok i) l m n = subst (λ q. Stays b.stored q.1.stored) l.0 (type_stays m)
  type_stays_if (Err e) l m n =
      let other : e ≢ Memory = λ is. n (ap Err is) in subst (λ q. Stays b.stored q.1.stored) (l other).0 (type_stays m)
