-- What lifetimes, types, arguments and bounds note: a lifetime its name, an `impl` in an argument a parameter, and all else what is in it.
use Rattle.std.proofs.Common.{Bool, true, false, List, ◌++◌, Option, Some, None}
use Rattle.hir_lower_builder.specs.Paths as steps
use Rattle.hir_lower_builder.specs.Lowering.{Lowering, ◌>>=◌, alloc_type}
use Rattle.hir_lower_builder.specs.Types.{array_type_form, lower_lifetime_option, path_bound_of, path_bound_form, binding_form, TypeSteps}
use Rattle.hir_lower_builder.specs.Types.{over_form, tuple_type_form, path_type_form, ref_type_form, fn_type_form, impl_type_form}
use Rattle.hir_lower_builder.specs.Types.{dyn_type_form}
use Rattle.hir_store.specs.declared.type_ref.ConstRef.{ConstRef}
use Rattle.hir_store.specs.Pointers.{Pointer}
use Rattle.hir_store.specs.declared.hir.Mutability.{Mutability}
use Rattle.hir_store.specs.declared.ids.TypeRefId.{TypeRefId}
use Rattle.hir_store.specs.declared.name.Name.{Name}
use Rattle.hir_store.specs.declared.path.Path.{Path as HirPath}
use Rattle.hir_store.specs.declared.path.GenericArgs.{GenericArgs}
use Rattle.hir_store.specs.declared.type_ref.TypeBound.{TypeBound}
use Rattle.hir_env.specs.declared.ctx.ImplTrait.{ImplTrait}
use Rattle.hir_env.specs.ResolvedTree.{Binder, FnHead, Lifetime, TypeUnary}
use Rattle.hir_lower_builder.specs.declared.walk.PathWalk.{PathWalk}
use Rattle.hir_lower_builder.specs.declared.walk.Reading.TheVariants.{Refused}
use Rattle.hir_lower_builder.specs.Paths.{proceed, whole, or_count_out, with_trait, parens_form, or_else, segment_args_form}
use Rattle.std.proofs.Common.{◌≡◌, ◌∙◌, refl, sym, ap, ℕ, ◌∷◌, [], length, append-nil, nat_lt, slice_get, Ok, Err}
use Rattle.hir_store.specs.StoreSink as store_sink
use Rattle.hir_store.specs.StoreSink.{Extends}
use Rattle.hir_store.specs.declared.ids.GenericDefId.{GenericDefId}
use Rattle.hir_store.specs.declared.type_ref.LifetimeRef.{LifetimeRef}
use Rattle.hir_store.specs.declared.type_ref.LifetimeRef.TheVariants as lifetime
use Rattle.hir_store.specs.declared.type_ref.UseArgRef.{UseArgRef}
use Rattle.hir_store.proofs.Extending.{extends_refl}
use Rattle.hir_env.specs.declared.ctx.ImplTrait.TheVariants as becomes
use Rattle.hir_env.specs.declared.ctx.LifetimeScope.{LifetimeScope}
use Rattle.hir_env.specs.declared.ctx.LifetimeScope.TheVariants as scope
use Rattle.hir_env.specs.ResolvedTree as tree
use Rattle.hir_env.specs.ResolvedTree.{Bounds, UseRead}
use Rattle.hir_lower_builder.specs.Builder.{Builder}
use Rattle.hir_lower_builder.specs.Generics.{naming, predicates_of, unnamed_param, with_bounds, with_param}
use Rattle.hir_lower_builder.specs.Lowering as lowering
use Rattle.hir_lower_builder.specs.Lowering.{Checked, go_on, pure, ◌>>◌, add_param, alloc_lifetime, argument_form, count_out, track_down}
use Rattle.hir_lower_builder.specs.Lowering.{param_numbered}
use Rattle.hir_lower_builder.specs.Lowering.{param_type, with_side_output}
use Rattle.hir_lower_builder.specs.Types.{error_type, lower_lifetime, lower_use, lower_uses, unit_type}
use Rattle.thm_logic.specs.Keeps.{Paired}
use Rattle.thm_logic.proofs.Frames.{frames, ribs_frames}
use Rattle.thm_logic.proofs.Logic.{Holds}
use Rattle.thm_logic.proofs.TypeSteps.{AllocatedType, correct_alloc_lifetime, correct_alloc_type}
use Rattle.spec_data.specs.Fold.{becoming, of_use, of_uses}
use Rattle.spec_data.specs.Tracking.{Tracking, none, ◌⊕◌, of_lifetime, of_lifetime_option, one_name, one_ref}
use Rattle.spec_data.specs.Written.{bounds_data}
use Rattle.thm_round_trip.proofs.Layers.{Reads, many_bounds}
use Rattle.thm_round_trip.proofs.Now.{answered}
use Rattle.hir_store.proofs.Extending.{extends_trans}
use Rattle.thm_logic.proofs.Logic.{Correct, correct_in_store}
use Rattle.thm_generics.specs.Lists.{ReadAs, all_entries, Tracked}
use Rattle.thm_generics.proofs.Held.{EachHolds, all_here}
use Rattle.thm_generics.proofs.Logic.{LeavesTo, SideOutput, TracksTo, tracked_none, tracks_begin, tracks_by, tracks_end, tracks_pure}
use Rattle.thm_generics.proofs.Logic.{tracks_stored}
use Rattle.thm_generics.proofs.Logic.{tracks_then}
use Rattle.thm_generics.proofs.Steps.{tracks_type, quiet_type}

pub error_tracks : SideOutput none error_type
unfolding error_type
error_tracks = tracks_type _ None

pub unit_tracks : SideOutput none unit_type
unfolding unit_type
unit_tracks = tracks_type _ None

-- lifetimes

pub tracks_lifetime : (l : LifetimeRef) (at : Option Pointer) → SideOutput none (alloc_lifetime l at)
unfolding alloc_lifetime
tracks_lifetime l at = tracks_stored (store_sink.alloc_lifetime l at) (correct_alloc_lifetime l at)

tracked_name : (s : LifetimeScope) (n : Name) (b : Builder)
    → Tracked (one_name s n) b (record b { tracks = naming s (lifetime.Named n) b.tracks })
tracked_name scope.Nowhere n b = tracked_none (λ p. p) (extends_refl b.stored) refl
tracked_name scope.Bound n b = record {
  paired = λ p. p;
  stays = extends_refl b.stored;
  params = sym (append-nil b.tracks.generics.type_or_consts);
  lifetimes = refl;
  added = [];
  predicates = sym (append-nil b.tracks.generics.where_predicates);
  fits = refl;
  bounds = refl;
  input = refl;
  output = refl;
  scope = refl;
}
tracked_name scope.Input n b = record {
  paired = λ p. p;
  stays = extends_refl b.stored;
  params = sym (append-nil b.tracks.generics.type_or_consts);
  lifetimes = refl;
  added = [];
  predicates = sym (append-nil b.tracks.generics.where_predicates);
  fits = refl;
  bounds = refl;
  input = refl;
  output = refl;
  scope = refl;
}
tracked_name scope.Projection n b = tracked_none (λ p. p) (extends_refl b.stored) refl
tracked_name scope.Output n b = record {
  paired = λ p. p;
  stays = extends_refl b.stored;
  params = sym (append-nil b.tracks.generics.type_or_consts);
  lifetimes = refl;
  added = [];
  predicates = sym (append-nil b.tracks.generics.where_predicates);
  fits = refl;
  bounds = refl;
  input = refl;
  output = refl;
  scope = refl;
}

tracked_ref : (s : LifetimeScope) (l : LifetimeRef) (b : Builder) → Tracked (one_ref s l) b (record b { tracks = naming s l b.tracks })
tracked_ref s (lifetime.Named n) b = tracked_name s n b
tracked_ref s lifetime.Static b = tracked_none (λ p. p) (extends_refl b.stored) refl
tracked_ref s lifetime.Placeholder b = tracked_none (λ p. p) (extends_refl b.stored) refl
tracked_ref s lifetime.Error b = tracked_none (λ p. p) (extends_refl b.stored) refl

pub tracks_naming : (s : LifetimeScope) (l : LifetimeRef) → SideOutput (one_ref s l) (track_down (naming s l))
unfolding track_down
tracks_naming s l = record { at = λ b d. (d, tracked_ref s l b) }

pub lifetime_tracks : (l : Lifetime) → SideOutput (of_lifetime l) (lower_lifetime l)
unfolding lower_lifetime
lifetime_tracks l = tracks_end (tracks_naming l.scope l.lifetime) (λ u. tracks_lifetime l.lifetime (Some l.pointer))

pub lifetime_option_tracks : (l : Option Lifetime) → SideOutput (of_lifetime_option l) (lower_lifetime_option l)
lifetime_option_tracks None = tracks_pure None
lifetime_option_tracks (Some l) = tracks_end (lifetime_tracks l) (λ i. tracks_pure (Some i))

use_tracks : (u : UseRead) → SideOutput (of_use u) (lower_use u)
use_tracks (tree.used_name n) = tracks_pure _
use_tracks (tree.used_lifetime l) = tracks_end (lifetime_tracks l) (λ i. tracks_pure _)

pub uses_track : (done : List UseArgRef) (us : List UseRead) → SideOutput (of_uses us) (lower_uses done us)
uses_track done [] = tracks_pure done
uses_track done (u ∷ us) = tracks_then (use_tracks u) (λ x. uses_track _ us)

-- `impl`s

-- with a parameter more
abbrev with_unnamed : Builder → Builder
with_unnamed b = record b { tracks = with_param unnamed_param b.tracks }

module _ (def : GenericDefId) (at : Pointer) (x : Bounds) (bs : List TypeBound) where
  -- the number of the parameter
  abbrev place : Builder → ℕ
  place b = length b.tracks.generics.type_or_consts

  -- behind its type
  abbrev add_bounds : TypeRefId → Lowering TypeRefId
  add_bounds t = track_down (with_bounds t bs) >> pure t

  stored_to : (b : Builder) → Paired b.stored → ReadAs b.stored bs x → (o : Checked TypeRefId) (c : Builder)
      → Holds (AllocatedType (param_type def (place b)) (Some at)) c.stored (frames b.scopes) (with_unnamed b) o c
      → LeavesTo (with_unnamed b) o c
      → TracksTo (becoming (becomes.Argument def) at x) b (go_on o c add_bounds).0 (go_on o c add_bounds).1
  unfolding track_down
  stored_to b d read (Ok i) c h q =
      let row = h.in_final d (extends_refl c.stored) in (
        h.kept.paired d,
        record {
          paired = h.kept.paired;
          stays = h.kept.stays;
          params = ap (λ k. k.generics.type_or_consts) q;
          lifetimes = ap (λ k. k.generics.lifetimes) q;
          added = predicates_of i bs;
          predicates = ap (λ k. k.generics.where_predicates ++ predicates_of i bs) q;
          fits = record {
            target = i;
            bounds = bs;
            others = [];
            are = sym (append-nil (predicates_of i bs));
            read = λ final pre. read final (extends_trans h.kept.stays pre);
            corresponds = ap (λ k. slice_get c.stored.types.entries k) row.number ∙ row.here;
            from = ap (λ k. slice_get c.stored.types.sources k) row.number ∙ row.from;
            rest_fits = refl;
          };
          bounds = ap (λ k. k.named.where_clause) q;
          input = ap (λ k. k.named.constrained_by_input) q;
          output = ap (λ k. k.named.output) q;
          scope = ap (λ k. k.named.scope) q;
        },
      )
  stored_to b d read (Err e) c h q = tt

  -- the type of the parameter, and what must hold of it
  abbrev typed_as : ℕ → Lowering TypeRefId
  typed_as k = alloc_type (param_type def k) (Some at) >>= add_bounds

  numbered_to : (b : Builder) → Paired b.stored → ReadAs b.stored bs x → (room : Bool)
      → let p = param_numbered unnamed_param (place b) room >>= typed_as in
      TracksTo (becoming (becomes.Argument def) at x) b (p b).0 (p b).1
  unfolding track_down count_out
  numbered_to b d read true =
      let step = alloc_type (param_type def (place b)) (Some at) in
      let c = with_unnamed b in
      stored_to b d read (step c).0 (step c).1
      ((correct_alloc_type (param_type def (place b)) (Some at)).holds (step c).1.stored (frames b.scopes) c (ribs_frames b.scopes))
      ((quiet_type (param_type def (place b)) (Some at)).quiet c)
  numbered_to b d read false = tt

  argument_to : (b : Builder) → Paired b.stored → ReadAs b.stored bs x
      → TracksTo (becoming (becomes.Argument def) at x) b (argument_form def at bs b).0 (argument_form def at bs b).1
  unfolding argument_form add_param with_side_output
  argument_to b d read = numbered_to b d read (nat_lt (place b) 4294967295)

-- where its bounds read back so
becoming_to : (mode : ImplTrait) (at : Pointer) (x : Bounds) (bs : List TypeBound) (b : Builder) → Paired b.stored → ReadAs b.stored bs x
    → TracksTo (becoming mode at x) b (lowering.becoming at mode bs b).0 (lowering.becoming at mode bs b).1
becoming_to becomes.Error at x bs b d read = (tracks_type _ _).at b d
becoming_to becomes.Opaque at x bs b d read = (tracks_type _ _).at b d
becoming_to (becomes.Argument def) at x bs b d read = argument_to def at x bs b d read

bounds_read_as : (x : Bounds) {p : Lowering (List TypeBound)} → Correct p (Reads many_bounds (bounds_data x)) → Correct p (EachHolds x)
    → (b c : Builder) (bs : List TypeBound) → Paired b.stored → p b ≡ (Ok bs, c) → ReadAs c.stored bs x
bounds_read_as x h k b c bs d is = λ final pre.
    let row = answered (correct_in_store h) b c bs d is final pre in
    (row.rel.is (all_entries final) row.entries, all_here k b c bs d is final pre)

pub impl_tracks : (at : Pointer) (mode : ImplTrait) (x : Bounds) {D : Tracking} {bs : Lowering (List TypeBound)} → SideOutput D bs
    → Correct bs (Reads many_bounds (bounds_data x)) → Correct bs (EachHolds x)
    → SideOutput (D ⊕ becoming mode at x) (impl_type_form at mode bs)
unfolding impl_type_form
impl_tracks at mode x h read held = tracks_by (becoming mode at x) (λ r. lowering.becoming at mode r) h
    (λ b r c d e is. becoming_to mode at x r c e (bounds_read_as x read held b c r d is))

-- types

module _ (at : Pointer) where
  pub over_tracks : (form : TypeUnary) {D : Tracking} {t : TypeSteps} → SideOutput D t
      → SideOutput D (over_form at form t)
  unfolding over_form
  over_tracks form h = tracks_end h (λ t. tracks_type _ _)

  pub array_tracks : {D E : Tracking} {c : Lowering ConstRef} {t : TypeSteps} → SideOutput D c → SideOutput E t
      → SideOutput (D ⊕ E) (array_type_form at c t)
  unfolding array_type_form
  array_tracks h k = tracks_then h (λ c. tracks_end k (λ t. tracks_type _ _))

  pub tuple_tracks : {D : Tracking} {ts : Lowering (List TypeRefId)} → SideOutput D ts
      → SideOutput D (tuple_type_form at ts)
  unfolding tuple_type_form
  tuple_tracks h = tracks_end h (λ ts. tracks_type _ _)

  pub path_type_tracks : {D : Tracking} {p : Lowering (Option HirPath)} → SideOutput D p
      → SideOutput D (path_type_form at p)
  unfolding path_type_form
  path_type_tracks h = tracks_end h (λ p. tracks_type _ _)

  pub ref_tracks : (l : Option Lifetime) (mutability : Mutability) {D : Tracking} {t : TypeSteps} → SideOutput D t
      → SideOutput (D ⊕ of_lifetime_option l) (ref_type_form at mutability t (lower_lifetime_option l))
  unfolding ref_type_form
  ref_tracks l mutability h = tracks_then h (λ t. tracks_end (lifetime_option_tracks l) (λ i. tracks_type _ _))

  pub fn_tracks : (binder : Option Binder) (head : FnHead) {D E : Tracking} {ts : Lowering (List TypeRefId)} {r : TypeSteps}
      → SideOutput D r → SideOutput E ts → SideOutput (D ⊕ E) (fn_type_form at binder head ts r)
  unfolding fn_type_form
  fn_tracks binder head h k = tracks_then h (λ r. tracks_end k (λ ts. tracks_type _ _))

  pub dyn_tracks : {D : Tracking} {bs : Lowering (List TypeBound)} → SideOutput D bs
      → SideOutput D (dyn_type_form at bs)
  unfolding dyn_type_form
  dyn_tracks h = tracks_end h (λ bs. tracks_type _ _)

  bound_of_tracks : (maybe : Bool) (binder : Binder) (p : Option HirPath) → SideOutput none (path_bound_of at maybe binder p)
  bound_of_tracks maybe binder None = tracks_pure _
  bound_of_tracks maybe binder (Some p) = tracks_end (tracks_type _ _) (λ i. tracks_pure _)

  pub path_bound_tracks : (maybe : Bool) (binder : Binder) {D : Tracking} {p : Lowering (Option HirPath)}
      → SideOutput D p → SideOutput D (path_bound_form at maybe binder p)
  unfolding path_bound_form
  path_bound_tracks maybe binder h = tracks_end h (λ p. bound_of_tracks maybe binder p)

-- paths

trait_tracks : (t : TypeRefId) (at : Pointer) (w : PathWalk) (p : Option HirPath)
    → SideOutput none (steps.read_trait t at w p)
trait_tracks t at w None = tracks_pure Refused
trait_tracks t at w (Some p) = tracks_end (tracks_type _ _) (λ i. tracks_pure _)

pub with_trait_tracks : {D : Tracking} {p : Lowering (Option HirPath)} → SideOutput D p → (t : TypeRefId) (at : Pointer)
    (w : PathWalk) → SideOutput D (with_trait p t at w)
unfolding with_trait
with_trait_tracks h t at w = tracks_end h (λ p. trait_tracks t at w p)

-- arguments

pub parens_tracks : {D E : Tracking} {ts : Lowering (List TypeRefId)} {r : TypeSteps} → SideOutput D ts
    → SideOutput E r → SideOutput (D ⊕ E) (parens_form ts r)
unfolding parens_form
parens_tracks h k = tracks_then h (λ ts. tracks_begin (tracks_type _ None) (λ t. tracks_end k (λ r. tracks_pure _)))

pub binding_tracks : (name : Name) (dots : Bool) {D E F : Tracking} {a : Lowering (Option GenericArgs)}
    {t : Lowering (Option TypeRefId)} {bs : Lowering (List TypeBound)} → SideOutput D a → SideOutput E t
    → SideOutput F bs → SideOutput (D ⊕ (E ⊕ F)) (binding_form name dots a t bs)
unfolding binding_form
binding_tracks name dots ha ht hb = tracks_then ha (λ a. tracks_then ht (λ t. tracks_end hb (λ bs. tracks_pure _)))
