-- What is done with the parts of types, paths, arguments and bounds records the constants in them.
use Rattle.std.proofs.Common.{subst, Bool, true, false, not, List, [], ◌∷◌, ◌++◌, Option, Some, None, is_some}
use Rattle.hir_store.specs.Pointers.{Pointer}
use Rattle.hir_store.specs.declared.hir.Mutability.{Mutability}
use Rattle.hir_store.specs.declared.ids.PatId.{PatId}
use Rattle.hir_store.specs.declared.ids.TypeRefId.{TypeRefId}
use Rattle.hir_store.specs.declared.ids.LifetimeRefId.{LifetimeRefId}
use Rattle.hir_store.specs.declared.name.Name.{Name}
use Rattle.hir_store.specs.declared.path.Path.{Path as HirPath}
use Rattle.hir_store.specs.declared.path.GenericArgs.{GenericArgs}
use Rattle.hir_store.specs.declared.type_ref.ConstRef.{ConstRef}
use Rattle.hir_store.specs.declared.type_ref.TypeBound.{TypeBound}
use Rattle.hir_store.specs.declared.type_ref.UseArgRef.{UseArgRef}
use Rattle.hir_env.specs.declared.ctx.ImplTrait.{ImplTrait}
use Rattle.hir_env.specs.ResolvedTree as tree
use Rattle.hir_env.specs.ResolvedTree.{Binder, Called, FnHead, Lifetime, TypeUnary, UseRead}
use Rattle.hir_lower_builder.specs.declared.walk.PathWalk.{PathWalk}
use Rattle.hir_lower_builder.specs.declared.walk.Reading.{Reading}
use Rattle.hir_lower_builder.specs.declared.walk.Reading.TheVariants.{Refused, Ended, Open}
use Rattle.hir_lower_builder.specs.Lowering.{Lowering, ◌>>=◌}
use Rattle.hir_lower_builder.specs.Forms.{ExprSteps}
use Rattle.hir_lower_builder.specs.Pats.{called_pat_form, missing_pat, uncalled_pat}
use Rattle.hir_lower_builder.specs.Ranges.{limits_form, type_alternatives_form}
use Rattle.hir_lower_builder.specs.Walks as walks
use Rattle.hir_lower_builder.specs.Paths.{proceed, whole, or_count_out, read_trait, with_trait, parens_form, or_else, segment_args_form}
use Rattle.hir_lower_builder.specs.Types.{TypeSteps, error_type, unit_type, lower_lifetime, lower_lifetime_option, lower_use, lower_uses}
use Rattle.hir_lower_builder.specs.Types.{over_form, pattern_type_form, array_type_form, tuple_type_form, path_type_form}
use Rattle.hir_lower_builder.specs.Types.{called_type_form, ref_type_form, fn_type_form, uncalled_type}
use Rattle.hir_lower_builder.specs.Types.{impl_type_form, dyn_type_form, binding_form, path_bound_of, path_bound_form}
use Rattle.spec_semantics.specs.Inner.{Bodies}
use Rattle.thm_logic.proofs.Calls.{only_emitted}
use Rattle.thm_body_result.specs.Size.{Size, a_pat, a_pat_call, a_type, a_type_call, an_impl, if_so, uncalled_pat_size}
use Rattle.thm_body_result.specs.Size.{uncalled_type_size, ◌∪◌}
use Rattle.thm_logic.specs.PathSeen.{Seen, Read, at_first}
use Rattle.thm_body_result.specs.PathRoom.{before, lifetime_size, use_size, uses_size}
use Rattle.thm_logic.proofs.PathAnswers.{walk_seen, seen_of, Gives, Yields}
use Rattle.thm_body_result.proofs.Emissions.{Emits}
use Rattle.thm_type_result.proofs.Tracking.{SideOutput, tracks_then, tracks_given, tracks_end, tracks_pure, tracks_type, tracks_lifetime}
use Rattle.thm_type_result.proofs.Tracking.{tracks_becoming, tracks_count_out, tracks_tracked, tracks_only, tracks_pat, tracks_point_pat}
use Rattle.thm_type_result.proofs.Tracking.{tracks_point_type}

-- what becomes so much
abbrev pub TracksOf : {A : Type 0} → Size → Lowering A → Type 0
TracksOf n p = SideOutput n.inner p

-- types

pub error_tracks : SideOutput [] error_type
unfolding error_type
error_tracks = tracks_type _ None

pub unit_tracks : SideOutput [] unit_type
unfolding unit_type
unit_tracks = tracks_type _ None

pub lifetime_tracks : (l : Lifetime) → SideOutput [] (lower_lifetime l)
unfolding lower_lifetime
lifetime_tracks l = tracks_tracked _ (tracks_lifetime _ _)

pub lifetime_option_tracks : (l : Option Lifetime) → TracksOf (lifetime_size l) (lower_lifetime_option l)
lifetime_option_tracks None = tracks_pure None
lifetime_option_tracks (Some l) = tracks_end (lifetime_tracks l) (λ i. tracks_pure (Some i))

use_tracks : (u : UseRead) → TracksOf (use_size u) (lower_use u)
use_tracks (tree.used_name n) = tracks_pure _
use_tracks (tree.used_lifetime l) = tracks_end (lifetime_tracks l) (λ i. tracks_pure _)

pub uses_track : (done : List UseArgRef) (us : List UseRead) → TracksOf (uses_size us) (lower_uses done us)
uses_track done [] = tracks_pure done
uses_track done (u ∷ us) = tracks_then (use_tracks u) (λ x. uses_track _ us)

-- what is a type only where something is so
nothing_if : {A : Type 0} {p : Lowering A} (b : Bool) (source : Option Pointer) → SideOutput [] p → TracksOf (if_so b (a_type source)) p
nothing_if true source h = h
nothing_if false source h = h

module _ (at : Pointer) where
  pub over_tracks : (form : TypeUnary) {es : Bodies} {t : TypeSteps} → SideOutput es t → SideOutput (es ++ []) (over_form at form t)
  unfolding over_form
  over_tracks form h = tracks_then h (λ t. tracks_type _ _)

  pub array_tracks : {es fs : Bodies} {c : Lowering ConstRef} {t : TypeSteps} → SideOutput es c → SideOutput fs t
      → SideOutput (es ++ (fs ++ [])) (array_type_form at c t)
  unfolding array_type_form
  array_tracks h k = tracks_then h (λ c. tracks_then k (λ t. tracks_type _ _))

  pub tuple_tracks : {es : Bodies} {ts : Lowering (List TypeRefId)} → SideOutput es ts → SideOutput (es ++ []) (tuple_type_form at ts)
  unfolding tuple_type_form
  tuple_tracks h = tracks_then h (λ ts. tracks_type _ _)

  pub path_type_tracks : {es : Bodies} {p : Lowering (Option HirPath)} → SideOutput es p → SideOutput (es ++ []) (path_type_form at p)
  unfolding path_type_form
  path_type_tracks h = tracks_then h (λ p. tracks_type _ _)

  pub ref_tracks : (mutability : Mutability) {es fs : Bodies} {t : TypeSteps} {l : Lowering (Option LifetimeRefId)} → SideOutput es t
      → SideOutput fs l → SideOutput (es ++ (fs ++ [])) (ref_type_form at mutability t l)
  unfolding ref_type_form
  ref_tracks mutability h k = tracks_then h (λ t. tracks_then k (λ l. tracks_type _ _))

  pub fn_tracks : (binder : Option Binder) (head : FnHead) {es fs : Bodies} {ts : Lowering (List TypeRefId)} {r : TypeSteps}
      → SideOutput es r → SideOutput fs ts → SideOutput (es ++ (fs ++ [])) (fn_type_form at binder head ts r)
  unfolding fn_type_form
  fn_tracks binder head h k = tracks_then h (λ r. tracks_then k (λ ts. tracks_type _ _))

  -- a pattern behind its type
  pub pattern_tracks : {es fs : Bodies} {t : TypeSteps} {p : Lowering PatId} → SideOutput es t → SideOutput fs p
      → SideOutput (es ++ (fs ++ [])) (pattern_type_form at t p)
  unfolding pattern_type_form
  pattern_tracks h k = tracks_then h (λ t. tracks_then k (λ p. tracks_type _ _))

  -- both ends of a range
  pub limits_tracks : {es fs : Bodies} {s e : ExprSteps} → SideOutput es s → SideOutput fs e
      → SideOutput (es ++ (fs ++ [])) (limits_form at s e)
  unfolding limits_form
  limits_tracks h k = tracks_then h (λ s. tracks_then k (λ e. tracks_pat _ _))

  pub alternatives_tracks : {es : Bodies} {ps : Lowering (List PatId)} → SideOutput es ps
      → SideOutput (es ++ []) (type_alternatives_form at ps)
  unfolding type_alternatives_form
  alternatives_tracks h = tracks_then h (λ ps. tracks_pat _ _)

  pub impl_tracks : (mode : ImplTrait) {es : Bodies} {bs : Lowering (List TypeBound)} → SideOutput es bs
      → SideOutput (es ++ (an_impl mode at).inner) (impl_type_form at mode bs)
  unfolding impl_type_form
  impl_tracks mode h = tracks_then h (λ bs. tracks_becoming at mode bs)

  pub dyn_tracks : {es : Bodies} {bs : Lowering (List TypeBound)} → SideOutput es bs → SideOutput (es ++ []) (dyn_type_form at bs)
  unfolding dyn_type_form
  dyn_tracks h = tracks_then h (λ bs. tracks_type _ _)

  bound_of_tracks : (maybe : Bool) (binder : Binder) (p : Option HirPath) → SideOutput [] (path_bound_of at maybe binder p)
  bound_of_tracks maybe binder None = tracks_pure _
  bound_of_tracks maybe binder (Some p) = tracks_end (tracks_type _ _) (λ i. tracks_pure _)

  pub path_bound_tracks : (maybe : Bool) (binder : Binder) (b : Bool) {es : Bodies} {p : Lowering (Option HirPath)} → SideOutput es p
      → SideOutput (es ++ (if_so b (a_type (Some at))).inner) (path_bound_form at maybe binder p)
  unfolding path_bound_form
  path_bound_tracks maybe binder b h = tracks_then h (λ p. nothing_if b (Some at) (bound_of_tracks maybe binder p))

pub missing_pat_tracks : SideOutput [] missing_pat
unfolding missing_pat
missing_pat_tracks = tracks_pat _ None

-- paths

proceed_tracks : (r : Reading) (k : Seen → Size) {f : PathWalk → Lowering Reading} → ((w : PathWalk) → TracksOf (k (walk_seen w)) (f w))
    → TracksOf (before (seen_of r) k) (proceed r f)
proceed_tracks Refused k h = tracks_pure Refused
proceed_tracks (Ended w) k h = tracks_pure (Ended w)
proceed_tracks (Open w) k h = h w

-- where it is known how far the first is read
pub reads_track : {n : Size} {read : Read} {es : Bodies} (k : Seen → Size) {p : Lowering Reading} {f : PathWalk → Lowering Reading}
    → SideOutput es p → Emits n (Gives read) p → ((w : PathWalk) → TracksOf (k (walk_seen w)) (f w))
    → SideOutput (es ++ (before read k).inner) (p >>= (λ r. proceed r f))
reads_track k {f = f} h is more =
    tracks_given h is (λ r e. subst (λ q. TracksOf (before q k) (proceed r f)) e (proceed_tracks r k more))

pub whole_tracks : {n : Size} {read : Read} {es : Bodies} (k : Seen → Size) {p : Lowering Reading}
    {f : PathWalk → Lowering Reading} → SideOutput es p → Emits n (Gives read) p → ((w : PathWalk) → TracksOf (k (walk_seen w)) (f w))
    → SideOutput (es ++ (before read k).inner) (whole p f)
unfolding whole
whole_tracks k h is more = reads_track k h is more

pub first_tracks : (leading : Bool) (v : PathWalk) (k : Seen → Size) {f : PathWalk → Lowering Reading}
    → ((w : PathWalk) → TracksOf (k (walk_seen w)) (f w)) → TracksOf (k (at_first leading (walk_seen v))) (f (walks.at_first leading v))
first_tracks true v k h = h (walks.at_first true v)
first_tracks false v k h = h v

pub counted_tracks : (r : Option Reading) → SideOutput [] (or_count_out r)
counted_tracks (Some r) = tracks_pure r
counted_tracks None = tracks_count_out

trait_tracks : (t : TypeRefId) (at : Pointer) (w : PathWalk) (p : Option HirPath) → SideOutput [] (read_trait t at w p)
trait_tracks t at w None = tracks_pure Refused
trait_tracks t at w (Some p) = tracks_end (tracks_type _ _) (λ i. tracks_pure _)

pub with_trait_tracks : (b : Bool) {es : Bodies} {p : Lowering (Option HirPath)} → SideOutput es p → (t : TypeRefId) (at : Pointer)
    (w : PathWalk) → SideOutput (es ++ (if_so b (a_type (Some at))).inner) (with_trait p t at w)
unfolding with_trait
with_trait_tracks b h t at w = tracks_then h (λ p. nothing_if b (Some at) (trait_tracks t at w p))

-- arguments

pub parens_tracks : {es fs : Bodies} {ts : Lowering (List TypeRefId)} {r : TypeSteps} → SideOutput es ts → SideOutput fs r
    → SideOutput (es ++ fs) (parens_form ts r)
unfolding parens_form
parens_tracks h k = tracks_then h (λ ts. tracks_then (tracks_type _ None) (λ t. tracks_end k (λ r. tracks_pure _)))

or_else_tracks : (a : Option GenericArgs) (b : Bool) (n : Size) {next : Lowering (Option GenericArgs)} → Yields b a → TracksOf n next
    → TracksOf (if_so (not b) n) (or_else a next)
or_else_tracks a b n {next = next} e h = subst (λ c. TracksOf (if_so (not c) n) (or_else a next)) e (by a)
  where
    by : (a : Option GenericArgs) → TracksOf (if_so (not (is_some a)) n) (or_else a next)
    by None = h
    by (Some a) = tracks_pure (Some a)

pub beside_tracks : {m : Size} {b : Bool} {es : Bodies} (n : Size) {as' ps : Lowering (Option GenericArgs)} → SideOutput es as'
    → Emits m (Yields b) as' → TracksOf n ps → (dots : Bool)
    → SideOutput (es ++ (if_so (not b) n).inner) (segment_args_form as' ps dots)
unfolding segment_args_form
beside_tracks {b = b} n h is k dots = tracks_given h is (λ a e. tracks_end (or_else_tracks a b n e k) (λ p. tracks_pure _))

pub binding_tracks : (name : Name) (dots : Bool) {es fs gs : Bodies} {a : Lowering (Option GenericArgs)}
    {t : Lowering (Option TypeRefId)} {bs : Lowering (List TypeBound)} → SideOutput es a → SideOutput fs t → SideOutput gs bs
    → SideOutput (es ++ (fs ++ gs)) (binding_form name dots a t bs)
unfolding binding_form
binding_tracks name dots ha ht hb = tracks_then ha (λ a. tracks_then ht (λ t. tracks_end hb (λ bs. tracks_pure _)))

-- macro calls

module _ (at : Pointer) where
  pub called_type_tracks : (c : Called) (n : Size) {t : TypeSteps} → TracksOf n t → TracksOf (n ∪ a_type_call at) (called_type_form at c t)
  unfolding called_type_form
  called_type_tracks c n h = tracks_then (tracks_only (only_emitted c))
      (λ u. tracks_then h (λ i. tracks_then (tracks_point_type at i) (λ v. tracks_pure i)))

  pub uncalled_type_tracks : (c : Called) → TracksOf (uncalled_type_size at c) (uncalled_type at c)
  uncalled_type_tracks tree.callless = tracks_type _ _
  uncalled_type_tracks c = called_type_tracks c (a_type None) error_tracks

  pub called_pat_tracks : (c : Called) (n : Size) {p : Lowering PatId} → TracksOf n p
      → TracksOf (n ∪ a_pat_call at) (called_pat_form at c (λ i. i) p)
  unfolding called_pat_form
  called_pat_tracks c n h = tracks_then (tracks_only (only_emitted c))
      (λ u. tracks_then h (λ i. tracks_then (tracks_point_pat at i) (λ v. tracks_pure i)))

  pub uncalled_pat_tracks : (c : Called) → TracksOf (uncalled_pat_size at c) (uncalled_pat at c)
  uncalled_pat_tracks tree.callless = missing_pat_tracks
  uncalled_pat_tracks c = called_pat_tracks c (a_pat None) missing_pat_tracks
