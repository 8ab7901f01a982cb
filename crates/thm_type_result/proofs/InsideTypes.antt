-- What is answered for types, paths, arguments and bounds holds what their parts hold, and constants that were stored, each once.
use Rattle.std.proofs.Common.{◌≤◌, Bool, List, [], ◌∷◌, ◌++◌, Option, Some, None, arith}
use Rattle.std.specs.Prelude.{option_map}
use Rattle.hir_store.specs.Pointers.{Pointer}
use Rattle.hir_store.specs.declared.hir.Mutability.{Mutability}
use Rattle.hir_store.specs.declared.ids.PatId.{PatId}
use Rattle.hir_store.specs.declared.ids.TypeRefId.{TypeRefId}
use Rattle.hir_store.specs.declared.name.Name.{Name}
use Rattle.hir_store.specs.declared.path.AssociatedTypeBinding.{AssociatedTypeBinding}
use Rattle.hir_store.specs.declared.path.Path.{Path as HirPath}
use Rattle.hir_store.specs.declared.path.PathKind.{PathKind}
use Rattle.hir_store.specs.declared.path.GenericArgs.{GenericArgs}
use Rattle.hir_store.specs.declared.type_ref.ConstRef.{ConstRef}
use Rattle.hir_store.specs.declared.type_ref.TypeRef.{TypeRef}
use Rattle.hir_store.specs.declared.type_ref.TypeRef.TheVariants as ty
use Rattle.hir_store.specs.declared.type_ref.TypeBound.{TypeBound}
use Rattle.hir_env.specs.declared.ctx.ImplTrait.{ImplTrait}
use Rattle.hir_env.specs.ResolvedTree as tree
use Rattle.hir_env.specs.ResolvedTree.{Binder, Called, FnHead, Lifetime, TypeLeaf, TypeUnary}
use Rattle.hir_lower_builder.specs.declared.args.ArgLists.{ArgLists}
use Rattle.hir_lower_builder.specs.declared.walk.PathWalk.{PathWalk}
use Rattle.hir_lower_builder.specs.declared.walk.Reading.{Reading}
use Rattle.hir_lower_builder.specs.declared.walk.Reading.TheVariants.{Refused, Ended, Open}
use Rattle.hir_lower_builder.specs.Lowering.{Lowering, ◌>>=◌, pure, alloc_type}
use Rattle.hir_lower_builder.specs.Walks.{at_first, no_names, self_read, super_read, one_more_super, named}
use Rattle.hir_lower_builder.specs.Paths.{proceed, whole, or_count_out, read_trait, with_trait, parens_form, or_else, segment_args_form}
use Rattle.hir_lower_builder.specs.Types.{TypeSteps, error_type, unit_type, lower_lifetime_option, over_form, array_type_form}
use Rattle.hir_lower_builder.specs.Types.{called_type_form, pattern_type_form, uncalled_type}
use Rattle.hir_lower_builder.specs.Types.{tuple_type_form, path_type_form, ref_type_form, fn_type_form, impl_type_form, dyn_type_form}
use Rattle.hir_lower_builder.specs.Types.{stored_leaf_type, stored_over_type, path_or_error}
use Rattle.hir_lower_builder.specs.Types.{binding_form, path_bound_of, path_bound_form}
use Rattle.spec_semantics.specs.Inner.{Inners, Inside, all_of, of_present, of_bound, of_constant, of_type}
use Rattle.thm_semantics.proofs.HeldArgs.{of_binding}
use Rattle.thm_type_result.proofs.Counted.{either}
use Rattle.thm_type_result.proofs.HeldBecoming.{becoming_adds, lifetime_option_adds}
use Rattle.thm_type_result.proofs.Asked.{Correct}
use Rattle.thm_type_result.proofs.Weighed.{View, Cost, free, beside, a_type, a_type_pat, a_constant, sum, sum_append}
use Rattle.thm_type_result.proofs.Weighing.{Adds, adds_pure, adds_then, adds_beside, adds_any, adds_from, adds_type, adds_refused}
use Rattle.thm_generics.proofs.Steps.{tracks_point_type, tracks_emitted, tracks_type}
use Rattle.thm_type_result.proofs.Weights as weights

-- what is inside each kind of answer weighs

abbrev pub maybe_type : Option TypeRefId → Cost
maybe_type i v = sum v.weight (of_present v.held.type i)

abbrev pub types : List TypeRefId → Cost
types is v = sum v.weight (all_of v.held.type is)

abbrev pub a_bound : TypeBound → Cost
a_bound b v = sum v.weight (of_bound v.held b)

abbrev pub bounds : List TypeBound → Cost
bounds bs v = sum v.weight (all_of (of_bound v.held) bs)

abbrev pub a_binding : AssociatedTypeBinding → Cost
a_binding b v = sum v.weight (of_binding v.held b)

abbrev pub arguments : Option GenericArgs → Cost
arguments a v = weights.in_args v.weight v.held a

abbrev pub lists : ArgLists → Cost
lists l v = weights.in_lists v.weight v.held l

abbrev pub maybe_path : Option HirPath → Cost
maybe_path p v = weights.in_path v.weight v.held p

abbrev pub walk : PathWalk → Cost
walk w v = weights.in_walk v.weight v.held w

abbrev pub reading : Reading → Cost
reading r v = weights.in_reading v.weight v.held r

-- types

abbrev in_type : TypeRef → Cost
in_type t v = sum v.weight (of_type v.held t)

leaf_inside : (form : TypeLeaf) (v : View) → in_type (stored_leaf_type form) v ≤ 0
leaf_inside tree.never_leaf v = omega arith
leaf_inside tree.infer_leaf v = omega arith

over_inside : (form : TypeUnary) (t : TypeRefId) (v : View) → in_type (stored_over_type form t) v ≤ a_type t v
over_inside (tree.pointer_to mutability) t v = omega arith
over_inside tree.slice_of t v = omega arith

path_inside : (p : Option HirPath) (v : View) → in_type (path_or_error p) v ≤ maybe_path p v
path_inside None v = omega arith
path_inside (Some p) v = omega arith

pub error_adds : Correct error_type (Adds free a_type)
unfolding error_type
error_adds = adds_type ty.Error None (λ v. omega arith)

pub unit_adds : Correct unit_type (Adds free a_type)
unfolding unit_type
unit_adds = adds_type (ty.Tuple []) None (λ v. omega arith)

-- what a call stands for
pub called_type_adds : (at : Pointer) (c : Called) {t : TypeSteps} → Correct t (Adds free a_type)
    → Correct (called_type_form at c t) (Adds free a_type)
unfolding called_type_form
called_type_adds at c h = adds_then (adds_any (tracks_emitted c)) (λ u. adds_then h
    (λ i. adds_then (adds_any (tracks_point_type at i)) (λ v. adds_pure i (λ w. omega arith))))

pub uncalled_type_adds : (at : Pointer) (c : Called) → Correct (uncalled_type at c) (Adds free a_type)
uncalled_type_adds at tree.callless = adds_type ty.Error (Some at) (λ v. omega arith)
uncalled_type_adds at c = called_type_adds at c error_adds

module _ (at : Pointer) where
  pub leaf_adds : (form : TypeLeaf) → Correct (alloc_type (stored_leaf_type form) (Some at)) (Adds free a_type)
  leaf_adds form = adds_type _ (Some at) (leaf_inside form)

  pub over_adds : (form : TypeUnary) {t : TypeSteps} → Correct t (Adds free a_type) → Correct (over_form at form t) (Adds free a_type)
  unfolding over_form
  over_adds form h = adds_then h (λ t. adds_type _ (Some at) (over_inside form t))

  pub array_adds : {n : Lowering ConstRef} {t : TypeSteps} → Correct n (Adds free a_constant) → Correct t (Adds free a_type)
      → Correct (array_type_form at n t) (Adds free a_type)
  unfolding array_type_form
  array_adds h k = adds_then h (λ n. adds_then (adds_beside (a_constant n) k) (λ t. adds_type _ (Some at)
      (λ v. let e = sum_append v.weight (v.held.type t) (of_constant v.held n) in omega arith)))

  pub tuple_adds : {ts : Lowering (List TypeRefId)} → Correct ts (Adds free types) → Correct (tuple_type_form at ts) (Adds free a_type)
  unfolding tuple_type_form
  tuple_adds h = adds_then h (λ ts. adds_type _ (Some at) (λ v. omega arith))

  pub path_type_adds : {p : Lowering (Option HirPath)} → Correct p (Adds free maybe_path) → Correct (path_type_form at p) (Adds free a_type)
  unfolding path_type_form
  path_type_adds h = adds_then h (λ p. adds_type _ (Some at) (path_inside p))

  pub ref_adds : (mutability : Mutability) (l : Option Lifetime) {t : TypeSteps} → Correct t (Adds free a_type)
      → Correct (ref_type_form at mutability t (lower_lifetime_option l)) (Adds free a_type)
  unfolding ref_type_form
  ref_adds mutability l h = adds_then h (λ t. adds_then (lifetime_option_adds l) (λ i. adds_type _ (Some at) (λ v. omega arith)))

  pub fn_adds : (binder : Option Binder) (head : FnHead) {ts : Lowering (List TypeRefId)} {r : TypeSteps}
      → Correct ts (Adds free types) → Correct r (Adds free a_type) → Correct (fn_type_form at binder head ts r) (Adds free a_type)
  unfolding fn_type_form
  fn_adds binder head h k = adds_then k (λ r. adds_then (adds_beside (a_type r) h) (λ ts. adds_type _ (Some at)
      (λ v. let e = weights.each_push v.weight v.held.type ts r in omega arith)))

  -- a pattern behind its type
  pub pattern_adds : {t : TypeSteps} {p : Lowering PatId} → Correct t (Adds free a_type) → Correct p (Adds free a_type_pat)
      → Correct (pattern_type_form at t p) (Adds free a_type)
  unfolding pattern_type_form
  pattern_adds h k = adds_then h (λ t. adds_then (adds_beside (a_type t) k) (λ p. adds_type _ (Some at)
      (λ v. let e = sum_append v.weight (v.held.type t) (v.held.type_pat p) in omega arith)))

  pub impl_adds : (mode : ImplTrait) {bs : Lowering (List TypeBound)} → Correct bs (Adds free bounds)
      → Correct (impl_type_form at mode bs) (Adds free a_type)
  unfolding impl_type_form
  impl_adds mode h = adds_then h (λ bs. becoming_adds at mode bs)

  pub dyn_adds : {bs : Lowering (List TypeBound)} → Correct bs (Adds free bounds) → Correct (dyn_type_form at bs) (Adds free a_type)
  unfolding dyn_type_form
  dyn_adds h = adds_then h (λ bs. adds_type _ (Some at) (λ v. omega arith))

  pub bound_of_adds : (maybe : Bool) (binder : Binder) (p : Option HirPath)
      → Correct (path_bound_of at maybe binder p) (Adds (maybe_path p) a_bound)
  bound_of_adds maybe binder None = adds_pure _ (λ v. omega arith)
  bound_of_adds maybe binder (Some p) = adds_then (adds_type (ty.Path p) (Some at) (λ v. omega arith))
      (λ i. adds_pure _ (λ v. weights.path_bound_less v.weight v.held maybe binder i))

  pub path_bound_adds : (maybe : Bool) (binder : Binder) {p : Lowering (Option HirPath)} → Correct p (Adds free maybe_path)
      → Correct (path_bound_form at maybe binder p) (Adds free a_bound)
  unfolding path_bound_form
  path_bound_adds maybe binder h = adds_then h (λ p. bound_of_adds maybe binder p)

-- paths

pub proceed_adds : (r : Reading) {f : PathWalk → Lowering Reading} → ((w : PathWalk) → Correct (f w) (Adds (walk w) reading))
    → Correct (proceed r f) (Adds (reading r) reading)
proceed_adds Refused h = adds_pure Refused (λ v. omega arith)
proceed_adds (Ended w) h = adds_pure (Ended w) (λ v. omega arith)
proceed_adds (Open w) h = h w

pub whole_adds : {was : Cost} {p : Lowering Reading} {f : PathWalk → Lowering Reading} → Correct p (Adds was reading)
    → ((w : PathWalk) → Correct (f w) (Adds (walk w) reading)) → Correct (whole p f) (Adds was reading)
unfolding whole
whole_adds h k = adds_then h (λ r. proceed_adds r k)

pub super_adds : (w : PathWalk) → Correct (or_count_out (super_read w)) (Adds (walk w) reading)
super_adds w = go (one_more_super w.kind)
  where
    go : (o : Option PathKind) → Correct (or_count_out (option_map (λ k. Open (record w { kind = k })) o)) (Adds (walk w) reading)
    go None = adds_refused
    go (Some k) = adds_pure _ (λ v. omega arith)

pub self_adds : (w : PathWalk) → Correct (pure (self_read w)) (Adds (walk w) reading)
self_adds w = adds_pure _ (λ v. either (λ r. reading r v ≤ walk w v) (no_names w.names) (omega arith) (omega arith))

pub at_first_adds : {p : Lowering Reading} (leading : Bool) (w : PathWalk) → Correct p (Adds (walk (at_first leading w)) reading)
    → Correct p (Adds (walk w) reading)
at_first_adds leading w h = adds_from (λ v. weights.at_first_less v.weight v.held leading w) h

pub bare_adds : (n : Name) (w : PathWalk) → Correct (pure (named n None w)) (Adds (walk w) reading)
bare_adds n w = adds_pure _ (λ v. let e = weights.named_less v.weight v.held n None w in omega arith)

pub trait_adds : (t : TypeRefId) (at : Pointer) (w : PathWalk) (p : Option HirPath)
    → Correct (read_trait t at w p) (Adds (beside (beside (walk w) (a_type t)) (maybe_path p)) reading)
trait_adds t at w None = adds_pure Refused (λ v. omega arith)
trait_adds t at w (Some p) = adds_then (adds_any (tracks_type (ty.Path p) (Some at)))
    (λ i. adds_pure _ (λ v. weights.projected_less v.weight v.held t p w))

pub with_trait_adds : (t : TypeRefId) (at : Pointer) (w : PathWalk) {p : Lowering (Option HirPath)} → Correct p (Adds free maybe_path)
    → Correct (with_trait p t at w) (Adds (beside (walk w) (a_type t)) reading)
unfolding with_trait
with_trait_adds t at w h = adds_then (adds_beside (beside (walk w) (a_type t)) h) (λ p. trait_adds t at w p)

-- arguments

pub parens_form_adds : {ts : Lowering (List TypeRefId)} {r : TypeSteps} → Correct ts (Adds free types) → Correct r (Adds free a_type)
    → Correct (parens_form ts r) (Adds free arguments)
unfolding parens_form
parens_form_adds h k = adds_then h (λ ts. adds_then (adds_type (ty.Tuple ts) None (λ v. omega arith))
    (λ t. adds_then (adds_beside (a_type t) k) (λ o. adds_pure _ (λ v. weights.sugared_less v.weight v.held t o))))

pub or_else_adds : (a : Option GenericArgs) {next : Lowering (Option GenericArgs)} → Correct next (Adds free arguments)
    → Correct (or_else a next) (Adds (arguments a) arguments)
or_else_adds None h = h
or_else_adds (Some a) h = adds_pure (Some a) (λ v. omega arith)

pub args_form_adds : {as' ps : Lowering (Option GenericArgs)} → Correct as' (Adds free arguments) → Correct ps (Adds free arguments)
    → (dots : Bool) → Correct (segment_args_form as' ps dots) (Adds free arguments)
unfolding segment_args_form
args_form_adds h k dots = adds_then h (λ a. adds_then (or_else_adds a k)
    (λ p. adds_pure _ (λ v. weights.notation_less v.weight v.held p dots)))

pub binding_adds : (name : Name) (dots : Bool) {a : Lowering (Option GenericArgs)} {t : Lowering (Option TypeRefId)}
    {bs : Lowering (List TypeBound)} → Correct a (Adds free arguments) → Correct t (Adds free maybe_type) → Correct bs (Adds free bounds)
    → Correct (binding_form name dots a t bs) (Adds free a_binding)
unfolding binding_form
binding_adds name dots ha ht hb = adds_then ha (λ a. adds_then (adds_beside (arguments a) ht)
    (λ t. adds_then (adds_beside (beside (arguments a) (maybe_type t)) hb)
    (λ bs. adds_pure _ (λ v. weights.binding_less v.weight v.held name a dots t bs))))

-- lists that grow, of what holds this

module _ {A : Type 0} (ids : Inners → A → List Inside) where
  abbrev in_one : A → Cost
  in_one a v = sum v.weight (ids v.held a)

  abbrev in_each : List A → Cost
  in_each as' v = sum v.weight (all_of (ids v.held) as')

  pub none_more : (done : List A) → Correct (pure done) (Adds (in_each done) in_each)
  none_more done = adds_pure done (λ v. omega arith)

  pub one_more : {p : Lowering A} {q : List A → Lowering (List A)} → Correct p (Adds free in_one)
      → ((done : List A) → Correct (q done) (Adds (in_each done) in_each))
      → (done : List A) → Correct (p >>= (λ a. q (done ++ a ∷ []))) (Adds (in_each done) in_each)
  one_more h k done = adds_then (adds_beside (in_each done) h) (λ a. adds_from
      (λ v. let e = weights.each_push v.weight (ids v.held) done a in omega arith) (k (done ++ a ∷ [])))
