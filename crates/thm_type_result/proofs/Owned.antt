-- What is answered for types, paths, arguments and bounds names what their parts name, and types that were stored, each once.
use Rattle.std.proofs.Common.{◌≡◌, refl, ℕ, ◌+◌, ◌≤◌, Bool, List, [], ◌∷◌, ◌++◌, Option, Some, None, arith}
use Rattle.std.specs.Prelude.{option_map}
use Rattle.hir_store.specs.Pointers.{Pointer}
use Rattle.hir_store.specs.declared.hir.Mutability.{Mutability}
use Rattle.hir_store.specs.declared.ids.PatId.{PatId}
use Rattle.hir_store.specs.declared.ids.TypeRefId.{TypeRefId}
use Rattle.hir_store.specs.declared.name.Name.{Name}
use Rattle.hir_store.specs.declared.path.AssociatedTypeBinding.{AssociatedTypeBinding}
use Rattle.hir_store.specs.declared.path.Path.{Path as HirPath}
use Rattle.hir_store.specs.declared.path.PathKind.{PathKind}
use Rattle.hir_store.specs.declared.path.GenericArgs.{GenericArgs}
use Rattle.hir_store.specs.declared.type_ref.ConstRef.{ConstRef}
use Rattle.hir_store.specs.declared.type_ref.TypeRef.{TypeRef}
use Rattle.hir_store.specs.declared.type_ref.TypeRef.TheVariants as ty
use Rattle.hir_store.specs.declared.type_ref.TypeBound.{TypeBound}
use Rattle.hir_store.specs.declared.type_ref.UseArgRef.{UseArgRef}
use Rattle.hir_env.specs.declared.ctx.ImplTrait.{ImplTrait}
use Rattle.hir_env.specs.ResolvedTree as tree
use Rattle.hir_env.specs.ResolvedTree.{Binder, Called, FnHead, Lifetime, TypeLeaf, TypeUnary, UseRead}
use Rattle.hir_env.specs.declared.ctx.LifetimeScope.{LifetimeScope}
use Rattle.hir_store.specs.declared.type_ref.LifetimeRef.{LifetimeRef}
use Rattle.hir_store.specs.declared.type_ref.LifetimeRef.TheVariants as lifetime
use Rattle.hir_lower_builder.specs.declared.args.ArgLists.{ArgLists}
use Rattle.hir_lower_builder.specs.declared.generics.SideOutput.{SideOutput}
use Rattle.hir_lower_builder.specs.Generics.{naming}
use Rattle.hir_lower_builder.specs.declared.walk.PathWalk.{PathWalk}
use Rattle.hir_lower_builder.specs.declared.walk.Reading.{Reading}
use Rattle.hir_lower_builder.specs.declared.walk.Reading.TheVariants.{Refused, Ended, Open}
use Rattle.hir_lower_builder.specs.Lowering.{Lowering, ◌>>=◌, pure}
use Rattle.hir_lower_builder.specs.Walks.{at_first, no_names, self_read, super_read, one_more_super, named}
use Rattle.hir_lower_builder.specs.Paths.{proceed, whole, or_count_out, read_trait, with_trait, parens_form, or_else, segment_args_form}
use Rattle.hir_lower_builder.specs.Types.{TypeSteps, error_type, unit_type, lower_lifetime, lower_lifetime_option, lower_use, lower_uses}
use Rattle.hir_lower_builder.specs.Types.{over_form, array_type_form, pattern_type_form}
use Rattle.hir_lower_builder.specs.Types.{tuple_type_form, path_type_form, ref_type_form, fn_type_form, impl_type_form, dyn_type_form}
use Rattle.hir_lower_builder.specs.Types.{stored_leaf_type, stored_over_type, path_or_error}
use Rattle.hir_lower_builder.specs.Types.{binding_form, path_bound_of, path_bound_form, uncalled_type}
use Rattle.thm_type_result.specs.Reached.{of_present, of_each, of_bound, of_args, of_binding, below}
use Rattle.thm_type_result.specs.Named.{Look}
use Rattle.thm_type_result.specs.Pats.{of_type}
use Rattle.thm_type_result.proofs.Becoming.{becoming_adds}
use Rattle.thm_type_result.proofs.Naming.{called_type_names}
use Rattle.thm_type_result.proofs.Counted.{times, times_append, either}
use Rattle.thm_type_result.proofs.Numbers as numbers
use Rattle.thm_type_result.proofs.Numbers.{of_arg_lists, of_walk, of_reading, of_read}
use Rattle.thm_type_result.proofs.Adding.{Numbers, none}
use Rattle.thm_type_result.proofs.Asked.{Correct, Adds, adds_pure, adds_then, adds_beside, adds_from, adds_type, adds_unnamed, Quiet}
use Rattle.thm_type_result.proofs.Asked.{adds_lifetime, adds_refused, quiet_tracked, adds_quiet}

-- what each kind of answer names

abbrev pub a_type : TypeRefId → Numbers
a_type i l = l.types i

abbrev pub maybe_type : Option TypeRefId → Numbers
maybe_type i l = of_present l.types i

abbrev pub types : List TypeRefId → Numbers
types is l = of_each l.types is

abbrev pub a_bound : TypeBound → Numbers
a_bound b l = of_bound l.types b

abbrev pub bounds : List TypeBound → Numbers
bounds bs l = of_each (of_bound l.types) bs

abbrev pub a_binding : AssociatedTypeBinding → Numbers
a_binding b l = of_binding l.types b

abbrev pub arguments : Option GenericArgs → Numbers
arguments a l = of_present (of_args l.types) a

abbrev pub lists : ArgLists → Numbers
lists al l = of_arg_lists l.types al

abbrev pub maybe_path : Option HirPath → Numbers
maybe_path p l = of_read l.types p

abbrev pub walk : PathWalk → Numbers
walk w l = of_walk l.types w

abbrev pub reading : Reading → Numbers
reading r l = of_reading l.types r

abbrev pub a_pat : PatId → Numbers
a_pat i l = l.pats i

-- with as much beside it
abbrev pub beside : Numbers → Numbers → Numbers
beside more now f = more f ++ now f

-- lifetimes name no type

naming_still : (s : LifetimeScope) (l : LifetimeRef) (n : SideOutput)
    → (naming s l n).generics.where_predicates ≡ n.generics.where_predicates
naming_still s (lifetime.Named x) n = refl
naming_still s lifetime.Static n = refl
naming_still s lifetime.Placeholder n = refl
naming_still s lifetime.Error n = refl

pub lifetime_adds : {was : Numbers} (l : Lifetime) → Correct (lower_lifetime l) (Adds was (λ i. was))
unfolding lower_lifetime
lifetime_adds l = adds_then (adds_quiet (quiet_tracked _ (naming_still l.scope l.lifetime))) (λ u. adds_lifetime _ _)

pub lifetime_option_adds : {was : Numbers} (l : Option Lifetime) → Correct (lower_lifetime_option l) (Adds was (λ i. was))
lifetime_option_adds None = adds_pure None (λ f k. omega arith)
lifetime_option_adds (Some l) = adds_then (lifetime_adds l) (λ i. adds_pure (Some i) (λ f k. omega arith))

pub use_adds : (u : UseRead) → Correct (lower_use u) (Adds none (λ i. none))
use_adds (tree.used_name n) = adds_pure _ (λ f k. omega arith)
use_adds (tree.used_lifetime l) = adds_then (lifetime_adds l) (λ i. adds_pure _ (λ f k. omega arith))

pub uses_add : (done : List UseArgRef) (us : List UseRead) → Correct (lower_uses done us) (Adds none (λ i. none))
uses_add done [] = adds_pure done (λ f k. omega arith)
uses_add done (u ∷ us) = adds_then (use_adds u) (λ x. uses_add _ us)

-- types

-- what a type names that is stored
abbrev in_type : TypeRef → Look → ℕ → ℕ
in_type t l k = times k (below l.types t) + times k (of_type l t)

pub leaf_below : (form : TypeLeaf) (l : Look) (k : ℕ) → in_type (stored_leaf_type form) l k ≤ 0
leaf_below tree.never_leaf l k = omega arith
leaf_below tree.infer_leaf l k = omega arith

over_below : (form : TypeUnary) (t : TypeRefId) (l : Look) (k : ℕ) → in_type (stored_over_type form t) l k ≤ times k (a_type t l)
over_below (tree.pointer_to mutability) t l k = omega arith
over_below tree.slice_of t l k = omega arith

path_below : (p : Option HirPath) (l : Look) (k : ℕ) → in_type (path_or_error p) l k ≤ times k (maybe_path p l)
path_below None l k = omega arith
path_below (Some p) l k = omega arith

pub error_adds : Correct error_type (Adds none a_type)
unfolding error_type
error_adds = adds_type ty.Error None (λ f k. omega arith)

-- a call that stands for no type
pub uncalled_type_names : (at : Pointer) (c : Called) → Correct (uncalled_type at c) (Adds none a_type)
uncalled_type_names at tree.callless = adds_type ty.Error (Some at) (λ f k. omega arith)
uncalled_type_names at c = called_type_names at c error_adds

pub unit_adds : Correct unit_type (Adds none a_type)
unfolding unit_type
unit_adds = adds_type (ty.Tuple []) None (λ f k. omega arith)

module _ (at : Pointer) where
  pub over_adds : (form : TypeUnary) {t : TypeSteps} → Correct t (Adds none a_type) → Correct (over_form at form t) (Adds none a_type)
  unfolding over_form
  over_adds form h = adds_then h (λ t. adds_type _ (Some at) (over_below form t))

  pub array_adds : {n : Lowering ConstRef} {t : TypeSteps} → Correct n Quiet → Correct t (Adds none a_type)
      → Correct (array_type_form at n t) (Adds none a_type)
  unfolding array_type_form
  array_adds h k = adds_then h (λ n. adds_then k (λ t. adds_type _ (Some at) (λ f k. omega arith)))

  pub tuple_adds : {ts : Lowering (List TypeRefId)} → Correct ts (Adds none types) → Correct (tuple_type_form at ts) (Adds none a_type)
  unfolding tuple_type_form
  tuple_adds h = adds_then h (λ ts. adds_type _ (Some at) (λ f k. omega arith))

  pub path_type_adds : {p : Lowering (Option HirPath)} → Correct p (Adds none maybe_path) → Correct (path_type_form at p) (Adds none a_type)
  unfolding path_type_form
  path_type_adds h = adds_then h (λ p. adds_type _ (Some at) (path_below p))

  pub ref_adds : (mutability : Mutability) (l : Option Lifetime) {t : TypeSteps} → Correct t (Adds none a_type)
      → Correct (ref_type_form at mutability t (lower_lifetime_option l)) (Adds none a_type)
  unfolding ref_type_form
  ref_adds mutability l h = adds_then h (λ t. adds_then (lifetime_option_adds l) (λ i. adds_type _ (Some at) (λ f k. omega arith)))

  pub fn_adds : (binder : Option Binder) (head : FnHead) {ts : Lowering (List TypeRefId)} {r : TypeSteps}
      → Correct ts (Adds none types) → Correct r (Adds none a_type) → Correct (fn_type_form at binder head ts r) (Adds none a_type)
  unfolding fn_type_form
  fn_adds binder head h k = adds_then k (λ r. adds_then (adds_beside (a_type r) h) (λ ts. adds_type _ (Some at) (λ f k.
      let e = numbers.each_push f.types ts r k in let s = times_append k (f.types r) (of_each f.types ts) in omega arith)))

  -- a pattern behind its type
  pub pattern_adds : {t : TypeSteps} {p : Lowering PatId} → Correct t (Adds none a_type) → Correct p (Adds none a_pat)
      → Correct (pattern_type_form at t p) (Adds none a_type)
  unfolding pattern_type_form
  pattern_adds h k = adds_then h (λ t. adds_then (adds_beside (a_type t) k) (λ p. adds_type _ (Some at)
      (λ l n. let s = times_append n (l.types t) (l.pats p) in omega arith)))

  pub impl_adds : (mode : ImplTrait) {bs : Lowering (List TypeBound)} → Correct bs (Adds none bounds)
      → Correct (impl_type_form at mode bs) (Adds none a_type)
  unfolding impl_type_form
  impl_adds mode h = adds_then h (λ bs. becoming_adds at mode bs)

  pub dyn_adds : {bs : Lowering (List TypeBound)} → Correct bs (Adds none bounds) → Correct (dyn_type_form at bs) (Adds none a_type)
  unfolding dyn_type_form
  dyn_adds h = adds_then h (λ bs. adds_type _ (Some at) (λ f k. omega arith))

  pub bound_of_adds : (maybe : Bool) (binder : Binder) (p : Option HirPath)
      → Correct (path_bound_of at maybe binder p) (Adds (maybe_path p) a_bound)
  bound_of_adds maybe binder None = adds_pure _ (λ f k. omega arith)
  bound_of_adds maybe binder (Some p) = adds_then (adds_type (ty.Path p) (Some at) (λ f k. omega arith))
      (λ i. adds_pure _ (λ l. numbers.path_bound_less l.types maybe binder i))

  pub path_bound_adds : (maybe : Bool) (binder : Binder) {p : Lowering (Option HirPath)} → Correct p (Adds none maybe_path)
      → Correct (path_bound_form at maybe binder p) (Adds none a_bound)
  unfolding path_bound_form
  path_bound_adds maybe binder h = adds_then h (λ p. bound_of_adds maybe binder p)

-- paths

pub proceed_adds : (r : Reading) {f : PathWalk → Lowering Reading} → ((w : PathWalk) → Correct (f w) (Adds (walk w) reading))
    → Correct (proceed r f) (Adds (reading r) reading)
proceed_adds Refused h = adds_pure Refused (λ f k. omega arith)
proceed_adds (Ended w) h = adds_pure (Ended w) (λ f k. omega arith)
proceed_adds (Open w) h = h w

pub whole_adds : {was : Numbers} {p : Lowering Reading} {f : PathWalk → Lowering Reading} → Correct p (Adds was reading)
    → ((w : PathWalk) → Correct (f w) (Adds (walk w) reading)) → Correct (whole p f) (Adds was reading)
unfolding whole
whole_adds h k = adds_then h (λ r. proceed_adds r k)

pub super_adds : (w : PathWalk) → Correct (or_count_out (super_read w)) (Adds (walk w) reading)
super_adds w = go (one_more_super w.kind)
  where
    go : (o : Option PathKind) → Correct (or_count_out (option_map (λ k. Open (record w { kind = k })) o)) (Adds (walk w) reading)
    go None = adds_refused
    go (Some k) = adds_pure _ (λ f n. omega arith)

pub self_adds : (w : PathWalk) → Correct (pure (self_read w)) (Adds (walk w) reading)
self_adds w = adds_pure _ (λ f k. either (λ r. times k (reading r f) ≤ times k (walk w f)) (no_names w.names)
    (omega arith) (omega arith))

pub at_first_adds : {p : Lowering Reading} (leading : Bool) (w : PathWalk) → Correct p (Adds (walk (at_first leading w)) reading)
    → Correct p (Adds (walk w) reading)
at_first_adds leading w h = adds_from (λ l. numbers.at_first_less l.types leading w) h

pub bare_adds : (n : Name) (w : PathWalk) → Correct (pure (named n None w)) (Adds (walk w) reading)
bare_adds n w = adds_pure _ (λ l. numbers.bare_less l.types n w)

pub trait_adds : (t : TypeRefId) (at : Pointer) (w : PathWalk) (p : Option HirPath)
    → Correct (read_trait t at w p) (Adds (beside (beside (walk w) (a_type t)) (maybe_path p)) reading)
trait_adds t at w None = adds_pure Refused (λ f k. omega arith)
trait_adds t at w (Some p) = adds_then (adds_unnamed (ty.Path p) (Some at) (λ l k. refl))
    (λ i. adds_pure _ (λ l. numbers.projected_less l.types t p w))

pub with_trait_adds : (t : TypeRefId) (at : Pointer) (w : PathWalk) {p : Lowering (Option HirPath)} → Correct p (Adds none maybe_path)
    → Correct (with_trait p t at w) (Adds (beside (walk w) (a_type t)) reading)
unfolding with_trait
with_trait_adds t at w h = adds_then (adds_beside (beside (walk w) (a_type t)) h) (λ p. trait_adds t at w p)

-- arguments

pub parens_form_adds : {ts : Lowering (List TypeRefId)} {r : TypeSteps} → Correct ts (Adds none types) → Correct r (Adds none a_type)
    → Correct (parens_form ts r) (Adds none arguments)
unfolding parens_form
parens_form_adds h k = adds_then h (λ ts. adds_then (adds_type (ty.Tuple ts) None (λ f k. omega arith))
    (λ t. adds_then (adds_beside (a_type t) k) (λ o. adds_pure _ (λ l. numbers.sugared_less l.types t o))))

pub or_else_adds : (a : Option GenericArgs) {next : Lowering (Option GenericArgs)} → Correct next (Adds none arguments)
    → Correct (or_else a next) (Adds (arguments a) arguments)
or_else_adds None h = h
or_else_adds (Some a) h = adds_pure (Some a) (λ f k. omega arith)

pub args_form_adds : {as' ps : Lowering (Option GenericArgs)} → Correct as' (Adds none arguments) → Correct ps (Adds none arguments)
    → (dots : Bool) → Correct (segment_args_form as' ps dots) (Adds none arguments)
unfolding segment_args_form
args_form_adds h k dots = adds_then h (λ a. adds_then (or_else_adds a k) (λ p. adds_pure _ (λ l. numbers.notation_less l.types p dots)))

pub binding_adds : (name : Name) (dots : Bool) {a : Lowering (Option GenericArgs)} {t : Lowering (Option TypeRefId)}
    {bs : Lowering (List TypeBound)} → Correct a (Adds none arguments) → Correct t (Adds none maybe_type) → Correct bs (Adds none bounds)
    → Correct (binding_form name dots a t bs) (Adds none a_binding)
unfolding binding_form
binding_adds name dots ha ht hb = adds_then ha (λ a. adds_then (adds_beside (arguments a) ht)
    (λ t. adds_then (adds_beside (beside (arguments a) (maybe_type t)) hb)
    (λ bs. adds_pure _ (λ l. numbers.binding_less l.types name a dots t bs))))

-- lists that grow

module _ {A : Type 0} (names : Look → A → List ℕ) where
  abbrev each_named : List A → Numbers
  each_named as' l = of_each (names l) as'

  pub none_more : (done : List A) → Correct (pure done) (Adds (each_named done) each_named)
  none_more done = adds_pure done (λ l k. omega arith)

  pub one_more : {p : Lowering A} {q : List A → Lowering (List A)} → Correct p (Adds none (λ a l. names l a))
      → ((done : List A) → Correct (q done) (Adds (each_named done) each_named))
      → (done : List A) → Correct (p >>= (λ a. q (done ++ a ∷ []))) (Adds (each_named done) each_named)
  one_more h k done = adds_then (adds_beside (each_named done) h) (λ a. adds_from
      (λ l n. let e = numbers.each_push (names l) done a n in let s = times_append n (of_each (names l) done) (names l a) in omega arith)
      (k (done ++ a ∷ [])))
