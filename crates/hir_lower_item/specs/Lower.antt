-- What lowering makes of an item, in the order in which it makes it.
use Rattle.std.specs.Prelude.{codes, Bool, true, false, ◌||◌, List, [], ◌∷◌, Option, Some, None}
use Rattle.hir_store.specs.Generics.{of_args, of_binding}
use Rattle.hir_store.specs.Pointers.{Pointer}
use Rattle.hir_store.specs.declared.diagnostics.ExpressionStoreDiagnostics.TheVariants.{InactiveCode, MissingBody}
use Rattle.hir_store.specs.declared.diagnostics.MissingBodyItemKind.{MissingBodyItemKind}
use Rattle.hir_store.specs.declared.generics.LifetimeBoundType.TheVariants.{EarlyBound}
use Rattle.hir_store.specs.declared.generics.TypeOrConstParamData.TheVariants as param
use Rattle.hir_store.specs.declared.generics.TypeParamProvenance.{TypeParamProvenance}
use Rattle.hir_store.specs.declared.generics.TypeParamProvenance.TheVariants as provenance
use Rattle.hir_store.specs.declared.generics.WherePredicate.TheVariants as predicate
use Rattle.hir_store.specs.declared.hir.CoroutineKind.{CoroutineKind}
use Rattle.hir_store.specs.declared.hir.CoroutineKind.TheVariants as coroutine
use Rattle.hir_store.specs.declared.hir.Mutability.{Mutability}
use Rattle.hir_store.specs.declared.ids.GenericDefId.{GenericDefId}
use Rattle.hir_store.specs.declared.ids.LifetimeRefId.{LifetimeRefId}
use Rattle.hir_store.specs.declared.ids.TypeRefId.{TypeRefId}
use Rattle.hir_store.specs.declared.name.Name.{Name}
use Rattle.hir_store.specs.declared.name.Name.TheVariants as name
use Rattle.hir_store.specs.declared.path.GenericArgs.{GenericArgs}
use Rattle.hir_store.specs.declared.path.GenericArgsParentheses.TheVariants as parens
use Rattle.hir_store.specs.declared.path.Path.{Path as HirPath}
use Rattle.hir_store.specs.declared.path.Path.TheVariants as path
use Rattle.hir_store.specs.declared.path.PathKind.TheVariants as kind
use Rattle.hir_store.specs.declared.type_ref.ConstRef.{ConstRef}
use Rattle.hir_store.specs.declared.type_ref.LifetimeRef.TheVariants as lifetime
use Rattle.hir_store.specs.declared.type_ref.TraitBoundModifier.TheVariants as modifier
use Rattle.hir_store.specs.declared.type_ref.TraitRef.{TraitRef}
use Rattle.hir_store.specs.declared.type_ref.TypeBound.{TypeBound}
use Rattle.hir_store.specs.declared.type_ref.TypeBound.TheVariants as bound
use Rattle.hir_store.specs.declared.type_ref.TypeRef.{TypeRef}
use Rattle.hir_store.specs.declared.type_ref.TypeRef.TheVariants as type
use Rattle.hir_env.specs.declared.ctx.LifetimeScope.TheVariants as scope
use Rattle.hir_env.specs.ResolvedTree as tree
use Rattle.hir_env.specs.ResolvedTree.{Binder, Bounds, Constant, Lifetime, OptionRet, OptionType}
use Rattle.hir_env.specs.TypeLayers.{PathTypeReading}
use Rattle.hir_lower_builder.specs.Generics.{naming}
use Rattle.hir_lower_builder.specs.Lowering.{Lowering, ◌>>=◌, ◌>>◌, pure, add_lifetime_param, add_param, add_predicate, alloc_lifetime}
use Rattle.hir_lower_builder.specs.Lowering.{alloc_type, track_down, param_type, report}
use Rattle.hir_lower_builder.specs.Lower.{lower_bound, lower_bounds, lower_constant, lower_path, lower_type, present_type}
use Rattle.hir_lower_builder.specs.Lower.{push_some, some, type_part}
use Rattle.hir_lower_builder.specs.Types.{lower_lifetime, lower_lifetime_option, unit_type}
use Rattle.hir_lower_item.specs.Items.{Param, disabled_param, type_param, const_param, lifetime_param, nameless_param}
use Rattle.hir_lower_item.specs.Items.{Predicate, of_type, of_lifetime, of_nothing, Generics}
use Rattle.hir_lower_item.specs.Items.{Receiver, no_receiver, disabled_receiver, typed_receiver, self_receiver}
use Rattle.hir_lower_item.specs.Items.{Argument, disabled_argument, variadic_argument, argument, Function, Impl, Trait, Alias}
use Rattle.hir_lower_item.specs.declared.function.Signature.{Signature}
use Rattle.hir_lower_item.specs.declared.predicates.Bounded.{Bounded}
use Rattle.hir_lower_item.specs.declared.predicates.Bounded.TheVariants as bounded

-- predicates

-- A bound becomes a predicate, with the names of the `for<..>` in front of what is bound. An error and a `use<..>` become none, nor does
-- a trait of a lifetime; a lifetime that gets one is named by it once more.
abbrev pub ask : Option Binder → Bounded → TypeBound → Lowering (Unit {0})
ask binder x bound.Error = pure tt
ask binder x (bound.Use us) = pure tt
ask binder (bounded.Type_ t) (bound.Path p m) = add_predicate (predicate.TypeBound binder t (bound.Path p m))
ask binder (bounded.Type_ t) (bound.ForLifetime ns p) = add_predicate (predicate.TypeBound binder t (bound.ForLifetime ns p))
ask binder (bounded.Type_ t) (bound.Lifetime l) = add_predicate (predicate.TypeBound binder t (bound.Lifetime l))
ask binder (bounded.Lifetime text l) (bound.Path p m) = pure tt
ask binder (bounded.Lifetime text l) (bound.ForLifetime ns p) = pure tt
ask binder (bounded.Lifetime text l) (bound.Lifetime m) = do
  track_down (naming scope.Bound text)
  add_predicate (predicate.Lifetime l m)

-- each bound, and what becomes of it before the next
abbrev pub ask_each : Option Binder → Bounded → Bounds → Lowering (Unit {0})
ask_each binder x tree.no_bounds = pure tt
ask_each binder x (tree.more_bounds b bs) = do
  y ← lower_bound b
  ask binder x y
  ask_each binder x bs

abbrev pub lower_predicate : Predicate → Lowering (Unit {0})
lower_predicate (of_type t binder bs) = do
  id ← lower_type None t
  ask_each binder (bounded.Type_ id) bs
lower_predicate (of_lifetime l bs) = do
  id ← lower_lifetime l
  ask_each None (bounded.Lifetime l.lifetime id) bs
lower_predicate of_nothing = pure tt

abbrev pub lower_predicates : List Predicate → Lowering (Unit {0})
lower_predicates [] = pure tt
lower_predicates (x ∷ xs) = do
  lower_predicate x
  lower_predicates xs

-- parameters

-- a type parameter, then the type that it is, which comes from no node, and then its bounds
abbrev pub type_param_form : GenericDefId → Name → Option TypeRefId → TypeParamProvenance → Bounds → Lowering (Unit {0})
type_param_form def n default from bs = do
  k ← add_param (param.TypeParamData (record { name = Some n; default = default; provenance = from }))
  id ← alloc_type (param_type def k) None
  ask_each None (bounded.Type_ id) bs

abbrev pub present_constant : Option Constant → Lowering (Option ConstRef)
present_constant None = pure None
present_constant (Some c) = some (lower_constant c)

abbrev pub const_param_form : Name → Lowering TypeRefId → Lowering (Option ConstRef) → Lowering (Unit {0})
const_param_form n ty default = do
  t ← ty
  d ← default
  add_param (param.ConstParamData (record { name = n; ty = t; default = d }))
  pure tt

-- a lifetime that a text lacks is a placeholder that comes from no node
abbrev pub lifetime_or_placeholder : Option Lifetime → Lowering LifetimeRefId
lifetime_or_placeholder None = alloc_lifetime lifetime.Placeholder None
lifetime_or_placeholder (Some l) = lower_lifetime l

abbrev pub lower_param : GenericDefId → Param → Lowering (Unit {0})
lower_param def (disabled_param at by) = report (InactiveCode at by)
lower_param def (type_param n default bs) = do
  t ← present_type default
  type_param_form def n t provenance.TypeParamList bs
lower_param def (const_param n t default) = const_param_form n (type_part None t) (present_constant default)
lower_param def (lifetime_param n l bs) = do
  id ← lower_lifetime l
  add_lifetime_param (record { name = n; bound_type = EarlyBound })
  ask_each None (bounded.Lifetime l.lifetime id) bs
lower_param def (nameless_param l) = lifetime_or_placeholder l >> pure tt

abbrev pub lower_params : GenericDefId → List Param → Lowering (Unit {0})
lower_params def [] = pure tt
lower_params def (x ∷ xs) = do
  lower_param def x
  lower_params def xs

-- items

-- the parameters, then the where predicates
abbrev pub lower_generics : GenericDefId → Generics → Lowering (Unit {0})
lower_generics def g = do
  lower_params def g.params
  lower_predicates g.predicates

-- `Self` is the first parameter of a trait
abbrev pub self_text : Name
self_text = name.Text (codes "Self")

abbrev pub self_param : GenericDefId → Bounds → Lowering (Unit {0})
self_param def bs = type_param_form def self_text None provenance.TraitSelf bs

abbrev pub lower_trait : GenericDefId → Trait → Lowering (Unit {0})
lower_trait def x = do
  self_param def x.bounds
  lower_generics def x.generics

-- a path that is refused is no trait
abbrev pub stored_trait : Pointer → Option HirPath → Lowering (Option TraitRef)
stored_trait at None = pure None
stored_trait at (Some p) = do
  id ← alloc_type (type.Path p) (Some at)
  pure (Some (record { path = id }))

abbrev pub lower_trait_ref : Option PathTypeReading → Lowering (Option TraitRef)
lower_trait_ref None = pure None
lower_trait_ref (Some x) = do
  p ← lower_path x.path
  stored_trait x.pointer p

-- the type, the trait, then the parameters
abbrev pub lower_impl : GenericDefId → Impl → Lowering (TypeRefId × Option TraitRef)
lower_impl def x = do
  self ← type_part None x.self_type
  t ← lower_trait_ref x.trait_
  lower_generics def x.generics
  pure (self, t)

abbrev pub report_missing : Option (Pointer × MissingBodyItemKind) → Lowering (Unit {0})
report_missing None = pure tt
report_missing (Some f) = report (MissingBody f.0 f.1)

-- the bounds, the parameters, then the type
abbrev pub lower_alias : GenericDefId → Alias → Lowering (List TypeBound × Option TypeRefId)
lower_alias def x = do
  bs ← lower_bounds [] x.bounds
  lower_generics def x.generics
  t ← present_type x.type_
  report_missing x.missing
  pure (bs, t)

-- functions

abbrev pub borrowed : Option Mutability → TypeRefId → Option LifetimeRefId → Lowering TypeRefId
borrowed None self l = pure self
borrowed (Some m) self l = alloc_type (type.Reference (record { ty = self; lifetime = l; mutability = m })) None

-- the path `Self`
abbrev pub self_path : TypeRef
self_path = type.Path (path.BarePath (record { kind = kind.Plain; segments = self_text ∷ [] }))

-- `Self`, the lifetime, also where there is no reference, and the reference; the types come from no node
abbrev pub self_form : Option Mutability → Option Lifetime → Lowering TypeRefId
self_form borrow l = do
  self ← alloc_type self_path None
  id ← lower_lifetime_option l
  borrowed borrow self id

abbrev pub lower_receiver : Receiver → Lowering (Option TypeRefId)
lower_receiver no_receiver = pure None
lower_receiver (disabled_receiver at by) = do
  report (InactiveCode at by)
  pure None
lower_receiver (typed_receiver t) = some (lower_type None t)
lower_receiver (self_receiver borrow l) = some (self_form borrow l)

-- the fault of one that a condition disables
abbrev pub report_inactive : Argument → Lowering (Unit {0})
report_inactive (disabled_argument at by) = report (InactiveCode at by)
report_inactive variadic_argument = pure tt
report_inactive (argument t) = pure tt

abbrev pub report_each : List Argument → Lowering (Unit {0})
report_each [] = pure tt
report_each (x ∷ xs) = do
  report_inactive x
  report_each xs

-- the type of one that is kept and isn't variadic
abbrev pub argument_type : Argument → Lowering (Option TypeRefId)
argument_type (disabled_argument at by) = pure None
argument_type variadic_argument = pure None
argument_type (argument t) = some (type_part None t)

-- their types, behind these
abbrev pub argument_types : List TypeRefId → List Argument → Lowering (List TypeRefId)
argument_types done [] = pure done
argument_types done (x ∷ xs) = do
  t ← argument_type x
  argument_types (push_some done t) xs

abbrev pub present_ret : OptionRet → Lowering (Option TypeRefId)
present_ret tree.no_ret = pure None
present_ret (tree.some_ret t) = some (type_part None t)

-- what a coroutine answers

-- the names of its trait
abbrev pub trait_names : CoroutineKind → List Name
trait_names coroutine.Async = name.Text (codes "core") ∷ name.Text (codes "future") ∷ name.Text (codes "Future") ∷ []
trait_names coroutine.Gen = name.Text (codes "core") ∷ name.Text (codes "iter") ∷ name.Text (codes "Iterator") ∷ []
trait_names coroutine.AsyncGen = name.Text (codes "core") ∷ name.Text (codes "async_iter") ∷ name.Text (codes "AsyncIterator") ∷ []

-- the name of the binding for what it gives
abbrev pub given_name : CoroutineKind → Name
given_name coroutine.Async = name.Text (codes "Output")
given_name coroutine.Gen = name.Text (codes "Item")
given_name coroutine.AsyncGen = name.Text (codes "Item")

-- a binding alone
abbrev pub given_args : CoroutineKind → TypeRefId → GenericArgs
given_args k given = of_args [] false (of_binding (given_name k) None (Some given) [] ∷ []) parens.No

-- the path of its trait, with the type that it gives
abbrev pub coroutine_path : CoroutineKind → TypeRefId → HirPath
coroutine_path k given = path.Normal (record {
  type_anchor = None;
  mod_path = record { kind = kind.Abs; segments = trait_names k };
  generic_args = None ∷ None ∷ Some (given_args k given) ∷ [];
})

-- `()` where nothing is written
abbrev pub or_unit : Option TypeRefId → Lowering TypeRefId
or_unit None = unit_type
or_unit (Some t) = pure t

-- an `impl` of its trait; neither it nor the path comes from a node
abbrev pub coroutine_form : CoroutineKind → Option TypeRefId → Lowering TypeRefId
coroutine_form k ret = do
  given ← or_unit ret
  p ← alloc_type (type.Path (coroutine_path k given)) None
  alloc_type (type.ImplTrait (bound.Path p modifier.None ∷ [])) None

abbrev pub answer_form : Option CoroutineKind → Option TypeRefId → Lowering (Option TypeRefId)
answer_form None ret = pure ret
answer_form (Some k) ret = some (coroutine_form k ret)

-- the whole

-- whether it is there and kept
abbrev pub is_received : Receiver → Bool
is_received no_receiver = false
is_received (disabled_receiver at by) = false
is_received (typed_receiver t) = true
is_received (self_receiver borrow l) = true

-- whether one that is kept is variadic
abbrev pub is_variadic : Argument → Bool
is_variadic (disabled_argument at by) = false
is_variadic variadic_argument = true
is_variadic (argument t) = false

abbrev pub any_variadic : List Argument → Bool
any_variadic [] = false
any_variadic (x ∷ xs) = is_variadic x || any_variadic xs

-- the type of `self`, the faults of the other parameters, and then their types
abbrev pub input_types : Receiver → List Argument → Lowering (List TypeRefId)
input_types receiver arguments = do
  self ← lower_receiver receiver
  report_each arguments
  argument_types (push_some [] self) arguments

-- what is written, of which then that is made which a coroutine answers
abbrev pub output_type : Option CoroutineKind → OptionRet → Lowering (Option TypeRefId)
output_type k ret = do
  written ← present_ret ret
  answer_form k written

-- the parameters and the predicates, the types of what it is given, and of what it returns
abbrev pub lower_function : GenericDefId → Function → Lowering Signature
lower_function def x = do
  lower_generics def x.generics
  args ← input_types x.receiver x.arguments
  ret ← output_type x.kind x.ret
  pure (record { args = args; ret = ret; has_self = is_received x.receiver; has_variadic = any_variadic x.arguments })
