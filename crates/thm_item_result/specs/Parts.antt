-- What is read of an item, one part after another. What stands in a disabled node isn't, nor is the type of a variadic parameter.
use Rattle.std.specs.Prelude.{List, [], ◌∷◌, ◌++◌, Option, Some, None, option_map}
use Rattle.hir_store.specs.Pointers.{Pointer}
use Rattle.hir_store.specs.declared.diagnostics.ExpressionStoreDiagnostics.{ExpressionStoreDiagnostics}
use Rattle.hir_store.specs.declared.diagnostics.ExpressionStoreDiagnostics.TheVariants.{InactiveCode, MissingBody}
use Rattle.hir_store.specs.declared.diagnostics.MissingBodyItemKind.{MissingBodyItemKind}
use Rattle.hir_store.specs.declared.hir.CoroutineKind.{CoroutineKind}
use Rattle.hir_store.specs.declared.hir.Mutability.{Mutability}
use Rattle.hir_store.specs.declared.ids.GenericDefId.{GenericDefId}
use Rattle.hir_store.specs.declared.type_ref.LifetimeRef.{LifetimeRef}
use Rattle.hir_store.specs.declared.type_ref.LifetimeRef.TheVariants as lifetime
use Rattle.hir_env.specs.ResolvedTree as tree
use Rattle.hir_env.specs.ResolvedTree.{Bound, Bounds, Constant, Lifetime, OptionPath, OptionRet, OptionType, Type_}
use Rattle.hir_env.specs.TypeLayers.{PathTypeReading}
use Rattle.spec_data.specs.Data.{Shape, TypeData, error_shape, no_types, parameter_shape, path_shape, reference_shape, tuple_shape}
use Rattle.spec_data.specs.Written.{lifetime_data, unit_data, written_type}
use Rattle.hir_lower_item.specs.Items as item
use Rattle.hir_lower_item.specs.Items.{Alias, Argument, Function, Generics, Impl, Param, Predicate, Receiver, Trait}
use Rattle.thm_item_result.specs.Answers.{coroutine_path_data, coroutine_shape, self_data, self_shape}

pub data Part : Type 0 where
  -- a type that is written, and one that comes from no node, which is this
  type_read : Type_ → Part
  type_made : Shape → Part
  bound_read : Bound → Part
  -- the path of a trait, which is stored as a type from this node where it isn't refused
  trait_read : Pointer → OptionPath → Part
  constant_read : Constant → Part
  -- a lifetime that is written, and one that comes from no node
  lifetime_read : Lifetime → Part
  lifetime_made : LifetimeRef → Part
  fault_emitted : ExpressionStoreDiagnostics → Part
  -- a parameter that is a type or a constant, and one that is a lifetime
  param_made : Part
  lifetime_param_made : Part

-- what may be absent

-- an error from no node, where it is absent
abbrev pub type_parts : OptionType → List Part
type_parts tree.no_type = type_made error_shape ∷ []
type_parts (tree.some_type t) = type_read t ∷ []

abbrev pub present_parts : OptionType → List Part
present_parts tree.no_type = []
present_parts (tree.some_type t) = type_read t ∷ []

abbrev pub default_parts : Option Constant → List Part
default_parts None = []
default_parts (Some c) = constant_read c ∷ []

abbrev pub lifetime_parts : Option Lifetime → List Part
lifetime_parts None = []
lifetime_parts (Some l) = lifetime_read l ∷ []

-- a placeholder where it is absent
abbrev pub placeholder_parts : Option Lifetime → List Part
placeholder_parts None = lifetime_made lifetime.Placeholder ∷ []
placeholder_parts (Some l) = lifetime_read l ∷ []

abbrev pub bounds_parts : Bounds → List Part
bounds_parts tree.no_bounds = []
bounds_parts (tree.more_bounds b bs) = bound_read b ∷ bounds_parts bs

-- generic parameters, and where clauses

-- a type parameter behind its default: itself, the type that it is, and its bounds
abbrev pub typed_parts : GenericDefId → Bounds → List Part
typed_parts def bs = param_made ∷ (type_made (parameter_shape def) ∷ bounds_parts bs)

abbrev pub param_parts : GenericDefId → Param → List Part
param_parts def (item.disabled_param at by) = fault_emitted (InactiveCode at by) ∷ []
param_parts def (item.type_param n default bs) = present_parts default ++ typed_parts def bs
param_parts def (item.const_param n t default) = type_parts t ++ (default_parts default ++ param_made ∷ [])
param_parts def (item.lifetime_param n l bs) = lifetime_read l ∷ (lifetime_param_made ∷ bounds_parts bs)
param_parts def (item.nameless_param l) = placeholder_parts l

abbrev pub params_parts : GenericDefId → List Param → List Part
params_parts def [] = []
params_parts def (x ∷ xs) = param_parts def x ++ params_parts def xs

abbrev pub predicate_parts : Predicate → List Part
predicate_parts (item.of_type t binder bs) = type_read t ∷ bounds_parts bs
predicate_parts (item.of_lifetime l bs) = lifetime_read l ∷ bounds_parts bs
predicate_parts item.of_nothing = []

abbrev pub predicates_parts : List Predicate → List Part
predicates_parts [] = []
predicates_parts (x ∷ xs) = predicate_parts x ++ predicates_parts xs

-- the parameters, then the where clause
abbrev pub generics_parts : GenericDefId → Generics → List Part
generics_parts def g = params_parts def g.params ++ predicates_parts g.predicates

-- traits, implementations and aliases

-- `Self` with the bounds of the trait, then its parameters
abbrev pub trait_parts : GenericDefId → Trait → List Part
trait_parts def x = typed_parts def x.bounds ++ generics_parts def x.generics

abbrev pub trait_path_parts : Option PathTypeReading → List Part
trait_path_parts None = []
trait_path_parts (Some t) = trait_read t.pointer t.path ∷ []

-- the type, the trait, then the parameters
abbrev pub impl_parts : GenericDefId → Impl → List Part
impl_parts def x = type_parts x.self_type ++ (trait_path_parts x.trait_ ++ generics_parts def x.generics)

abbrev pub missing_parts : Option (Pointer × MissingBodyItemKind) → List Part
missing_parts None = []
missing_parts (Some f) = fault_emitted (MissingBody f.0 f.1) ∷ []

-- the bounds, the parameters, then the type, or that it is missing
abbrev pub alias_parts : GenericDefId → Alias → List Part
alias_parts def x = bounds_parts x.bounds ++ (generics_parts def x.generics ++ (present_parts x.type_ ++ missing_parts x.missing))

-- functions

-- a reference to `Self`
abbrev pub borrow_parts : Option Mutability → Option Lifetime → List Part
borrow_parts None l = []
borrow_parts (Some m) l = type_made (reference_shape self_data (option_map lifetime_data l) m) ∷ []

-- `Self`, the lifetime, also where there is no reference, and the reference
abbrev pub self_parts : Option Mutability → Option Lifetime → List Part
self_parts borrow l = type_made self_shape ∷ (lifetime_parts l ++ borrow_parts borrow l)

abbrev pub receiver_parts : Receiver → List Part
receiver_parts item.no_receiver = []
receiver_parts (item.disabled_receiver at by) = fault_emitted (InactiveCode at by) ∷ []
receiver_parts (item.typed_receiver t) = type_read t ∷ []
receiver_parts (item.self_receiver borrow l) = self_parts borrow l

-- the faults of those that a condition disables
abbrev pub inactive_parts : Argument → List Part
inactive_parts (item.disabled_argument at by) = fault_emitted (InactiveCode at by) ∷ []
inactive_parts item.variadic_argument = []
inactive_parts (item.argument t) = []

abbrev pub all_inactive_parts : List Argument → List Part
all_inactive_parts [] = []
all_inactive_parts (x ∷ xs) = inactive_parts x ++ all_inactive_parts xs

-- the types of the others
abbrev pub argument_parts : Argument → List Part
argument_parts (item.disabled_argument at by) = []
argument_parts item.variadic_argument = []
argument_parts (item.argument t) = type_parts t

abbrev pub arguments_parts : List Argument → List Part
arguments_parts [] = []
arguments_parts (x ∷ xs) = argument_parts x ++ arguments_parts xs

-- `self`, all faults, then the types
abbrev pub input_parts : Receiver → List Argument → List Part
input_parts r xs = receiver_parts r ++ (all_inactive_parts xs ++ arguments_parts xs)

-- a path to the trait of a coroutine that gives this, and an `impl` of it
abbrev pub coroutine_parts : CoroutineKind → TypeData → List Part
coroutine_parts k given = type_made (path_shape (coroutine_path_data k given)) ∷ (type_made (coroutine_shape k given) ∷ [])

-- What it returns, of which that is made which a coroutine answers, or of `()` where nothing is written.
abbrev pub output_parts : Option CoroutineKind → OptionRet → List Part
output_parts None tree.no_ret = []
output_parts None (tree.some_ret t) = type_parts t
output_parts (Some k) tree.no_ret = type_made (tuple_shape no_types) ∷ coroutine_parts k unit_data
output_parts (Some k) (tree.some_ret t) = type_parts t ++ coroutine_parts k (written_type t)

-- the parameters, the types of what it is given, and of what it returns
abbrev pub function_parts : GenericDefId → Function → List Part
function_parts def x = generics_parts def x.generics ++ (input_parts x.receiver x.arguments ++ output_parts x.kind x.ret)
