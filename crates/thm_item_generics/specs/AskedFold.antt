-- What lowering an item asks of types and lifetimes, in the order in which it reads the item's parts. What is in a disabled node isn't
-- read.
use Rattle.std.specs.Prelude.{ℕ, suc, ◌+◌, length, List, [], ◌∷◌, ◌++◌, Option, Some, None}
use Rattle.hir_store.specs.Pointers.{Pointer}
use Rattle.hir_store.specs.declared.ids.GenericDefId.{GenericDefId}
use Rattle.hir_env.specs.ResolvedTree as tree
use Rattle.hir_env.specs.ResolvedTree.{Binder, Bounds, Constant}
use Rattle.hir_env.specs.TypeLayers.{PathTypeReading}
use Rattle.spec_data.specs.Data as datum
use Rattle.spec_data.specs.Data.{BoundData, LifetimeData, TypeData}
use Rattle.spec_data.specs.Written.{bound_data, lifetime_data, type_data}
use Rattle.spec_semantics.specs.Inner.{Bodies, bound_bodies, type_bodies}
use Rattle.spec_data.specs.Tracking.{Impl, Tracking}
use Rattle.spec_data.specs.Fold.{tracked_in_bound, tracked_in_bounds, tracked_in_constant, tracked_in_output, tracked_in_present_type}
use Rattle.spec_data.specs.Fold.{tracked_in_type, tracked_in_type_part, tracked_in_whole}
use Rattle.hir_lower_item.specs.Items as item
use Rattle.hir_lower_item.specs.Items.{Alias, Argument, Function, Generics, Impl as ImplItem, Param, Predicate, Receiver, Trait}

-- a type of which something is asked
pub data Asked : Type 0 where
  -- the parameter of this owner with this number, stored from the node
  parameter : GenericDefId → ℕ → Option Pointer → Asked
  -- with the bodies inside it
  written : TypeData → Bodies → Asked

-- what is bound
pub data Target : Type 0 where
  a_type : Asked → Target
  a_lifetime : LifetimeData → Target

pub data Asking : Type 0 where
  -- a bound of a type, with the names of the `for<..>` in front of it, and the bodies inside the bound
  of_type : Option Binder → Asked → BoundData → Bodies → Asking
  -- the first outlives the second
  of_lifetime : LifetimeData → LifetimeData → Asking

-- what is asked, and how many parameters there are then
pub record Reached : Type 0 where
  pub asks : List Asking
  pub params : ℕ

-- by how many parameters there are before
abbrev pub Asks : Type 0
Asks = ℕ → Reached

abbrev pub nothing : Asks
nothing = λ k. record { asks = []; params = k }

infixr 20 ◌⊟◌
-- one after another
abbrev pub ◌⊟◌ : Asks → Asks → Asks
x ⊟ y = λ k. record { asks = (x k).asks ++ (y (x k).params).asks; params = (y (x k).params).params }

abbrev pub asking : List Asking → Asks
asking l = λ k. record { asks = l; params = k }

-- one that asks nothing
abbrev pub one_param : Asks
one_param = λ k. record { asks = []; params = suc k }

-- `impl`s

-- of a parameter that an `impl` became each of its bounds is asked, whatever it is
abbrev pub each_of : Asked → Bounds → List Asking
each_of x tree.no_bounds = []
each_of x (tree.more_bounds b bs) = of_type None x (bound_data b) (bound_bodies b) ∷ each_of x bs

abbrev pub of_impls : List Impl → ℕ → List Asking
of_impls [] k = []
of_impls (i ∷ is) k = each_of (parameter i.parent k (Some i.at)) i.bounds ++ of_impls is (suc k)

abbrev pub of_part : Tracking → Asks
of_part n = λ k. record { asks = of_impls n.impls k; params = k + length n.impls }

-- bounds

-- an error and a `use<..>` ask nothing, nor does a trait of a lifetime
abbrev pub asked_by : Option Binder → Target → BoundData → Bodies → List Asking
asked_by binder x datum.error_bound bs = []
asked_by binder x (datum.use_bound us) bs = []
asked_by binder (a_type t) (datum.path_bound u m) bs = of_type binder t (datum.path_bound u m) bs ∷ []
asked_by binder (a_type t) (datum.for_bound ns u) bs = of_type binder t (datum.for_bound ns u) bs ∷ []
asked_by binder (a_type t) (datum.lifetime_bound l) bs = of_type binder t (datum.lifetime_bound l) bs ∷ []
asked_by binder (a_lifetime l) (datum.path_bound u m) bs = []
asked_by binder (a_lifetime l) (datum.for_bound ns u) bs = []
asked_by binder (a_lifetime l) (datum.lifetime_bound m) bs = of_lifetime l m ∷ []

-- each one behind what the `impl`s in it ask
abbrev pub asked_in_each : Option Binder → Target → Bounds → Asks
asked_in_each binder x tree.no_bounds = nothing
asked_in_each binder x (tree.more_bounds b bs) =
    of_part (tracked_in_bound b) ⊟ (asking (asked_by binder x (bound_data b) (bound_bodies b)) ⊟ asked_in_each binder x bs)

-- generic parameters

-- its bounds are those of the parameter with the next number, of a type that comes from no node
abbrev pub asked_of_param : GenericDefId → Bounds → Asks
asked_of_param def bs = λ k. asked_in_each None (a_type (parameter def k None)) bs (suc k)

abbrev pub asked_in_default : Option Constant → Asks
asked_in_default None = nothing
asked_in_default (Some c) = of_part (tracked_in_constant c)

abbrev pub asked_in_param : GenericDefId → Param → Asks
asked_in_param def (item.disabled_param at by) = nothing
asked_in_param def (item.type_param n default bs) = of_part (tracked_in_present_type default) ⊟ asked_of_param def bs
asked_in_param def (item.const_param n t default) = of_part (tracked_in_type_part t) ⊟ (asked_in_default default ⊟ one_param)
asked_in_param def (item.lifetime_param n l bs) = asked_in_each None (a_lifetime (lifetime_data l)) bs
asked_in_param def (item.nameless_param l) = nothing

abbrev pub asked_in_params : GenericDefId → List Param → Asks
asked_in_params def [] = nothing
asked_in_params def (x ∷ xs) = asked_in_param def x ⊟ asked_in_params def xs

abbrev pub asked_in_predicate : Predicate → Asks
asked_in_predicate (item.of_type t binder bs) =
    of_part (tracked_in_type t) ⊟ asked_in_each binder (a_type (written (type_data None t) (type_bodies t))) bs
asked_in_predicate (item.of_lifetime l bs) = asked_in_each None (a_lifetime (lifetime_data l)) bs
asked_in_predicate item.of_nothing = nothing

abbrev pub asked_in_predicates : List Predicate → Asks
asked_in_predicates [] = nothing
asked_in_predicates (x ∷ xs) = asked_in_predicate x ⊟ asked_in_predicates xs

-- the parameters, then the where clause
abbrev pub asked_in_generics : GenericDefId → Generics → Asks
asked_in_generics def g = asked_in_params def g.params ⊟ asked_in_predicates g.predicates

-- items

-- `Self` is the first parameter of a trait
abbrev pub asked_in_trait : GenericDefId → Trait → Asks
asked_in_trait def x = asked_of_param def x.bounds ⊟ asked_in_generics def x.generics

abbrev pub asked_in_trait_path : Option PathTypeReading → Asks
asked_in_trait_path None = nothing
asked_in_trait_path (Some t) = of_part (tracked_in_whole t.path)

abbrev pub asked_in_impl : GenericDefId → ImplItem → Asks
asked_in_impl def x = of_part (tracked_in_type_part x.self_type) ⊟ (asked_in_trait_path x.trait_ ⊟ asked_in_generics def x.generics)

-- its bounds stand in what is answered
abbrev pub asked_in_alias : GenericDefId → Alias → Asks
asked_in_alias def x =
    of_part (tracked_in_bounds x.bounds) ⊟ (asked_in_generics def x.generics ⊟ of_part (tracked_in_present_type x.type_))

abbrev pub asked_in_receiver : Receiver → Asks
asked_in_receiver item.no_receiver = nothing
asked_in_receiver (item.disabled_receiver at by) = nothing
asked_in_receiver (item.typed_receiver t) = of_part (tracked_in_type t)
asked_in_receiver (item.self_receiver borrow l) = nothing

-- the type of a variadic one isn't read
abbrev pub asked_in_argument : Argument → Asks
asked_in_argument (item.disabled_argument at by) = nothing
asked_in_argument item.variadic_argument = nothing
asked_in_argument (item.argument t) = of_part (tracked_in_type_part t)

abbrev pub asked_in_arguments : List Argument → Asks
asked_in_arguments [] = nothing
asked_in_arguments (x ∷ xs) = asked_in_argument x ⊟ asked_in_arguments xs

-- what it returns last
abbrev pub asked_in_function : GenericDefId → Function → Asks
asked_in_function def x = asked_in_generics def x.generics
    ⊟ ((asked_in_receiver x.receiver ⊟ asked_in_arguments x.arguments) ⊟ of_part (tracked_in_output x.ret))
