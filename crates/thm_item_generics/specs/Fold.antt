-- What lowering an item notes, in the order in which it reads the item's parts. What is in a disabled node isn't read.
use Rattle.std.specs.Prelude.{codes, List, [], ◌∷◌, ◌++◌, map, Option, Some, None, option_map}
use Rattle.hir_store.specs.Pointers.{Pointer}
use Rattle.hir_store.specs.declared.generics.TypeParamProvenance.{TypeParamProvenance}
use Rattle.hir_store.specs.declared.generics.TypeParamProvenance.TheVariants as provenance
use Rattle.hir_store.specs.declared.ids.GenericDefId.{GenericDefId}
use Rattle.hir_store.specs.declared.name.Name.{Name}
use Rattle.hir_store.specs.declared.name.Name.TheVariants as name
use Rattle.hir_store.specs.declared.type_ref.LifetimeRef.{LifetimeRef}
use Rattle.hir_env.specs.declared.ctx.LifetimeScope.TheVariants as scope
use Rattle.hir_env.specs.ResolvedTree as tree
use Rattle.hir_env.specs.ResolvedTree.{Bound, Bounds, Constant, OptionType}
use Rattle.hir_env.specs.NodeMap.{Site}
use Rattle.hir_env.specs.TypeLayers.{PathTypeReading}
use Rattle.spec_data.specs.Data.{OptionTypeData, TypeData, no_type}
use Rattle.spec_data.specs.Written.{constant_site, written_option_type, written_type}
use Rattle.spec_semantics.specs.Inner.{Bodies, constant_bodies, part_bodies}
use Rattle.spec_data.specs.Tracking.{Tracking, of_lifetime, of_lifetime_option, one_ref}
use Rattle.spec_data.specs.Kinds.{LifetimeSets}
use Rattle.spec_data.specs.Fold.{tracked_in_bound, tracked_in_bounds, tracked_in_constant, tracked_in_output, tracked_in_present_type}
use Rattle.spec_data.specs.Fold.{tracked_in_type, tracked_in_type_part, tracked_in_whole}
use Rattle.hir_lower_item.specs.Items as item
use Rattle.hir_lower_item.specs.Items.{Alias, Argument, Function, Generics, Impl, Predicate, Receiver, Trait}

-- a parameter that is a type or a constant
pub data Param : Type 0 where
  -- of which definition, its name, what it is, and its default, with the bodies inside that
  type_param : GenericDefId → Name → TypeParamProvenance → OptionTypeData → Bodies → Param
  -- its name, its type, with the bodies inside that, and its default: the node that it came from, and the bodies that it is
  const_param : Name → TypeData → Bodies → Option (Option Site) → Bodies → Param
  -- one that an `impl` became: of which definition, and at which node
  impl_param : GenericDefId → Pointer → Param

-- The parameters in the order of their numbers, the lifetime parameters, and the names in bounds, in arguments and in what is returned,
-- in the order in which they are read.
pub record ItemTracking : Type 0 where
  pub params : List Param
  pub lifetimes : List Name
  pub bounds : List Name
  pub input : List Name
  pub output : List Name

abbrev pub nothing : ItemTracking
nothing = record { params = []; lifetimes = []; bounds = []; input = []; output = [] }

infixr 20 ◌⊞◌
-- one after another
abbrev pub ◌⊞◌ : ItemTracking → ItemTracking → ItemTracking
a ⊞ b = record {
  params = a.params ++ b.params;
  lifetimes = a.lifetimes ++ b.lifetimes;
  bounds = a.bounds ++ b.bounds;
  input = a.input ++ b.input;
  output = a.output ++ b.output;
}

-- of a part of the item
abbrev pub of_part : Tracking → ItemTracking
of_part n = record {
  params = map (λ i. impl_param i.parent i.at) n.impls;
  lifetimes = [];
  bounds = n.bounds;
  input = n.input;
  output = n.output;
}

abbrev pub one_param : Param → ItemTracking
one_param x = record nothing { params = x ∷ [] }

abbrev pub one_lifetime : Name → ItemTracking
one_lifetime n = record nothing { lifetimes = n ∷ [] }

abbrev pub sets_of_item : ItemTracking → LifetimeSets
sets_of_item n = record { bounds = n.bounds; input = n.input; output = n.output }

-- bounds

abbrev pub tracked_in_each : Bounds → ItemTracking
tracked_in_each tree.no_bounds = nothing
tracked_in_each (tree.more_bounds b bs) = of_part (tracked_in_bound b) ⊞ tracked_in_each bs

-- a lifetime that another one bounds is named by the bound once more
abbrev pub bounded : LifetimeRef → Bound → ItemTracking
bounded l tree.error_bound = nothing
bounded l (tree.path_bound at p maybe binder) = nothing
bounded l (tree.lifetime_bound m) = of_part (one_ref scope.Bound l)
bounded l (tree.use_bound us) = nothing

abbrev pub tracked_in_bounds_of : LifetimeRef → Bounds → ItemTracking
tracked_in_bounds_of l tree.no_bounds = nothing
tracked_in_bounds_of l (tree.more_bounds b bs) = of_part (tracked_in_bound b) ⊞ (bounded l b ⊞ tracked_in_bounds_of l bs)

-- generic parameters

abbrev pub tracked_in_default : Option Constant → ItemTracking
tracked_in_default None = nothing
tracked_in_default (Some c) = of_part (tracked_in_constant c)

-- the node of one, and what it is: the constant itself, and what is inside it
abbrev pub default_site : Option Constant → Option (Option Site)
default_site c = option_map constant_site c

abbrev pub default_bodies : Option Constant → Bodies
default_bodies None = []
default_bodies (Some c) = constant_bodies c

abbrev pub typed : GenericDefId → Name → OptionType → Param
typed def n default = type_param def n provenance.TypeParamList (written_option_type default) (part_bodies default)

abbrev pub constant : Name → OptionType → Option Constant → Param
constant n t default = const_param n (written_type t) (part_bodies t) (default_site default) (default_bodies default)

abbrev pub tracked_in_param : GenericDefId → item.Param → ItemTracking
tracked_in_param def (item.disabled_param at by) = nothing
tracked_in_param def (item.type_param n default bs) =
    of_part (tracked_in_present_type default) ⊞ (one_param (typed def n default) ⊞ tracked_in_each bs)
tracked_in_param def (item.const_param n t default) =
    of_part (tracked_in_type_part t) ⊞ (tracked_in_default default ⊞ one_param (constant n t default))
tracked_in_param def (item.lifetime_param n l bs) = of_part (of_lifetime l) ⊞ (one_lifetime n ⊞ tracked_in_bounds_of l.lifetime bs)
tracked_in_param def (item.nameless_param l) = of_part (of_lifetime_option l)

abbrev pub tracked_in_params : GenericDefId → List item.Param → ItemTracking
tracked_in_params def [] = nothing
tracked_in_params def (x ∷ xs) = tracked_in_param def x ⊞ tracked_in_params def xs

abbrev pub tracked_in_predicate : Predicate → ItemTracking
tracked_in_predicate (item.of_type t binder bs) = of_part (tracked_in_type t) ⊞ tracked_in_each bs
tracked_in_predicate (item.of_lifetime l bs) = of_part (of_lifetime l) ⊞ tracked_in_bounds_of l.lifetime bs
tracked_in_predicate item.of_nothing = nothing

abbrev pub tracked_in_predicates : List Predicate → ItemTracking
tracked_in_predicates [] = nothing
tracked_in_predicates (x ∷ xs) = tracked_in_predicate x ⊞ tracked_in_predicates xs

-- the parameters, then the where clause
abbrev pub tracked_in_generics : GenericDefId → Generics → ItemTracking
tracked_in_generics def g = tracked_in_params def g.params ⊞ tracked_in_predicates g.predicates

-- items

abbrev pub self_name : Name
self_name = name.Text (codes "Self")

abbrev pub self_param : GenericDefId → Param
self_param def = type_param def self_name provenance.TraitSelf no_type []

-- `Self` is the first parameter of a trait
abbrev pub tracked_in_trait : GenericDefId → Trait → ItemTracking
tracked_in_trait def x = (one_param (self_param def) ⊞ tracked_in_each x.bounds) ⊞ tracked_in_generics def x.generics

abbrev pub tracked_in_trait_path : Option PathTypeReading → ItemTracking
tracked_in_trait_path None = nothing
tracked_in_trait_path (Some t) = of_part (tracked_in_whole t.path)

abbrev pub tracked_in_impl : GenericDefId → Impl → ItemTracking
tracked_in_impl def x = of_part (tracked_in_type_part x.self_type) ⊞ (tracked_in_trait_path x.trait_ ⊞ tracked_in_generics def x.generics)

-- its type last
abbrev pub tracked_in_alias : GenericDefId → Alias → ItemTracking
tracked_in_alias def x =
    of_part (tracked_in_bounds x.bounds) ⊞ (tracked_in_generics def x.generics ⊞ of_part (tracked_in_present_type x.type_))

abbrev pub tracked_in_receiver : Receiver → ItemTracking
tracked_in_receiver item.no_receiver = nothing
tracked_in_receiver (item.disabled_receiver at by) = nothing
tracked_in_receiver (item.typed_receiver t) = of_part (tracked_in_type t)
tracked_in_receiver (item.self_receiver borrow l) = of_part (of_lifetime_option l)

-- the type of a variadic one isn't read
abbrev pub tracked_in_argument : Argument → ItemTracking
tracked_in_argument (item.disabled_argument at by) = nothing
tracked_in_argument item.variadic_argument = nothing
tracked_in_argument (item.argument t) = of_part (tracked_in_type_part t)

abbrev pub tracked_in_arguments : List Argument → ItemTracking
tracked_in_arguments [] = nothing
tracked_in_arguments (x ∷ xs) = tracked_in_argument x ⊞ tracked_in_arguments xs

-- what it returns last
abbrev pub tracked_in_function : GenericDefId → Function → ItemTracking
tracked_in_function def x = tracked_in_generics def x.generics
    ⊞ ((tracked_in_receiver x.receiver ⊞ tracked_in_arguments x.arguments) ⊞ of_part (tracked_in_output x.ret))
