-- What is read off items: the parameters that they note, what they ask, their parts, and what is answered.
use Rattle.std.specs.Prelude.{Bool, List, map, Option, Some, None, option_map}
use Rattle.hir_store.specs.declared.diagnostics.ExpressionStoreDiagnostics.{ExpressionStoreDiagnostics}
use Rattle.hir_store.specs.declared.generics.LifetimeParamData.{LifetimeParamData}
use Rattle.hir_store.specs.declared.ids.GenericDefId.{GenericDefId}
use Rattle.hir_env.specs.NodeMap.{Site}
use Rattle.spec_data.specs.Data as datum
use Rattle.spec_data.specs.Data.{BoundData, BoundsData, LifetimeData, OptionTypeData, TypeData, TypesData, typed}
use Rattle.spec_data.specs.Written.{bound_data, bounds_data, constant_site, lifetime_data, type_data, written_option_type, written_path}
use Rattle.spec_data.specs.Written.{written_type}
use Rattle.hir_lower_item.specs.Items.{Alias, Function, Generics, Impl, Trait}
use Rattle.thm_item_generics.specs.Fold.{ItemTracking, Param, tracked_in_alias, tracked_in_function, tracked_in_generics, tracked_in_impl}
use Rattle.thm_item_generics.specs.Fold.{tracked_in_trait}
use Rattle.thm_item_generics.specs.Tracked.{all_early, by_kind}
use Rattle.thm_item_generics.specs.AskedFold.{Asking, Asks, asked_in_alias, asked_in_function, asked_in_generics, asked_in_impl}
use Rattle.thm_item_generics.specs.AskedFold.{asked_in_trait}
use Rattle.thm_item_result.specs.Answers.{arguments_data, keeps_self, keeps_variadic, output_data, receiver_data, trait_data}
use Rattle.thm_item_result.specs.Parts as part
use Rattle.thm_item_result.specs.Parts.{Part, alias_parts, function_parts, generics_parts, impl_parts, trait_parts}

-- parts, as data

pub data Seen : Type 0 where
  -- a type, and one that comes from no node
  a_type : TypeData → Seen
  type_made : TypeData → Seen
  a_bound : BoundData → Seen
  -- none where its path is refused
  a_trait : Option TypeData → Seen
  -- by the node of what it becomes
  a_constant : Option Site → Seen
  a_lifetime : LifetimeData → Seen
  lifetime_made : LifetimeData → Seen
  a_fault : ExpressionStoreDiagnostics → Seen
  -- a parameter that is a type or a constant, and one that is a lifetime
  a_param : Seen
  a_lifetime_param : Seen

abbrev pub seen : Part → Seen
seen (part.type_read t) = a_type (type_data None t)
seen (part.type_made shape) = type_made (typed None shape)
seen (part.bound_read b) = a_bound (bound_data b)
seen (part.trait_read at p) = a_trait (option_map (λ d. typed (Some at) (datum.path_shape d)) (written_path p))
seen (part.constant_read c) = a_constant (constant_site c)
seen (part.lifetime_read l) = a_lifetime (lifetime_data l)
seen (part.lifetime_made l) = lifetime_made (record { lifetime = l; from = None })
seen (part.fault_emitted d) = a_fault d
seen part.param_made = a_param
seen part.lifetime_param_made = a_lifetime_param

-- what is generic in an item

-- its parameters by their numbers, its lifetime parameters with their kinds, what is asked of types and lifetimes, and its parts, in the
-- order in which they are read
pub record Read : Type 0 where
  pub params : List Param
  pub lifetimes : List LifetimeParamData
  pub asks : List Asking
  pub parts : List Seen

abbrev pub read_off : ItemTracking → List LifetimeParamData → Asks → List Part → Read
read_off n lifetimes x parts = record { params = n.params; lifetimes = lifetimes; asks = (x 0).asks; parts = map seen parts }

module _ (def : GenericDefId) where
  abbrev pub generics_read : Generics → Read
  generics_read g = let n = tracked_in_generics def g in read_off n (all_early n) (asked_in_generics def g) (generics_parts def g)

  abbrev pub trait_read : Trait → Read
  trait_read x = let n = tracked_in_trait def x in read_off n (all_early n) (asked_in_trait def x) (trait_parts def x)

  abbrev pub impl_read : Impl → Read
  impl_read x = let n = tracked_in_impl def x in read_off n (all_early n) (asked_in_impl def x) (impl_parts def x)

  abbrev pub alias_read : Alias → Read
  alias_read x = let n = tracked_in_alias def x in read_off n (all_early n) (asked_in_alias def x) (alias_parts def x)

  -- of a function, whose lifetimes may be late bound
  abbrev pub function_read : Function → Read
  function_read x = let n = tracked_in_function def x in read_off n (by_kind n) (asked_in_function def x) (function_parts def x)

-- what is answered of an item

-- the type of an `impl`, and its trait
abbrev pub impl_answers : Impl → TypeData × Option TypeData
impl_answers x = (written_type x.self_type, trait_data x.trait_)

-- the bounds of an alias, and its type
abbrev pub alias_answers : Alias → BoundsData × OptionTypeData
alias_answers x = (bounds_data x.bounds, written_option_type x.type_)

-- the types of what a function is given, and of what it returns, whether it has a `self`, and whether it is variadic
pub record Signed : Type 0 where
  pub args : TypesData
  pub ret : OptionTypeData
  pub has_self : Bool
  pub has_variadic : Bool

abbrev pub function_answers : Function → Signed
function_answers x = record {
  args = receiver_data x.receiver (arguments_data x.arguments);
  ret = output_data x.kind x.ret;
  has_self = keeps_self x.receiver;
  has_variadic = keeps_variadic x.arguments;
}

-- both

module _ (def : GenericDefId) where
  abbrev pub impl_seen : Impl → Read × (TypeData × Option TypeData)
  impl_seen x = (impl_read def x, impl_answers x)

  abbrev pub alias_seen : Alias → Read × (BoundsData × OptionTypeData)
  alias_seen x = (alias_read def x, alias_answers x)

  abbrev pub function_seen : Function → Read × Signed
  function_seen x = (function_read def x, function_answers x)
