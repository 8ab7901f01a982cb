-- When a lifetime parameter is given: with the other arguments of its item, or at each call.
use Rattle.std.specs.Prelude.{map, min}
use Rattle.hir_store.specs.Params.{early_among}
use Rattle.hir_store.specs.declared.generics.GenericParams.{GenericParams}
use Rattle.hir_store.specs.declared.generics.LifetimeParamData.{LifetimeParamData}
use Rattle.hir_lower_scope.specs.declared.lifetimes.NamedLifetimeStore.{NamedLifetimeStore}
use Rattle.spec_data.specs.Kinds.{LifetimeSets, bound_kind}
use Rattle.hir_lower_builder.specs.declared.generics.GenericLists.{GenericLists}
use Rattle.hir_lower_builder.specs.declared.generics.SideOutput.{SideOutput}

abbrev pub named_sets : NamedLifetimeStore → LifetimeSets
named_sets n = record { bounds = n.where_clause; input = n.constrained_by_input; output = n.output }

abbrev pub of_kind : NamedLifetimeStore → LifetimeParamData → LifetimeParamData
of_kind n l = record l { bound_type = bound_kind (named_sets n) l.name }

-- those of a function
abbrev pub of_kinds : SideOutput → GenericLists
of_kinds n = record n.generics { lifetimes = map (of_kind n.named) n.generics.lifetimes }

-- what is answered of the parameters in the making
abbrev pub finished : GenericLists → GenericParams
finished g = record {
  early_bound_lifetimes_len = min (early_among g.lifetimes) 4294967295;
  type_or_consts = g.type_or_consts;
  lifetimes = g.lifetimes;
  where_predicates = g.where_predicates;
}
