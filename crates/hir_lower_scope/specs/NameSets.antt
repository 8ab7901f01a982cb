-- Names in the order in which they are first mentioned, and the lifetimes that are named so.
use Rattle.std.specs.Prelude.{Bool, List, [], fold}
use Rattle.std.specs.List.{list_any}
use Rattle.indexmap.specs.IndexSet.{insert_key}
use Rattle.hir_store.specs.Names.{same_name}
use Rattle.hir_store.specs.declared.name.Name.{Name}
use Rattle.hir_env.specs.declared.ctx.LifetimeScope.{LifetimeScope}
use Rattle.hir_env.specs.declared.ctx.LifetimeScope.TheVariants as scope
use Rattle.hir_lower_scope.specs.declared.lifetimes.NamedLifetimeStore.{NamedLifetimeStore}

abbrev pub has_name : List Name → Name → Bool
has_name ns n = list_any (same_name n) ns

-- the name behind these, if it is none of them
abbrev pub with_name : List Name → Name → List Name
with_name ns n = insert_key same_name ns n

-- each of the others behind these, where it is mentioned first
abbrev pub with_names : List Name → List Name → List Name
with_names ns ms = fold with_name ns ms

-- no lifetime is named
abbrev pub none_named : NamedLifetimeStore
none_named = record { where_clause = []; constrained_by_input = []; output = []; scope = scope.Nowhere }

-- a name, by where it stands; in a projection of an argument it counts nowhere
abbrev pub tracked : LifetimeScope → Name → NamedLifetimeStore → NamedLifetimeStore
tracked scope.Nowhere n l = l
tracked scope.Bound n l = record l { where_clause = with_name l.where_clause n }
tracked scope.Input n l = record l { constrained_by_input = with_name l.constrained_by_input n }
tracked scope.Projection n l = l
tracked scope.Output n l = record l { output = with_name l.output n }
