use Rattle.std.proofs.lemmas.Grind.{common_steps}
use Rattle.std.proofs.Common.{rules, arith, ◌-◌}
use Rattle.serde_json.specs.View.{view, items_view}
use Rattle.lower_json.proofs.Levels.{at_node, no_level, no_item, no_kind, one_level}
use Rattle.lower_json.proofs.tree.+read_part.Goals as goal

pub returns-then-levels-eq0 : goal.returns-then-levels-eq0
returns-then-levels-eq0 t c = λ e. (e, no_level _ _ _ _ (omega arith))

pub returns-in_default : goal.returns-in_default
returns-in_default t c = λ e. (e, no_item _ _ _ _ (search rules))

pub returns-in_default-kind_at : goal.returns-in_default-kind_at
returns-in_default-kind_at t c = λ e. (e, no_kind _ _ _ _ (search rules))

pub of_kind-requires : goal.of_kind-requires
of_kind-requires t c = rw c.node_at.ensures.parts (record {
  callable = λ alloc ks vs old at same_kinds same_nodes. let d = c.decreases in omega (arith, d);
  emitted = λ alloc ks vs old new at r same_kinds same_nodes p. rw (← same_kinds) (rw (← same_nodes) p.1);
})

pub returns : goal.returns
returns t c =
    let a = c.args in
    let value = view c.in-Some.value.node.now in
    let kind = c.in-Some-kind_at.kind in
    let nodes = items_view a.nodes.now.nodes.now in
    rw (one_level a.levels (a.levels - 1) a.kinds.now nodes a.at value kind (omega arith) (search rules) (search rules))
    (at_node kind c.node_at.ensures.here c.of_kind.ensures)

pub overflow_sub-inside : goal.overflow_sub-inside
overflow_sub-inside t c = grind (arith, common_steps)
