use Rattle.std.proofs.lemmas.Grind.{common_steps}
use Rattle.std.proofs.Common.{sym, arith}
use Rattle.hir_lower_builder.proofs.BlockLemmas.{settled_pop, settled_none}
use Rattle.hir_lower_expr.proofs.blocks.settle.Goals as goal

pub returns-in-Some-value_at_end : goal.returns-in-Some-value_at_end
returns-in-Some-value_at_end c =
    let last = sym (rw c.as_slice.ensures at c.in-Some-value_at_end.ensures) in
    rw c.in-None.is (settled_pop c.args.statements.now c.pop.new.self c.pop.result c.in-Some-value_at_end.id c.pop.ensures last)

pub returns-in-None-value_at_end : goal.returns-in-None-value_at_end
returns-in-None-value_at_end c = grind (arith, common_steps, settled_none)
