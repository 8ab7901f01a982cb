use Rattle.std.proofs.Common.{◌+◌, ◌*◌, length}
use Rattle.hir_syntax.specs.declared.ast.StmtKind.{out-StmtKind}
use Rattle.hir_store.specs.Range.{Grows, HasStatements}
use Rattle.hir_env.specs.Layers.{Defined}
use Rattle.hir_lower_builder.specs.Nests.{Each, KidsStmt}
use Rattle.hir_lower_expr.specs.Runs.{Counts}
use Rattle.hir_lower_expr.proofs.RunLemmas.{RunOn}
use Rattle.hir_lower_expr.proofs.runs.+splice.Given as goal

-- inside of a call fewer may be entered; else a part is looked into by the next of these
abbrev pub decreases-collect_call : goal.decreases-collect_call
decreases-collect_call g l = 5 * (g.P.LowerParts.rctx l.lowerer.now.parts).place.left

abbrev pub decreases-collect_value : goal.decreases-collect_value
decreases-collect_value g l = 5 * (g.P.LowerParts.rctx l.lowerer.now.parts).place.left + 1

abbrev pub decreases-collect_value_opt : goal.decreases-collect_value_opt
decreases-collect_value_opt g l = 5 * (g.P.LowerParts.rctx l.lowerer.now.parts).place.left + 2

abbrev pub decreases-collect_stmt : goal.decreases-collect_stmt
decreases-collect_stmt g l = 5 * (g.P.LowerParts.rctx l.lowerer.now.parts).place.left + 3

abbrev pub decreases-collect_run : goal.decreases-collect_run
decreases-collect_run g l = 5 * (g.P.LowerParts.rctx l.lowerer.now.parts).place.left + 4

abbrev pub invariant-collect_run-loop-all : goal.invariant-collect_run-loop-all
invariant-collect_run-loop-all g l = let at = g.P.LowerParts.rctx l.lowerer.parts in record {
  so_far : (d : Defined) → Counts l.fn.run.counts.entries d → RunOn at l.fn.run l.fn.state l.run l.state l.fn.all l.all d;
  may : Each (λ s. KidsStmt (g.P.LowerParts.can l.lowerer.parts) at.place (out-StmtKind s.kind)) l.all;
  placed : Grows l.fn.state.stored l.state.stored × HasStatements l.state.stored l.run.done;
}

abbrev pub decreases-collect_run-loop-all : goal.decreases-collect_run-loop-all
decreases-collect_run-loop-all g l = length l.all
