use Rattle.std.proofs.Common.{◌≡◌, length}
use Rattle.hir_lower_expr.specs.Runs.{close_scopes, definitions}
use Rattle.hir_lower_expr.proofs.definitions.close_definitions.Given as goal

abbrev pub invariant-loop-all : goal.invariant-loop-all
invariant-loop-all g l = record {
  so_far : close_scopes (definitions l.fn.all) l.fn.state ≡ close_scopes (definitions l.all) l.state;
}

abbrev pub decreases-loop-all : goal.decreases-loop-all
decreases-loop-all g l = length l.all
