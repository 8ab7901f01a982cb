use Rattle.std.proofs.Common.{◌+◌, ◌*◌}
use Rattle.hir_env.specs.Count.{count_pat}
use Rattle.hir_env.specs.Whole.{resolved_pat}
use Rattle.hir_lower_pat.specs.Calls.{written_call}
use Rattle.hir_lower_bind.proofs.pats.+pat.Given as goal

abbrev pub decreases-called_pat : goal.decreases-called_pat
decreases-called_pat g l = 4 * count_pat (written_call (g.P.LowerParts.rctx l.lowerer.now.parts) l.at l.call.now)

abbrev pub decreases-called_element : goal.decreases-called_element
decreases-called_element g l = 4 * count_pat (written_call (g.P.LowerParts.rctx l.lowerer.now.parts) l.at l.call.now)

abbrev pub decreases-lower_pat : goal.decreases-lower_pat
decreases-lower_pat g l = 4 * count_pat (resolved_pat (g.P.LowerParts.rctx l.lowerer.now.parts) l.node.now) + 1

abbrev pub decreases-lower_element : goal.decreases-lower_element
decreases-lower_element g l = 4 * count_pat (resolved_pat (g.P.LowerParts.rctx l.lowerer.now.parts) l.node.now) + 2
