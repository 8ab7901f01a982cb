use Rattle.std.proofs.Common.{◌+◌, ◌*◌}
use Rattle.hir_lower_bind.proofs.bare.+bare.Given as goal

abbrev pub decreases-bare_call : goal.decreases-bare_call
decreases-bare_call g l = 3 * (g.P.LowerParts.rctx l.lowerer.now.parts).place.left

abbrev pub decreases-bare_kind_form : goal.decreases-bare_kind_form
decreases-bare_kind_form g l = 3 * (g.P.LowerParts.rctx l.lowerer.now.parts).place.left + 1

abbrev pub decreases-bare_form : goal.decreases-bare_form
decreases-bare_form g l = 3 * (g.P.LowerParts.rctx l.lowerer.now.parts).place.left + 2
