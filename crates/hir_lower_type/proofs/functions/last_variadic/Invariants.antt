use Rattle.std.proofs.Common.{◌≡◌, length, false}
use Rattle.hir_lower_type.specs.Params.{variadic_last}
use Rattle.hir_lower_type.proofs.functions.last_variadic.Given as goal

abbrev pub invariant-loop-left : goal.invariant-loop-left
invariant-loop-left l = variadic_last false l.fn.all ≡ variadic_last l.variadic l.left

abbrev pub decreases-loop-left : goal.decreases-loop-left
decreases-loop-left l = length l.left
