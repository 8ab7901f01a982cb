use Rattle.std.proofs.Common.{arith}
use Rattle.hir_lower_pat.proofs.TypePats.{end_is_side}
use Rattle.hir_lower_type.proofs.limits.written_end.Goals as goal

pub returns-in-Some-Exclusive : goal.returns-in-Some-Exclusive
returns-in-Some-Exclusive g c = grind (arith, end_is_side)

pub returns-in-Some-Inclusive : goal.returns-in-Some-Inclusive
returns-in-Some-Inclusive g c = grind (arith, end_is_side)
