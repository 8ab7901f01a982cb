use Rattle.std.proofs.Common.{arith}
use Rattle.std.proofs.lemmas.Grind.{common_steps}
use Rattle.hir_lower_pat.proofs.KindLemmas.{named_side}
use Rattle.hir_lower_pat.proofs.TypePats.{no_limit_left}
use Rattle.hir_lower_type.proofs.limits.side_form.Goals as goal

pub returns-in_default : goal.returns-in_default
returns-in_default g c = grind (arith, common_steps, named_side, no_limit_left)
