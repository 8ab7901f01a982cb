use Rattle.std.proofs.Common.{arith}
use Rattle.std.proofs.lemmas.Grind.{common_steps}
use Rattle.hir_lower_builder.specs.Pats.{bind_form}
use Rattle.hir_lower_bind.proofs.names.bind_form.Goals as goal

pub returns-in_err-define : goal.returns-in_err-define
unfolding bind_form
returns-in_err-define g c = grind (arith, common_steps)

pub returns : goal.returns
unfolding bind_form
returns g c = grind (arith, common_steps)
