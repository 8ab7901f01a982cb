use Rattle.std.proofs.lemmas.Grind.{common_steps}
use Rattle.std.proofs.Common.{arith}
use Rattle.hir_lower_builder.proofs.walk.segments_of.Goals as goal

pub returns-in_ok-args-in-BarePath : goal.returns-in_ok-args-in-BarePath
returns-in_ok-args-in-BarePath c = grind (arith, common_steps)

pub returns-in-Normal : goal.returns-in-Normal
returns-in-Normal c = grind (arith, common_steps)

pub returns-in-LangItem : goal.returns-in-LangItem
returns-in-LangItem c = grind (arith, common_steps)
