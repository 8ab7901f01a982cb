use Rattle.std.proofs.lemmas.Grind.{common_steps}
use Rattle.std.proofs.Common.{arith}
use Rattle.hir_store.proofs.path.Path.copy.Goals as goal

pub returns-in-LangItem : goal.returns-in-LangItem
returns-in-LangItem c = grind (arith, common_steps)

pub returns-in_ok-clone-in-BarePath : goal.returns-in_ok-clone-in-BarePath
returns-in_ok-clone-in-BarePath c = grind (arith, common_steps)

pub returns-in_ok-copy-in-Normal : goal.returns-in_ok-copy-in-Normal
returns-in_ok-copy-in-Normal c = grind (arith, common_steps)
