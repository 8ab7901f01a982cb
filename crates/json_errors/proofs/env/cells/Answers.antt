use Rattle.std.proofs.Common.{arith}
use Rattle.std.proofs.lemmas.Grind.{common_steps}
use Rattle.json_errors.proofs.Cells.{cells_stop}
use Rattle.json_errors.proofs.env.cells.Goals as goal

pub loop-cell-preserved : goal.loop-cell-preserved
loop-cell-preserved c = grind (arith, common_steps)

pub returns-then-not-cell_in : goal.returns-then-not-cell_in
returns-then-not-cell_in c = grind (arith, cells_stop)

pub returns : goal.returns
returns c = grind (arith, common_steps)
