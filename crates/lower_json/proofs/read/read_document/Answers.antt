use Rattle.std.proofs.lemmas.Grind.{common_steps}
use Rattle.std.proofs.Common.{arith}
use Rattle.lower_json.proofs.read.read_document.Goals as goal

pub returns : goal.returns
returns c = grind (arith, common_steps)
