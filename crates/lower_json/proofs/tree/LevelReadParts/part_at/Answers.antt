use Rattle.std.proofs.lemmas.Grind.{common_steps}
use Rattle.std.proofs.Common.{arith}
use Rattle.lower_json.proofs.tree.LevelReadParts.part_at.Goals as goal

pub read-requires : goal.read-requires
read-requires g c = grind (arith, common_steps)
