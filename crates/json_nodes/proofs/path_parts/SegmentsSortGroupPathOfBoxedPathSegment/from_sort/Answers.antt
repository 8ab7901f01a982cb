use Rattle.std.proofs.lemmas.Grind.{common_steps}
use Rattle.std.proofs.Common.{arith}
use Rattle.json_nodes.proofs.path_parts.SegmentsSortGroupPathOfBoxedPathSegment.from_sort.Goals as goal

pub returns-in-Segment : goal.returns-in-Segment
returns-in-Segment g c = grind (arith, common_steps)

pub returns-in_default : goal.returns-in_default
returns-in_default g c = grind (arith, common_steps)
