use Rattle.std.proofs.lemmas.Grind.{common_steps}
use Rattle.std.proofs.Common.{ap, arith}
use Rattle.std.specs.Prelude.{option_map}
use Rattle.json_nodes.specs.declared.path_parts.PathOf.TheVariants as path_part
use Rattle.json_nodes.proofs.paths.of_path.Goals as goal

pub returns-in_ok-segment-in-PathSegment : goal.returns-in_ok-segment-in-PathSegment
returns-in_ok-segment-in-PathSegment g c = λ e.
    let made = c.in_ok-segment-in-PathSegment.ensures e in
    (made.0, rw c.in-PathSegment.is (ap (option_map path_part.Segment) made.1))

pub returns-in_err-segment-in-PathSegment : goal.returns-in_err-segment-in-PathSegment
returns-in_err-segment-in-PathSegment g c = λ e.
    let made = c.in_err-segment-in-PathSegment.ensures e in
    absurd (cc made.1)

pub returns-in_default : goal.returns-in_default
returns-in_default g c = grind (arith, common_steps)

pub path-requires : goal.path-requires
path-requires g c = c.requires

pub segment-requires : goal.segment-requires
segment-requires g c = c.requires

pub returns-in-Path : goal.returns-in-Path
returns-in-Path g c = grind (arith, common_steps)
