use Rattle.std.proofs.lemmas.Grind.{common_steps}
use Rattle.std.proofs.Common.{arith}
use Rattle.lower_json.proofs.ByKind.{is_path, is_args}
use Rattle.lower_json.proofs.Firsts.{by_group}
use Rattle.lower_json.proofs.sorts.of_path_part.Goals as goal

pub returns-in-Path : goal.returns-in-Path
returns-in-Path g c = by_group (is_path _ _ c.in-Path.is) c.of_path.ensures

pub returns-in_default : goal.returns-in_default
returns-in_default g c = by_group (is_args _ _ c.in_default.not-Path c.in_default.not-PathSegment) c.of_args.ensures

pub of_args-requires : goal.of_args-requires
of_args-requires g c = grind (arith, common_steps)

pub of_path-requires : goal.of_path-requires
of_path-requires g c = grind (arith, common_steps)
