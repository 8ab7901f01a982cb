use Rattle.std.proofs.lemmas.Grind.{common_steps}
use Rattle.std.proofs.Common.{arith}
use Rattle.hir_env.proofs.Levels.{record_is_level}
use Rattle.hir_lower_expr.proofs.records.listed.Goals as goal

pub returns : goal.returns
returns g c = rw (record_is_level (g.P.LowerParts.rctx c.args.lowerer.now.parts) c.args.node.now) c.record_level_contents.ensures

pub record_level_contents-requires : goal.record_level_contents-requires
record_level_contents-requires g c = grind (arith, common_steps)
