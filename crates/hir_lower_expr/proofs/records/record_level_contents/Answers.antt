use Rattle.std.proofs.Common.{arith}
use Rattle.std.proofs.lemmas.Grind.{common_steps}
use Rattle.hir_lower_builder.specs.Forms.{record_contents}
use Rattle.hir_lower_expr.proofs.records.record_level_contents.Goals as goal

pub fields-requires : goal.fields-requires
unfolding record_contents
fields-requires g c = grind (arith, common_steps)

pub returns : goal.returns
unfolding record_contents
returns g c = grind (arith, common_steps)

pub spread-requires : goal.spread-requires
unfolding record_contents
spread-requires g c = grind (arith, common_steps)
