use Rattle.std.proofs.Common.{rules}
use Rattle.hir_lower_builder.specs.Lowering.{enter_block}
use Rattle.hir_lower_builder.proofs.builder.BodyBuilder.enter_block.Goals as goal

pub returns-in-Some : goal.returns-in-Some
unfolding enter_block
returns-in-Some g c = search rules
