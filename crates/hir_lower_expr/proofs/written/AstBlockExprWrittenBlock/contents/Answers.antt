use Rattle.std.proofs.lemmas.Grind.{common_steps}
use Rattle.std.proofs.Common.{arith}
use Rattle.hir_lower_expr.proofs.written.AstBlockExprWrittenBlock.contents.Goals as goal

pub returns : goal.returns
returns g c = grind (arith, common_steps)

pub flat_contents-requires : goal.flat_contents-requires
flat_contents-requires g c = grind (arith, common_steps)
