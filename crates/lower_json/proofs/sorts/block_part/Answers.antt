use Rattle.std.proofs.lemmas.Grind.{common_steps}
use Rattle.std.proofs.Common.{arith}
use Rattle.json_nodes.specs.declared.part.AnyOf.TheVariants as part
use Rattle.lower_json.proofs.Firsts.{made}
use Rattle.lower_json.proofs.sorts.block_part.Goals as goal

pub returns : goal.returns
returns g c = made part.Expr c.in_ok-of_block.ensures

pub returns-in_err-of_block : goal.returns-in_err-of_block
returns-in_err-of_block g c = rw c.from_residual.ensures (made part.Expr c.in_err-of_block.ensures)

pub of_block-requires : goal.of_block-requires
of_block-requires g c = grind (arith, common_steps)
