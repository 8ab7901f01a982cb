use Rattle.std.proofs.Common.{arith}
use Rattle.std.proofs.lemmas.Grind.{common_steps}
use Rattle.hir_lower_path.proofs.Outputs.{output_of}
use Rattle.hir_lower_path.proofs.args.output.Goals as goal

pub returns-in-None : goal.returns-in-None
returns-in-None g c = grind (arith, common_steps)

pub type_or_error-requires : goal.type_or_error-requires
type_or_error-requires g c = grind (arith, common_steps)

pub returns-in-Some : goal.returns-in-Some
returns-in-Some g c =
    let at = g.P.LowerParts.rctx c.args.lowerer.now.parts in
    output_of at c.place.result c.args.ret.now c.in-Some.ty _ c.type_or_error.result _ c.in-Some.is c.place.ensures c.type_or_error.ensures
