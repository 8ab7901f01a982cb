use Rattle.std.proofs.Common.{arith, ◌≡◌, Some}
use Rattle.std.proofs.lemmas.Grind.{common_steps}
use Rattle.hir_lower_type.proofs.Here.{answer_here}
use Rattle.hir_lower_type.proofs.functions.OptionAstRetTypeAnswerPart.answer.Goals as goal

pub lower_type-requires : goal.lower_type-requires
lower_type-requires g c = grind (arith, common_steps)

pub returns-in-None : goal.returns-in-None
returns-in-None g c = grind (arith, common_steps)

pub returns-in-Some-Some : goal.returns-in-Some-Some
returns-in-Some-Some g c =
    let at = g.P.LowerParts.rctx c.args.lowerer.now.parts in
    let e : c.args.self.now ≡ Some (Some c.in-Some-Some.ty) = grind (arith, common_steps) in
    answer_here at c.place-place.result c.args.self.now c.in-Some-Some.ty c.get.result.now _ c.lower_type.result _
    e c.get.ensures c.place-place.ensures c.lower_type.ensures
