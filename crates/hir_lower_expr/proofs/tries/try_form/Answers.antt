use Rattle.std.proofs.Common.{arith}
use Rattle.std.proofs.lemmas.Grind.{common_steps}
use Rattle.hir_lower_expr.proofs.tries.try_form.Goals as goal

pub returns-in-None : goal.returns-in-None
returns-in-None g c = grind (arith, common_steps)

pub lower-requires-clause-part : goal.lower-requires-clause-part
lower-requires-clause-part g c = grind (arith, common_steps)

pub typed_try-requires-clause-block : goal.typed_try-requires-clause-block
typed_try-requires-clause-block g c = grind (arith, common_steps)

pub typed_try-requires-clause-ty : goal.typed_try-requires-clause-ty
typed_try-requires-clause-ty g c = grind (arith, common_steps)

pub returns-in-Some : goal.returns-in-Some
returns-in-Some g c = grind (arith, common_steps)

pub lower-requires-clause-role : goal.lower-requires-clause-role
lower-requires-clause-role g c = grind (arith, common_steps)
