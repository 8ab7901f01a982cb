use Rattle.std.proofs.lemmas.Grind.{common_steps}
use Rattle.std.proofs.Common.{arith}
use Rattle.hir_env.specs.Lent.{expanding_of}
use Rattle.hir_lower_builder.specs.Calls.{found_result}
use Rattle.hir_lower_builder.proofs.Entering.{entered_on}
use Rattle.hir_lower_builder.proofs.calls.enter.Goals as goal

pub returns : goal.returns
returns g c =
    entered_on (g.P.LowerParts.rctx c.args.lowerer.now.parts) c.args.call.now c.place-place.result c.pointer-at.result c.site.result
    c.place-place.ensures c.pointer-at.ensures c.site.ensures c.if-place-eq0.false c.args.state.now (found_result c.emitted.result)
    c.emitted.new.state c.args.kind (expanding_of c.expand-expansion.result) c.expand-expansion.ensures c.emitted.ensures

pub overflow_sub-place : goal.overflow_sub-place
overflow_sub-place g c = grind (arith, common_steps)

pub returns-then-place-eq0 : goal.returns-then-place-eq0
returns-then-place-eq0 g c = grind (arith, common_steps)
