use Rattle.std.proofs.Common.{arith, ◌∙◌, ap, sym}
use Rattle.std.proofs.lemmas.Grind.{common_steps}
use Rattle.hir_lower_builder.specs.Calls.{found_of}
use Rattle.hir_lower_type.specs.Calls.{type_lent}
use Rattle.hir_lower_type.proofs.CallLemmas.{call_on, was_entered}
use Rattle.hir_lower_type.proofs.calls.call_form.Goals as goal

pub lower_type-requires : goal.lower_type-requires
lower_type-requires g c =
    let it = c.args.lowerer.now.parts in
    was_entered (g.P.LowerParts.rctx it) c.args.call.now (g.P.LowerParts.can it).type_
    (λ n f e es left asked. g.met.P.LowerParts.type_call_kids it c.args.call.now n f e es c.requires left asked)
    c.args.state.now c.enter.new.state (found_of c.in_ok-entered.entered) c.in_ok-entered.ensures.0
    c.in-Some.place c.in-Some.node.now (sym c.type_of.ensures ∙ ap type_lent c.in-Some.is)

pub returns-in_err-entered : goal.returns-in_err-entered
returns-in_err-entered g c = grind (arith, common_steps, call_on)

pub returns-in_err-id-in-None : goal.returns-in_err-id-in-None
returns-in_err-id-in-None g c = grind (arith, common_steps, call_on)
