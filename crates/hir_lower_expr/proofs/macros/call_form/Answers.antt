use Rattle.std.proofs.lemmas.Grind.{common_steps}
use Rattle.std.proofs.Common.{◌∙◌, ap, sym, arith}
use Rattle.hir_lower_builder.specs.Calls.{found_of}
use Rattle.hir_lower_expr.specs.Calls.{expr_lent}
use Rattle.hir_lower_expr.proofs.CallLemmas.{was_entered, call_on}
use Rattle.hir_lower_expr.proofs.macros.call_form.Goals as goal

pub maybe_collect_expr_inside-requires : goal.maybe_collect_expr_inside-requires
maybe_collect_expr_inside-requires g c =
    let it = c.args.lowerer.now.parts in
    was_entered (g.P.LowerParts.rctx it) c.args.call.now (g.P.LowerParts.can it).inner
    (λ n f e es left asked. g.met.P.LowerParts.call_kids it c.args.call.now n f e es c.requires left asked)
    c.args.state.now c.enter.new.state (found_of c.in_ok-entered.entered) c.in_ok-entered.ensures.0
    c.in-Some.place c.in-Some.node.now (sym c.expr_of.ensures ∙ ap expr_lent c.in-Some.is)

pub returns-in_err-alloc_expr-in-None : goal.returns-in_err-alloc_expr-in-None
returns-in_err-alloc_expr-in-None g c = grind (arith, common_steps, call_on)

pub returns-in_ok-alloc_expr-in-None : goal.returns-in_ok-alloc_expr-in-None
returns-in_ok-alloc_expr-in-None g c = grind (arith, common_steps, call_on)

pub returns-in_err-entered : goal.returns-in_err-entered
returns-in_err-entered g c = grind (arith, common_steps, call_on)

pub pointed-requires : goal.pointed-requires
pointed-requires g c = grind (arith, common_steps, call_on)
