use Rattle.std.proofs.Common.{◌≢◌, ap, arith, eqb-true, subst, sym, ◌∙◌}
use Rattle.lower_lines.specs.Lines.{IsNextLine}
use Rattle.lower_lines.proofs.SoFar.{begin, ended, last, more}
use Rattle.lower_lines.proofs.lines.answer_all.Goals as goal

pub loop-init : goal.loop-init
loop-init g c = begin _ _ _

pub returns-in-Rest-clause-answered : goal.returns-in-Rest-clause-answered
returns-in-Rest-clause-answered g c =
    let next = subst (IsNextLine _ _) c.in-Rest.is c.in_ok-text.ensures.line in
    let none = eqb-true c.in-Rest.text.len 0 (sym c.is_empty.ensures ∙ c.if-is_empty.true) in
    ended _ _ _ _ _ _ c.in-Rest.text.items c.loop.invariant (sym c.in-Rest.text.ok.0 ∙ none) next.1

pub returns-in-Rest-2-clause-answered : goal.returns-in-Rest-2-clause-answered
returns-in-Rest-2-clause-answered g c =
    let next = subst (IsNextLine _ _) c.in-Rest-2.is c.in_ok-text.ensures.line in
    let answered = c.as_slice-in-Rest-2.ensures.value ∙ ap (λ v. v.items) c.in-Rest-2.text-is in
    let some : c.in-Rest-2.text.len ≢ 0 = λ e. grind (arith, e, c.in-Rest-2.text-is, c.is_empty.ensures, c.if-is_empty.false) in
    last _ _ _ _ _ _ _ c.in-Rest-2.text.items _ c.answer_one-in-Rest-2.result c.loop.invariant next.0
    (λ e. some (c.in-Rest-2.text.ok.0 ∙ e)) next.1 answered c.answer_one-in-Rest-2.ensures.answered

pub loop-preserved : goal.loop-preserved
loop-preserved g c =
    let next = subst (IsNextLine _ _) c.in-Ended.is c.in_ok-text.ensures.line in
    more _ _ _ _ _ _ _ c.in-Ended.text.items _ c.loop.invariant next.0 next.1
    c.as_slice.ensures.value c.in_ok-answer_one-in-Ended.ensures.answered
