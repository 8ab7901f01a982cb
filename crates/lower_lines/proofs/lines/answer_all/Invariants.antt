use Rattle.lower_lines.proofs.SoFar.{AnswersSoFar}
use Rattle.lower_lines.proofs.lines.answer_all.Given as goal

abbrev pub invariant-loop : goal.invariant-loop
invariant-loop g l = AnswersSoFar l.mode
    (g.R.Read.remaining l.fn.input) (g.R.Read.remaining l.input) (g.O.Write.contents l.fn.out) (g.O.Write.contents l.out)
