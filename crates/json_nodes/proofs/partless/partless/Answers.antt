use Rattle.std.proofs.lemmas.Grind.{common_steps}
use Rattle.std.proofs.Common.{refl, arith}
use Rattle.json_nodes.specs.Exprs.{partless}
use Rattle.json_nodes.proofs.partless.partless.Goals as goal

pub returns-in-UnderscoreExpr : goal.returns-in-UnderscoreExpr
unfolding partless
returns-in-UnderscoreExpr g c = λ e.
    let made = c.whole-in-UnderscoreExpr.ensures e in
    (made.0, rw c.in-UnderscoreExpr.is (rw made.1 refl))

pub returns-in-IncludeBytesExpr : goal.returns-in-IncludeBytesExpr
unfolding partless
returns-in-IncludeBytesExpr g c = λ e.
    let made = c.whole-in-IncludeBytesExpr.ensures e in
    (made.0, rw c.in-IncludeBytesExpr.is (rw made.1 refl))

pub returns-in-AsmExpr : goal.returns-in-AsmExpr
unfolding partless
returns-in-AsmExpr g c = λ e.
    let made = c.whole-in-AsmExpr.ensures e in
    (made.0, rw c.in-AsmExpr.is (rw made.1 refl))

pub returns-in-FormatArgsExpr : goal.returns-in-FormatArgsExpr
unfolding partless
returns-in-FormatArgsExpr g c = λ e.
    let made = c.whole-in-FormatArgsExpr.ensures e in
    (made.0, rw c.in-FormatArgsExpr.is (rw made.1 refl))

pub returns-in-CfgPredExpr : goal.returns-in-CfgPredExpr
unfolding partless
returns-in-CfgPredExpr g c = λ e.
    let made = c.whole.ensures e in
    (made.0, rw (c.in-CfgPredExpr.is, made.1, c.pred.ensures, c.value.ensures))

pub returns-in_default : goal.returns-in_default
unfolding partless
returns-in_default g c = grind (arith, common_steps)
