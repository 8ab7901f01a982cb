use Rattle.std.proofs.lemmas.Grind.{common_steps}
use Rattle.std.proofs.Common.{refl, arith}
use Rattle.json_nodes.specs.Pats.{partless_pat}
use Rattle.json_nodes.proofs.pats.partless_pat.Goals as goal

pub returns-in-WildcardPat : goal.returns-in-WildcardPat
unfolding partless_pat
returns-in-WildcardPat g c = λ e.
    let made = c.whole-in-WildcardPat.ensures e in
    (made.0, rw c.in-WildcardPat.is (rw made.1 refl))

pub returns-in-RestPat : goal.returns-in-RestPat
unfolding partless_pat
returns-in-RestPat g c = λ e.
    let made = c.whole-in-RestPat.ensures e in
    (made.0, rw c.in-RestPat.is (rw made.1 refl))

pub returns-in-NotNullPat : goal.returns-in-NotNullPat
unfolding partless_pat
returns-in-NotNullPat g c = λ e.
    let made = c.whole-in-NotNullPat.ensures e in
    (made.0, rw c.in-NotNullPat.is (rw made.1 refl))

pub returns-in-ConstBlockPat : goal.returns-in-ConstBlockPat
unfolding partless_pat
returns-in-ConstBlockPat g c = λ e.
    let made = c.whole-in-ConstBlockPat.ensures e in
    (made.0, rw c.in-ConstBlockPat.is (rw made.1 refl))

pub returns-in-CfgPredPat : goal.returns-in-CfgPredPat
unfolding partless_pat
returns-in-CfgPredPat g c = λ e.
    let made = c.whole.ensures e in
    (made.0, rw (c.in-CfgPredPat.is, made.1, c.pred.ensures, c.value.ensures))

pub returns-in_default : goal.returns-in_default
unfolding partless_pat
returns-in_default g c = grind (arith, common_steps)
