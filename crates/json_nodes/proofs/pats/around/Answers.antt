use Rattle.std.proofs.lemmas.Grind.{common_steps}
use Rattle.std.proofs.Common.{refl, arith}
use Rattle.json_nodes.specs.Pats.{around}
use Rattle.json_nodes.proofs.pats.around.Goals as goal

pub returns-in-OrPat : goal.returns-in-OrPat
unfolding around
returns-in-OrPat g c = λ e.
    let made = c.whole-in-OrPat.ensures e in
    let pats = c.field-pats.ensures made.0 in
    (pats.0, rw c.in-OrPat.is (rw made.1 (rw pats.1 refl)))

pub returns-in-ParenPat : goal.returns-in-ParenPat
unfolding around
returns-in-ParenPat g c = λ e.
    let made = c.whole-in-ParenPat.ensures e in
    let pat = c.field-pat-in-ParenPat.ensures made.0 in
    (pat.0, rw c.in-ParenPat.is (rw made.1 (rw pat.1 refl)))

pub returns-in-BoxPat : goal.returns-in-BoxPat
unfolding around
returns-in-BoxPat g c = λ e.
    let made = c.whole-in-BoxPat.ensures e in
    let pat = c.field-pat-in-BoxPat.ensures made.0 in
    (pat.0, rw c.in-BoxPat.is (rw made.1 (rw pat.1 refl)))

pub returns-in-DerefPat : goal.returns-in-DerefPat
unfolding around
returns-in-DerefPat g c = λ e.
    let made = c.whole-in-DerefPat.ensures e in
    let pat = c.field-pat-in-DerefPat.ensures made.0 in
    (pat.0, rw c.in-DerefPat.is (rw made.1 (rw pat.1 refl)))

pub returns-in-RefPat : goal.returns-in-RefPat
unfolding around
returns-in-RefPat g c = λ e.
    let made = c.whole.ensures e in
    let pat = c.field-pat.ensures made.0 in
    (pat.0, rw (c.in-RefPat.is, made.1, c.flag-mut_.ensures, c.value.ensures, pat.1))

pub field-pat-requires : goal.field-pat-requires
field-pat-requires g c = c.requires

pub field-pats-requires : goal.field-pats-requires
field-pats-requires g c = c.requires

pub field-pat-requires-in-DerefPat : goal.field-pat-requires-in-DerefPat
field-pat-requires-in-DerefPat g c = c.requires

pub field-pat-requires-in-ParenPat : goal.field-pat-requires-in-ParenPat
field-pat-requires-in-ParenPat g c = c.requires

pub returns-in_default : goal.returns-in_default
unfolding around
returns-in_default g c = grind (arith, common_steps)

pub field-pat-requires-in-BoxPat : goal.field-pat-requires-in-BoxPat
field-pat-requires-in-BoxPat g c = c.requires
