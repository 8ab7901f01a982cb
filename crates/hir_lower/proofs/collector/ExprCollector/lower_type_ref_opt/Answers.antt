use Rattle.std.proofs.lemmas.Grind.{common_steps}
use Rattle.std.proofs.Common.{ap, Err, arith}
use Rattle.hir_lower.proofs.PathMeanings.{full_before}
use Rattle.hir_lower.proofs.StaysOn.{stays_refl}
use Rattle.hir_lower.proofs.collector.ExprCollector.lower_type_ref_opt.Goals as goal

pub returns-clause-data : goal.returns-clause-data
returns-clause-data g c = rw (← c.mode.ensures) (c.in_ok-lowered.ensures.data (c.args.self.now.paired c.if-self.false))

pub returns-clause-rooted : goal.returns-clause-rooted
returns-clause-rooted g c =
    let self = c.args.self.now in
    rw (← c.mode.ensures)
    (c.in_ok-lowered.ensures.rooted (self.paired c.if-self.false) (self.owners c.if-self.false) (self.outside c.if-self.false))

pub returns-clause-names : goal.returns-clause-names
returns-clause-names g c = rw (← c.mode.ensures) (c.in_ok-lowered.ensures.names (c.args.self.now.paired c.if-self.false))

pub returns-clause-tracked : goal.returns-clause-tracked
returns-clause-tracked g c = rw (← c.mode.ensures) (c.in_ok-lowered.ensures.tracked (c.args.self.now.paired c.if-self.false))

pub returns-then-self-clause-tracked : goal.returns-then-self-clause-tracked
returns-then-self-clause-tracked g c = grind (arith, common_steps)

pub returns-then-self-clause-stays : goal.returns-then-self-clause-stays
returns-then-self-clause-stays g c = λ n. stays_refl _

pub returns-in_err-lowered-clause-too_large : goal.returns-in_err-lowered-clause-too_large
returns-in_err-lowered-clause-too_large g c =
    full_before _ _ c.from_residual.ensures.1
    (λ is. rw (← c.mode.ensures) (c.in_err-lowered.ensures.too_large (c.args.self.now.paired c.if-self.false) (ap Err is)))

pub returns-clause-fits : goal.returns-clause-fits
returns-clause-fits g c =
    let self = c.args.self.now in
    rw (← c.mode.ensures) (c.in_ok-lowered.ensures.fits (self.paired c.if-self.false) (self.within c.if-self.false))

pub returns-clause-full : goal.returns-clause-full
returns-clause-full g c = grind (arith, common_steps)

pub returns-clause-calls : goal.returns-clause-calls
returns-clause-calls g c = grind (arith, common_steps)

pub invariant_of-self : goal.invariant_of-self
invariant_of-self g c = grind (arith, common_steps)

pub returns-then-self-clause-data : goal.returns-then-self-clause-data
returns-then-self-clause-data g c = grind (arith, common_steps)

pub returns-then-self-clause-names : goal.returns-then-self-clause-names
returns-then-self-clause-names g c = grind (arith, common_steps)

pub returns-then-self-clause-fits : goal.returns-then-self-clause-fits
returns-then-self-clause-fits g c = grind (arith, common_steps)

pub returns-clause-too_large : goal.returns-clause-too_large
returns-clause-too_large g c = grind (arith, common_steps)

pub returns-then-self-clause-full : goal.returns-then-self-clause-full
returns-then-self-clause-full g c = grind (arith, common_steps)

pub returns-then-self-clause-rooted : goal.returns-then-self-clause-rooted
returns-then-self-clause-rooted g c = grind (arith, common_steps)

pub returns-then-self-clause-calls : goal.returns-then-self-clause-calls
returns-then-self-clause-calls g c = grind (arith, common_steps)

pub returns-then-self-clause-too_large : goal.returns-then-self-clause-too_large
returns-then-self-clause-too_large g c = grind (arith, common_steps)
