use Rattle.hir_alias.proofs.Walked.{step_comes_down, step_goes_on, walk_ends}
use Rattle.hir_alias.proofs.visitor.Visitor.go_on.Goals as goal

pub loop-id-smaller : goal.loop-id-smaller
loop-id-smaller c =
    step_comes_down c.loop-id.self c.step.new.self c.pop.new.self c.in-Some.id c.in-Some.ensures c.in_ok-step.ensures

pub loop-id-preserved : goal.loop-id-preserved
loop-id-preserved c =
    let i = c.loop-id.invariant in
    let x = step_goes_on c.args.self.now c.loop-id.self c.step.new.self c.pop.new.self c.in-Some.id c.args.root
    c.requires.placed i.same i.placed c.in-Some.ensures c.in_ok-step.ensures i.sound in
    record { same = x.0; placed = x.1; sound = x.2 }

pub returns-clause-emitted : goal.returns-clause-emitted
returns-clause-emitted c =
    let s = c.args.self.now.lowered.now in
    walk_ends s.store s.generic_params c.args.root c.loop-id.self.tracks c.loop-id.invariant.sound c.in_default.ensures.0
