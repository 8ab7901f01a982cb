use Rattle.hir_names.proofs.WayLemmas.{no_way, way_entered}
use Rattle.hir_names.proofs.places.move_to.Goals as goal

pub loop-step-init : goal.loop-step-init
loop-step-init c = (c.requires, no_way c.args.store.now c.args.scopes.now c.args.to c.new-way.result c.new-way.ensures)

pub loop-step-preserved : goal.loop-step-preserved
loop-step-preserved c = (c.in_ok-ends.ensures.here, c.in_ok-ends.ensures.way c.args.to c.loop-step.invariant.1)

pub returns : goal.returns
returns c =
    way_entered c.args.store.now c.args.scopes.now c.args.to c.loop-step.ends.here c.loop-step.ends.there c.loop-step.way
    c.loop-step.stacks c.enter_way.new.stacks c.enter_way.result c.in_default.ensures c.enter_way.ensures c.loop-step.invariant.0
    c.loop-step.invariant.1
