use Rattle.std.proofs.Common.{arith, ◌∙◌, sym}
use Rattle.std.proofs.lemmas.List.{nil_from_length}
use Rattle.hir_names.proofs.PlaceLemmas.{last_entered, none_entered}
use Rattle.hir_names.proofs.places.enter_bindings.Goals as goal

pub loop-split-preserved : goal.loop-split-preserved
loop-split-preserved c = c.loop-split.invariant
    ∙ last_entered c.args.store.now c.loop-split.left.now _ _ c.loop-split.stacks c.enter_binding.new.stacks c.in-Some.ensures.cases.0
    c.in_ok-enter_binding.ensures

pub loop-split-smaller : goal.loop-split-smaller
loop-split-smaller c = omega (arith, c.in-Some.ensures.cases.1)

pub returns : goal.returns
returns c =
    sym (c.loop-split.invariant
    ∙ none_entered c.args.store.now c.loop-split.left.now c.loop-split.stacks (nil_from_length _ c.in_default.ensures.cases))
