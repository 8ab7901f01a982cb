use Rattle.std.proofs.Common.{arith, ◌∙◌, sym}
use Rattle.std.proofs.lemmas.List.{nil_from_length}
use Rattle.hir_names.proofs.PlaceLemmas.{first_left, none_entered}
use Rattle.hir_names.proofs.places.leave_bindings.Goals as goal

pub loop-split-init : goal.loop-split-init
loop-split-init c = λ rs were. sym were

pub loop-split-preserved : goal.loop-split-preserved
loop-split-preserved c =
    λ rs were.
    first_left c.args.store.now c.loop-split.left.now _ _ rs c.loop-split.stacks c.leave_binding.new.stacks c.in-Some.ensures.cases.0
    c.leave_binding.ensures (c.loop-split.invariant rs were)

pub loop-split-smaller : goal.loop-split-smaller
loop-split-smaller c = omega (arith, c.in-Some.ensures.cases.1)

pub returns : goal.returns
returns c =
    λ rs were.
    c.loop-split.invariant rs were
    ∙ none_entered c.args.store.now c.loop-split.left.now rs (nil_from_length _ c.in_default.ensures.cases)
