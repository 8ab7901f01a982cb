use Rattle.std.proofs.Common.{arith, ◌∙◌, sym}
use Rattle.std.proofs.lemmas.List.{nil_from_length}
use Rattle.hir_names.proofs.BodyLemmas.{last_added, none_added}
use Rattle.hir_names.proofs.upvars.add_parts.Goals as goal

pub loop-split-preserved : goal.loop-split-preserved
loop-split-preserved c =
    λ store.
    c.loop-split.invariant store
    ∙ last_added store c.loop-split.parts.now _ _ c.args.whole c.loop-split.left c.add_part.new.left c.in-Some.ensures.cases.0
    (c.in_ok-add_part.ensures store)

pub loop-split-smaller : goal.loop-split-smaller
loop-split-smaller c = omega (arith, c.in-Some.ensures.cases.1)

pub returns : goal.returns
returns c =
    λ store.
    sym (c.loop-split.invariant store
    ∙ none_added store c.loop-split.parts.now c.loop-split.left c.args.whole (nil_from_length _ c.in_default.ensures.cases))
