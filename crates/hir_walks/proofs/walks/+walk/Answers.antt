use Rattle.std.proofs.Common.{rules, arith, ◌∙◌, ◌-◌}
use Rattle.hir_walks.specs.Pats.{pats_to}
use Rattle.hir_walks.proofs.PatLemmas.{all_counted, all_walked, end_counted, end_walked, full_counted, full_walked}
use Rattle.hir_walks.proofs.PatLemmas.{none_counted, none_walked}
use Rattle.hir_walks.proofs.PatLemmas.{next_counted, next_walked}
use Rattle.hir_walks.proofs.walks.+walk.Goals as goal

pub returns-in_default-clause-sink : goal.returns-in_default-clause-sink
returns-in_default-clause-sink g t c =
    none_walked g.S.PatSink.after c.args.store.now c.args.id c.args.room c.args.sink.now (search rules)

pub returns-in_default-clause-left : goal.returns-in_default-clause-left
returns-in_default-clause-left g t c = none_counted c.args.store.now c.args.id c.args.room (search rules)

pub returns-then-left-eq0-clause-sink : goal.returns-then-left-eq0-clause-sink
returns-then-left-eq0-clause-sink g t c =
    all_walked g.S.PatSink.after c.args.store.now c.args.id c.in-Some.pat.now c.of-parts.result c.args.room (c.args.room - 1)
    c.args.sink.now c.take.new.self c.loop-part.sink (search rules) (search rules) (search rules) (search rules)
    (λ d less. (c.loop-part.invariant.1 d less).0
    ∙ full_walked g.S.PatSink.after (pats_to c.args.store.now d) c.loop-part.parts c.loop-part.left c.loop-part.sink (search rules))

pub returns-then-left-eq0-clause-left : goal.returns-then-left-eq0-clause-left
returns-then-left-eq0-clause-left g t c =
    all_counted c.args.store.now c.args.id c.in-Some.pat.now c.of-parts.result c.args.room (c.args.room - 1) 0
    (search rules) (search rules) (search rules)
    (λ d less. (c.loop-part.invariant.1 d less).1
    ∙ full_counted (pats_to c.args.store.now d) c.loop-part.parts c.loop-part.left (search rules))

pub loop-part-preserved : goal.loop-part-preserved
loop-part-preserved g t c = (
  search rules,
  λ d less. (
    (c.loop-part.invariant.1 d less).0
        ∙ next_walked g.S.PatSink.after (pats_to c.args.store.now d) c.loop-part.parts c.in-Some-next.part c.next.new.self
        c.loop-part.left c.in_ok-left.left c.loop-part.sink c.walk_some.new.sink (search rules)
        (c.in_ok-left.ensures.sink d (omega (arith, c.loop-part.invariant.0, less)))
        (c.in_ok-left.ensures.left d (omega (arith, c.loop-part.invariant.0, less))),
    (c.loop-part.invariant.1 d less).1
        ∙ next_counted (pats_to c.args.store.now d) c.loop-part.parts c.in-Some-next.part c.next.new.self
        c.loop-part.left c.in_ok-left.left (search rules)
        (c.in_ok-left.ensures.left d (omega (arith, c.loop-part.invariant.0, less))),
  ),
)

pub returns-clause-sink : goal.returns-clause-sink
returns-clause-sink g t c =
    all_walked g.S.PatSink.after c.args.store.now c.args.id c.in-Some.pat.now c.of-parts.result c.args.room (c.args.room - 1)
    c.args.sink.now c.take.new.self c.loop-part.sink (search rules) (search rules) (search rules) (search rules)
    (λ d less. (c.loop-part.invariant.1 d less).0
    ∙ end_walked g.S.PatSink.after (pats_to c.args.store.now d) c.loop-part.parts c.loop-part.left c.loop-part.sink (search rules))

pub returns-clause-left : goal.returns-clause-left
returns-clause-left g t c =
    all_counted c.args.store.now c.args.id c.in-Some.pat.now c.of-parts.result c.args.room (c.args.room - 1) c.loop-part.left
    (search rules) (search rules) (search rules)
    (λ d less. (c.loop-part.invariant.1 d less).1
    ∙ end_counted (pats_to c.args.store.now d) c.loop-part.parts c.loop-part.left (search rules))
