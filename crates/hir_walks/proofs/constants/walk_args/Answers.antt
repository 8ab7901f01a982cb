use Rattle.std.proofs.Common.{arith, ◌∙◌, ap, refl, sym}
use Rattle.hir_store.specs.Parts.{of_args}
use Rattle.hir_walks.proofs.ConstantLemmas.{handed_within}
use Rattle.hir_walks.proofs.constants.walk_args.Goals as goal

pub returns : goal.returns
returns g c =
    let walked = c.in_ok-visit_asked.ensures
    ∙ handed_within (λ v. v.sink.now) (λ v w. record v { sink = record v.sink { now = w } }) g.S.ExprSink.after
    _ (of_args c.args.args.now) _ refl (λ w a. refl) in
    let same = sym (ap (λ v. v.sink.ghost_name) walked) in
    let new = ap (λ v. v.sink.now) walked in
    grind (arith, same, new)
