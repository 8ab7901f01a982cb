use Rattle.std.proofs.Common.{arith, ◌∙◌, ap, refl, sym}
use Rattle.hir_store.specs.Parts.{of_args}
use Rattle.hir_walks.proofs.VisitLemmas.{parts_within}
use Rattle.hir_walks.proofs.visit.visit_args.Goals as goal

pub returns : goal.returns
returns g c =
    let walked = c.in_ok-visit_asked.ensures
    ∙ parts_within (λ v. v.visitor.now) (λ v w. record v { visitor = record v.visitor { now = w } }) g.V.EntryVisitor.after
    _ _ _ _ (λ w t. refl) (λ w l. refl) (λ w a. refl) refl (of_args c.args.args.now) in
    let same = sym (ap (λ v. v.visitor.ghost_name) walked) in
    let new = ap (λ v. v.visitor.now) walked in
    grind (arith, same, new)
