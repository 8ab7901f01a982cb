use Rattle.std.proofs.Common.{◌∙◌, ◌++◌, ap, refl, slice_get}
use Rattle.hir_walks.specs.Exprs.{exprs_with_pats}
use Rattle.hir_walks.specs.declared.exprs.Listed.{Listed}
use Rattle.hir_walks.specs.Pats.{of_found}
use Rattle.hir_walks.proofs.PatLemmas.{taken_to_end}
use Rattle.hir_walks.proofs.exprs.child_exprs.Goals as goal

pub returns : goal.returns
returns c =
    let ids = of_found (exprs_with_pats c.args.store.now) (slice_get c.args.store.now.exprs c.args.id.0) in
    ap (λ v. v.ids) c.in_ok-walk_child_exprs.ensures
    ∙ (taken_to_end {U = Listed} (λ v. v.ids) _ (λ u x. refl) ids _ ∙ ap (λ es. es ++ ids) c.new.ensures)
