use Rattle.std.proofs.Common.{◌∙◌, ap, length, sym}
use Rattle.hir_store.specs.Bindings.{problem_set}
use Rattle.hir_store.specs.Pages.{joined}
use Rattle.hir_store.proofs.BindingLemmas.{length_at}
use Rattle.hir_store.proofs.bindings.track_at.Goals as goal

pub returns-clause-paged : goal.returns-clause-paged
returns-clause-paged c =
    let old = joined c.args.entries.now.pages.items in
    let same = length_at c.args.at (problem_set c.args.problem) old in
    (c.requires.paged.0 ∙ (sym same ∙ sym (ap length c.track_in.ensures.tracked)), c.track_in.ensures.paged)
