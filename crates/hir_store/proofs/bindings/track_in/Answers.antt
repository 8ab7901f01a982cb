use Rattle.std.proofs.Common.{arith, ◌≡◌, ◌∙◌, ap, refl, ◌/◌, ◌%◌, Some, length-set}
use Rattle.std.specs.Prelude.{slice_get, option_and_then}
use Rattle.std.proofs.lemmas.Option.{slice_get_read}
use Rattle.hir_store.specs.Bindings.{problem_set}
use Rattle.hir_store.specs.Pages.{joined}
use Rattle.hir_store.proofs.BindingLemmas.{set_read}
use Rattle.hir_store.proofs.PageLemmas.{page_within, place_within, set_joined, pages_set_at, get_joined}
use Rattle.hir_store.proofs.bindings.track_in.Goals as goal

pub index_mut-page-requires : goal.index_mut-page-requires
index_mut-page-requires c =
    let h = page_within c.args.pages.now.items c.args.at (c.args.at / 1024) c.requires.paged c.requires.within refl in
    omega (arith, c.args.pages.now.ok.0, h)

pub index_mut-requires : goal.index_mut-requires
index_mut-requires c =
    let page = c.index_mut-page.result.now in
    let r = place_within c.args.pages.now.items c.args.at (c.args.at / 1024) (c.args.at % 1024) page c.requires.paged c.requires.within
    refl refl in
    omega (arith, page.ok.0, r.1 c.index_mut-page.ensures.value)

pub returns-clause-tracked : goal.returns-clause-tracked
returns-clause-tracked c =
    let pages = c.args.pages.now.items in
    let page = c.index_mut-page.result.now in
    let b = c.index_mut.result.now in
    let i = c.args.at / 1024 in
    let j = c.args.at % 1024 in
    let w = place_within pages c.args.at i j page c.requires.paged c.requires.within refl refl in
    let at_page = slice_get_read pages _ i page refl w.0 c.index_mut-page.ensures.value in
    let at_place = slice_get_read page.items _ j b refl (w.1 c.index_mut-page.ensures.value) c.index_mut.ensures.value in
    let read : slice_get (joined pages) c.args.at ≡ Some b =
    get_joined pages c.args.at i j c.requires.paged refl refl ∙ (ap (option_and_then (λ p. slice_get p.items j)) at_page ∙ at_place) in
    set_joined pages c.args.at i j page _ _ c.requires.paged c.requires.within refl refl c.index_mut-page.ensures.value refl
    ∙ set_read c.args.at (problem_set c.args.problem) (joined pages) b read

pub returns-clause-paged : goal.returns-clause-paged
returns-clause-paged c =
    let page = c.index_mut-page.result.now in
    let r = place_within c.args.pages.now.items c.args.at (c.args.at / 1024) (c.args.at % 1024) page c.requires.paged c.requires.within
    refl refl in
    pages_set_at c.args.pages.now.items (c.args.at / 1024) page _ c.requires.paged r.0 c.index_mut-page.ensures.value
    (length-set page.items (c.args.at % 1024) _) refl
