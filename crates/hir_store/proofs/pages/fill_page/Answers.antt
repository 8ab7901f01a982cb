use Rattle.std.proofs.lemmas.Grind.{common_steps}
use Rattle.std.proofs.Common.{arith, ◌-◌, [], length, ◌<◌}
use Rattle.hir_store.specs.Pages.{IsPageBefore}
use Rattle.hir_store.proofs.PageLemmas.{last_page, joined_set, pages_set, some_page}
use Rattle.hir_store.proofs.pages.fill_page.Goals as goal

pub push_reserved-requires : goal.push_reserved-requires
push_reserved-requires g c =
    let page = c.index_mut-page.result.now in
    let n : 0 < length c.args.pages.now.items = some_page _ c.requires.room in
    let r = last_page c.args.pages.now.items (c.len-last.result - 1) page c.requires.pages (omega arith) c.index_mut-page.ensures.value in
    omega (arith, c.requires.room, r.0, r.1.2, page.ok.0)

pub returns-clause-joined : goal.returns-clause-joined
returns-clause-joined g c =
    let n : 0 < length c.args.pages.now.items = some_page _ c.requires.room in
    joined_set c.args.pages.now.items (c.len-last.result - 1) c.index_mut-page.result.now c.push_reserved.new.self c.args.entry
    (omega arith) c.index_mut-page.ensures.value c.push_reserved.ensures.items

pub returns-clause-paged : goal.returns-clause-paged
returns-clause-paged g c =
    let page = c.index_mut-page.result.now in
    let filled = c.push_reserved.new.self in
    let n : 0 < length c.args.pages.now.items = some_page _ c.requires.room in
    let r = last_page c.args.pages.now.items (c.len-last.result - 1) page c.requires.pages (omega arith) c.index_mut-page.ensures.value in
    let h : IsPageBefore filled [] = (
      omega (arith, filled.ok.0, c.push_reserved.ensures.len),
      omega (arith, filled.ok.0, page.ok.0, c.push_reserved.ensures.len, r.0, r.1.1, c.requires.room),
      omega (arith, c.push_reserved.ensures.capacity, r.1.2),
    ) in
    pages_set c.args.pages.now.items (c.len-last.result - 1) filled (omega arith) c.requires.pages h

pub index_mut-page-requires : goal.index_mut-page-requires
index_mut-page-requires g c = grind (arith, common_steps, last_page, joined_set, pages_set)

pub overflow_sub-last : goal.overflow_sub-last
overflow_sub-last g c = grind (arith, common_steps, last_page, joined_set, pages_set)
