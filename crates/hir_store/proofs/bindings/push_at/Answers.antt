use Rattle.std.proofs.Common.{refl}
use Rattle.std.proofs.lemmas.Option.{slice_get_read}
use Rattle.hir_store.proofs.BindingLemmas.{added_at, same_at}
use Rattle.hir_store.proofs.bindings.push_at.Goals as goal

pub returns-clause-ok : goal.returns-clause-ok
returns-clause-ok c =
    let lists = c.args.lists.now.items in
    let read = slice_get_read lists _ c.args.at c.index_mut.result.now refl c.requires c.index_mut.ensures.value in
    added_at c.args.at c.args.pat lists c.index_mut.result.now c.push.new.self read c.push.result c.push.ensures.ok

pub returns-clause-unchanged : goal.returns-clause-unchanged
returns-clause-unchanged c =
    let lists = c.args.lists.now.items in
    let read = slice_get_read lists _ c.args.at c.index_mut.result.now refl c.requires c.index_mut.ensures.value in
    same_at c.args.at c.args.pat lists c.index_mut.result.now c.push.new.self read c.push.result c.push.ensures.err
