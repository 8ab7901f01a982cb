use Rattle.std.proofs.lemmas.Grind.{common_steps}
use Rattle.std.proofs.Common.{arith}
use Rattle.hir_store.specs.Parts.{of_present, of_args}
use Rattle.hir_store.proofs.Handed.{each_next}
use Rattle.hir_store.proofs.visit.visit_arg_lists.Goals as goal

pub loop-list-preserved : goal.loop-list-preserved
loop-list-preserved g c =
    let one = of_present of_args in
    let next = each_next g.V.StoreVisitor.after_type g.V.StoreVisitor.after_lifetime g.V.StoreVisitor.after_args g.V.StoreVisitor.enters one
    c.args.lists.now c.loop-list.list-index
    c.list-item.result c.loop-list.visitor c.loop-list-test.true c.list-item.is in
    grind (arith, next)

pub offset_bounds-lists-list-index : goal.offset_bounds-lists-list-index
offset_bounds-lists-list-index g c = grind (arith, common_steps, each_next)

pub returns : goal.returns
returns g c = grind (arith, common_steps, each_next)
