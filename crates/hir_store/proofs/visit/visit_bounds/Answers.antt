use Rattle.std.proofs.lemmas.Grind.{common_steps}
use Rattle.std.proofs.Common.{arith}
use Rattle.hir_store.specs.Parts.{of_bound}
use Rattle.hir_store.proofs.Handed.{each_next}
use Rattle.hir_store.proofs.visit.visit_bounds.Goals as goal

pub loop-bound-preserved : goal.loop-bound-preserved
loop-bound-preserved g c =
    let next = each_next g.V.StoreVisitor.after_type g.V.StoreVisitor.after_lifetime g.V.StoreVisitor.after_args g.V.StoreVisitor.enters
    of_bound c.args.bounds.now c.loop-bound.bound-index
    c.bound-item.result c.loop-bound.visitor c.loop-bound-test.true c.bound-item.is in
    grind (arith, next)

pub returns : goal.returns
returns g c = grind (arith, common_steps, each_next)

pub offset_bounds-bounds-bound-index : goal.offset_bounds-bounds-bound-index
offset_bounds-bounds-bound-index g c = grind (arith, common_steps, each_next)
