use Rattle.std.proofs.Common.{◌≡◌, drop}
use Rattle.hir_store.specs.Parts.{of_each, of_bound}
use Rattle.hir_store.specs.Handed.{handed}
use Rattle.hir_store.proofs.visit.visit_bounds.Given as goal

abbrev pub invariant-loop-bound : goal.invariant-loop-bound
invariant-loop-bound g l =
    let hand = handed g.V.StoreVisitor.after_type g.V.StoreVisitor.after_lifetime g.V.StoreVisitor.after_args
    g.V.StoreVisitor.enters in
    hand (of_each of_bound l.bounds) l.fn.visitor ≡ hand (of_each of_bound (drop l.bound-index l.bounds)) l.visitor
