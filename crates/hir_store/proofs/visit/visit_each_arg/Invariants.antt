use Rattle.std.proofs.Common.{◌≡◌, length}
use Rattle.hir_store.specs.Parts.{of_each, of_arg}
use Rattle.hir_store.specs.Handed.{handed}
use Rattle.hir_store.proofs.visit.visit_each_arg.Given as goal

abbrev pub invariant-loop-left : goal.invariant-loop-left
invariant-loop-left g l =
    let hand = handed g.V.StoreVisitor.after_type g.V.StoreVisitor.after_lifetime g.V.StoreVisitor.after_args
    g.V.StoreVisitor.enters in
    hand (of_each of_arg l.fn.left) l.fn.visitor ≡ hand (of_each of_arg l.left) l.visitor

abbrev pub decreases-loop-left : goal.decreases-loop-left
decreases-loop-left g l = length l.left
