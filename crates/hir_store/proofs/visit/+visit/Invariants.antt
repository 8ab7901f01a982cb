use Rattle.std.proofs.Common.{◌≡◌, drop}
use Rattle.hir_store.specs.Parts.{of_each, of_binding}
use Rattle.hir_store.specs.Handed.{handed}
use Rattle.hir_store.proofs.visit.+visit.Given as goal

abbrev pub invariant-visit_bindings-loop-binding : goal.invariant-visit_bindings-loop-binding
invariant-visit_bindings-loop-binding g l =
    let parts = of_each of_binding in
    let hand = handed g.V.StoreVisitor.after_type g.V.StoreVisitor.after_lifetime g.V.StoreVisitor.after_args
    g.V.StoreVisitor.enters in
    hand (parts l.bindings) l.fn.visitor ≡ hand (parts (drop l.binding-index l.bindings)) l.visitor
