use Rattle.std.proofs.Common.{◌≡◌, drop}
use Rattle.hir_store.specs.Parts.{of_each, of_present, of_args}
use Rattle.hir_store.specs.Handed.{handed}
use Rattle.hir_store.proofs.visit.visit_arg_lists.Given as goal

abbrev pub invariant-loop-list : goal.invariant-loop-list
invariant-loop-list g l =
    let parts = of_each (of_present of_args) in
    let hand = handed g.V.StoreVisitor.after_type g.V.StoreVisitor.after_lifetime g.V.StoreVisitor.after_args
    g.V.StoreVisitor.enters in
    hand (parts l.lists) l.fn.visitor ≡ hand (parts (drop l.list-index l.lists)) l.visitor
