use Rattle.std.proofs.Common.{◌≡◌, take}
use Rattle.hir_store.proofs.path.+args_copy.Given as goal

abbrev pub invariant-copy_bindings-loop-binding : goal.invariant-copy_bindings-loop-binding
invariant-copy_bindings-loop-binding l = l.copies ≡ take l.binding-index l.bindings
