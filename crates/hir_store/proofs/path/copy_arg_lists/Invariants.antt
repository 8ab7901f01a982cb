use Rattle.std.proofs.Common.{◌≡◌, take}
use Rattle.hir_store.proofs.path.copy_arg_lists.Given as goal

abbrev pub invariant-loop-list : goal.invariant-loop-list
invariant-loop-list l = l.copies ≡ take l.list-index l.lists
