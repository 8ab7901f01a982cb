use Rattle.hir_names.proofs.PlaceLemmas.{scope_left}
use Rattle.hir_names.proofs.places.leave_scope.Goals as goal

pub returns : goal.returns
returns c =
    λ rs were.
    scope_left c.args.store.now _ c.entries.result.now _ c.macro_def.result rs c.args.stacks.now c.leave_bindings.new.stacks
    c.leave_macro.new.stacks c.entries.ensures c.macro_def.ensures c.leave_bindings.ensures c.leave_macro.ensures were
