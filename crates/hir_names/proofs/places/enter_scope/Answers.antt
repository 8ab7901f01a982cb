use Rattle.hir_names.proofs.PlaceLemmas.{scope_entered}
use Rattle.hir_names.proofs.places.enter_scope.Goals as goal

pub returns : goal.returns
returns c =
    scope_entered c.args.store.now _ c.entries.result.now _ c.macro_def.result c.args.stacks.now c.enter_macro.new.stacks
    c.enter_bindings.new.stacks c.entries.ensures c.macro_def.ensures c.in_ok-enter_macro.ensures c.in_ok-enter_bindings.ensures
