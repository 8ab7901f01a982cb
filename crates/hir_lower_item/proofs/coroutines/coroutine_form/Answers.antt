use Rattle.std.proofs.lemmas.Grind.{common_steps}
use Rattle.std.proofs.Common.{arith}
use Rattle.hir_lower_item.proofs.GivenPaths.{path_has}
use Rattle.hir_lower_item.proofs.coroutines.coroutine_form.Goals as goal

pub alloc_type-requires : goal.alloc_type-requires
alloc_type-requires c =
    path_has c.args.kind c.or_unit.new.state.stored c.in_ok-given.given c.in_ok-path.path c.in_ok-path.ensures c.in_ok-given.ensures.2

pub alloc_type-requires-2 : goal.alloc_type-requires-2
alloc_type-requires-2 c = grind (arith, common_steps)

pub returns : goal.returns
returns c = grind (arith, common_steps)
