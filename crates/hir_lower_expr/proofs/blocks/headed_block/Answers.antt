use Rattle.std.proofs.Common.{arith}
use Rattle.std.proofs.lemmas.Grind.{common_steps}
use Rattle.hir_lower_expr.proofs.blocks.headed_block.Goals as goal

pub returns-in-None : goal.returns-in-None
returns-in-None g c = rw c.in-None.is c.labelled_block.ensures

pub try_form-requires-clause-block : goal.try_form-requires-clause-block
try_form-requires-clause-block g c = grind (arith, common_steps)

pub returns-in-Some-Const : goal.returns-in-Some-Const
returns-in-Some-Const g c = grind (arith, common_steps)

pub returns-in-Some-Gen : goal.returns-in-Some-Gen
returns-in-Some-Gen g c = grind (arith, common_steps)

pub returns-in-Some-Try : goal.returns-in-Some-Try
returns-in-Some-Try g c = grind (arith, common_steps)

pub try_form-requires-clause-ty : goal.try_form-requires-clause-ty
try_form-requires-clause-ty g c = grind (arith, common_steps)

pub returns-in-Some-Async : goal.returns-in-Some-Async
returns-in-Some-Async g c = grind (arith, common_steps)

pub returns-in-Some-AsyncGen : goal.returns-in-Some-AsyncGen
returns-in-Some-AsyncGen g c = grind (arith, common_steps)

pub returns-in-Some-Unsafe : goal.returns-in-Some-Unsafe
returns-in-Some-Unsafe g c = grind (arith, common_steps)

pub const_form-requires : goal.const_form-requires
const_form-requires g c = grind (arith, common_steps)

pub labelled_block-requires : goal.labelled_block-requires
labelled_block-requires g c = grind (arith, common_steps)

pub unsafe_block-requires : goal.unsafe_block-requires
unsafe_block-requires g c = grind (arith, common_steps)

pub coroutine_form-requires : goal.coroutine_form-requires
coroutine_form-requires g c = grind (arith, common_steps)

pub coroutine_form-requires-in-Some-AsyncGen : goal.coroutine_form-requires-in-Some-AsyncGen
coroutine_form-requires-in-Some-AsyncGen g c = grind (arith, common_steps)

pub coroutine_form-requires-in-Some-Gen : goal.coroutine_form-requires-in-Some-Gen
coroutine_form-requires-in-Some-Gen g c = grind (arith, common_steps)
