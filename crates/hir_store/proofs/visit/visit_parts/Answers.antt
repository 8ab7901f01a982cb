use Rattle.std.proofs.lemmas.Grind.{common_steps}
use Rattle.std.proofs.Common.{arith}
use Rattle.hir_store.proofs.Handed.{handed_append}
use Rattle.hir_store.proofs.visit.visit_parts.Goals as goal

pub returns-in-RawPtr : goal.returns-in-RawPtr
returns-in-RawPtr g c = grind (arith, common_steps, handed_append)

pub returns-in-Error : goal.returns-in-Error
returns-in-Error g c = grind (arith, common_steps, handed_append)

pub returns-in-Array : goal.returns-in-Array
returns-in-Array g c = grind (arith, common_steps, handed_append)

pub returns-in-Pattern : goal.returns-in-Pattern
returns-in-Pattern g c = grind (arith, common_steps, handed_append)

pub returns-in-TypeParam : goal.returns-in-TypeParam
returns-in-TypeParam g c = grind (arith, common_steps, handed_append)

pub returns-in-DynTrait : goal.returns-in-DynTrait
returns-in-DynTrait g c = grind (arith, common_steps, handed_append)

pub returns-in-Never : goal.returns-in-Never
returns-in-Never g c = grind (arith, common_steps, handed_append)

pub returns-in-Fn : goal.returns-in-Fn
returns-in-Fn g c = grind (arith, common_steps, handed_append)

pub returns-in-Slice : goal.returns-in-Slice
returns-in-Slice g c = grind (arith, common_steps, handed_append)

pub returns-in-Path : goal.returns-in-Path
returns-in-Path g c = grind (arith, common_steps, handed_append)

pub returns-in-ImplTrait : goal.returns-in-ImplTrait
returns-in-ImplTrait g c = grind (arith, common_steps, handed_append)

pub returns-in-Tuple : goal.returns-in-Tuple
returns-in-Tuple g c = grind (arith, common_steps, handed_append)

pub returns-in-Placeholder : goal.returns-in-Placeholder
returns-in-Placeholder g c = grind (arith, common_steps, handed_append)
