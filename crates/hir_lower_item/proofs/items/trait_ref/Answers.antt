use Rattle.std.proofs.lemmas.Grind.{common_steps}
use Rattle.std.proofs.Common.{arith}
use Rattle.hir_lower_item.proofs.items.trait_ref.Goals as goal

pub returns-in_ok-path-in-PathType-Some : goal.returns-in_ok-path-in-PathType-Some
returns-in_ok-path-in-PathType-Some g c = grind (arith, common_steps)

pub returns-in_default-kind : goal.returns-in_default-kind
returns-in_default-kind g c = grind (arith, common_steps)

pub returns-in_err-path-in-PathType-Some : goal.returns-in_err-path-in-PathType-Some
returns-in_err-path-in-PathType-Some g c = grind (arith, common_steps)

pub returns-in_default : goal.returns-in_default
returns-in_default g c = grind (arith, common_steps)

pub stored_trait-requires : goal.stored_trait-requires
stored_trait-requires g c = grind (arith, common_steps)
