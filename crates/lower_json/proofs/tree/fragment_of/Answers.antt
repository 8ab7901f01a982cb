use Rattle.std.proofs.lemmas.Grind.{common_steps}
use Rattle.std.proofs.Common.{arith}
use Rattle.lower_json.proofs.tree.fragment_of.Goals as goal

pub returns-in_ok-boxed-in-Type_ : goal.returns-in_ok-boxed-in-Type_
returns-in_ok-boxed-in-Type_ g c = grind (arith, common_steps)

pub returns-in_err-boxed-in-Type_ : goal.returns-in_err-boxed-in-Type_
returns-in_err-boxed-in-Type_ g c = grind (arith, common_steps)

pub returns-in_ok-boxed-in-Part : goal.returns-in_ok-boxed-in-Part
returns-in_ok-boxed-in-Part g c = grind (arith, common_steps)

pub returns-in_err-boxed-in-Part : goal.returns-in_err-boxed-in-Part
returns-in_err-boxed-in-Part g c = grind (arith, common_steps)

pub boxed-requires : goal.boxed-requires
boxed-requires g c = c.requires

pub boxed-requires-in-Type_ : goal.boxed-requires-in-Type_
boxed-requires-in-Type_ g c = c.requires

pub boxed-requires-in-Part : goal.boxed-requires-in-Part
boxed-requires-in-Part g c = c.requires

pub boxed-requires-in_default : goal.boxed-requires-in_default
boxed-requires-in_default g c = c.requires
