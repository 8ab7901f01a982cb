use Rattle.std.proofs.Common.{arith}
use Rattle.std.proofs.lemmas.Grind.{common_steps}
use Rattle.hir_lower_type.proofs.bounds.bound_form.Goals as goal

pub path_bound-requires : goal.path_bound-requires
path_bound-requires g c = grind (arith, common_steps)

pub returns-in_err-lifetime-in-Some-Lifetime-default-Some : goal.returns-in_err-lifetime-in-Some-Lifetime-default-Some
returns-in_err-lifetime-in-Some-Lifetime-default-Some g c = grind (arith, common_steps)

pub returns-in_err-use_args-in-Some-Use-default-default : goal.returns-in_err-use_args-in-Some-Use-default-default
returns-in_err-use_args-in-Some-Use-default-default g c = grind (arith, common_steps)

pub returns-in-Some-Path-Some-default : goal.returns-in-Some-Path-Some-default
returns-in-Some-Path-Some-default g c = grind (arith, common_steps)

pub returns-in_default : goal.returns-in_default
returns-in_default g c = grind (arith, common_steps)

pub returns-in_ok-lifetime-in-Some-Lifetime-default-Some : goal.returns-in_ok-lifetime-in-Some-Lifetime-default-Some
returns-in_ok-lifetime-in-Some-Lifetime-default-Some g c = grind (arith, common_steps)

pub returns-in_ok-use_args-in-Some-Use-default-default : goal.returns-in_ok-use_args-in-Some-Use-default-default
returns-in_ok-use_args-in-Some-Use-default-default g c = grind (arith, common_steps)
