use Rattle.std.proofs.lemmas.Grind.{common_steps}
use Rattle.std.proofs.Common.{ap, arith}
use Rattle.std.specs.Prelude.{option_map}
use Rattle.json_nodes.specs.declared.param_parts.ParamOf.TheVariants as param_part
use Rattle.json_nodes.specs.Params.{of_param}
use Rattle.json_nodes.proofs.params.of_param.Goals as goal

pub returns-in-Param : goal.returns-in-Param
unfolding of_param
returns-in-Param g c = λ e.
    let ty = c.field-ty.ensures e in
    let pat = c.field-pat.ensures ty.0 in
    (pat.0, rw (c.in-Param.is, c.id.ensures, c.range.ensures, pat.1, ty.1, c.flag.ensures, c.value.ensures))

pub returns-in_ok-self_param-in-SelfParam : goal.returns-in_ok-self_param-in-SelfParam
unfolding of_param
returns-in_ok-self_param-in-SelfParam g c = λ e.
    let made = c.in_ok-self_param-in-SelfParam.ensures e in
    (made.0, rw c.in-SelfParam.is (ap (option_map param_part.SelfParam) made.1))

pub returns-in_err-self_param-in-SelfParam : goal.returns-in_err-self_param-in-SelfParam
returns-in_err-self_param-in-SelfParam g c = λ e.
    let made = c.in_err-self_param-in-SelfParam.ensures e in
    absurd (cc made.1)

pub returns-in_ok-param_list-in-ParamList : goal.returns-in_ok-param_list-in-ParamList
unfolding of_param
returns-in_ok-param_list-in-ParamList g c = λ e.
    let made = c.in_ok-param_list-in-ParamList.ensures e in
    (made.0, rw c.in-ParamList.is (ap (option_map param_part.ParamList) made.1))

pub returns-in_err-param_list-in-ParamList : goal.returns-in_err-param_list-in-ParamList
returns-in_err-param_list-in-ParamList g c = λ e.
    let made = c.in_err-param_list-in-ParamList.ensures e in
    absurd (cc made.1)

pub field-ty-requires : goal.field-ty-requires
field-ty-requires g c = c.requires

pub self_param-requires : goal.self_param-requires
self_param-requires g c = c.requires

pub param_list-requires : goal.param_list-requires
param_list-requires g c = c.requires

pub field-pat-requires : goal.field-pat-requires
field-pat-requires g c = c.requires

pub returns-in_default : goal.returns-in_default
unfolding of_param
returns-in_default g c = grind (arith, common_steps)
