use Rattle.std.proofs.lemmas.Grind.{common_steps}
use Rattle.std.proofs.Common.{refl, arith}
use Rattle.json_nodes.specs.Args.{arg_list}
use Rattle.json_nodes.proofs.args.arg_list.Goals as goal

pub returns-in-GenericArgList : goal.returns-in-GenericArgList
unfolding arg_list
returns-in-GenericArgList g c = λ e.
    let args = c.field-args.ensures e in
    (args.0, rw c.in-GenericArgList.is (rw args.1 refl))

pub returns-in-ParenArgs : goal.returns-in-ParenArgs
unfolding arg_list
returns-in-ParenArgs g c = λ e.
    let args = c.field-args-in-ParenArgs.ensures e in
    (args.0, rw c.in-ParenArgs.is (rw args.1 refl))

pub returns-in_default : goal.returns-in_default
unfolding arg_list
returns-in_default g c = grind (arith, common_steps)

pub field-args-requires : goal.field-args-requires
field-args-requires g c = c.requires

pub field-args-requires-in-ParenArgs : goal.field-args-requires-in-ParenArgs
field-args-requires-in-ParenArgs g c = c.requires
