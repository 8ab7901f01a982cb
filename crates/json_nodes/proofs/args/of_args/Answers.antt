use Rattle.std.proofs.Common.{◌∙◌, sym}
use Rattle.json_nodes.proofs.ByKind.{is_list, is_single}
use Rattle.json_nodes.proofs.args.of_args.Goals as goal

pub returns-in-GenericArgList : goal.returns-in-GenericArgList
returns-in-GenericArgList g c = λ e. let it = c.arg_list.ensures e in (it.0, it.1 ∙ sym (is_list _ _ c.in-GenericArgList.is))

pub returns-in_default : goal.returns-in_default
returns-in_default g c = λ e.
    let it = c.arg.ensures e in
    (it.0, it.1 ∙ sym (is_single _ _ c.in_default.not-GenericArgList c.in_default.not-ParenArgs))

pub arg-requires : goal.arg-requires
arg-requires g c = c.requires

pub arg_list-requires : goal.arg_list-requires
arg_list-requires g c = c.requires
