use Rattle.std.proofs.lemmas.Grind.{common_steps}
use Rattle.std.proofs.Common.{rules, arith}
use Rattle.lower_json.proofs.read.read_tree.Goals as goal

pub returns-in_err-value-clause-fault : goal.returns-in_err-value-clause-fault
returns-in_err-value-clause-fault c =
    let fault = c.in_err-value.ensures.fault c.args.want in
    search (rules, fault)

pub returns-clause-document : goal.returns-clause-document
returns-clause-document c = grind (arith, common_steps)

pub returns-clause-fault : goal.returns-clause-fault
returns-clause-fault c = grind (arith, common_steps)
