use Rattle.std.proofs.lemmas.Grind.{common_steps}
use Rattle.std.proofs.Common.{arith}
use Rattle.lower_json.proofs.read.read_value.Goals as goal

pub read_document-requires-clause-kinds : goal.read_document-requires-clause-kinds
read_document-requires-clause-kinds c = grind (arith, common_steps)

pub read_document-requires-clause-nodes : goal.read_document-requires-clause-nodes
read_document-requires-clause-nodes c = grind (arith, common_steps)

pub returns-clause-fault : goal.returns-clause-fault
returns-clause-fault c = grind (arith, common_steps)

pub returns-clause-sound : goal.returns-clause-sound
returns-clause-sound c = grind (arith, common_steps)

pub invariant_of-listed : goal.invariant_of-listed
invariant_of-listed c = grind (arith, common_steps)
