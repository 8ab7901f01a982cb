use Rattle.store_json.proofs.ops.binary_word.Goals as goal

pub returns-in-Assign : goal.returns-in-Assign
returns-in-Assign c = rw c.in-Assign.is
