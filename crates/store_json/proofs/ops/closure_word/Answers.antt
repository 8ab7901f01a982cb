use Rattle.store_json.proofs.ops.closure_word.Goals as goal

pub returns-in-Closure : goal.returns-in-Closure
returns-in-Closure c = rw c.in-Closure.is
