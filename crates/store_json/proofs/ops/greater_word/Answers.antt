use Rattle.store_json.proofs.ops.greater_word.Goals as goal

pub returns-then-strict : goal.returns-then-strict
returns-then-strict c = rw c.if-strict.true

pub returns-else-strict : goal.returns-else-strict
returns-else-strict c = rw c.if-strict.false
