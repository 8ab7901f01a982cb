use Rattle.store_json.proofs.ops.equal_word.Goals as goal

pub returns-then-negated : goal.returns-then-negated
returns-then-negated c = rw c.if-negated.true

pub returns-else-negated : goal.returns-else-negated
returns-else-negated c = rw c.if-negated.false
