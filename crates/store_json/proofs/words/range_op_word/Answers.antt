use Rattle.store_json.proofs.words.range_op_word.Goals as goal

pub returns-in-Exclusive : goal.returns-in-Exclusive
returns-in-Exclusive c = rw c.in-Exclusive.is

pub returns-in-Inclusive : goal.returns-in-Inclusive
returns-in-Inclusive c = rw c.in-Inclusive.is
