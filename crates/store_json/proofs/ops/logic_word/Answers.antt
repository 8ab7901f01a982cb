use Rattle.store_json.proofs.ops.logic_word.Goals as goal

pub returns-in-And : goal.returns-in-And
returns-in-And c = rw c.in-And.is

pub returns-in-Or : goal.returns-in-Or
returns-in-Or c = rw c.in-Or.is
