use Rattle.store_json.proofs.words.loop_source_word.Goals as goal

pub returns-in-Loop : goal.returns-in-Loop
returns-in-Loop c = rw c.in-Loop.is

pub returns-in-While : goal.returns-in-While
returns-in-While c = rw c.in-While.is

pub returns-in-ForLoop : goal.returns-in-ForLoop
returns-in-ForLoop c = rw c.in-ForLoop.is
