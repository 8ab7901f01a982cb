use Rattle.store_json.proofs.ops.old_word.Goals as goal

pub returns-in-Static : goal.returns-in-Static
returns-in-Static c = rw c.in-Static.is

pub returns-in-Movable : goal.returns-in-Movable
returns-in-Movable c = rw c.in-Movable.is
