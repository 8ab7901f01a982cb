use Rattle.store_json.proofs.ops.async_gen_word.Goals as goal

pub returns-in-Block : goal.returns-in-Block
returns-in-Block c = rw c.in-Block.is

pub returns-in-Closure : goal.returns-in-Closure
returns-in-Closure c = rw c.in-Closure.is

pub returns-in-Fn : goal.returns-in-Fn
returns-in-Fn c = rw c.in-Fn.is
