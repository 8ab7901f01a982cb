use Rattle.store_json.proofs.ops.coroutine_closure_word.Goals as goal

pub returns-in-Async : goal.returns-in-Async
returns-in-Async c = rw c.in-Async.is

pub returns-in-Gen : goal.returns-in-Gen
returns-in-Gen c = rw c.in-Gen.is

pub returns-in-AsyncGen : goal.returns-in-AsyncGen
returns-in-AsyncGen c = rw c.in-AsyncGen.is
