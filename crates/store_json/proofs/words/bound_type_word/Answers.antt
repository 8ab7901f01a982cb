use Rattle.store_json.proofs.words.bound_type_word.Goals as goal

pub returns-in-EarlyBound : goal.returns-in-EarlyBound
returns-in-EarlyBound c = rw c.in-EarlyBound.is

pub returns-in-LateBound : goal.returns-in-LateBound
returns-in-LateBound c = rw c.in-LateBound.is
