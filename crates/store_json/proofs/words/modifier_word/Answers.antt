use Rattle.store_json.proofs.words.modifier_word.Goals as goal

pub returns-in-None : goal.returns-in-None
returns-in-None c = rw c.in-None.is

pub returns-in-Maybe : goal.returns-in-Maybe
returns-in-Maybe c = rw c.in-Maybe.is
