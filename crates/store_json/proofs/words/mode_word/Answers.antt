use Rattle.store_json.proofs.words.mode_word.Goals as goal

pub returns-in-Unannotated : goal.returns-in-Unannotated
returns-in-Unannotated c = rw c.in-Unannotated.is

pub returns-in-Mutable : goal.returns-in-Mutable
returns-in-Mutable c = rw c.in-Mutable.is

pub returns-in-Ref : goal.returns-in-Ref
returns-in-Ref c = rw c.in-Ref.is

pub returns-in-RefMut : goal.returns-in-RefMut
returns-in-RefMut c = rw c.in-RefMut.is
