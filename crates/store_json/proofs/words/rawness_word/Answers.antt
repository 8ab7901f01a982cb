use Rattle.store_json.proofs.words.rawness_word.Goals as goal

pub returns-in-RawPtr : goal.returns-in-RawPtr
returns-in-RawPtr c = rw c.in-RawPtr.is

pub returns-in-Ref : goal.returns-in-Ref
returns-in-Ref c = rw c.in-Ref.is
