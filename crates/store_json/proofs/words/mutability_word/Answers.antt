use Rattle.store_json.proofs.words.mutability_word.Goals as goal

pub returns-in-Shared : goal.returns-in-Shared
returns-in-Shared c = rw c.in-Shared.is

pub returns-in-Mut : goal.returns-in-Mut
returns-in-Mut c = rw c.in-Mut.is
