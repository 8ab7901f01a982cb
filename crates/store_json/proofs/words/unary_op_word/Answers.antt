use Rattle.store_json.proofs.words.unary_op_word.Goals as goal

pub returns-in-Deref : goal.returns-in-Deref
returns-in-Deref c = rw c.in-Deref.is

pub returns-in-Not : goal.returns-in-Not
returns-in-Not c = rw c.in-Not.is

pub returns-in-Neg : goal.returns-in-Neg
returns-in-Neg c = rw c.in-Neg.is
