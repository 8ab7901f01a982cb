use Rattle.store_json.proofs.words.await_location_word.Goals as goal

pub returns-in-NonAsyncFunction : goal.returns-in-NonAsyncFunction
returns-in-NonAsyncFunction c = rw c.in-NonAsyncFunction.is

pub returns-in-Static : goal.returns-in-Static
returns-in-Static c = rw c.in-Static.is

pub returns-in-Constant : goal.returns-in-Constant
returns-in-Constant c = rw c.in-Constant.is

pub returns-in-EnumVariant : goal.returns-in-EnumVariant
returns-in-EnumVariant c = rw c.in-EnumVariant.is

pub returns-in-NonAsyncGenBlock : goal.returns-in-NonAsyncGenBlock
returns-in-NonAsyncGenBlock c = rw c.in-NonAsyncGenBlock.is

pub returns-in-ConstantBlock : goal.returns-in-ConstantBlock
returns-in-ConstantBlock c = rw c.in-ConstantBlock.is

pub returns-in-NonAsyncClosure : goal.returns-in-NonAsyncClosure
returns-in-NonAsyncClosure c = rw c.in-NonAsyncClosure.is

pub returns-in-Unknown : goal.returns-in-Unknown
returns-in-Unknown c = rw c.in-Unknown.is
