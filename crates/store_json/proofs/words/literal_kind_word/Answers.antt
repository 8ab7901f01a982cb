use Rattle.store_json.proofs.words.literal_kind_word.Goals as goal

pub returns-in-Str : goal.returns-in-Str
returns-in-Str c = rw c.in-Str.is

pub returns-in-ByteStr : goal.returns-in-ByteStr
returns-in-ByteStr c = rw c.in-ByteStr.is

pub returns-in-CStr : goal.returns-in-CStr
returns-in-CStr c = rw c.in-CStr.is

pub returns-in-Char : goal.returns-in-Char
returns-in-Char c = rw c.in-Char.is

pub returns-in-Bool : goal.returns-in-Bool
returns-in-Bool c = rw c.in-Bool.is

pub returns-in-Int : goal.returns-in-Int
returns-in-Int c = rw c.in-Int.is

pub returns-in-Float : goal.returns-in-Float
returns-in-Float c = rw c.in-Float.is
