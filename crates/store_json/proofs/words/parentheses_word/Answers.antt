use Rattle.store_json.proofs.words.parentheses_word.Goals as goal

pub returns-in-No : goal.returns-in-No
returns-in-No c = rw c.in-No.is

pub returns-in-ReturnTypeNotation : goal.returns-in-ReturnTypeNotation
returns-in-ReturnTypeNotation c = rw c.in-ReturnTypeNotation.is

pub returns-in-ParenSugar : goal.returns-in-ParenSugar
returns-in-ParenSugar c = rw c.in-ParenSugar.is
