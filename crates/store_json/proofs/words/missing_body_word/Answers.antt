use Rattle.store_json.proofs.words.missing_body_word.Goals as goal

pub returns-in-Static : goal.returns-in-Static
returns-in-Static c = rw c.in-Static.is

pub returns-in-Const : goal.returns-in-Const
returns-in-Const c = rw c.in-Const.is

pub returns-in-AssocConst : goal.returns-in-AssocConst
returns-in-AssocConst c = rw c.in-AssocConst.is

pub returns-in-TypeAlias : goal.returns-in-TypeAlias
returns-in-TypeAlias c = rw c.in-TypeAlias.is

pub returns-in-AssocType : goal.returns-in-AssocType
returns-in-AssocType c = rw c.in-AssocType.is
