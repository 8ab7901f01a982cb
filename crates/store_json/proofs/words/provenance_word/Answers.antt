use Rattle.store_json.proofs.words.provenance_word.Goals as goal

pub returns-in-TypeParamList : goal.returns-in-TypeParamList
returns-in-TypeParamList c = rw c.in-TypeParamList.is

pub returns-in-TraitSelf : goal.returns-in-TraitSelf
returns-in-TraitSelf c = rw c.in-TraitSelf.is

pub returns-in-ArgumentImplTrait : goal.returns-in-ArgumentImplTrait
returns-in-ArgumentImplTrait c = rw c.in-ArgumentImplTrait.is
