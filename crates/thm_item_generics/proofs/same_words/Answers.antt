use Rattle.std.proofs.Common.{refl}
use Rattle.thm_item_generics.proofs.same_words.Goals as goal

pub returns : goal.returns
returns c = record { name_of_self = refl; types = λ def k. refl }
