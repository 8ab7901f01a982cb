use Rattle.thm_questions.proofs.Bodies.{everywhere}
use Rattle.thm_item_questions.proofs.Items.{alias_at_by, function_at_by, generics_at_by, impl_at_by, trait_at_by}
use Rattle.thm_item_questions.proofs.items_by_list.Goals as goal

pub returns-clause-generics : goal.returns-clause-generics
returns-clause-generics c = λ a b p def ps ws. (generics_at_by a (everywhere a) p def ps ws).same b

pub returns-clause-functions : goal.returns-clause-functions
returns-clause-functions c = λ a b p def x. (function_at_by a (everywhere a) p def x).same b

pub returns-clause-impls : goal.returns-clause-impls
returns-clause-impls c = λ a b p def x. (impl_at_by a (everywhere a) p def x).same b

pub returns-clause-traits : goal.returns-clause-traits
returns-clause-traits c = λ a b p def x. (trait_at_by a (everywhere a) p def x).same b

pub returns-clause-aliases : goal.returns-clause-aliases
returns-clause-aliases c = λ a b p def container x. (alias_at_by a (everywhere a) p def container x).same b
