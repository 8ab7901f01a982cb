use Rattle.thm_item_questions.proofs.Items.{alias_at_by, function_at_by, generics_at_by, impl_at_by, trait_at_by}
use Rattle.thm_item_questions.proofs.items_at_nodes.Goals as goal

pub returns-clause-generics : goal.returns-clause-generics
returns-clause-generics c = λ a area p def ps ws h. (generics_at_by a area p def ps ws).there h.0 h.1

pub returns-clause-functions : goal.returns-clause-functions
returns-clause-functions c = λ a area p def x h. (function_at_by a area p def x).there h.0 h.1

pub returns-clause-impls : goal.returns-clause-impls
returns-clause-impls c = λ a area p def x h. (impl_at_by a area p def x).there h.0 h.1

pub returns-clause-traits : goal.returns-clause-traits
returns-clause-traits c = λ a area p def x h. (trait_at_by a area p def x).there h.0 h.1

pub returns-clause-aliases : goal.returns-clause-aliases
returns-clause-aliases c = λ a area p def container x h. (alias_at_by a area p def container x).there h.0 h.1
