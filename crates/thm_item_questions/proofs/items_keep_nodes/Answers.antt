use Rattle.thm_questions.proofs.Bodies.{keeps}
use Rattle.thm_item_questions.proofs.Items.{alias_at_by, function_at_by, generics_at_by, impl_at_by, trait_at_by}
use Rattle.thm_item_questions.proofs.items_keep_nodes.Goals as goal

pub returns-clause-generics : goal.returns-clause-generics
returns-clause-generics c = λ a area b h p def ps ws in_p l. keeps a area b h (generics_at_by a area p def ps ws) in_p.0 in_p.1 l

pub returns-clause-functions : goal.returns-clause-functions
returns-clause-functions c = λ a area b h p def x in_p l. keeps a area b h (function_at_by a area p def x) in_p.0 in_p.1 l

pub returns-clause-impls : goal.returns-clause-impls
returns-clause-impls c = λ a area b h p def x in_p l. keeps a area b h (impl_at_by a area p def x) in_p.0 in_p.1 l

pub returns-clause-traits : goal.returns-clause-traits
returns-clause-traits c = λ a area b h p def x in_p l. keeps a area b h (trait_at_by a area p def x) in_p.0 in_p.1 l

pub returns-clause-aliases : goal.returns-clause-aliases
returns-clause-aliases c = λ a area b h p def container x in_p l. keeps a area b h (alias_at_by a area p def container x) in_p.0 in_p.1 l
