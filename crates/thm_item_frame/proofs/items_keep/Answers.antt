use Rattle.thm_frame.proofs.Bodies.{keeps}
use Rattle.thm_item_frame.proofs.Items.{alias_at_framed, function_at_framed, generics_at_framed, impl_at_framed, trait_at_framed}
use Rattle.thm_item_frame.proofs.items_keep.Goals as goal

pub returns-clause-generics : goal.returns-clause-generics
returns-clause-generics c = λ a area b h p w def ps ws. keeps (generics_at_framed a area p w def ps ws) b h

pub returns-clause-functions : goal.returns-clause-functions
returns-clause-functions c = λ a area b h p w def x. keeps (function_at_framed a area p w def x) b h

pub returns-clause-impls : goal.returns-clause-impls
returns-clause-impls c = λ a area b h p w def x. keeps (impl_at_framed a area p w def x) b h

pub returns-clause-traits : goal.returns-clause-traits
returns-clause-traits c = λ a area b h p w def x. keeps (trait_at_framed a area p w def x) b h

pub returns-clause-aliases : goal.returns-clause-aliases
returns-clause-aliases c = λ a area b h p container w def x. keeps (alias_at_framed a area p container w def x) b h
