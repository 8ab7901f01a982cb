use Rattle.thm_item_frame.proofs.Items.{alias_at_framed, function_at_framed, generics_at_framed, impl_at_framed, trait_at_framed}
use Rattle.thm_item_frame.proofs.items_framed.Goals as goal

pub returns-clause-generics : goal.returns-clause-generics
returns-clause-generics c = λ a area p w def ps ws. generics_at_framed a area p w def ps ws

pub returns-clause-functions : goal.returns-clause-functions
returns-clause-functions c = λ a area p w def x. function_at_framed a area p w def x

pub returns-clause-impls : goal.returns-clause-impls
returns-clause-impls c = λ a area p w def x. impl_at_framed a area p w def x

pub returns-clause-traits : goal.returns-clause-traits
returns-clause-traits c = λ a area p w def x. trait_at_framed a area p w def x

pub returns-clause-aliases : goal.returns-clause-aliases
returns-clause-aliases c = λ a area p container w def x. alias_at_framed a area p container w def x
