use Rattle.thm_item_reading.proofs.One.{one_alias, one_body_params, one_function, one_generics, one_impl, one_trait}
use Rattle.thm_item_reading.proofs.one_item_by_rules.Goals as goal

pub returns-clause-generics : goal.returns-clause-generics
returns-clause-generics c = λ a p def ps ws x y. one_generics a

pub returns-clause-functions : goal.returns-clause-functions
returns-clause-functions c = λ a p def x y z. one_function a

pub returns-clause-impls : goal.returns-clause-impls
returns-clause-impls c = λ a p def x y z. one_impl a

pub returns-clause-traits : goal.returns-clause-traits
returns-clause-traits c = λ a p def x y z. one_trait a

pub returns-clause-aliases : goal.returns-clause-aliases
returns-clause-aliases c = λ a p def container x y z. one_alias a

pub returns-clause-body_params : goal.returns-clause-body_params
returns-clause-body_params c = λ a p container has_body x y z. one_body_params a
