use Rattle.thm_item_reading.proofs.Items.{body_params_said, function_said, generics_said, implementation_said, trait_item_said}
use Rattle.thm_item_reading.proofs.Items.{type_alias_said}
use Rattle.thm_item_reading.proofs.items_by_rules.Goals as goal

pub returns-clause-generics : goal.returns-clause-generics
returns-clause-generics c = generics_said

pub returns-clause-functions : goal.returns-clause-functions
returns-clause-functions c = function_said

pub returns-clause-impls : goal.returns-clause-impls
returns-clause-impls c = implementation_said

pub returns-clause-traits : goal.returns-clause-traits
returns-clause-traits c = trait_item_said

pub returns-clause-aliases : goal.returns-clause-aliases
returns-clause-aliases c = type_alias_said

pub returns-clause-body_params : goal.returns-clause-body_params
returns-clause-body_params c = body_params_said
