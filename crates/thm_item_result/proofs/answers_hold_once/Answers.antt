use Rattle.thm_item_result.proofs.Inside.{aliases_hold_once, functions_hold_once, generics_hold_once, impls_hold_once, traits_hold_once}
use Rattle.thm_item_result.proofs.answers_hold_once.Goals as goal

pub returns-clause-impls : goal.returns-clause-impls
returns-clause-impls c = impls_hold_once

pub returns-clause-aliases : goal.returns-clause-aliases
returns-clause-aliases c = aliases_hold_once

pub returns-clause-functions : goal.returns-clause-functions
returns-clause-functions c = functions_hold_once

pub returns-clause-generics : goal.returns-clause-generics
returns-clause-generics c = generics_hold_once

pub returns-clause-traits : goal.returns-clause-traits
returns-clause-traits c = traits_hold_once
