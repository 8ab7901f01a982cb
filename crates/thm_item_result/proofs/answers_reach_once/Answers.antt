use Rattle.thm_item_result.proofs.Once.{aliases_once, functions_once, generics_once, impls_once, traits_once}
use Rattle.thm_item_result.proofs.answers_reach_once.Goals as goal

pub returns-clause-impls : goal.returns-clause-impls
returns-clause-impls c = impls_once

pub returns-clause-aliases : goal.returns-clause-aliases
returns-clause-aliases c = aliases_once

pub returns-clause-functions : goal.returns-clause-functions
returns-clause-functions c = functions_once

pub returns-clause-generics : goal.returns-clause-generics
returns-clause-generics c = generics_once

pub returns-clause-traits : goal.returns-clause-traits
returns-clause-traits c = traits_once
