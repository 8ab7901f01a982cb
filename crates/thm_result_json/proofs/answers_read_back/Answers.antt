use Rattle.thm_result_json.proofs.Results.{alias_theorem, body_theorem, function_theorem, generics_theorem, impl_theorem}
use Rattle.thm_result_json.proofs.Results.{path_result_theorem, type_theorem}
use Rattle.thm_result_json.proofs.answers_read_back.Goals as goal

pub returns-clause-bodies : goal.returns-clause-bodies
returns-clause-bodies c = body_theorem

pub returns-clause-types : goal.returns-clause-types
returns-clause-types c = type_theorem

pub returns-clause-paths : goal.returns-clause-paths
returns-clause-paths c = path_result_theorem

pub returns-clause-generics : goal.returns-clause-generics
returns-clause-generics c = generics_theorem

pub returns-clause-impls : goal.returns-clause-impls
returns-clause-impls c = impl_theorem

pub returns-clause-aliases : goal.returns-clause-aliases
returns-clause-aliases c = alias_theorem

pub returns-clause-functions : goal.returns-clause-functions
returns-clause-functions c = function_theorem
