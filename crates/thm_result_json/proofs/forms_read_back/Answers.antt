use Rattle.thm_result_json.proofs.Exprs.{expr_theorem, label_theorem, statement_theorem}
use Rattle.thm_result_json.proofs.Maps.{diagnostic_theorem, source_map_theorem, store_theorem}
use Rattle.thm_result_json.proofs.Params.{generic_params_theorem}
use Rattle.thm_result_json.proofs.Paths.{generic_args_theorem, path_theorem}
use Rattle.thm_result_json.proofs.Pats.{binding_theorem, pat_theorem}
use Rattle.thm_result_json.proofs.Types.{lifetime_theorem, type_ref_theorem}
use Rattle.thm_result_json.proofs.forms_read_back.Goals as goal

pub returns-clause-arguments : goal.returns-clause-arguments
returns-clause-arguments c = generic_args_theorem

pub returns-clause-paths : goal.returns-clause-paths
returns-clause-paths c = path_theorem

pub returns-clause-lifetimes : goal.returns-clause-lifetimes
returns-clause-lifetimes c = lifetime_theorem

pub returns-clause-types : goal.returns-clause-types
returns-clause-types c = type_ref_theorem

pub returns-clause-bindings : goal.returns-clause-bindings
returns-clause-bindings c = binding_theorem

pub returns-clause-patterns : goal.returns-clause-patterns
returns-clause-patterns c = pat_theorem

pub returns-clause-labels : goal.returns-clause-labels
returns-clause-labels c = label_theorem

pub returns-clause-statements : goal.returns-clause-statements
returns-clause-statements c = statement_theorem

pub returns-clause-expressions : goal.returns-clause-expressions
returns-clause-expressions c = expr_theorem

pub returns-clause-diagnostics : goal.returns-clause-diagnostics
returns-clause-diagnostics c = diagnostic_theorem

pub returns-clause-stores : goal.returns-clause-stores
returns-clause-stores c = store_theorem

pub returns-clause-source_maps : goal.returns-clause-source_maps
returns-clause-source_maps c = source_map_theorem

pub returns-clause-params : goal.returns-clause-params
returns-clause-params c = generic_params_theorem
