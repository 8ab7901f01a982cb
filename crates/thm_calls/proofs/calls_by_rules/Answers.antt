use Rattle.thm_calls.proofs.Ruled as ruled
use Rattle.thm_calls.proofs.calls_by_rules.Goals as goal

pub returns-clause-body : goal.returns-clause-body
returns-clause-body c = ruled.body

pub returns-clause-type_ref : goal.returns-clause-type_ref
returns-clause-type_ref c = ruled.type_ref

pub returns-clause-const_arg : goal.returns-clause-const_arg
returns-clause-const_arg c = ruled.const_arg

pub returns-clause-path : goal.returns-clause-path
returns-clause-path c = ruled.path

pub returns-clause-generic_params : goal.returns-clause-generic_params
returns-clause-generic_params c = ruled.generic_params

pub returns-clause-impl_ : goal.returns-clause-impl_
returns-clause-impl_ c = ruled.implementation

pub returns-clause-trait_ : goal.returns-clause-trait_
returns-clause-trait_ c = ruled.declared_trait

pub returns-clause-type_alias : goal.returns-clause-type_alias
returns-clause-type_alias c = ruled.type_alias

pub returns-clause-function : goal.returns-clause-function
returns-clause-function c = ruled.function
