use Rattle.thm_calls.proofs.Framed as framed
use Rattle.thm_calls.proofs.calls_framed.Goals as goal

pub returns-clause-body : goal.returns-clause-body
returns-clause-body c = framed.body

pub returns-clause-type_ref : goal.returns-clause-type_ref
returns-clause-type_ref c = framed.type_ref

pub returns-clause-const_arg : goal.returns-clause-const_arg
returns-clause-const_arg c = framed.const_arg

pub returns-clause-path : goal.returns-clause-path
returns-clause-path c = framed.path

pub returns-clause-generic_params : goal.returns-clause-generic_params
returns-clause-generic_params c = framed.generic_params

pub returns-clause-impl_ : goal.returns-clause-impl_
returns-clause-impl_ c = framed.implementation

pub returns-clause-trait_ : goal.returns-clause-trait_
returns-clause-trait_ c = framed.declared_trait

pub returns-clause-type_alias : goal.returns-clause-type_alias
returns-clause-type_alias c = framed.type_alias

pub returns-clause-function : goal.returns-clause-function
returns-clause-function c = framed.function
