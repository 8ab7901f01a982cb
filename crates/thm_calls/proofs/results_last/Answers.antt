use Rattle.thm_calls.specs.Promises.{AliasPromise, BodyPromise, ConstPromise, FunctionPromise, GenericsPromise, ImplPromise}
use Rattle.thm_calls.specs.Promises.{PathPromise, TraitPromise, TypePromise}
use Rattle.thm_calls.proofs.Framed as framed
use Rattle.thm_calls.proofs.Lasting.{lasting}
use Rattle.thm_calls.proofs.results_last.Goals as goal

pub returns-clause-body : goal.returns-clause-body
returns-clause-body c = λ a area x w. lasting (framed.body a area x w) BodyPromise

pub returns-clause-type_ref : goal.returns-clause-type_ref
returns-clause-type_ref c = λ a area file inside w t. lasting (framed.type_ref a area file inside w t) TypePromise

pub returns-clause-const_arg : goal.returns-clause-const_arg
returns-clause-const_arg c = λ a area file inside w mode x. lasting (framed.const_arg a area file inside w mode x) ConstPromise

pub returns-clause-path : goal.returns-clause-path
returns-clause-path c = λ a area file inside w mode impl x. lasting (framed.path a area file inside w mode impl x) (PathPromise x)

pub returns-clause-generic_params : goal.returns-clause-generic_params
returns-clause-generic_params c = λ a area file inside w mode def ps ws.
    lasting (framed.generic_params a area file inside w mode def ps ws) (GenericsPromise def)

pub returns-clause-impl_ : goal.returns-clause-impl_
returns-clause-impl_ c = λ a area file inside w id x. lasting (framed.implementation a area file inside w id x) (ImplPromise id)

pub returns-clause-trait_ : goal.returns-clause-trait_
returns-clause-trait_ c = λ a area file inside w id x. lasting (framed.declared_trait a area file inside w id x) (TraitPromise id)

pub returns-clause-type_alias : goal.returns-clause-type_alias
returns-clause-type_alias c = λ a area file container w id x. lasting (framed.type_alias a area file container w id x) (AliasPromise id)

pub returns-clause-function : goal.returns-clause-function
returns-clause-function c = λ a area file inside w id x. lasting (framed.function a area file inside w id x) (FunctionPromise id)
