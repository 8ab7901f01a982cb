use Rattle.std.proofs.Common.{subst}
use Rattle.thm_calls.specs.Promises.{AliasPromise, BodyPromise, ConstPromise, FunctionPromise, GenericsPromise, ImplPromise}
use Rattle.thm_calls.specs.Promises.{PathPromise, TraitPromise, TypePromise}
use Rattle.thm_calls.proofs.Listed as listed
use Rattle.thm_calls.proofs.results_last_by_list.Goals as goal

pub returns-clause-bodies : goal.returns-clause-bodies
returns-clause-bodies _ = λ a b c h r k. subst (λ x. BodyPromise x r) (listed.body a b c h) k

pub returns-clause-types : goal.returns-clause-types
returns-clause-types _ = λ a b file inside t h r k. subst (λ x. TypePromise x r) (listed.type_ref a b file inside t h) k

pub returns-clause-consts : goal.returns-clause-consts
returns-clause-consts _ = λ a b file inside mode x h r k. subst (λ y. ConstPromise y r) (listed.const_arg a b file inside mode x h) k

pub returns-clause-paths : goal.returns-clause-paths
returns-clause-paths _ = λ a b file inside mode impl x h r k.
    subst (λ y. PathPromise x y r) (listed.path a b file inside mode impl x h) k

pub returns-clause-generics : goal.returns-clause-generics
returns-clause-generics _ = λ a b file inside mode def ps ws h r k.
    subst (λ y. GenericsPromise def y r) (listed.generic_params a b file inside mode def ps ws h) k

pub returns-clause-impls : goal.returns-clause-impls
returns-clause-impls _ = λ a b file inside id x h r k. subst (λ y. ImplPromise id y r) (listed.implementation a b file inside id x h) k

pub returns-clause-traits : goal.returns-clause-traits
returns-clause-traits _ = λ a b file inside id x h r k. subst (λ y. TraitPromise id y r) (listed.declared_trait a b file inside id x h) k

pub returns-clause-aliases : goal.returns-clause-aliases
returns-clause-aliases _ = λ a b file container id x h r k.
    subst (λ y. AliasPromise id y r) (listed.type_alias a b file container id x h) k

pub returns-clause-functions : goal.returns-clause-functions
returns-clause-functions _ = λ a b file inside id x h r k. subst (λ y. FunctionPromise id y r) (listed.function a b file inside id x h) k
