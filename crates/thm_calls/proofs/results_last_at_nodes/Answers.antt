use Rattle.hir_store.specs.declared.ids.GenericDefId.TheVariants as definition
use Rattle.hir_env.specs.declared.ctx.LoweringMode.TheVariants.{Analysis}
use Rattle.thm_item_questions.proofs.Items.{alias_at_by, function_at_by, generics_at_by, impl_at_by, trait_at_by}
use Rattle.hir_lower.specs.Roots.{outside_body}
use Rattle.thm_calls.specs.ByList as asks
use Rattle.thm_calls.proofs.AtNodes as there
use Rattle.thm_calls.proofs.AtNodes.{alike}
use Rattle.thm_calls.proofs.results_last_at_nodes.Goals as goal

pub returns-clause-bodies : goal.returns-clause-bodies
returns-clause-bodies g = λ a area b c h in_body in_params. let qs = asks.body_call_asks c a in
    g.results_last_by_list.ensures.bodies a b c (alike a area b qs h (there.body a area c in_body in_params))

pub returns-clause-types : goal.returns-clause-types
returns-clause-types g = λ a area b file inside t h k. let qs = asks.type_call_asks file inside t a in
    g.results_last_by_list.ensures.types a b file inside t (alike a area b qs h (there.type_ref a area file inside t k))

pub returns-clause-consts : goal.returns-clause-consts
returns-clause-consts g = λ a area b file inside mode x h k. let qs = asks.const_call_asks file inside mode x a in
    g.results_last_by_list.ensures.consts a b file inside mode x (alike a area b qs h (there.const_arg a area file inside mode x k))

pub returns-clause-paths : goal.returns-clause-paths
returns-clause-paths g = λ a area b file inside mode impl x h k. let qs = asks.path_call_asks file inside mode impl x a in
    g.results_last_by_list.ensures.paths a b file inside mode impl x (alike a area b qs h (there.path a area file inside mode impl x k))

pub returns-clause-generics : goal.returns-clause-generics
returns-clause-generics g = λ a area b file inside mode def ps ws h k. let qs = asks.generics_call_asks file inside mode def ps ws a in
    g.results_last_by_list.ensures.generics a b file inside mode def ps ws
    (alike a area b qs h ((generics_at_by a area (outside_body a file inside mode) def ps ws).there k.0 k.1))

pub returns-clause-impls : goal.returns-clause-impls
returns-clause-impls g = λ a area b file inside id x h k. let qs = asks.impl_call_asks file inside id x a in
    g.results_last_by_list.ensures.impls a b file inside id x
    (alike a area b qs h ((impl_at_by a area (outside_body a file inside Analysis) (definition.ImplId id) x).there k.0 k.1))

pub returns-clause-traits : goal.returns-clause-traits
returns-clause-traits g = λ a area b file inside id x h k. let qs = asks.trait_call_asks file inside id x a in
    g.results_last_by_list.ensures.traits a b file inside id x
    (alike a area b qs h ((trait_at_by a area (outside_body a file inside Analysis) (definition.TraitId id) x).there k.0 k.1))

pub returns-clause-aliases : goal.returns-clause-aliases
returns-clause-aliases g = λ a area b file container id x h k. let qs = asks.alias_call_asks file container id x a in
    let p = outside_body a file (a.module_of container) Analysis in
    g.results_last_by_list.ensures.aliases a b file container id x
    (alike a area b qs h ((alias_at_by a area p (definition.TypeAliasId id) container x).there k.0 k.1))

pub returns-clause-functions : goal.returns-clause-functions
returns-clause-functions g = λ a area b file inside id x h k. let qs = asks.function_call_asks file inside id x a in
    g.results_last_by_list.ensures.functions a b file inside id x
    (alike a area b qs h ((function_at_by a area (outside_body a file inside Analysis) (definition.FunctionId id) x).there k.0 k.1))
