use Rattle.std.proofs.lemmas.Grind.{common_steps}
use Rattle.std.proofs.Common.{arith}
use Rattle.hir_store.specs.declared.ids.GenericDefId.TheVariants as definition
use Rattle.hir_env.specs.declared.ctx.LowerCtx.{LowerCtx}
use Rattle.hir_lower_callbacks.specs.ResolveCtxs.{rctx_at}
use Rattle.hir_lower_item.specs.Answering.{resolved_function}
use Rattle.hir_lower_item.specs.Kinds.{of_kinds}
use Rattle.hir_lower_item.specs.Lower.{lower_function}
use Rattle.thm_item_result.specs.Numbers.{past_function}
use Rattle.hir_lower.proofs.FromNothing.{made_from, refused_from}
use Rattle.hir_lower.proofs.ItemNumbers.{HasFunction, answer_exists, function_exists}
use Rattle.hir_lower.proofs.item_steps.function_steps.Goals as goal

pub returns-in_ok-params-in-Ok-clause-made : goal.returns-in_ok-params-in-Ok-clause-made
returns-in_ok-params-in-Ok-clause-made g c =
    let env = g.E.LowerEnv.answers c.args.db.now in
    let def = definition.FunctionId c.args.id in
    let steps = λ (p : LowerCtx). lower_function def (resolved_function (rctx_at env p) def c.args.item.value.now) in
    made_from steps of_kinds c.item_place-place.ensures c.new-state.ensures c.in-Ok.ensures.0 c.into_parts-stored.ensures.stored
    c.into_parts-stored.ensures.tracks c.in_ok-params-in-Ok.ensures.made c.finish-store.ensures.store c.finish-store.ensures.source_map

pub returns-in-Err-clause-full : goal.returns-in-Err-clause-full
returns-in-Err-clause-full g c = λ is.
    let env = g.E.LowerEnv.answers c.args.db.now in
    let def = definition.FunctionId c.args.id in
    let steps = λ (p : LowerCtx). lower_function def (resolved_function (rctx_at env p) def c.args.item.value.now) in
    refused_from steps c.in-Err.fault c.from.result c.item_place-place.ensures c.new-state.ensures c.in-Err.ensures c.from.ensures is

pub returns-in_ok-params-in-Ok-clause-answer_in_range : goal.returns-in_ok-params-in-Ok-clause-answer_in_range
returns-in_ok-params-in-Ok-clause-answer_in_range g c = answer_exists HasFunction (λ a. past_function a.0 a.1) function_exists _ _
    c.in-Ok.ensures.2 c.into_parts-stored.ensures.stored c.finish-store.ensures.store

pub returns-in_ok-params-in-Ok-clause-own : goal.returns-in_ok-params-in-Ok-clause-own
returns-in_ok-params-in-Ok-clause-own g c = grind (arith, common_steps)

pub returns-in-Err-clause-own : goal.returns-in-Err-clause-own
returns-in-Err-clause-own g c = grind (arith, common_steps)

pub returns-in_ok-params-in-Ok-clause-in_range : goal.returns-in_ok-params-in-Ok-clause-in_range
returns-in_ok-params-in-Ok-clause-in_range g c = grind (arith, common_steps)

pub returns-in_ok-params-in-Ok-clause-full : goal.returns-in_ok-params-in-Ok-clause-full
returns-in_ok-params-in-Ok-clause-full g c = grind (arith, common_steps)
