use Rattle.std.proofs.lemmas.Grind.{common_steps}
use Rattle.std.proofs.Common.{◌∙◌, ap, arith}
use Rattle.hir_store.specs.declared.ids.GenericDefId.TheVariants as definition
use Rattle.hir_env.specs.declared.ctx.LoweringMode.TheVariants.{Analysis}
use Rattle.hir_env.specs.declared.ctx.LowerCtx.{LowerCtx}
use Rattle.hir_lower_callbacks.specs.ResolveCtxs.{rctx_at}
use Rattle.hir_lower_item.specs.Answering.{resolved_alias}
use Rattle.hir_lower_item.specs.Lower.{lower_alias}
use Rattle.hir_lower_item.specs.Has.{HasAlias}
use Rattle.thm_item_result.specs.Numbers.{past_alias}
use Rattle.hir_lower.specs.Items.{as_tracked}
use Rattle.hir_lower.specs.Roots.{outside_body}
use Rattle.hir_lower.proofs.FromNothing.{made_from, refused_from}
use Rattle.hir_lower.proofs.ItemNumbers.{alias_exists, answer_exists}
use Rattle.hir_lower.proofs.item_steps.alias_steps.Goals as goal

pub returns-in-Ok-clause-made : goal.returns-in-Ok-clause-made
returns-in-Ok-clause-made g c =
    let env = g.E.LowerEnv.answers c.args.db.now in
    let def = definition.TypeAliasId c.args.id in
    let steps = λ (p : LowerCtx). lower_alias def (resolved_alias (rctx_at env p) def c.args.container c.args.item.value.now) in
    let at = c.item_place-place.ensures ∙ ap (λ m. outside_body env c.args.item.file_id m Analysis) c.module_of-inside.ensures in
    made_from steps as_tracked at c.new-state.ensures c.in-Ok.ensures.0 c.into_parts-stored.ensures.stored
    c.into_parts-stored.ensures.tracks c.early_params.ensures c.finish-store.ensures.store c.finish-store.ensures.source_map

pub returns-in-Err-clause-full : goal.returns-in-Err-clause-full
returns-in-Err-clause-full g c = λ is.
    let env = g.E.LowerEnv.answers c.args.db.now in
    let def = definition.TypeAliasId c.args.id in
    let steps = λ (p : LowerCtx). lower_alias def (resolved_alias (rctx_at env p) def c.args.container c.args.item.value.now) in
    let at = c.item_place-place.ensures ∙ ap (λ m. outside_body env c.args.item.file_id m Analysis) c.module_of-inside.ensures in
    refused_from steps c.in-Err.fault c.from.result at c.new-state.ensures c.in-Err.ensures c.from.ensures is

pub returns-in-Ok-clause-answer_in_range : goal.returns-in-Ok-clause-answer_in_range
returns-in-Ok-clause-answer_in_range g c = answer_exists HasAlias (λ a. past_alias a.0 a.1) alias_exists _ _ c.in-Ok.ensures.2
    c.into_parts-stored.ensures.stored c.finish-store.ensures.store

pub returns-in-Ok-clause-full : goal.returns-in-Ok-clause-full
returns-in-Ok-clause-full g c = grind (arith, common_steps)

pub returns-in-Ok-clause-in_range : goal.returns-in-Ok-clause-in_range
returns-in-Ok-clause-in_range g c = grind (arith, common_steps)

pub returns-in-Ok-clause-own : goal.returns-in-Ok-clause-own
returns-in-Ok-clause-own g c = grind (arith, common_steps)

pub returns-in-Err-clause-own : goal.returns-in-Err-clause-own
returns-in-Err-clause-own g c = grind (arith, common_steps)
