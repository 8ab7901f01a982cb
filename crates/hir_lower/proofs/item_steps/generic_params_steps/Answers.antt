use Rattle.std.proofs.lemmas.Grind.{common_steps}
use Rattle.std.proofs.Common.{arith}
use Rattle.std.specs.Prelude.{option_copied}
use Rattle.hir_env.specs.declared.ctx.LowerCtx.{LowerCtx}
use Rattle.hir_lower_callbacks.specs.ResolveCtxs.{rctx_at}
use Rattle.hir_lower_item.specs.Answering.{resolved_generics}
use Rattle.hir_lower_item.specs.Lower.{lower_generics}
use Rattle.hir_lower.specs.Items.{as_tracked}
use Rattle.hir_lower.proofs.FromNothing.{made_from}
use Rattle.hir_lower.proofs.item_steps.generic_params_steps.Goals as goal

pub returns-in-Ok-clause-made : goal.returns-in-Ok-clause-made
returns-in-Ok-clause-made g c =
    let env = g.E.LowerEnv.answers c.args.db.now in
    let steps = λ (p : LowerCtx). lower_generics c.args.def
    (resolved_generics (rctx_at env p) c.args.def (option_copied c.args.param_list) (option_copied c.args.where_clause)) in
    made_from steps as_tracked c.item_place-place.ensures c.new-state.ensures c.in-Ok.ensures.0 c.into_parts-stored.ensures.stored
    c.into_parts-stored.ensures.tracks c.early_params.ensures c.finish-store.ensures.store c.finish-store.ensures.source_map

pub returns-in-Err-clause-own : goal.returns-in-Err-clause-own
returns-in-Err-clause-own g c = grind (arith, common_steps)

pub returns-in-Ok-clause-full : goal.returns-in-Ok-clause-full
returns-in-Ok-clause-full g c = grind (arith, common_steps)

pub returns-in-Ok-clause-own : goal.returns-in-Ok-clause-own
returns-in-Ok-clause-own g c = grind (arith, common_steps)
