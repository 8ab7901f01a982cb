use Rattle.std.proofs.lemmas.Grind.{common_steps}
use Rattle.std.proofs.Common.{rules, ◌≡◌, ◌∙◌, ℕ, Bool, false, Option, arith}
use Rattle.std.specs.Prelude.{is_some, option_copied}
use Rattle.hir_base.specs.declared.node.HirFileId.{HirFileId}
use Rattle.hir_syntax.specs.declared.params.ParamList.{ParamList}
use Rattle.hir_store.specs.declared.diagnostics.AwaitLocation.{AwaitLocation}
use Rattle.hir_store.specs.declared.ids.DefWithBodyId.{DefWithBodyId}
use Rattle.hir_store.specs.declared.ids.ModuleId.{ModuleId}
use Rattle.hir_env.specs.Answers.{Answers}
use Rattle.hir_env.specs.declared.ctx.ImplTrait.TheVariants as becomes
use Rattle.hir_env.specs.declared.ctx.LifetimeScope.TheVariants as scope
use Rattle.hir_env.specs.declared.ctx.LoweringMode.TheVariants.{Analysis}
use Rattle.hir_lower_callbacks.specs.ResolveCtxs.{rctx_at}
use Rattle.hir_lower.specs.Formals.{item_formals, self_source}
use Rattle.hir_lower.specs.Roots.{await_location, body_rctx}
use Rattle.hir_lower.proofs.body.body_steps.Goals as goal

-- `self` is read where the body is, as far as it goes
same_self : (env : Answers) (item : DefWithBodyId) (file : HirFileId) (inside : ModuleId) (is_async : Bool) (params : Option ParamList)
    (has_body : Bool) (awaits_in : Option AwaitLocation) (left : ℕ) → awaits_in ≡ await_location is_async item → left ≡ env.expansion_limit
    → self_source (item_formals (rctx_at env (record {
      file_id = file;
      module_id = inside;
      mode = Analysis;
      await_location = awaits_in;
      impl_trait = becomes.Error;
      in_impl = false;
      lifetimes = scope.Nowhere;
      left = left;
    })) item params has_body).receiver
    ≡ self_source (item_formals (body_rctx env item file inside is_async) item params has_body).receiver
same_self env item file inside is_async params has_body awaits_in left h k = λ i.
    self_source (item_formals (rctx_at env (record {
      file_id = file;
      module_id = inside;
      mode = Analysis;
      await_location = h i;
      impl_trait = becomes.Error;
      in_impl = false;
      lifetimes = scope.Nowhere;
      left = k i;
    })) item params has_body).receiver

pub returns-in-Ok-finished-clause-stores : goal.returns-in-Ok-finished-clause-stores
returns-in-Ok-finished-clause-stores g c = record {
  answer = (c.in-Ok.given, c.in-Ok._root);
  builder = c.lower_item.new.state;
  done = rw (c.new-state.ensures, c.await_location_of.ensures, c.coroutine_kind_of-kind.ensures, c.expansion_limit.ensures)
      at c.in-Ok.ensures.0;
  store_is = c.in-Ok-finished.ensures.store;
  source_map_is = c.in-Ok-finished.ensures.source_map;
}

pub returns-in-Ok-finished-clause-given : goal.returns-in-Ok-finished-clause-given
returns-in-Ok-finished-clause-given g c = record {
  given = c.in-Ok.given;
  root = c.in-Ok._root;
  builder = c.lower_item.new.state;
  done = rw (c.new-state.ensures, c.await_location_of.ensures, c.coroutine_kind_of-kind.ensures, c.expansion_limit.ensures)
      at c.in-Ok.ensures.0;
  receiver = c.in-Ok-finished.ensures.receiver;
  params = search rules;
}

pub returns-in-Ok-finished-clause-self_source : goal.returns-in-Ok-finished-clause-self_source
returns-in-Ok-finished-clause-self_source g c =
    let has_body = is_some (option_copied c.args.body) in
    let same = same_self (g.E.LowerEnv.answers c.args.db.now) c.args.owner c.args.current_file_id c.args.inside c.args.is_async_fn
    (option_copied c.args.params) has_body _ _ c.await_location_of.ensures c.expansion_limit.ensures in
    c.in-Ok-finished.ensures.self_param ∙ (c.item_self-self_param.ensures has_body ∙ same)

pub returns-in-Err-clause-in_range : goal.returns-in-Err-clause-in_range
returns-in-Err-clause-in_range g c = grind (arith, common_steps)

pub returns-in-Err-clause-stores : goal.returns-in-Err-clause-stores
returns-in-Err-clause-stores g c = grind (arith, common_steps)

pub returns-in-Err-finished-clause-full : goal.returns-in-Err-finished-clause-full
returns-in-Err-finished-clause-full g c = grind (arith, common_steps)

pub returns-in-Ok-finished-clause-full : goal.returns-in-Ok-finished-clause-full
returns-in-Ok-finished-clause-full g c = grind (arith, common_steps)

pub returns-in-Err-clause-given : goal.returns-in-Err-clause-given
returns-in-Err-clause-given g c = grind (arith, common_steps)

pub returns-in-Ok-finished-clause-own : goal.returns-in-Ok-finished-clause-own
returns-in-Ok-finished-clause-own g c = grind (arith, common_steps)

pub returns-in-Err-finished-clause-self_source : goal.returns-in-Err-finished-clause-self_source
returns-in-Err-finished-clause-self_source g c = grind (arith, common_steps)

pub returns-in-Err-finished-clause-given : goal.returns-in-Err-finished-clause-given
returns-in-Err-finished-clause-given g c = grind (arith, common_steps)

pub returns-in-Err-finished-clause-own : goal.returns-in-Err-finished-clause-own
returns-in-Err-finished-clause-own g c = grind (arith, common_steps)

pub returns-in-Ok-finished-clause-in_range : goal.returns-in-Ok-finished-clause-in_range
returns-in-Ok-finished-clause-in_range g c = grind (arith, common_steps)

pub returns-in-Err-clause-own : goal.returns-in-Err-clause-own
returns-in-Err-clause-own g c = grind (arith, common_steps)

pub returns-in-Err-finished-clause-in_range : goal.returns-in-Err-finished-clause-in_range
returns-in-Err-finished-clause-in_range g c = grind (arith, common_steps)

pub returns-in-Err-finished-clause-stores : goal.returns-in-Err-finished-clause-stores
returns-in-Err-finished-clause-stores g c = grind (arith, common_steps)

pub returns-in-Err-clause-self_source : goal.returns-in-Err-clause-self_source
returns-in-Err-clause-self_source g c = grind (arith, common_steps)
