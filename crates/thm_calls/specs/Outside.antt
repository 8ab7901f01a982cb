-- How long what a call for a body promised of its result holds, with the list of what is asked outside of what a condition disables: as
-- long as that is answered alike.
use Rattle.std.specs.Prelude.{◌≡◌, ◌≢◌, Result, Err, IfOk, is_some}
use Rattle.hir_store.specs.Range.{InRange}
use Rattle.hir_store.specs.declared.ids.ExprId.{ExprId}
use Rattle.hir_env.specs.Answering.{coroutine_kind}
use Rattle.hir_env.specs.Answers.{Answers}
use Rattle.hir_env.specs.Formals.{are_bare}
use Rattle.hir_env.specs.declared.ctx.LowerCtx.{LowerCtx}
use Rattle.thm_frame.specs.Theorems.{BodyRead, body_at, with_limit}
use Rattle.thm_frame.specs.Questions.{AllAlike}
use Rattle.thm_reading.specs.Formals.{FormalsAs}
use Rattle.thm_reading.specs.Rules.{OptExprAs}
use Rattle.thm_enabled.specs.Asks.{listed}
use Rattle.thm_enabled.specs.Body.{asked_body}
use Rattle.hir_lower_builder.specs.Lowering.{Lowering}
use Rattle.hir_lower.specs.Formals.{Given, outside_place, self_source}
use Rattle.hir_lower.specs.Roots.{FromSteps, body_rctx, item_of}
use Rattle.hir_lower.specs.declared.body.Body.{Body}
use Rattle.hir_lower.specs.declared.body.BodySourceMap.{BodySourceMap}
use Rattle.hir_lower.specs.declared.error.LowerError.{LowerError}
use Rattle.hir_lower.specs.declared.error.LowerError.TheVariants.{Failed}
use Rattle.thm_calls.specs.Promises.{BodyPromise}
use Rattle.thm_calls.specs.Readings.{BodyCall, body_reading}

-- where a body is read, and its parameters

abbrev pub in_call : BodyCall → Answers → LowerCtx
in_call c a = (body_rctx a c.owner c.file_id c.inside c.is_async).place

-- all that the contract says of the environment
abbrev pub call_read : BodyCall → Answers → BodyRead
call_read c a = let p = in_call c a in body_at a c.owner p (outside_place p) c.params c.body

-- the steps that describe the call
abbrev pub call_steps : BodyCall → Answers → Lowering (Given × ExprId)
call_steps c a =
    item_of (coroutine_kind c.is_async c.is_gen) (body_rctx a c.owner c.file_id c.inside c.is_async) c.owner c.node c.params c.body

-- What is promised of an outcome in terms of these steps. All other clauses of the call are proved of what they leave.
pub record BodyLowered (c : BodyCall) (a : Answers) (answer : Result (Body × BodySourceMap) LowerError) : Type 0 where
  pub steps : FromSteps (call_steps c a) 4294967295 answer
  pub self_source : IfOk answer (λ r. r.1.self_param ≡ self_source (body_reading c a).formals.receiver)
  pub in_range : IfOk answer (λ r. InRange r.0.store r.1.store)
  pub own : answer ≢ Err Failed

-- An outcome that is so by the one environment is so by each other one that answers alike what is asked of parameters and body outside of
-- what is disabled, by the rules that allow what is read; and it has all that the contract promises.
abbrev pub BodyLastsOutside : Type 0
BodyLastsOutside = (a b : Answers) (c : BodyCall)
    (h : FormalsAs a (with_limit (outside_place (in_call c a)) a) (are_bare (a.container c.owner) (is_some c.body)) c.params
    (call_read c a).formals)
    (k : OptExprAs a (with_limit (in_call c a) a) c.body (call_read c a).read)
    → AllAlike a b (listed (asked_body a c.owner h k)) → (answer : Result (Body × BodySourceMap) LowerError) → BodyLowered c a answer
    → BodyLowered c b answer × BodyPromise (body_reading c b) answer
