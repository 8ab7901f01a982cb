-- What the entry functions make of a tree.
use Rattle.std.specs.Prelude.{◌≡◌, ℕ, Bool, true, false, List, [], ◌∷◌, is_some, map, option_map, Option, Some, None, Result, Ok, Err}
use Rattle.std.specs.Prelude.{IfOk, IsErrOf}
use Rattle.hir_store.specs.Range.{HasExpr}
use Rattle.hir_store.specs.Stored.{Store, SourceMap, Stored, store_of, map_of}
use Rattle.hir_store.specs.declared.error.StoreError.TheVariants.{Full}
use Rattle.hir_lower_builder.specs.Builder.{Builder}
pub use Rattle.hir_lower_builder.specs.Builder.{new_builder}
use Rattle.hir_store.specs.Pointers.{Pointer}
use Rattle.hir_store.specs.declared.ids.DefWithBodyId.{DefWithBodyId}
use Rattle.hir_store.specs.declared.ids.DefWithBodyId.TheVariants as owner
use Rattle.hir_store.specs.declared.diagnostics.MissingBodyItemKind.{MissingBodyItemKind}
use Rattle.hir_store.specs.declared.diagnostics.ExpressionStoreDiagnostics.TheVariants.{MissingBody}
use Rattle.hir_store.specs.declared.diagnostics.AwaitLocation.{AwaitLocation}
use Rattle.hir_store.specs.declared.diagnostics.AwaitLocation.TheVariants as location
use Rattle.hir_base.specs.declared.node.AstPtr.{AstPtr}
use Rattle.hir_base.specs.declared.node.HirFileId.{HirFileId}
use Rattle.hir_syntax.specs.declared.ast.Expr.{Expr as AstExpr}
use Rattle.hir_syntax.specs.declared.params.ParamList.{ParamList as AstParamList}
use Rattle.hir_store.specs.declared.ids.ExprId.{ExprId}
use Rattle.hir_store.specs.declared.ids.ModuleId.{ModuleId}
use Rattle.hir_env.specs.declared.ctx.LowerCtx.{LowerCtx}
use Rattle.hir_env.specs.declared.ctx.ImplTrait.{ImplTrait}
use Rattle.hir_env.specs.declared.ctx.ImplTrait.TheVariants as becomes
use Rattle.hir_env.specs.declared.ctx.LifetimeScope.TheVariants as scope
use Rattle.hir_env.specs.declared.ctx.LoweringMode.{LoweringMode}
use Rattle.hir_env.specs.declared.ctx.LoweringMode.TheVariants.{Analysis}
use Rattle.hir_env.specs.Answers.{Answers}
use Rattle.hir_env.specs.ResolveCtx.{ResolveCtx}
use Rattle.hir_env.specs.Answering.{in_file}
use Rattle.hir_env.specs.Whole.{expr_part}
use Rattle.hir_env.specs.ResolvedTree as tree
use Rattle.hir_env.specs.ResolvedTree.{Formals, OptionExpr}
use Rattle.hir_lower_builder.specs.Lowering.{Lowering, SomeEnd, ◌>>=◌, ◌>>◌, pure, bindings_end, close_labels, own, report, record_root}
use Rattle.hir_lower_builder.specs.Lowering.{enter_root, outside_root}
use Rattle.hir_lower_builder.specs.Lower.{ExprSteps, lower_part}
use Rattle.hir_lower_callbacks.specs.ResolveCtxs.{rctx_at}
use Rattle.hir_lower.specs.declared.body.Body.{Body}
use Rattle.hir_lower.specs.declared.body.BodySourceMap.{BodySourceMap}
use Rattle.hir_lower.specs.declared.error.LowerError.{LowerError}
use Rattle.hir_lower.specs.declared.error.LowerError.TheVariants as error
use Rattle.hir_store.specs.declared.param.Param.{Param}
use Rattle.hir_store.specs.declared.hir.CoroutineKind.{CoroutineKind}
use Rattle.thm_body_result.specs.Formals.{lower_body}
use Rattle.hir_lower.specs.Formals.{Given, HasGiven, Received, item_formals}
use Rattle.hir_lower.specs.Means.{required_body, body_fault}

-- the expression as a root, in which no label around it is open, and which owns its bindings
unfoldable pub root_of : OptionExpr → ExprSteps
root_of e = do
  close_labels
  enter_root
  start ← bindings_end
  id ← lower_part e
  own start id
  record_root id
  outside_root
  pure id

-- a body with its parameters as a root: nothing owns what is bound in it but not inside of it
unfoldable pub behind : Lowering (Given × ExprId) → Lowering (Given × ExprId)
behind body = do
  close_labels
  enter_root
  lowered ← body
  record_root lowered.1
  outside_root
  pure lowered

-- a body with its parameters
abbrev pub HasGivenBody : Stored → Given × ExprId → Type 0
HasGivenBody s r = HasGiven s r.0 × HasExpr s r.1

unfoldable pub report_missing : Pointer → Option MissingBodyItemKind → Lowering (Unit {0})
report_missing at None = pure tt
report_missing at (Some k) = report (MissingBody at k)

-- a body with its parameters: a skipped one is a missing root, and no coroutine
unfoldable pub body_of : Option CoroutineKind → Bool → Pointer → Option MissingBodyItemKind → Formals → OptionExpr
    → Lowering (Given × ExprId)
body_of kind true at k formals e = behind (lower_body None true formals tree.no_expr)
body_of kind false at k formals e = do
  report_missing at (body_fault k e)
  behind (lower_body kind false formals e)

-- what the steps store, from nothing
pub record StoresFromNothing {A : Type 0} (p : Lowering A) (limit : ℕ) (store : Store) (source_map : SourceMap) : Type 0 where
  pub answer : A
  pub builder : Builder
  pub done : p (new_builder limit) ≡ (Ok answer, builder)
  pub store_is : store ≡ store_of builder.stored
  pub source_map_is : source_map ≡ map_of builder.stored

-- what the outside hands its arguments to
abbrev pub formals_of : Body → Received
formals_of b = (option_map (λ p. p.formal) b.self_param, map (λ p. p.formal) b.params)

-- what was written
abbrev pub written_of : Body → Received
written_of b = (option_map (λ p. p.user_written) b.self_param, map (λ p. p.user_written) b.params)

abbrev pub given_of : Body → Given
given_of b = (formals_of b, written_of b)

-- a parameter that is handed in as this one and was written as the other
abbrev pub param_of : {A : Type 0} → A → A → Param A
param_of formal written = record { formal = formal; user_written = written }

abbrev pub both : {A : Type 0} → List A → List A → List (Param A)
both (formal ∷ formals) (written ∷ others) = param_of formal written ∷ both formals others
both _ _ = []

abbrev pub both_if_present : {A : Type 0} → Option A → Option A → Option (Param A)
both_if_present (Some formal) (Some written) = Some (param_of formal written)
both_if_present _ _ = None

-- the parameters of the body are what the steps answer, from nothing
pub record GivenFromNothing (p : Lowering (Given × ExprId)) (limit : ℕ) (b : Body) : Type 0 where
  pub given : Given
  pub root : ExprId
  pub builder : Builder
  pub done : p (new_builder limit) ≡ (Ok (given, root), builder)
  pub receiver : b.self_param ≡ both_if_present given.0.0 given.1.0
  pub params : b.params ≡ both given.0.1 given.1.1

-- the steps find no room in an arena of this limit, or no number more in a counter
pub record RefusedAtEnd {A : Type 0} (p : Lowering A) (limit : ℕ) : Type 0 where
  pub builder : Builder
  pub refused : p (new_builder limit) ≡ (Err Full, builder)
  pub at_end : SomeEnd builder

-- What the steps of a body leave, from nothing: what is stored, the parameters, or that there was no room.
pub record FromSteps (p : Lowering (Given × ExprId)) (limit : ℕ) (answer : Result (Body × BodySourceMap) LowerError) : Type 0 where
  pub stores : IfOk answer (λ r. StoresFromNothing p limit r.0.store r.1.store)
  pub given : IfOk answer (λ r. GivenFromNothing p limit r.0)
  pub full : IsErrOf answer error.Full → RefusedAtEnd p limit

-- the body of an item, which may be one of a function that is a coroutine
abbrev pub item_of : Option CoroutineKind → ResolveCtx → DefWithBodyId → AstPtr → Option AstParamList → Option AstExpr
    → Lowering (Given × ExprId)
item_of kind at owner node params body =
    let required = required_body owner (at.answers.container owner) in
    let formals = item_formals at owner params (is_some body) in
    body_of kind (at.answers.skip owner) (in_file at.place node) required formals (expr_part at body)

-- what an `await` in the body of an item that isn't async stands in
abbrev pub item_location : DefWithBodyId → AwaitLocation
item_location (owner.FunctionId _) = location.NonAsyncFunction
item_location (owner.StaticId _) = location.Static
item_location (owner.ConstId _) = location.Constant
item_location (owner.VariantId _) = location.EnumVariant

-- in one that is async it may stand
abbrev pub await_location : Bool → DefWithBodyId → Option AwaitLocation
await_location true item = None
await_location false item = Some (item_location item)

-- where the body of an item is read, which may be async
abbrev pub body_rctx : Answers → DefWithBodyId → HirFileId → ModuleId → Bool → ResolveCtx
body_rctx env item file inside is_async =
    let awaits_in = await_location is_async item in
    rctx_at env (record {
      file_id = file;
      module_id = inside;
      mode = Analysis;
      await_location = awaits_in;
      impl_trait = becomes.Error;
      in_impl = false;
      lifetimes = scope.Nowhere;
      left = env.expansion_limit;
    })

-- where a collector reads, outside of a body
abbrev pub outside_body : Answers → HirFileId → ModuleId → LoweringMode → LowerCtx
outside_body env file inside mode = record {
  file_id = file;
  module_id = inside;
  mode = mode;
  await_location = Some location.Unknown;
  impl_trait = becomes.Error;
  in_impl = false;
  lifetimes = scope.Nowhere;
  left = env.expansion_limit;
}

-- the same place, where an `impl` becomes this
abbrev pub becoming : LowerCtx → ImplTrait → LowerCtx
becoming p mode = record p { impl_trait = mode }

-- where a type that stands alone is read: an `impl` stays one
abbrev pub type_rctx : Answers → HirFileId → ModuleId → ResolveCtx
type_rctx env file inside = rctx_at env (becoming (outside_body env file inside Analysis) becomes.Opaque)

-- what the steps answer and store, from nothing
pub record AnswersFromNothing {A : Type 0} (p : Lowering A) (limit : ℕ) (answer : A) (store : Store) (source_map : SourceMap) : Type 0 where
  pub builder : Builder
  pub done : p (new_builder limit) ≡ (Ok answer, builder)
  pub store_is : store ≡ store_of builder.stored
  pub source_map_is : source_map ≡ map_of builder.stored
