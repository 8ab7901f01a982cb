-- What the parameters of a body become.
use Rattle.std.specs.Prelude.{Bool, true, false, List, [], Option, Some, None}
use Rattle.hir_syntax.specs.declared.params.ParamList.{ParamList as AstParamList}
use Rattle.hir_store.specs.Pointers.{Pointer}
use Rattle.hir_store.specs.Range.{HasExpr, HasPats}
use Rattle.hir_store.specs.Stored.{Stored}
use Rattle.hir_store.specs.declared.hir.CoroutineKind.{CoroutineKind}
use Rattle.hir_store.specs.declared.ids.BindingId.{BindingId}
use Rattle.hir_store.specs.declared.ids.DefWithBodyId.{DefWithBodyId}
use Rattle.hir_store.specs.declared.ids.ExprId.{ExprId}
use Rattle.hir_store.specs.declared.ids.DefWithBodyId.TheVariants as owner
use Rattle.hir_store.specs.declared.diagnostics.AwaitLocation.TheVariants as location
use Rattle.hir_env.specs.ResolveCtx.{ResolveCtx}
use Rattle.hir_env.specs.declared.ctx.LowerCtx.{LowerCtx}
use Rattle.hir_env.specs.Formals.{resolved_formals, are_bare}
use Rattle.hir_env.specs.ResolvedTree as tree
use Rattle.hir_env.specs.ResolvedTree.{Formal, Formals, OptionExpr, SelfFormal}
use Rattle.hir_lower_builder.specs.Lowering.{Lowering, ◌>>=◌, owning, pure}
use Rattle.hir_lower_builder.specs.Preludes.{lower_handed}
use Rattle.thm_body_result.specs.Formals.{in_function}
pub use Rattle.thm_body_result.specs.Formals.{Given, InFunction, Received, each_formal, formals_read, lower_formal, lower_self}
unfoldable pub use Rattle.thm_body_result.specs.Formals.{lower_formals}
pub use Rattle.hir_lower_builder.specs.Methods.{HasSelf}

abbrev pub HasReceived : Stored → Received → Type 0
HasReceived s r = HasSelf s r.0 × HasPats s r.1

abbrev pub HasGiven : Stored → Given → Type 0
HasGiven s g = HasReceived s g.0 × HasReceived s g.1

-- a function that is a coroutine, behind its `self`
unfoldable pub behind_self : CoroutineKind → Bool → Option BindingId → List Formal → OptionExpr → Lowering (Given × ExprId)
behind_self kind skipped self fs e = do
  inside ← owning (λ x. x.1.1) (in_function kind skipped self fs e)
  ps ← lower_handed [] inside.1.0
  pure (((self, ps), inside.0), inside.1.1)

-- what is in it
abbrev pub HasInFunction : Stored → InFunction → Type 0
HasInFunction s r = HasReceived s r.0 × HasExpr s r.1.1

-- the node of `self`, where that is kept
abbrev pub self_source : SelfFormal → Option Pointer
self_source (tree.self_formal at u _) = Some at
self_source _ = None

-- which are read

abbrev pub no_formals : Formals
no_formals = record { receiver = tree.no_self; formals = [] }

-- those of a function, and of each item whose body is skipped
abbrev pub are_read : Bool → DefWithBodyId → Bool
are_read true item = true
are_read false (owner.FunctionId _) = true
are_read false _ = false

abbrev pub formals_if : Bool → Formals → Formals
formals_if true f = f
formals_if false f = no_formals

-- A parameter is read outside of the body, so an `await` in it stands in a constant.
abbrev pub outside_place : LowerCtx → LowerCtx
outside_place p = record p { await_location = Some location.Unknown }

abbrev pub outside_the_body : ResolveCtx → ResolveCtx
outside_the_body at = record at { place = outside_place at.place }

abbrev pub item_formals : ResolveCtx → DefWithBodyId → Option AstParamList → Bool → Formals
item_formals at item ps has_body =
    let bare = are_bare (at.answers.container item) has_body in
    formals_if (are_read (at.answers.skip item) item) (resolved_formals (outside_the_body at) bare ps)
