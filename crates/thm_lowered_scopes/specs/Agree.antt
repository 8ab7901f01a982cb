-- What is so of the scopes of a body that `lower_body` returns.
use Rattle.std.specs.Prelude.{◌≡◌, false, [], ◌∷◌, Option, None, Result, IfOk}
use Rattle.hir_base.specs.declared.node.AstPtr.{AstPtr}
use Rattle.hir_base.specs.declared.node.HirFileId.{HirFileId}
use Rattle.hir_syntax.specs.declared.ast.Expr.{Expr as AstExpr}
use Rattle.hir_syntax.specs.declared.params.ParamList.{ParamList as AstParamList}
use Rattle.hir_store.specs.Range.{InRange}
use Rattle.hir_store.specs.declared.ids.DefWithBodyId.{DefWithBodyId}
use Rattle.hir_store.specs.declared.ids.ModuleId.{ModuleId}
use Rattle.hir_store.specs.declared.roots.ExprRoot.{ExprRoot}
use Rattle.hir_env.specs.Answers.{Answers}
use Rattle.hir_env.specs.ResolvedTree.{Expr}
use Rattle.spec_scopes.specs.Placed.{outermost}
use Rattle.spec_scoping.specs.Scoping.{Stands, Where, outside}
use Rattle.thm_scoping.specs.Agree.{ConstantsBindNothing, SeesSame}
use Rattle.hir_lower.specs.Clauses.{HasBodyParams, IsOneResult}
use Rattle.hir_lower.specs.Formals.{formals_read}
use Rattle.hir_lower.specs.Inputs.{BodyInput, body_input}
use Rattle.hir_lower.specs.Roots.{formals_of}
use Rattle.hir_lower.specs.declared.body.Body.{Body}
use Rattle.hir_lower.specs.declared.body.BodySourceMap.{BodySourceMap}
use Rattle.hir_lower.specs.declared.error.LowerError.{LowerError}

abbrev pub Answer : Type 0
Answer = Result (Body × BodySourceMap) LowerError

-- what is asked of an answer: the clauses of these names in the contract of `lower_body`
pub record Promise (x : BodyInput) (answer : Answer) : Type 0 where
  pub one_result : IfOk answer (λ r. IsOneResult x r.0 r.1)
  pub params : IfOk answer (λ r. HasBodyParams x r.0 r.1)
  pub in_range : IfOk answer (λ r. InRange r.0.store r.1.store)

-- The body has one root. Each expression that stands anywhere in the written body has a stored one below this root, at which each name
-- means what it means in the text. On both sides `self` and the parameters are in scope at the start, and nothing else is.
pub record SeesAll (x : BodyInput) (b : Body) (m : BodySourceMap) : Type 0 where
  pub root : ExprRoot
  pub only : b.store.roots ≡ root ∷ []
  pub same : (c : Expr) (w : Where) → Stands x.read (outside x.formals.receiver (formals_read x.skipped x.formals.formals)) c w
      → SeesSame b.store m.store (formals_of b).0 root.root (outermost b.store (formals_of b).0 (formals_of b).1) c w

-- Of an answer that is a body: if no constant among arguments binds a name for what follows it, each name means the same on both sides.
abbrev pub AnswerAgrees : BodyInput → Answer → Type 0
AnswerAgrees x answer = IfOk answer (λ r. ConstantsBindNothing r.0.store → SeesAll x r.0 r.1)

-- This holds of each answer of `lower_body` for a body that is no coroutine.
abbrev pub LoweredScopesAgree : Type 0
LoweredScopesAgree = (x : BodyInput) (answer : Answer) → x.kind ≡ None → Promise x answer → AnswerAgrees x answer

-- This holds of each call, in any environment, whose arguments say that the body is neither `async` nor `gen`.
abbrev pub CallsAgree : Type 0
CallsAgree = (env : Answers) (owner : DefWithBodyId) (node : AstPtr) (file : HirFileId) (inside : ModuleId) (ps : Option AstParamList)
    (e : Option AstExpr) (answer : Answer)
    → let x = body_input env owner node file inside ps e false false in Promise x answer → AnswerAgrees x answer
