-- The rules allow something of each written part, and that alone.
use Rattle.std.proofs.Common.{◌∙◌, subst, Option, Some, None}
use Rattle.hir_base.specs.declared.node.NodeId.{NodeId}
use Rattle.hir_base.specs.declared.node.TextRange.{TextRange}
use Rattle.hir_syntax.specs.declared.ast.BlockExpr.{BlockExpr as AstBlockExpr, out-BlockExpr}
use Rattle.hir_syntax.specs.declared.ast.ElseBranch.TheOpen.{ExprKind-F}
use Rattle.hir_syntax.specs.declared.ast.Expr.{Expr as AstExpr, out-roll-Expr, roll-Expr}
use Rattle.hir_syntax.specs.declared.ast.ExprKind.{out-ExprKind, out-roll-ExprKind, roll-ExprKind}
use Rattle.hir_syntax.specs.declared.ast.Name.{Name as AstName}
use Rattle.hir_syntax.specs.declared.pats.Pat.{Pat as AstPat}
use Rattle.hir_syntax.specs.declared.types.Type_.{Type_ as AstType_}
use Rattle.hir_store.specs.Pointers.{Pointer}
use Rattle.hir_env.specs.ResolvedTree.{Expr}
use Rattle.hir_env.specs.Answers.{Answers}
use Rattle.hir_env.specs.Layers.{ExprKindLayer, ExprLayer, written}
use Rattle.hir_env.specs.Wrapped.{AstGuard, AstLetElse}
use Rattle.hir_env.specs.declared.ctx.LowerCtx.{LowerCtx}
use Rattle.thm_reading.specs.Formals.{FormalsByRules}
use Rattle.thm_reading.specs.Theorems.{ExprsByRules, PathsByRules, PatsByRules, TypesByRules}
use Rattle.thm_reading.specs.OneTree.{OneExpr, OneFormals, OnePat, OnePath, OneType}
use Rattle.thm_reading.specs.LowerCtx.{expr_kind, expr_node}
use Rattle.thm_reading.specs.Rules as rule
use Rattle.thm_reading.specs.Rules.{ExprAs, ExprKindAs, FieldPartAs, GuardAs, LetElseAs, OptExprAs, OptPatAs, OptPlainAs, OptTypeAs, OwnAs}

pub record ByRules : Type 0 where
  pub types : TypesByRules
  pub paths : PathsByRules
  pub pats : PatsByRules
  pub exprs : ExprsByRules
  pub one_type : OneType
  pub one_path : OnePath
  pub one_pat : OnePat
  pub one_expr : OneExpr
  pub formals : FormalsByRules
  pub one_formals : OneFormals

-- something that is allowed
pub record Allowed {X : Type 0} (P : X → Type 0) : Type 0 where
  pub tree : X
  pub by : P tree

this : {X : Type 0} {P : X → Type 0} (x : X) → P x → Allowed P
this x h = record { tree = x; by = h }

module _ (laws : ByRules) (env : Answers) where
  kind_of : {p : LowerCtx} {s : Pointer} {k : ExprKindLayer written} {x : Expr} → ExprAs env p s k x → Allowed (ExprKindAs env p s k)
  kind_of (rule.enabled h1 h2) = this _ h2
  kind_of (rule.disabled h1 h2) = this _ h2

  pub inside : (p : LowerCtx) (e : AstExpr) → Allowed (ExprKindAs env p (expr_node p e) (expr_kind e))
  inside p e = kind_of (laws.exprs env p e)

  pub expr_in : (p : LowerCtx) (e : Option AstExpr) → Allowed (OptExprAs env p e)
  expr_in p None = this _ rule.no_expr
  expr_in p (Some e) = this _ (rule.some_expr (laws.exprs env p e))

  pub pat_in : (p : LowerCtx) (x : Option AstPat) → Allowed (OptPatAs env p x)
  pat_in p None = this _ rule.no_pat
  pat_in p (Some x) = this _ (rule.some_pat (laws.pats env p x))

  pub type_in : (p : LowerCtx) (t : Option AstType_) → Allowed (OptTypeAs env p t)
  type_in p None = this _ rule.no_type
  type_in p (Some t) = this _ (rule.some_type (laws.types env p t))

  pub guard_in : (p : LowerCtx) (x : Option AstGuard) → Allowed (GuardAs env p x)
  guard_in p None = this _ rule.no_guard
  guard_in p (Some e) = this _ (rule.some_guard (expr_in p e).by)

  pub field_in : (p : LowerCtx) (s : Pointer) (n : Option AstName) (e : Option AstExpr) → Allowed (FieldPartAs env p s n e)
  field_in p s None e = this _ (rule.nameless_field (expr_in p e).by)
  field_in p s (Some n) e = this _ (rule.named_field (expr_in p e).by)

  -- a block, by an expression that it is or that it stands in

  abbrev level : NodeId → TextRange → ExprKindLayer written → ExprLayer written
  level id range k = record { id = id; range = range; kind = roll-ExprKind k }

  of_kind : (p : LowerCtx) (id : NodeId) (range : TextRange) (k : ExprKindLayer written) → (let e = roll-Expr (level id range k) in
      Allowed (ExprKindAs env p (expr_node p e) k))
  of_kind p id range k = let e = roll-Expr (level id range k) in
      subst (λ z. Allowed (ExprKindAs env p (expr_node p e) z))
      ((λ i. out-ExprKind ((out-roll-Expr (level id range k)) i).kind) ∙ out-roll-ExprKind k) (inside p e)

  own_by : {p : LowerCtx} {s : Pointer} {b : AstBlockExpr} {x : Expr} → ExprKindAs env p s (ExprKind-F.BlockExpr b) x
      → Allowed (OwnAs env p (out-BlockExpr b).mod_ (out-BlockExpr b))
  own_by (rule.block_expr h1) = this _ h1

  pub own_in : (p : LowerCtx) (b : AstBlockExpr) → Allowed (OwnAs env p (out-BlockExpr b).mod_ (out-BlockExpr b))
  own_in p b = let level = out-BlockExpr b in own_by (of_kind p level.id level.range (ExprKind-F.BlockExpr b)).by

  plain_by : {p : LowerCtx} {s : Pointer} {b : Option AstBlockExpr} {x : Expr} → ExprKindAs env p s (ExprKind-F.LoopExpr None b) x
      → Allowed (OptPlainAs env p b)
  plain_by (rule.loop_expr h1 h2) = this _ h2

  plain_in : (p : LowerCtx) (b : Option AstBlockExpr) → Allowed (OptPlainAs env p b)
  plain_in p None = this _ rule.no_block
  plain_in p (Some b) = let level = out-BlockExpr b in plain_by (of_kind p level.id level.range (ExprKind-F.LoopExpr None (Some b))).by

  pub let_else_in : (p : LowerCtx) (b : Option AstLetElse) → Allowed (LetElseAs env p b)
  let_else_in p None = this _ rule.no_let_else
  let_else_in p (Some b) = this _ (rule.some_let_else (plain_in p b).by)
