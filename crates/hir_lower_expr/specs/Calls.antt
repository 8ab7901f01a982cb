-- A macro call in expression place, as the code reads it.
use Rattle.std.specs.Prelude.{Option, Some, None}
use denote.Ref.{Bor}
use Rattle.hir_syntax.specs.declared.ast.ElseBranch.TheOpen.{ExprKind-F}
use Rattle.hir_syntax.specs.declared.ast.Expr.{Expr as AstExpr}
use Rattle.hir_syntax.specs.declared.macros.Fragment.{Fragment as AstFragment}
use Rattle.hir_syntax.specs.declared.macros.Fragment.TheVariants as fragment
use Rattle.hir_syntax.specs.declared.macros.MacroCall.{MacroCall as AstMacroCall}
use Rattle.hir_store.specs.Pointers.{Pointer}
use Rattle.hir_store.specs.declared.hir.Expr.TheVariants as hir
use Rattle.hir_store.specs.declared.ids.ExprId.{ExprId}
use Rattle.hir_env.specs.ResolvedTree.{Expr}
use Rattle.hir_env.specs.Calls.{entered_expr, lacking_call}
use Rattle.hir_env.specs.Layers.{ExprKindLayer}
use Rattle.hir_env.specs.ResolveCtx.{ResolveCtx}
use Rattle.hir_env.specs.Whole.{resolved_expr, into, written}
use Rattle.hir_env.specs.declared.ctx.LowerCtx.{LowerCtx}
use Rattle.hir_lower_builder.specs.Calls.{Found}
use Rattle.hir_lower_builder.specs.Lower.{lower_kept, some}
use Rattle.hir_lower_builder.specs.Lowering.{Lowering, ◌>>=◌, ◌>>◌, pure, alloc_expr, point}
use Rattle.hir_lower_builder.specs.Methods.{at_place}

-- the call that an expression is, which the text may lack
abbrev pub call_in : ExprKindLayer written → Option (Option AstMacroCall)
call_in (ExprKind-F.MacroExpr c) = Some c
call_in _ = None

abbrev pub written_call : ResolveCtx → Pointer → AstMacroCall → Expr
written_call at s c = entered_expr at.answers (into at) c at.place s

-- a call, which the text may lack
abbrev pub call_at : ResolveCtx → Pointer → Option AstMacroCall → Expr
call_at at s None = lacking_call s
call_at at s (Some c) = written_call at s c

-- the expression that is found, and where it is read
abbrev pub There : Type 0
There = Option (LowerCtx × AstExpr)

abbrev pub expr_in : LowerCtx → Option AstFragment → There
expr_in q (Some (fragment.Expr e)) = Some (q, e)
expr_in q _ = None

abbrev pub expr_there : Found → There
expr_there None = None
expr_there (Some x) = expr_in x.0 x.1

-- the same as it is lent
abbrev pub expr_lent : Option (LowerCtx × Bor AstExpr) → There
expr_lent None = None
expr_lent (Some x) = Some (x.0, x.1.now)

-- the node leads to what is left
abbrev pub pointed : Pointer → Option ExprId → Lowering (Option ExprId)
pointed s None = pure None
pointed s (Some id) = point s id >> pure (Some id)

-- what the code does with it, which is missing where there is none
abbrev pub lower_there : ResolveCtx → Pointer → There → Lowering (Option ExprId)
lower_there at s None = some (alloc_expr hir.Missing (Some s))
lower_there at s (Some x) = lower_kept (resolved_expr (at_place at x.0) x.1) >>= pointed s
