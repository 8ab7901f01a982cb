-- Trees that are allowed by fewer rules, of which it is known that the rules allow them alone.
use Rattle.std.proofs.Common.{arith, ◌≡◌, ◌≤◌, ◌+◌, ℕ, zero, suc}
use Rattle.std.specs.Prelude.{List, Option}
use Rattle.hir_syntax.specs.declared.ast.Expr.{Expr as AstExpr}
use Rattle.hir_syntax.specs.declared.ast.Path.{Path as AstPath}
use Rattle.hir_syntax.specs.declared.pats.Pat.{Pat as AstPat}
use Rattle.hir_syntax.specs.declared.types.Param.{Param as AstParam}
use Rattle.hir_syntax.specs.declared.types.Type_.{Type_ as AstType_}
use Rattle.hir_syntax.specs.declared.ast.BlockExpr.{BlockExpr as AstBlockExpr}
use Rattle.hir_syntax.specs.declared.ast.BlockModifier.{BlockModifier}
use Rattle.hir_env.specs.ResolvedTree.{Block, OptionBlock, Params}
use Rattle.hir_env.specs.ResolvedTree.{Expr, OptionArgs, OptionExpr, OptionPat, OptionPath, OptionType}
use Rattle.hir_env.specs.Layers.{BlockExprLayer, ExprKindLayer, written}
use Rattle.hir_env.specs.Wrapped.{AstRetType, AstGenericArgList}
use Rattle.hir_store.specs.Pointers.{Pointer}
use Rattle.hir_env.specs.declared.ctx.LowerCtx.{LowerCtx}
use Rattle.thm_reading.specs.Rules.{OptExprAs, OptTypeAs, AnswerAs, OptPathAs, ArgListAs, OptPatAs, ParamsAs, ExprAs, OptPlainAs, ForBodyAs}
use Rattle.thm_reading.specs.Rules.{OwnAs, PlainAs}
use Rattle.hir_env.specs.Answers.{Answers}
use Rattle.thm_reading.proofs.Sizes.{size_opt_expr, size_opt_type, size_answer, size_opt_path, size_arg_list, size_opt_pat, size_params}
use Rattle.thm_reading.proofs.Sizes.{size_expr, size_opt_plain, size_for_body, size_own, size_plain}

pub less : {a n : ℕ} → suc a ≤ n → a ≤ n
less h = omega (arith, h)

pub left : {a n : ℕ} (b : ℕ) → suc (a + b) ≤ n → suc a ≤ n
left b h = omega (arith, h)

pub right : {b n : ℕ} (a : ℕ) → suc (a + b) ≤ n → suc b ≤ n
right a h = omega (arith, h)

pub one_less : {a n : ℕ} → suc a ≤ suc n → a ≤ n
one_less h = omega (arith, h)

pub never : {A : Type 0} {a : ℕ} → suc a ≤ zero → A
never h = absurd (omega (arith, h))

pub enough : (a : ℕ) → a ≤ a
enough a = omega (arith)

-- what is known of trees that are allowed by fewer rules than so many
module _ (env : Answers) where
  pub record Below (n : ℕ) : Type 0 where
    pub opt_expr : (a1 : LowerCtx) (a2 : Option AstExpr) (x y : OptionExpr) → (h : OptExprAs env a1 a2 x) → suc (size_opt_expr env h) ≤ n
        → OptExprAs env a1 a2 y → x ≡ y
    pub opt_type : (a1 : LowerCtx) (a2 : Option AstType_) (x y : OptionType) → (h : OptTypeAs env a1 a2 x) → suc (size_opt_type env h) ≤ n
        → OptTypeAs env a1 a2 y → x ≡ y
    pub answer : (a1 : LowerCtx) (a2 : Option AstRetType) (x y : OptionType) → (h : AnswerAs env a1 a2 x) → suc (size_answer env h) ≤ n
        → AnswerAs env a1 a2 y → x ≡ y
    pub opt_path : (a1 : LowerCtx) (a2 : Option AstPath) (x y : OptionPath) → (h : OptPathAs env a1 a2 x) → suc (size_opt_path env h) ≤ n
        → OptPathAs env a1 a2 y → x ≡ y
    pub arg_list : (a1 : LowerCtx) (a2 : Option AstGenericArgList) (x y : OptionArgs) → (h : ArgListAs env a1 a2 x)
        → suc (size_arg_list env h) ≤ n → ArgListAs env a1 a2 y → x ≡ y
    pub opt_pat : (a1 : LowerCtx) (a2 : Option AstPat) (x y : OptionPat) → (h : OptPatAs env a1 a2 x) → suc (size_opt_pat env h) ≤ n
        → OptPatAs env a1 a2 y → x ≡ y
    pub params : (a1 : LowerCtx) (a2 : Option (List AstParam)) (x y : Params) → (h : ParamsAs env a1 a2 x) → suc (size_params env h) ≤ n
        → ParamsAs env a1 a2 y → x ≡ y
    pub expr : (a1 : LowerCtx) (a2 : Pointer) (a3 : ExprKindLayer written) (x y : Expr) → (h : ExprAs env a1 a2 a3 x)
        → suc (size_expr env h) ≤ n → ExprAs env a1 a2 a3 y → x ≡ y
    pub opt_plain : (a1 : LowerCtx) (a2 : Option AstBlockExpr) (x y : OptionBlock) → (h : OptPlainAs env a1 a2 x)
        → suc (size_opt_plain env h) ≤ n → OptPlainAs env a1 a2 y → x ≡ y
    pub for_body : (a1 : LowerCtx) (a2 : Option AstBlockExpr) (x y : OptionExpr) → (h : ForBodyAs env a1 a2 x)
        → suc (size_for_body env h) ≤ n
        → ForBodyAs env a1 a2 y → x ≡ y
    pub own : (a1 : LowerCtx) (a2 : Option BlockModifier) (a3 : BlockExprLayer written) (x y : Expr) → (h : OwnAs env a1 a2 a3 x)
        → suc (size_own env h) ≤ n → OwnAs env a1 a2 a3 y → x ≡ y
    pub plain : (a1 : LowerCtx) (a2 : BlockExprLayer written) (x y : Block) → (h : PlainAs env a1 a2 x) → suc (size_plain env h) ≤ n
        → PlainAs env a1 a2 y → x ≡ y
