-- The parts of items that the rules of trees allow are one alone where they may be absent.
use Rattle.std.proofs.Common.{◌≡◌, refl, Option}
use Rattle.hir_syntax.specs.declared.ast.Expr.{Expr as AstExpr}
use Rattle.hir_syntax.specs.declared.ast.Path.{Path as AstPath}
use Rattle.hir_syntax.specs.declared.types.Type_.{Type_ as AstType}
use Rattle.hir_env.specs.ResolvedTree as tree
use Rattle.hir_env.specs.ResolvedTree.{OptionExpr, OptionPath, OptionType}
use Rattle.hir_env.specs.Answers.{Answers}
use Rattle.hir_env.specs.declared.ctx.LowerCtx.{LowerCtx}
use Rattle.thm_reading.specs.Rules as rules
use Rattle.thm_reading.specs.Rules.{OptExprAs, OptPathAs, OptTypeAs}
use Rattle.thm_reading.proofs.One.{one_expr, one_path, one_type_kind}

module _ (env : Answers) where
  pub one_opt_expr : {p : LowerCtx} {e : Option AstExpr} {x y : OptionExpr} → OptExprAs env p e x → OptExprAs env p e y → x ≡ y
  one_opt_expr rules.no_expr rules.no_expr = refl
  one_opt_expr (rules.some_expr h) (rules.some_expr k) = λ i. tree.some_expr (one_expr env h k i)

  pub one_opt_type : {p : LowerCtx} {t : Option AstType} {x y : OptionType} → OptTypeAs env p t x → OptTypeAs env p t y → x ≡ y
  one_opt_type rules.no_type rules.no_type = refl
  one_opt_type (rules.some_type h) (rules.some_type k) = λ i. tree.some_type (one_type_kind env h k i)

  pub one_opt_path : {p : LowerCtx} {t : Option AstPath} {x y : OptionPath} → OptPathAs env p t x → OptPathAs env p t y → x ≡ y
  one_opt_path rules.no_path rules.no_path = refl
  one_opt_path (rules.some_path h) (rules.some_path k) = λ i. tree.some_path (one_path env h k i)
