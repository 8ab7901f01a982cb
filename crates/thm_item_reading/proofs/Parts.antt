-- The types, bounds, paths and constants of an item are read as the rules allow.
use Rattle.std.proofs.Common.{List, [], ◌∷◌, Option, Some, None, option_map}
use Rattle.hir_syntax.specs.declared.ast.Expr.{Expr as AstExpr}
use Rattle.hir_syntax.specs.declared.ast.Path.{Path as AstPath}
use Rattle.hir_syntax.specs.declared.types.TypeBound.{TypeBound as AstTypeBound}
use Rattle.hir_syntax.specs.declared.types.Type_.{Type_ as AstType}
use Rattle.hir_env.specs.Answers.{Answers}
use Rattle.hir_env.specs.Whole.{resolved_constant, bounds_part, expr_part, path_part, ret_part, type_part}
use Rattle.hir_env.specs.Wrapped.{AstConstArg, AstRetType}
use Rattle.hir_env.specs.declared.ctx.LowerCtx.{LowerCtx}
use Rattle.thm_reading.specs.Theorems.{rctx}
use Rattle.thm_reading.specs.LowerCtx.{in_constant}
use Rattle.thm_reading.specs.Rules as rules
use Rattle.thm_reading.specs.Rules.{BoundsAs, OptExprAs, OptPathAs, OptTypeAs}
use Rattle.thm_reading.proofs.Tree.{below, of_bound, of_expr, of_path, of_type}
use Rattle.thm_item_reading.specs.Rules as rule
use Rattle.thm_item_reading.specs.Rules.{DefaultAs, OutputAs}

module _ (a : Answers) where
  pub type_said : (p : LowerCtx) (x : Option AstType) → OptTypeAs a p x (type_part (rctx p a) x)
  type_said p None = rules.no_type
  type_said p (Some x) = rules.some_type (of_type a p.left (below a p.left) x p)

  pub bounds_said : (p : LowerCtx) (xs : List AstTypeBound) → BoundsAs a p xs (bounds_part (rctx p a) xs)
  bounds_said p [] = rules.no_bounds
  bounds_said p (x ∷ xs) = rules.more_bounds (of_bound a p.left (below a p.left) x p) (bounds_said p xs)

  pub path_said : (p : LowerCtx) (x : Option AstPath) → OptPathAs a p x (path_part (rctx p a) x)
  path_said p None = rules.no_path
  path_said p (Some x) = rules.some_path ((of_path a p.left (below a p.left) x).alone p)

  expr_said : (p : LowerCtx) (x : Option AstExpr) → OptExprAs a p x (expr_part (rctx p a) x)
  expr_said p None = rules.no_expr
  expr_said p (Some x) = rules.some_expr ((of_expr a p.left (below a p.left) x).expr p)

  pub default_said : (p : LowerCtx) (x : Option AstConstArg) → DefaultAs a p x (option_map (resolved_constant (rctx p a)) x)
  default_said p None = rule.no_default
  default_said p (Some None) = rule.some_default (expr_said (in_constant p) None)
  default_said p (Some (Some x)) = rule.some_default (expr_said (in_constant p) (Some x))

  pub output_said : (p : LowerCtx) (x : Option AstRetType) → OutputAs a p x (ret_part (rctx p a) x)
  output_said p None = rule.no_output
  output_said p (Some x) = rule.some_output (type_said p x)
