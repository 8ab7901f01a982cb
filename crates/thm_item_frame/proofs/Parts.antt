-- The types, bounds, paths and constants of an item are framed.
use Rattle.std.proofs.Common.{List, [], ◌∷◌, map, Option, Some, None, option_map}
use Rattle.hir_syntax.specs.declared.ast.Path.{Path as AstPath}
use Rattle.hir_syntax.specs.declared.types.TypeBound.{TypeBound as AstTypeBound}
use Rattle.hir_syntax.specs.declared.types.Type_.{Type_ as AstType}
use Rattle.hir_env.specs.ResolvedTree as tree
use Rattle.hir_env.specs.Answers.{Answers}
use Rattle.hir_env.specs.Paths.{inside_constant}
use Rattle.hir_env.specs.Whole.{resolved_constant, bounds_part, path_part, ret_part, type_part}
use Rattle.hir_env.specs.Wrapped.{AstConstArg, AstRetType}
use Rattle.hir_env.specs.declared.ctx.LowerCtx.{LowerCtx}
use Rattle.thm_frame.specs.Theorems.{rctx}
use Rattle.thm_frame.specs.Questions.{Area, Framed, Here}
use Rattle.thm_frame.proofs.Framing.{one, still, two}
use Rattle.thm_frame.proofs.Tree.{below, of_bound, of_expr, of_path, of_type}

module _ (a : Answers) (area : Area a) where
  pub each_framed : {X Y : Type 0} (f : Answers → X → Y) → ((x : X) → Framed area (λ b. f b x) a) → (xs : List X)
      → Framed area (λ b. map (f b) xs) a
  each_framed f each [] = still []
  each_framed f each (x ∷ xs) = two (λ y ys. y ∷ ys) (each x) (each_framed f each xs)

  pub type_framed : (p : LowerCtx) (w : Here area p) (x : Option AstType) → Framed area (λ b. type_part (rctx p b) x) a
  type_framed p w None = still tree.no_type
  type_framed p w (Some x) = one tree.some_type (of_type a area p.left (below a area p.left) x p w)

  pub bounds_framed : (p : LowerCtx) (w : Here area p) (xs : List AstTypeBound) → Framed area (λ b. bounds_part (rctx p b) xs) a
  bounds_framed p w [] = still tree.no_bounds
  bounds_framed p w (x ∷ xs) = two tree.more_bounds (of_bound a area p.left (below a area p.left) x p w) (bounds_framed p w xs)

  pub path_framed : (p : LowerCtx) (w : Here area p) (x : Option AstPath) → Framed area (λ b. path_part (rctx p b) x) a
  path_framed p w None = still tree.no_path
  path_framed p w (Some x) = one tree.some_path ((of_path a area p.left (below a area p.left) x).alone p w)

  constant_framed : (p : LowerCtx) (w : Here area p) (x : AstConstArg) → Framed area (λ b. resolved_constant (rctx p b) x) a
  constant_framed p w None = still (tree.constant tree.no_expr)
  constant_framed p w (Some x) =
      one (λ e. tree.constant (tree.some_expr e)) ((of_expr a area p.left (below a area p.left) x).expr (inside_constant p) w)

  pub default_framed : (p : LowerCtx) (w : Here area p) (x : Option AstConstArg)
      → Framed area (λ b. option_map (resolved_constant (rctx p b)) x) a
  default_framed p w None = still None
  default_framed p w (Some x) = one (λ c. Some c) (constant_framed p w x)

  pub ret_framed : (p : LowerCtx) (w : Here area p) (x : Option AstRetType) → Framed area (λ b. ret_part (rctx p b) x) a
  ret_framed p w None = still tree.no_ret
  ret_framed p w (Some x) = one tree.some_ret (type_framed p w x)
