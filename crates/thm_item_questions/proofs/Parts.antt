-- The types, bounds, paths and constants of an item are framed by their lists.
use Rattle.std.proofs.Common.{List, [], ◌∷◌, map, Option, Some, None, option_map}
use Rattle.hir_base.specs.declared.node.NodeId.{NodeId}
use Rattle.hir_syntax.specs.declared.ast.Path.{Path as AstPath}
use Rattle.hir_syntax.specs.declared.types.TypeBound.{TypeBound as AstTypeBound}
use Rattle.hir_syntax.specs.declared.types.Type_.{Type_ as AstType}
use Rattle.hir_env.specs.ResolvedTree as tree
use Rattle.hir_env.specs.Answers.{Answers}
use Rattle.hir_env.specs.Paths.{inside_constant}
use Rattle.hir_env.specs.Whole.{resolved_constant, bounds_part, path_part, ret_part, type_part}
use Rattle.hir_env.specs.Wrapped.{AstConstArg, AstRetType}
use Rattle.hir_env.specs.declared.ctx.LowerCtx.{LowerCtx}
use Rattle.thm_frame.specs.Theorems.{rctx}
use Rattle.thm_frame.specs.Questions.{Question}
use Rattle.thm_questions.specs.Areas.{NodeArea}
use Rattle.thm_questions.specs.Lists.{path_questions}
use Rattle.thm_questions.specs.Nodes.{path_nodes_of}
use Rattle.thm_questions.specs.Parts.{of_each, of_option}
use Rattle.thm_questions.proofs.Framing.{At, one, still, two}
use Rattle.thm_questions.proofs.Tree.{below, of_bound, of_expr, of_path, of_type}
use Rattle.thm_item_questions.specs.Lists as list
use Rattle.thm_item_questions.specs.Nodes as node

module _ (a : Answers) (area : NodeArea a) where
  pub each_by : {X Y : Type 0} (p : LowerCtx) (f : Answers → X → Y) (nodes : X → List NodeId) (asked : X → List Question)
      → ((x : X) → At area p (nodes x) (λ b. f b x) (asked x)) → (xs : List X)
      → At area p (of_each nodes xs) (λ b. map (f b) xs) (of_each asked xs)
  each_by p f nodes asked each [] = still []
  each_by p f nodes asked each (x ∷ xs) = two (λ y ys. y ∷ ys) (each x) (each_by p f nodes asked each xs)

  pub type_by : (p : LowerCtx) (x : Option AstType)
      → At area p (node.types_nodes x) (λ b. type_part (rctx p b) x) (list.types_in (rctx p a) x)
  type_by p None = still tree.no_type
  type_by p (Some x) = one tree.some_type (of_type a area p.left (below a area p.left) x p)

  pub bounds_by : (p : LowerCtx) (xs : List AstTypeBound)
      → At area p (node.bounds_nodes xs) (λ b. bounds_part (rctx p b) xs) (list.bounds_in (rctx p a) xs)
  bounds_by p [] = still tree.no_bounds
  bounds_by p (x ∷ xs) = two tree.more_bounds (of_bound a area p.left (below a area p.left) x p) (bounds_by p xs)

  pub path_by : (p : LowerCtx) (x : Option AstPath)
      → At area p (of_option path_nodes_of x) (λ b. path_part (rctx p b) x) (of_option (path_questions (rctx p a)) x)
  path_by p None = still tree.no_path
  path_by p (Some x) = one tree.some_path ((of_path a area p.left (below a area p.left) x).alone p)

  constant_by : (p : LowerCtx) (x : AstConstArg)
      → At area p (node.constant_nodes x) (λ b. resolved_constant (rctx p b) x) (list.constant_in (rctx p a) x)
  constant_by p None = still (tree.constant tree.no_expr)
  constant_by p (Some x) =
      one (λ e. tree.constant (tree.some_expr e)) ((of_expr a area p.left (below a area p.left) x).expr (inside_constant p))

  pub default_by : (p : LowerCtx) (x : Option AstConstArg)
      → At area p (of_option node.constant_nodes x) (λ b. option_map (resolved_constant (rctx p b)) x)
      (of_option (list.constant_in (rctx p a)) x)
  default_by p None = still None
  default_by p (Some x) = one (λ c. Some c) (constant_by p x)

  pub ret_by : (p : LowerCtx) (x : Option AstRetType)
      → At area p (node.ret_nodes x) (λ b. ret_part (rctx p b) x) (list.ret_in (rctx p a) x)
  ret_by p None = still tree.no_ret
  ret_by p (Some x) = one tree.some_ret (type_by p x)
