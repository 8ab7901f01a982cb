-- A small `while`: what whatever stands for one has stored, with a condition that holds no `let` and with one that does, and what owns the
-- name that is made up.
use Rattle.std.specs.Prelude.{◌≡◌, ℕ, false, List, [], ◌∷◌, Some, None, slice_get}
use Rattle.hir_binding.specs.declared.binding.BindingAnnotation.TheVariants.{Unannotated}
use Rattle.hir_store.specs.Stored.{Store, SourceMap}
use Rattle.hir_store.specs.declared.hir.Expr.TheVariants as hir
use Rattle.hir_store.specs.declared.hir.LoopSource.TheVariants.{While}
use Rattle.hir_store.specs.declared.hir.Statement.TheVariants as statement
use Rattle.hir_store.specs.declared.name.Name.TheVariants as name
use Rattle.hir_store.specs.declared.ids.BindingId.{BindingId}
use Rattle.hir_store.specs.declared.ids.ExprId.{ExprId}
use Rattle.hir_store.specs.declared.ids.PatId.{PatId}
use Rattle.hir_store.specs.declared.pat.Pat.TheVariants as pat
use Rattle.hir_env.specs.ResolvedTree as tree
use Rattle.hir_env.specs.ResolvedTree.{Expr, OptionExpr}
use Rattle.spec_semantics.specs.Small.{at, root, stored_one}
use Rattle.thm_body_result.specs.Forms.{path_of_name}
use Rattle.thm_body_result.specs.Leads.{Mapping, binding_mapping, expr_mapping, unled_mapping}
use Rattle.thm_body_result.specs.Room.{size}
use Rattle.thm_body_result.specs.Corresponds.{Corresponds}
use Rattle.thm_body_result.specs.Examples.{closure_of, literal_part, owner, owners_in, x_at}

-- `while c {}`
abbrev pub while_of : OptionExpr → Expr
while_of c = tree.while_expr (at 0) None tt c (tree.some_block (tree.block (at 2) false None tt None tree.no_stmts tree.no_expr))

abbrev pub while_one : Expr
while_one = while_of (literal_part 1)

-- `while let x = 1 {}`
abbrev pub while_let : Expr
while_let = while_of (tree.some_expr (tree.let_expr (at 5) (tree.some_pat (x_at 6)) (literal_part 1)))

-- a loop over a branch, which is the body where the condition holds, and else a break
pub record Loops (store : Store) (i condition body : ExprId) : Type 0 where
  pub iteration : ExprId
  pub out : ExprId
  pub whole : slice_get store.exprs i.0 ≡ Some (hir.Loop iteration None While)
  pub branches : slice_get store.exprs iteration.0 ≡ Some (hir.If condition body (Some out))
  pub leaves : slice_get store.exprs out.0 ≡ Some (hir.Break None None)

-- The condition is a block from the node of the `while`: it binds the literal to a name that is made up, by a pattern from no node, and
-- then is that name. The nodes of the literal, of the body and of the `while` lead to these, and no node to what is made up.
pub record BindsItsCondition (store : Store) (source_map : SourceMap) (i : ExprId) (ws : List Mapping) : Type 0 where
  pub condition : ExprId
  pub body : ExprId
  pub loops : Loops store i condition body
  pub literal : ExprId
  pub binds : PatId
  pub binding : BindingId
  pub number : ℕ
  pub made : ExprId
  pub block : slice_get store.exprs condition.0
      ≡ Some (hir.Block false None None (statement.Let binds None (Some literal) None ∷ []) (Some made))
  pub block_from : slice_get source_map.expr_sources condition.0 ≡ Some (Some (at 0))
  pub is_one : slice_get store.exprs literal.0 ≡ Some stored_one
  pub is_name : slice_get store.pats binds.0 ≡ Some (pat.Bind binding None)
  pub from_none : slice_get source_map.pat_sources binds.0 ≡ Some None
  pub is_plain : slice_get store.bindings binding.0
      ≡ Some (record { name = name.Generated number; mode = Unannotated; hygiene = root; problems = None })
  pub reads : slice_get store.exprs made.0 ≡ Some (hir.Path (path_of_name (name.Generated number)) root)
  pub reads_from : slice_get source_map.expr_sources made.0 ≡ Some (Some (at 0))
  pub mappings : ws
      ≡ expr_mapping (at 1) literal ∷ binding_mapping binding None ∷ unled_mapping made ∷ unled_mapping condition ∷ expr_mapping (at 2) body
      ∷ unled_mapping loops.out ∷ unled_mapping loops.iteration ∷ expr_mapping (at 0) i ∷ []

-- It is the `let` itself.
pub record KeepsItsCondition (store : Store) (i : ExprId) : Type 0 where
  pub condition : ExprId
  pub body : ExprId
  pub loops : Loops store i condition body
  pub binds : PatId
  pub literal : ExprId
  pub is_let : slice_get store.exprs condition.0 ≡ Some (hir.Let binds literal)
  pub is_one : slice_get store.exprs literal.0 ≡ Some stored_one

pub record Whiles : Type 0 where
  pub binds : (store : Store) (source_map : SourceMap) (i : ExprId) (ws : List Mapping) → Corresponds store source_map [] while_one i ws
      → BindsItsCondition store source_map i ws
  pub keeps : (store : Store) (source_map : SourceMap) (i : ExprId) (ws : List Mapping) → Corresponds store source_map [] while_let i ws
      → KeepsItsCondition store i
  pub names : (size while_one).names ≡ 1
  pub no_name : (size while_let).names ≡ 0
  -- `|| while 1 {}`: the literal 1, the name that is read 2, the block around it 3, the body 4, the loop 7, the closure 8
  pub owned : owners_in (closure_of tree.no_params (tree.some_expr while_one)) ≡ owner 8 ∷ []
