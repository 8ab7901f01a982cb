-- Small trees: what is in scope at each part of them.
use Rattle.std.specs.Prelude.{◌≡◌, ℕ, nat_eq, true, false, List, [], ◌∷◌, Option, Some, None, if◌then◌else◌}
use Rattle.hir_base.specs.declared.op.LogicOp.TheVariants as logic
use Rattle.hir_binding.specs.declared.binding.BindingAnnotation.TheVariants.{Unannotated}
use Rattle.hir_store.specs.Pointers.{Pointer}
use Rattle.hir_store.specs.declared.ids.HygieneId.{HygieneId}
use Rattle.hir_store.specs.declared.ids.MacroDefId.{MacroDefId}
use Rattle.hir_store.specs.declared.name.Name.{Name}
use Rattle.hir_store.specs.declared.name.Name.TheVariants as name
use Rattle.hir_lower_scope.specs.ScopeRibs.{search, sought_first, number_found}
use Rattle.hir_env.specs.Answers.{Contexts}
use Rattle.hir_env.specs.ResolvedTree as tree
use Rattle.hir_env.specs.ResolvedTree.{Block, Expr, ForItems, OptionBlock, OptionExpr, OptionPat, OptionPath, Pat, Stmt, Stmts, Use}
use Rattle.spec_scoping.specs.Bound.{InScope, Meaning, name_in, names_of_part, self_name, with_top}
use Rattle.spec_scoping.specs.Scoping.{Standing, Where, behind_macro, naming, parts, where_constant}

-- node n of the file 0
abbrev pub at : ℕ → Pointer
at n = record { file_id = record { 0 = 0 }; value = record { node = record { 0 = n }; range = record { start = 0; end = 0 } } }

abbrev pub hygiene : ℕ → HygieneId
hygiene h = record { 0 = h }

abbrev pub x : Name
x = name.Text (120 ∷ [])

-- `x` as an expression, of this node
abbrev pub x_at : ℕ → Expr
x_at n = tree.path_expr (at n)
    (tree.some_path
    (tree.path None false (tree.name_segment x tt (tree.segment_args tree.no_arg_list tree.no_parens false)) tree.no_segments tree.no_path))
    (hygiene 0)

abbrev pub x_part : ℕ → OptionExpr
x_part n = tree.some_expr (x_at n)

-- `x` as a pattern, of this node and with this hygiene
abbrev pub binds_x : ℕ → ℕ → Pat
binds_x n h = tree.bind_pat (at n) (record { name = x; hygiene = hygiene h; mode = Unannotated }) tt tree.no_pat

abbrev pub x_pat : ℕ → OptionPat
x_pat n = tree.some_pat (binds_x n 0)

abbrev pub block_with : Stmts → OptionExpr → Block
block_with ss e = tree.block (at 0) false None tt None ss e

abbrev pub block_x : ℕ → Block
block_x n = block_with tree.no_stmts (x_part n)

abbrev pub let_x : ℕ → OptionExpr → OptionBlock → Stmt
let_x n e b = tree.let_stmt (x_pat n) tree.no_type e b

-- where the names of the pattern at that node are in scope besides
abbrev pub with_x : ℕ → Where → Where
with_x n w = naming w (with_top (x_pat n) w.names)

-- `{ let x = x; x }`
abbrev pub OwnInitializer : Type 0
OwnInitializer = (w : Where)
    → parts (tree.block_expr (block_with (tree.more_stmts (let_x 1 (x_part 2) tree.no_block) tree.no_stmts) (x_part 3))) w
    ≡ (x_at 2, w) ∷ (x_at 3, with_x 1 w) ∷ []

-- `{ let x = x else { x }; x }`
abbrev pub Otherwise : Type 0
Otherwise = (w : Where)
    → parts (tree.block_expr (block_with (tree.more_stmts (let_x 1 (x_part 2) (tree.some_block (block_x 3))) tree.no_stmts) (x_part 4))) w
    ≡ (x_at 2, w) ∷ (tree.block_expr (block_x 3), w) ∷ (x_at 4, with_x 1 w) ∷ []

-- `match x { x if x => x, x => x }`
abbrev pub Guarded : Type 0
Guarded = (w : Where)
    → parts (tree.match_expr (at 0) (x_part 1) (tree.more_arms (tree.arm (x_pat 2) (x_part 4) (tree.guard (x_part 3)))
    (tree.more_arms (tree.arm (x_pat 5) (x_part 6) tree.no_guard) tree.no_arms))) w
    ≡ (x_at 1, w) ∷ (x_at 3, with_x 2 w) ∷ (x_at 4, with_x 2 w) ∷ (x_at 6, with_x 5 w) ∷ []

-- `let x = x && x`
abbrev pub chain : Expr
chain = tree.lazy_expr (at 1) logic.And (tree.some_expr (tree.let_expr (at 2) (x_pat 3) (x_part 4))) (x_part 5)

-- `if let x = x && x { x } else { x }`, and what its condition has in it
pub record Chained : Type 0 where
  pub branches : (w : Where) → parts (tree.if_expr (at 0) (tree.some_expr chain) (tree.some_block (block_x 6)) (x_part 7)) w
      ≡ (chain, w) ∷ (tree.block_expr (block_x 6), with_x 3 w) ∷ (x_at 7, w) ∷ []
  pub operands : (w : Where) → parts chain w ≡ (tree.let_expr (at 2) (x_pat 3) (x_part 4), w) ∷ (x_at 5, with_x 3 w) ∷ []
  pub operand : (w : Where) → parts (tree.let_expr (at 2) (x_pat 3) (x_part 4)) w ≡ (x_at 4, w) ∷ []

-- `while let x = x && x { x }`, and `while x { x }`
pub record Repeated : Type 0 where
  pub chained : (w : Where) → parts (tree.while_expr (at 0) None tt (tree.some_expr chain) (tree.some_block (block_x 6))) w
      ≡ (chain, w) ∷ (tree.block_expr (block_x 6), with_x 3 w) ∷ []
  pub plain : (w : Where) → parts (tree.while_expr (at 0) None tt (x_part 1) (tree.some_block (block_x 6))) w
      ≡ (x_at 1, w) ∷ (tree.block_expr (block_x 6), w) ∷ []

-- `|x| x`, and what stands behind it
abbrev pub closure_x : Expr
closure_x = tree.closure_expr (at 0) false false (tree.more_params (tree.param (x_pat 1) tree.no_type) tree.no_params) tree.no_type
    (x_part 2)

pub record Parameter : Type 0 where
  pub body : (w : Where) → parts closure_x w ≡ (x_at 2, with_x 1 w) ∷ []
  pub behind : (w : Where)
      → parts (tree.block_expr (block_with (tree.more_stmts (tree.expr_stmt (tree.some_expr closure_x) true) tree.no_stmts) (x_part 3))) w
      ≡ (closure_x, w) ∷ (x_at 3, w) ∷ []

-- `for x in x { x }`
abbrev pub Head : Type 0
Head = (items : ForItems) (w : Where) → parts (tree.for_expr (at 0) items None tt (x_pat 1) (x_part 2) (x_part 3)) w
    ≡ (x_at 2, w) ∷ (x_at 3, with_x 1 w) ∷ []

-- `{ let x = x; const { x } }`
abbrev pub const_x : Expr
const_x = tree.const_expr (at 0) (tree.constant (x_part 4))

pub record InConstant : Type 0 where
  pub block : (w : Where)
      → parts (tree.block_expr (block_with (tree.more_stmts (let_x 1 (x_part 2) tree.no_block) tree.no_stmts) (tree.some_expr const_x))) w
      ≡ (x_at 2, w) ∷ (const_x, with_x 1 w) ∷ []
  pub inside : (w : Where) → parts const_x (with_x 1 w) ≡ (x_at 4, where_constant w) ∷ []

-- what a name of this hygiene means

abbrev pub reads : Contexts → ℕ → InScope → Option Meaning
reads contexts h ns = number_found (search contexts x (sought_first (hygiene h)) ns)

-- the context 1 came from the macro 9, and was made in the root
abbrev pub of_nine : Contexts
of_nine = record {
  parent = λ c. record { 0 = 0 };
  opaque = λ c. record { 0 = 0 };
  outer_macro = λ c. if nat_eq c.0 1 then Some (record { 0 = 9 }) else None;
}

abbrev pub defined : ℕ → Where → Where
defined d w = behind_macro (record { 0 = d }) w

abbrev pub nowhere : Where
nowhere = record { names = []; items = [] }

-- `x` or `(x, x)`-like alternatives: one name
abbrev pub either_x : OptionPat
either_x = tree.some_pat (tree.or_pat (at 0) (tree.more_pats (binds_x 1 0) (tree.more_pats (binds_x 2 0) tree.no_pats)))

-- of hygiene 0 and of hygiene 1: two names
abbrev pub both_x : OptionPat
both_x = tree.some_pat (tree.tuple_pat (at 0) false (tree.more_pats (binds_x 1 0) (tree.more_pats (binds_x 2 1) tree.no_pats)))

pub record Reads : Type 0 where
  -- of two `let`s of a name the later one counts
  pub shadows : reads of_nine 0 (with_x 2 (with_x 1 nowhere)).names ≡ Some (name_in (x_pat 2) 0)
  -- a name in two alternatives is one
  pub once : names_of_part either_x [] ≡ 0 ∷ 0 ∷ []
  pub alternative : reads of_nine 0 (with_top either_x []) ≡ Some (name_in either_x 0)
  -- names of two hygienes are two
  pub apart : names_of_part both_x [] ≡ 0 ∷ 1 ∷ []
  pub second : reads of_nine 1 (with_top both_x []) ≡ Some (name_in both_x 1)
  -- what a macro wrote finds no name of its caller's
  pub hidden : reads of_nine 1 (with_x 1 nowhere).names ≡ None
  -- but one that was in scope at the definition of the macro
  pub captured : reads of_nine 1 (defined 9 (with_x 1 nowhere)).names ≡ Some (name_in (x_pat 1) 0)
  -- at the definition of another one it does not
  pub other : reads of_nine 1 (defined 8 (with_x 1 nowhere)).names ≡ None
  -- `let`s behind the definition are not seen by what the macro wrote
  pub behind : reads of_nine 1 (with_x 2 (defined 9 (with_x 1 nowhere))).names ≡ Some (name_in (x_pat 1) 0)
