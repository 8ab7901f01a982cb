-- What conditions leave of lists, statements and tails (Rust Reference, conditional compilation; rust-analyzer, `check_cfg`
-- and `collect_block_`). Anywhere else a disabled expression is a missing one.
use Rattle.std.specs.Prelude.{Bool, true, false, not, ◌&&◌, ◌||◌, List, [], ◌∷◌}
use Rattle.hir_env.specs.ResolvedTree as tree
use Rattle.hir_store.specs.declared.name.Name.{Name}
use Rattle.hir_env.specs.ResolvedTree.{Expr, OptionExpr, Fields, Stmts, Stmt}

abbrev pub is_kept : Expr → Bool
is_kept (tree.disabled_expr why e) = false
is_kept _ = true

abbrev pub is_left : OptionExpr → Bool
is_left tree.no_expr = false
is_left (tree.some_expr e) = is_kept e

-- the names of a record's fields that are kept and have one
abbrev pub field_names : Fields → List Name
field_names tree.no_fields = []
field_names (tree.more_fields (tree.named_field at n e) fs) = n ∷ field_names fs
field_names (tree.more_fields f fs) = field_names fs

abbrev pub stmt_is_left : Stmt → Bool
stmt_is_left (tree.disabled_stmt at by s) = false
stmt_is_left (tree.expr_stmt e semi) = is_left e
stmt_is_left tree.item_stmt = true
stmt_is_left (tree.call_stmt c) = false
stmt_is_left (tree.macro_stmt k d) = true
stmt_is_left (tree.let_stmt p t e b) = true

abbrev pub none_left : Stmts → Bool
none_left tree.no_stmts = true
none_left (tree.more_stmts s ss) = not (stmt_is_left s) && none_left ss

-- Whether an expression statement gives its block the value: it has no semicolon, and neither a statement nor a tail is left
-- after it (Rust Reference, block expressions).
abbrev pub is_last : Bool → Stmts → Bool → Bool
is_last semi after has_tail = not semi && (none_left after && not has_tail)

-- whether a statement that is left gives the block its value
abbrev pub gives_value : Stmts → Bool → Bool
gives_value tree.no_stmts has_tail = false
gives_value (tree.more_stmts (tree.expr_stmt e semi) ss) has_tail = (is_left e && is_last semi ss has_tail) || gives_value ss has_tail
gives_value (tree.more_stmts s ss) has_tail = gives_value ss has_tail
