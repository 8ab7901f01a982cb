-- What gives no end of temporaries of its own.
use Rattle.std.specs.Prelude.{[], ◌∷◌, Some, None}
use Rattle.hir_store.specs.declared.hir.Expr.TheVariants as hir
use Rattle.hir_store.specs.declared.hir.Statement.TheVariants as statement
use Rattle.hir_env.specs.ResolvedTree as tree
use Rattle.spec_semantics.specs.Run.{reply}
use Rattle.spec_semantics.specs.Same.{ended}
use Rattle.spec_semantics.specs.Small.{root, name_at, block_of, Example, BothDo, stored_block, stored_name, event_of, read_name}
use Rattle.spec_semantics.specs.Examples.{no}

-- `{ ITEM a }`
abbrev pub item_then_a : Example
item_then_a = record {
  written = tree.some_expr (tree.block_expr (block_of 0 None (tree.more_stmts tree.item_stmt tree.no_stmts) (name_at 97 1)));
  nodes = (hir.Path (stored_name 97) root, Some 1) ∷ (stored_block None (statement.Item ∷ []) 0, Some 0) ∷ [];
  root = 1;
}

-- Neither the item nor the tail ends temporaries.
abbrev pub ItemsAreSilent : Type 0
ItemsAreSilent = BothDo item_then_a 0 (no 11 ∷ []) (event_of (read_name 97) [] 1 ∷ []) (ended (reply 11))
