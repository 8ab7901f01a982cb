-- What a block is stored with is what its statements and its tail became.
use Rattle.std.proofs.Common.{◌≡◌, refl, sym, subst, Bool, true, false, not, ◌&&◌, ◌||◌, List, ◌∷◌}
use Rattle.std.proofs.Common.{Option, Some, None}
use Rattle.hir_store.specs.Stored.{Store, SourceMap}
use Rattle.hir_store.specs.declared.hir.Statement.{Statement}
use Rattle.hir_store.specs.declared.hir.Statement.TheVariants as statement
use Rattle.hir_store.specs.declared.ids.ExprId.{ExprId}
use Rattle.hir_env.specs.ResolvedTree as tree
use Rattle.hir_env.specs.ResolvedTree.{OptionExpr, Stmts}
use Rattle.hir_lower_scope.specs.ScopeRibs.{macro_rib}
use Rattle.spec_semantics.specs.Left.{is_kept, is_left, none_left, gives_value}
use Rattle.spec_semantics.specs.Contents.{BlockContents}
use Rattle.hir_lower_builder.specs.Lower.{settled}
use Rattle.thm_logic.proofs.Settled.{IsThere, IsEmpty, Settled, before, of_expr, empty_expr}
use Rattle.thm_body_result.specs.Leads.{Mapping, Mappings}
use Rattle.thm_body_result.specs.Corresponds.{Open, ThereIf, CorrespondsKept, CorrespondsContents}

there : (b : Bool) (S : ExprId → Mappings) (o : Option ExprId) (ws : List Mapping) → ThereIf b S o ws → IsThere b o
there true S o ws h = (h.0, h.1)
there false S o ws h = h.0

-- where the written tail is kept

never : (left semi none gives : Bool) → gives ≡ false → ((left && (not semi && (none && false))) || gives) ≡ false
never true true none gives e = e
never true false true gives e = e
never true false false gives e = e
never false semi none gives e = e

none_gives : (ss : Stmts) → gives_value ss true ≡ false
none_gives tree.no_stmts = refl
none_gives (tree.more_stmts tree.item_stmt ss) = none_gives ss
none_gives (tree.more_stmts (tree.call_stmt c) ss) = none_gives ss
none_gives (tree.more_stmts (tree.macro_stmt k d) ss) = none_gives ss
none_gives (tree.more_stmts (tree.expr_stmt e semi) ss) = never (is_left e) semi (none_left ss) (gives_value ss true) (none_gives ss)
none_gives (tree.more_stmts (tree.disabled_stmt at by s) ss) = none_gives ss
none_gives (tree.more_stmts (tree.let_stmt p t e b) ss) = none_gives ss

module _ (store : Store) (source_map : SourceMap) where
  kept_there : (rs : Open) (e : OptionExpr) (o : Option ExprId) (ws : List Mapping) → CorrespondsKept store source_map rs e o ws
      → IsThere (is_left e) o
  kept_there rs tree.no_expr o ws h = h.0
  kept_there rs (tree.some_expr e) o ws h = there (is_kept e) _ o ws h

  module _ (Tail : Open → Option ExprId → Mappings) (tail : Option ExprId) where
    empty : (rs : Open) (ss : Stmts) (is : List Statement) (ws : List Mapping) → CorrespondsContents store source_map rs ss Tail is tail ws
        → IsEmpty (none_left ss) is
    empty rs tree.no_stmts is ws h = h.0
    empty rs (tree.more_stmts tree.item_stmt ss) is ws h = (statement.Item, h.0, h.1)
    empty rs (tree.more_stmts (tree.disabled_stmt at by s) ss) is ws h = empty rs ss is ws h
    empty rs (tree.more_stmts (tree.call_stmt c) ss) is ws h = empty rs ss is ws h
    empty rs (tree.more_stmts (tree.macro_stmt k None) ss) is ws h = (statement.Item, h.0, h.1)
    empty rs (tree.more_stmts (tree.macro_stmt k (Some d)) ss) is ws h = (statement.MacroDef d, h.0, h.1)
    empty rs (tree.more_stmts (tree.let_stmt p t e b) ss) is ws h = (statement.Let h.0 h.1 h.2 h.3, h.4, h.5)
    empty rs (tree.more_stmts (tree.expr_stmt e semi) ss) is ws h =
        let o = kept_there rs e h.0 h.3.left h.3.first in
        empty_expr (is_left e) semi (none_left ss) h.0 is h.1 o h.2 (empty rs ss h.1 h.3.right h.3.second)

    gives : (rs : Open) (ss : Stmts) (is : List Statement) (ws : List Mapping) → CorrespondsContents store source_map rs ss Tail is tail ws
        → Settled (gives_value ss false) is
    gives rs tree.no_stmts is ws h = subst (Settled false) (sym h.0) refl
    gives rs (tree.more_stmts tree.item_stmt ss) is ws h =
        subst (Settled (gives_value ss false)) (sym h.1) (before (gives_value ss false) statement.Item h.0 refl (gives rs ss h.0 ws h.2))
    gives rs (tree.more_stmts (tree.disabled_stmt at by s) ss) is ws h = gives rs ss is ws h
    gives rs (tree.more_stmts (tree.call_stmt c) ss) is ws h = gives rs ss is ws h
    gives rs (tree.more_stmts (tree.macro_stmt k None) ss) is ws h =
        subst (Settled (gives_value ss false)) (sym h.1) (before (gives_value ss false) statement.Item h.0 refl (gives rs ss h.0 ws h.2))
    gives rs (tree.more_stmts (tree.macro_stmt k (Some d)) ss) is ws h = subst (Settled (gives_value ss false)) (sym h.1)
        (before (gives_value ss false) (statement.MacroDef d) h.0 refl (gives (macro_rib d ∷ rs) ss h.0 ws h.2))
    gives rs (tree.more_stmts (tree.let_stmt p t e b) ss) is ws h =
        subst (Settled (gives_value ss false)) (sym h.5)
        (before (gives_value ss false) (statement.Let h.0 h.1 h.2 h.3) h.4 refl (gives rs ss h.4 h.6.right h.6.second))
    gives rs (tree.more_stmts (tree.expr_stmt e semi) ss) is ws h =
        let o = kept_there rs e h.0 h.3.left h.3.first in
        let none = empty rs ss h.1 h.3.right h.3.second in
        of_expr (is_left e) semi (none_left ss) (gives_value ss false) h.0 is h.1 o h.2 none (gives rs ss h.1 h.3.right h.3.second)

  -- the tail is there just where the written one is kept
  whole : (left : Bool) (ss : Stmts) (is : List Statement) (tail : Option ExprId) → IsThere left tail → Settled (gives_value ss false) is
      → BlockContents (gives_value ss left) is tail (settled is tail)
  whole true ss is tail t h =
      subst (λ o. BlockContents (gives_value ss true) is o (settled is o)) (sym t.1)
      (subst (λ g. BlockContents g is (Some t.0) (is, Some t.0)) (sym (none_gives ss)) refl)
  whole false ss is tail t h = subst (λ o. BlockContents (gives_value ss false) is o (settled is o)) (sym t) h

  module _ (e : OptionExpr) (tail : Option ExprId) where
    tail_there : (rs : Open) (ss : Stmts) (is : List Statement) (ws : List Mapping)
        → CorrespondsContents store source_map rs ss (λ around o. CorrespondsKept store source_map around e o) is tail ws
        → IsThere (is_left e) tail
    tail_there rs tree.no_stmts is ws h = kept_there rs e tail ws h.1
    tail_there rs (tree.more_stmts tree.item_stmt ss) is ws h = tail_there rs ss h.0 ws h.2
    tail_there rs (tree.more_stmts (tree.expr_stmt x semi) ss) is ws h = tail_there rs ss h.1 h.3.right h.3.second
    tail_there rs (tree.more_stmts (tree.disabled_stmt at by s) ss) is ws h = tail_there rs ss is ws h
    tail_there rs (tree.more_stmts (tree.call_stmt c) ss) is ws h = tail_there rs ss is ws h
    tail_there rs (tree.more_stmts (tree.macro_stmt k None) ss) is ws h = tail_there rs ss h.0 ws h.2
    tail_there rs (tree.more_stmts (tree.macro_stmt k (Some d)) ss) is ws h = tail_there (macro_rib d ∷ rs) ss h.0 ws h.2
    tail_there rs (tree.more_stmts (tree.let_stmt p t c b) ss) is ws h = tail_there rs ss h.4 h.6.right h.6.second

  pub has_contents : (rs : Open) (ss : Stmts) (e : OptionExpr) (is : List Statement) (tail : Option ExprId) (ws : List Mapping)
      → CorrespondsContents store source_map rs ss (λ around o. CorrespondsKept store source_map around e o) is tail ws
      → BlockContents (gives_value ss (is_left e)) is tail (settled is tail)
  has_contents rs ss e is tail ws h =
      whole (is_left e) ss is tail (tail_there e tail rs ss is ws h)
      (gives (λ around o. CorrespondsKept store source_map around e o) tail rs ss is ws h)
