-- Small trees with definitions of macros, worked out.
use Rattle.std.proofs.Common.{◌≡◌, ◌∙◌, refl, ap, Bool, false, List, [], ◌∷◌, ◌++◌, Option, Some, None, option_to_list}
use Rattle.hir_store.specs.Stored.{Store, SourceMap}
use Rattle.hir_store.specs.declared.hir.Expr.TheVariants as hir
use Rattle.hir_store.specs.declared.hir.Statement.{Statement}
use Rattle.hir_store.specs.declared.hir.Statement.TheVariants as statement
use Rattle.hir_store.specs.declared.ids.ExprId.{ExprId}
use Rattle.hir_env.specs.ResolvedTree as tree
use Rattle.hir_env.specs.ResolvedTree.{Stmts}
use Rattle.hir_lower_scope.specs.ScopeRibs.{macro_rib}
use Rattle.hir_lower_builder.specs.Forms.{StoredContents}
use Rattle.thm_body_result.specs.Leads.{Mapping, Mappings}
use Rattle.thm_body_result.specs.Corresponds.{Open, CorrespondsContents, CorrespondsKept}
use Rattle.thm_logic.specs.Statements.{statement_of}
use Rattle.thm_body_result.specs.ExampleDefinitions.{Definitions, stored_defs, written_defs}

-- what a block has, where its one statement is this and nothing is its tail
only_contents : (s : Statement) (kept others : List Statement) (last : Option ExprId) (contents : StoredContents) → contents ≡ (kept, last)
    → kept ≡ s ∷ others → others ≡ [] → last ≡ None
    → Some (hir.Block false None None contents.0 contents.1) ≡ Some (hir.Block false None None (s ∷ []) None)
only_contents s kept others last contents e x y z =
    ap (λ (r : StoredContents). Some (hir.Block false None None r.0 r.1)) (e ∙ (λ j. ((x ∙ ap (λ o. s ∷ o) y) j, z j)))

-- an expression statement is none
expr_is_none : (semi : Bool) (o : Option ExprId) (others : List Statement)
    → stored_defs (option_to_list (statement_of semi o) ++ others) ≡ stored_defs others
expr_is_none semi None others = refl
expr_is_none semi (Some i) others = refl

module _ (store : Store) (source_map : SourceMap) (Tail : Open → Option ExprId → Mappings) (tail : Option ExprId) where
  same_numbers : (rs : Open) (ss : Stmts) (is : List Statement) (ws : List Mapping)
      → CorrespondsContents store source_map rs ss Tail is tail ws → stored_defs is ≡ written_defs ss
  same_numbers rs tree.no_stmts is ws h = ap stored_defs h.0
  same_numbers rs (tree.more_stmts (tree.expr_stmt e semi) ss) is ws h =
      ap stored_defs h.2 ∙ (expr_is_none semi h.0 h.1 ∙ same_numbers rs ss h.1 h.3.right h.3.second)
  same_numbers rs (tree.more_stmts tree.item_stmt ss) is ws h = ap stored_defs h.1 ∙ same_numbers rs ss h.0 ws h.2
  same_numbers rs (tree.more_stmts (tree.disabled_stmt at by s) ss) is ws h = same_numbers rs ss is ws h
  same_numbers rs (tree.more_stmts (tree.call_stmt c) ss) is ws h = same_numbers rs ss is ws h
  same_numbers rs (tree.more_stmts (tree.macro_stmt k None) ss) is ws h = ap stored_defs h.1 ∙ same_numbers rs ss h.0 ws h.2
  same_numbers rs (tree.more_stmts (tree.macro_stmt k (Some d)) ss) is ws h =
      ap stored_defs h.1 ∙ ap (λ ds. d ∷ ds) (same_numbers (macro_rib d ∷ rs) ss h.0 ws h.2)
  same_numbers rs (tree.more_stmts (tree.let_stmt p t e b) ss) is ws h =
      ap stored_defs h.5 ∙ same_numbers rs ss h.4 h.6.right h.6.second

pub definitions : Definitions
definitions = record {
  same_numbers = λ store source_map rs ss e is tail ws h.
      same_numbers store source_map (λ around o. CorrespondsKept store source_map around e o) tail rs ss is ws h;
  with_number = λ d store source_map i ws h. let c = h.5.first in
      h.4.stored ∙ only_contents (statement.MacroDef d) h.0 c.0 h.1 h.2 h.3 c.1 c.2.0 c.2.1.0;
  without_number = λ store source_map i ws h. let c = h.5.first in
      h.4.stored ∙ only_contents statement.Item h.0 c.0 h.1 h.2 h.3 c.1 c.2.0 c.2.1.0;
  past_its_own = refl;
  not_past_another = refl;
  not_before = refl;
  not_behind_its_block = refl;
  counts = λ k d h. h;
  counts_no_less = λ k d h. h;
  dots_store_nothing = λ called. refl;
  dots_unknown = λ path. refl;
}
