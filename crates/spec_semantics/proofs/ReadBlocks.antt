-- Calls and definitions in blocks, computed level by level.
use Rattle.std.proofs.Common.{◌≡◌, ◌∙◌, ap, ℕ, Bool, true, List, [], ◌∷◌, Some, None}
use Rattle.hir_syntax.specs.declared.ast.ElseBranch.TheOpen.{ExprKind-F, StmtKind-F}
use Rattle.hir_syntax.specs.declared.ast.Expr.{Expr as AstExpr}
use Rattle.hir_env.specs.declared.ctx.LowerCtx.{LowerCtx}
use Rattle.hir_env.specs.Answers.{Answers}
use Rattle.hir_env.specs.Answering as of
use Rattle.hir_env.specs.Calls.{spliced_in}
use Rattle.hir_env.specs.Layers.{Defined, Spliced, StmtKindLayer}
use Rattle.hir_env.specs.ResolveCtx.{ResolveCtx}
use Rattle.hir_env.specs.ResolvedTree as tree
use Rattle.hir_env.specs.Whole.{resolved_value, into, reader, written}
use Rattle.spec_data.specs.Trees.{ast_name, pointer}
use Rattle.spec_semantics.specs.Small.{one, two}
use Rattle.spec_semantics.specs.Reading.{calling, expr_of, from, entering_to, stmt_of, one_of}
use Rattle.spec_semantics.specs.ReadBlocks.{SplicesStatements, CountsDefinitions, splice_rctx, a, b, SplicesAll, disabling_two}
use Rattle.spec_semantics.proofs.OneLevel.{rctx_in, stmt_made, value_made, value_called}
use Rattle.spec_semantics.proofs.ReadRuns.{ReadStmt, ReadTail, no_tail, splice_is, splice_reading, contents_are}

-- what has no part that is read
abbrev plain : (at : ResolveCtx) → ℕ → StmtKindLayer written → ReadStmt at
plain at n k = record {
  stmt = stmt_of n k;
  reading = λ d. of.stmt_at at.answers (reader at.answers (into at)) k at.place (pointer at n) d;
  is = λ d. stmt_made at n k d;
}

-- an expression that is read so, as a statement and as a tail
module _ (at : ResolveCtx) (e : AstExpr) (v : Defined → Spliced) (h : (d : Defined) → resolved_value at d e ≡ v d) where
  abbrev stated : ℕ → Bool → ReadStmt at
  stated n semi = record {
    stmt = stmt_of n (StmtKind-F.ExprStmt (Some e) semi);
    reading = λ d. of.ended semi (v d);
    is = λ d. stmt_made at n (StmtKind-F.ExprStmt (Some e) semi) d ∙ ap (of.ended semi) (h d);
  }

  abbrev last : ReadTail at
  last = record { expr = Some e; reading = v; is = h }

-- splices

module _ (env : Answers) (p : LowerCtx) where
  abbrev at_two : ResolveCtx
  at_two = (splice_rctx env p)

  abbrev answers : Answers
  answers = at_two.answers

  two_is : (d : Defined) → resolved_value (rctx_in answers p 2 0) d (expr_of 6 (ExprKind-F.Literal two))
      ≡ of.whole_value (tree.literal_expr (from 2 6) two) d
  two_is d = value_made (rctx_in answers p 2 0) 6 (ExprKind-F.Literal two) d

  one_is : (d : Defined) → resolved_value (rctx_in answers p 1 1) d (expr_of 9 (ExprKind-F.Literal one))
      ≡ of.whole_value (tree.literal_expr (from 1 9) one) d
  one_is d = value_made (rctx_in answers p 1 1) 9 (ExprKind-F.Literal one) d

  abbrev inner : Defined → Spliced
  inner d = spliced_in (from 1 4) (entering_to 1 5 2) (of.whole_value (tree.literal_expr (from 2 6) two) d)

  inner_is : (d : Defined) → resolved_value (rctx_in answers p 1 1) d (calling 4) ≡ inner d
  inner_is d = value_called answers p 1 0 4 5 d
      ∙ ap (spliced_in (from 1 4) (entering_to 1 5 2)) (splice_is (rctx_in answers p 2 0) [] (last _ _ _ two_is) d)

  abbrev at_one : ResolveCtx
  at_one = rctx_in answers p 1 1

  abbrev inner_stmts : List (ReadStmt at_one)
  inner_stmts = stated at_one (one_of 9) _ one_is 8 true ∷ []

  abbrev inner_tail : ReadTail at_one
  inner_tail = last at_one (calling 4) inner inner_is

  abbrev outer : Defined → Spliced
  outer d = spliced_in (from 0 2) (entering_to 0 3 1) (splice_reading at_one inner_stmts inner_tail d)

  outer_is : (d : Defined) → resolved_value at_two d (calling 2) ≡ outer d
  outer_is d = value_called answers p 0 1 2 3 d
      ∙ ap (spliced_in (from 0 2) (entering_to 0 3 1)) (splice_is at_one inner_stmts inner_tail d)

  splices_all : SplicesAll env p
  splices_all = record {
    tail = contents_are at_two [] (last at_two (calling 2) outer outer_is);
    stmt = λ semi. contents_are at_two (stated at_two (calling 2) outer outer_is 1 semi ∷ []) (no_tail at_two);
  }

pub splices_statements : SplicesStatements
splices_statements env p = splices_all env p

-- definitions

abbrev rules_kind : List ℕ → StmtKindLayer written
rules_kind n = StmtKind-F.MacroRules (Some (ast_name n))

abbrev macro_kind : List ℕ → StmtKindLayer written
macro_kind n = StmtKind-F.MacroDef (Some (ast_name n))

pub counts_definitions : CountsDefinitions
counts_definitions env p n =
    let at = rctx_in (disabling_two env) p 0 n in
    contents_are at (plain at 2 (rules_kind a) ∷ plain at 3 (rules_kind b) ∷ plain at 4 (rules_kind a)
    ∷ plain at 5 (StmtKind-F.MacroRules None) ∷ plain at 6 (rules_kind a) ∷ plain at 7 (rules_kind a) ∷ plain at 8 (macro_kind a)
    ∷ plain at 9 (StmtKind-F.MacroDef None) ∷ plain at 10 (rules_kind b) ∷ plain at 11 (macro_kind a) ∷ plain at 12 (rules_kind a) ∷ [])
    (no_tail at)
