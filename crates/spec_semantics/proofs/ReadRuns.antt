-- What stands in a block is read statement by statement.
use Rattle.std.proofs.Common.{◌≡◌, ◌∙◌, ap, refl, List, [], ◌∷◌, Option, None}
use Rattle.hir_syntax.specs.declared.ast.Expr.{Expr as AstExpr}
use Rattle.hir_syntax.specs.declared.ast.Stmt.{Stmt as AstStmt}
use Rattle.hir_env.specs.ResolveCtx.{ResolveCtx}
use Rattle.hir_env.specs.Layers.{Defined, Spliced, StmtReading}
use Rattle.hir_env.specs.Calls.{append, nothing, splice_of, stmts_of, value_or_none}
use Rattle.hir_env.specs.ResolvedTree as tree
use Rattle.hir_env.specs.Whole.{into, contents_part, read_stmt, read_value}

module _ (at : ResolveCtx) where
  -- a statement, with what it is read as
  pub record ReadStmt : Type 0 where
    pub stmt : AstStmt
    pub reading : Defined → StmtReading
    pub is : (d : Defined) → read_stmt at.answers (into at) stmt at.place d ≡ reading d

  -- what stands behind the statements
  pub record ReadTail : Type 0 where
    pub expr : Option AstExpr
    pub reading : Defined → Spliced
    pub is : (d : Defined)
        → value_or_none (read_stmt at.answers (into at)) (read_value at.answers (into at)) expr at.place d ≡ reading d

  abbrev pub no_tail : ReadTail
  no_tail = record { expr = None; reading = λ d. nothing d; is = λ d. refl }

  abbrev pub stmts_written : List ReadStmt → List AstStmt
  stmts_written [] = []
  stmts_written (x ∷ xs) = x.stmt ∷ stmts_written xs

  abbrev joined : StmtReading → StmtReading → StmtReading
  joined r rest = record { stmts = append r.stmts rest.stmts; defined = rest.defined }

  abbrev pub stmts_reading : List ReadStmt → Defined → StmtReading
  stmts_reading [] d = record { stmts = tree.no_stmts; defined = d }
  stmts_reading (x ∷ xs) d = let r = x.reading d in joined r (stmts_reading xs r.defined)

  abbrev behind : List ReadStmt → Defined → StmtReading
  behind xs d = stmts_of (read_stmt at.answers (into at)) (read_value at.answers (into at)) (stmts_written xs) at.place d

  stmts_are : (xs : List ReadStmt) (d : Defined) → behind xs d ≡ stmts_reading xs d
  stmts_are [] d = refl
  stmts_are (x ∷ xs) d = ap (λ r. joined r (behind xs r.defined)) (x.is d)
      ∙ ap (joined (x.reading d)) (stmts_are xs (x.reading d).defined)

  abbrev spliced : StmtReading → Spliced → Spliced
  spliced r t = record { stmts = append r.stmts t.stmts; last = t.last; defined = t.defined }

  abbrev pub splice_reading : List ReadStmt → ReadTail → Defined → Spliced
  splice_reading xs t d = let r = stmts_reading xs d in spliced r (t.reading r.defined)

  abbrev tail_of : ReadTail → Defined → Spliced
  tail_of t d = value_or_none (read_stmt at.answers (into at)) (read_value at.answers (into at)) t.expr at.place d

  pub splice_is : (xs : List ReadStmt) (t : ReadTail) (d : Defined)
      → splice_of (read_stmt at.answers (into at)) (read_value at.answers (into at)) (stmts_written xs) t.expr at.place d
      ≡ splice_reading xs t d
  splice_is xs t d = ap (λ r. spliced r (tail_of t r.defined)) (stmts_are xs d)
      ∙ ap (spliced (stmts_reading xs d)) (t.is (stmts_reading xs d).defined)

  pub contents_are : (xs : List ReadStmt) (t : ReadTail)
      → contents_part at (stmts_written xs) t.expr ≡ (let c = splice_reading xs t [] in (c.stmts, c.last))
  contents_are xs t = ap (λ c. (c.stmts, c.last)) (splice_is xs t [])
