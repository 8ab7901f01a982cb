-- What is in a block: its statements, what stands behind them, and then the definitions among them are closed.
use Rattle.std.proofs.Common.{◌≡◌, ◌∙◌, ap, refl, subst, sym, ℕ, zero, suc, List, [], Option}
use Rattle.std.specs.Prelude.{◌≢◌, Ok, Err}
use Rattle.hir_syntax.specs.declared.ast.BlockExpr.{BlockExpr as AstBlockExpr, out-BlockExpr}
use Rattle.hir_store.specs.Range.{Grows}
use Rattle.hir_store.specs.declared.error.StoreError.{StoreError}
use Rattle.hir_store.specs.declared.error.StoreError.TheVariants.{Memory}
use Rattle.hir_store.specs.declared.hir.Statement.{Statement}
use Rattle.hir_store.specs.declared.ids.ExprId.{ExprId}
use Rattle.hir_env.specs.Calls.{append}
use Rattle.hir_env.specs.Layers.{Spliced, StmtReading}
use Rattle.hir_env.specs.ResolveCtx.{ResolveCtx}
use Rattle.hir_lower_scope.specs.Labels.{rest}
use Rattle.hir_lower_builder.specs.Builder.{Builder}
use Rattle.hir_lower_builder.specs.Lowering.{SomeEnd, go_on}
use Rattle.hir_lower_builder.specs.Methods.{HasContents, contents_at}
use Rattle.hir_lower_expr.specs.Runs.{Counts, StmtsBehind, ValueBehind, close_scopes, definitions, lower_run, lower_value, run_part}
use Rattle.hir_lower_expr.specs.Runs.{value_part}
use Rattle.hir_lower_expr.specs.declared.runs.Run.{Run}
use Rattle.hir_lower_expr.proofs.DefinitionLemmas.{closes, closes_nothing}
use Rattle.hir_lower_expr.proofs.RunLemmas.{grows_on, value_append}

-- to close changes nothing that is stored
pub closed_stored : (n : ℕ) (b : Builder) → (close_scopes n b).stored ≡ b.stored
closed_stored zero b = refl
closed_stored (suc n) b = closed_stored n (record b { scopes = rest b.scopes })

pub contents_placed : (old mid end new : Builder) (n : ℕ) (xs : List Statement) (t : Option ExprId) → new ≡ close_scopes n end
    → Grows old.stored mid.stored → Grows mid.stored end.stored → HasContents end.stored (xs, t)
    → Grows old.stored new.stored × HasContents new.stored (xs, t)
contents_placed old mid end new n xs t is g h has =
    let same : end.stored ≡ new.stored = sym (ap (λ b. b.stored) is ∙ closed_stored n end) in (
      subst (Grows old.stored) same (grows_on old.stored mid.stored end.stored g h),
      subst (λ s. HasContents s (xs, t)) same has,
    )

module _ (at : ResolveCtx) (b : AstBlockExpr) (start : Run) (done_is : start.done ≡ []) (counts_are : start.counts.entries ≡ [])
    (old : Builder) where
  abbrev run : StmtReading
  run = run_part at (out-BlockExpr b).stmts []

  abbrev last : Spliced
  last = value_part at (out-BlockExpr b).tail run.defined

  none : Counts start.counts.entries []
  none = subst (λ es. Counts es []) (sym counts_are) (λ n. refl)

  pub contents_refused : (e : StoreError) (now : Run) (new : Builder)
      → StmtsBehind (run_part at (out-BlockExpr b).stmts) start old (Err e) now new → e ≢ Memory
      → (contents_at at b old ≡ (Err e, new)) × SomeEnd new
  contents_refused e now new h other =
      let k = h [] none other in
      let ran = subst (λ xs. lower_run xs run.stmts old ≡ (Err e, new)) done_is k.0 in (
        closes_nothing (append run.stmts last.stmts) last.last old new e
            (value_append [] run.stmts last old ∙ ap (λ z. go_on z.0 z.1 (λ xs. lower_value xs last)) ran),
        k.1,
      )

  module _ (mid : Run) (c : Builder) (h : StmtsBehind (run_part at (out-BlockExpr b).stmts) start old (Ok tt) mid c) where
    ran : lower_run [] run.stmts old ≡ (Ok mid.done, c)
    ran = subst (λ xs. lower_run xs run.stmts old ≡ (Ok mid.done, c)) done_is (h [] none).0

    pub last_refused : (e : StoreError) (now : Run) (new : Builder)
        → ValueBehind (value_part at (out-BlockExpr b).tail) mid c (Err e) now new → e ≢ Memory
        → (contents_at at b old ≡ (Err e, new)) × SomeEnd new
    last_refused e now new v other =
        let k = v run.defined (h [] none).1 other in (
          closes_nothing (append run.stmts last.stmts) last.last old new e
              (value_append [] run.stmts last old ∙ (ap (λ z. go_on z.0 z.1 (λ xs. lower_value xs last)) ran ∙ k.0)),
          k.1,
        )

    pub contents_closed : (now : Run) (d : Builder) (t : Option ExprId)
        → ValueBehind (value_part at (out-BlockExpr b).tail) mid c (Ok t) now d
        → contents_at at b old ≡ (Ok (now.done, t), close_scopes (definitions now.done) d)
    contents_closed now d t v =
        let k = v run.defined (h [] none).1 in
        closes (append run.stmts last.stmts) last.last old d now.done t
        (value_append [] run.stmts last old ∙ (ap (λ z. go_on z.0 z.1 (λ xs. lower_value xs last)) ran ∙ k.0))
