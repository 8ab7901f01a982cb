-- The alternatives behind the first, one after another.
use Rattle.std.proofs.Common.{◌≡◌, ◌∙◌, ap, slice_index_or, List, [], ◌∷◌, ◌++◌, Ok, Err}
use Rattle.std.specs.Prelude.{◌≤◌, ◌-◌, drop, length, take}
use Rattle.hir_syntax.specs.declared.pats.Pat.{Pat as AstPat}
use Rattle.hir_store.specs.declared.error.StoreError.{StoreError}
use Rattle.hir_store.specs.declared.ids.PatId.{PatId}
use Rattle.hir_env.specs.ResolveCtx.{ResolveCtx}
use Rattle.hir_env.specs.Whole.{resolved_pat, pats_part}
use Rattle.hir_lower_builder.specs.Builder.{Builder}
use Rattle.hir_lower_builder.specs.Lower.{lower_later, lower_pat}
use Rattle.hir_lower_builder.specs.Lowering.{Checked, go_on}
use Rattle.hir_lower_builder.specs.Pats.{Table, next_alternative}
use Rattle.hir_lower_pat.proofs.KindLemmas.{first_of}

module _ (at : ResolveCtx) (done : List PatId) (xs : List AstPat) (x : AstPat) (t : Table) (b c : Builder) where
  abbrev left : List PatId → Table → Builder → Checked (List PatId × Table) × Builder
  left ids = lower_later (pats_part at (take (length xs - 1) (drop 1 xs))) ids

  abbrev step : Checked (PatId × Table) × Builder
  step = lower_pat (resolved_pat at x) (next_alternative t) b

  iteration : x ≡ slice_index_or xs 0 x → 1 ≤ length xs
      → lower_later (pats_part at xs) done t b ≡ go_on step.0 step.1 (λ r. left (done ++ r.0 ∷ []) r.1)
  iteration h le = ap (λ ys. lower_later (pats_part at ys) done t b) (first_of xs x h le)

  pub later_refused : (e : StoreError) → x ≡ slice_index_or xs 0 x → 1 ≤ length xs → step ≡ (Err e, c)
      → lower_later (pats_part at xs) done t b ≡ (Err e, c)
  later_refused e h le is = iteration h le ∙ ap (λ o. go_on o.0 o.1 (λ r. left (done ++ r.0 ∷ []) r.1)) is
