-- One expression more in a count of calls.
use Rattle.std.proofs.Common.{arith, ◌≡◌, ◌∙◌, sym, ap, ℕ, ◌+◌, ◌<◌, ◌≤◌, true, false, true≢false, List, take, length, count_by}
use Rattle.std.proofs.Common.{Some, None, ◌⊎◌, inl, inr, slice_get, get_or}
use Rattle.std.proofs.lemmas.List.Sums.{count_by_more_yes, count_by_more_no}
use Rattle.std.proofs.lemmas.Option.{slice_get_cases}
use Rattle.hir_store.specs.declared.hir.Expr.{Expr}
use Rattle.hir_lower_uses.specs.Uses.{is_call, is_call_there}

-- what stands at a place, where something does
abbrev There : List Expr → ℕ → Type 0
There es n = ((x : Expr) × (n < length es) × (slice_get es n ≡ Some x) × (get_or es n x ≡ x)) ⊎ ((length es ≤ n) × (slice_get es n ≡ None))

pub counts_yes : (es : List Expr) (n : ℕ) → is_call_there (slice_get es n) ≡ true
    → count_by is_call (take (n + 1) es) ≡ count_by is_call (take n es) + 1
counts_yes es n h = by (slice_get_cases es n).1
  where
    by : There es n → count_by is_call (take (n + 1) es) ≡ count_by is_call (take n es) + 1
    by (inl (x, within, here, same)) = count_by_more_yes is_call es n x within (ap is_call same ∙ (sym (ap is_call_there here) ∙ h))
    by (inr (past, none)) = absurd (true≢false (sym h ∙ ap is_call_there none))

pub counts_no : (es : List Expr) (n : ℕ) → n < length es → is_call_there (slice_get es n) ≡ false
    → count_by is_call (take (n + 1) es) ≡ count_by is_call (take n es)
counts_no es n within h = by (slice_get_cases es n).1
  where
    by : There es n → count_by is_call (take (n + 1) es) ≡ count_by is_call (take n es)
    by (inl (x, _, here, same)) = count_by_more_no is_call es n x within (ap is_call same ∙ (sym (ap is_call_there here) ∙ h))
    by (inr (past, none)) = absurd (omega (arith, past, within))
