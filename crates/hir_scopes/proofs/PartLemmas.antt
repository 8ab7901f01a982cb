-- The parts of an expression as a list.
use Rattle.std.proofs.Common.{◌≡◌, ◌∙◌, refl, sym, ap, List, [], ◌∷◌, ◌++◌, Some, slice_get}
use Rattle.std.proofs.lemmas.List.{append_assoc}
use Rattle.hir_store.specs.declared.hir.Expr.{Expr}
use Rattle.hir_store.specs.declared.hir.Expr.TheVariants as hir
use Rattle.hir_store.specs.declared.ids.ExprId.{ExprId}
use Rattle.hir_store.specs.declared.ids.PatId.{PatId}
use Rattle.hir_store.specs.Stored.{Store}
use Rattle.hir_scopes.specs.declared.parts.Listed.{Listed}
use Rattle.hir_walks.specs.Exprs.{exprs_in_pat, exprs_without_pats}
use Rattle.hir_walks.specs.Pats.{of_found, taken}
use Rattle.hir_walks.proofs.PatLemmas.{taken_to_end}
use Rattle.spec_scopes.specs.Placed.{plain_parts}

abbrev pub listed_after : Listed → ExprId → Listed
listed_after v i = record v { ids = v.ids ++ i ∷ [] }

pub listed : (es : List ExprId) (v w : Listed) → w ≡ taken listed_after es v → w.ids ≡ v.ids ++ es
listed es v w is = ap (λ (u : Listed). u.ids) is ∙ taken_to_end {U = Listed} (λ u. u.ids) listed_after (λ u i. refl) es v

pub assignment_listed : (store : Store) (e : Expr) (t : PatId) (value : ExprId) (v w z : Listed) → e ≡ hir.Assignment t value
    → w ≡ taken listed_after (exprs_in_pat store t) v → z ≡ listed_after w value → z.ids ≡ v.ids ++ plain_parts store e
assignment_listed store e t value v w z is first second =
    ap (λ (u : Listed). u.ids) second
    ∙ (ap (λ es. es ++ value ∷ []) (listed (exprs_in_pat store t) v w first)
    ∙ (append_assoc v.ids (exprs_in_pat store t) (value ∷ []) ∙ ap (λ f. v.ids ++ plain_parts store f) (sym is)))

pub other_parts : (store : Store) (e : Expr) → ((t : PatId) (value : ExprId) → e ≡ hir.Assignment t value → ⊥)
    → plain_parts store e ≡ exprs_without_pats e
other_parts store (hir.Assignment t value) other = elim (other t value refl) [ ]
other_parts store _ other = refl

pub other_listed : (store : Store) (id : ExprId) (e : Expr) (v w : Listed) → slice_get store.exprs id.0 ≡ Some e
    → plain_parts store e ≡ exprs_without_pats e → w ≡ taken listed_after (of_found exprs_without_pats (slice_get store.exprs id.0)) v
    → w.ids ≡ v.ids ++ plain_parts store e
other_listed store id e v w is same walked =
    listed (of_found exprs_without_pats (slice_get store.exprs id.0)) v w walked
    ∙ ap (λ es. v.ids ++ es) (ap (of_found exprs_without_pats) is ∙ sym same)
