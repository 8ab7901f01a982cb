-- Where two dots stand among the parts of a tuple.
use Rattle.std.proofs.Common.{◌≡◌, ◌⊎◌, inl, inr, refl, ap, ℕ, suc, ◌+◌, true, false, List, [], ◌∷◌, ◌++◌, length, length-append, arith}
use Rattle.std.specs.Prelude.{Option, Some, None, option_map}
use Rattle.hir_store.specs.declared.ids.PatId.{PatId}
use Rattle.hir_env.specs.ResolvedTree as tree
use Rattle.hir_env.specs.ResolvedTree.{Pat}
use Rattle.spec_data.specs.Patterns as written
use Rattle.spec_data.specs.Uses.{FirstUses}
use Rattle.hir_lower_builder.specs.Pats as forms

-- where so many parts stand in front, with the place of two dots among them, where some are there
abbrev pub dots_behind : ℕ → Option ℕ → Option ℕ → Option ℕ
dots_behind n (Some k) dots = Some k
dots_behind n None dots = option_map (λ k. k + n) dots

pub no_dots : (n : ℕ) (k : Option ℕ) → k ≡ dots_behind n k None
no_dots n None = refl
no_dots n (Some k) = refl

pub dots_here : (ids : List PatId) (k d : Option ℕ)
    → dots_behind (length ids) (forms.dots_after ids k) d ≡ dots_behind (length ids) k (Some 0)
dots_here ids None d = let here : length ids ≡ 0 + length ids = omega arith in ap Some here
dots_here ids (Some k) d = refl

pub one_further : (ids : List PatId) (i : PatId) (k d : Option ℕ)
    → dots_behind (length (ids ++ i ∷ [])) k d ≡ dots_behind (length ids) k (option_map suc d)
one_further ids i (Some k) d = refl
one_further ids i None None = refl
one_further ids i None (Some k) = ap Some (let n = length-append ids (i ∷ []) in omega arith)

-- whether a pattern is two dots, said on both sides
abbrev pub IsDots : Pat → Type 0
IsDots p = (forms.is_dots p ≡ true) × (written.is_dots p ≡ true) × ((us : FirstUses) → written.uses_after p us ≡ us)

abbrev pub IsPart : Pat → Type 0
IsPart p = (forms.is_dots p ≡ false) × (written.is_dots p ≡ false)

pub dots_or_part : (p : Pat) → IsDots p ⊎ IsPart p
dots_or_part (tree.leaf_pat at tree.rest_leaf) = inl (refl, refl, λ us. refl)
dots_or_part (tree.leaf_pat at tree.wild_leaf) = inr (refl, refl)
dots_or_part (tree.leaf_pat at tree.not_null_leaf) = inr (refl, refl)
dots_or_part (tree.leaf_pat at tree.broken_leaf) = inr (refl, refl)
dots_or_part (tree.bind_pat at u _ sub) = inr (refl, refl)
dots_or_part (tree.name_pat at u _) = inr (refl, refl)
dots_or_part (tree.path_pat at p) = inr (refl, refl)
dots_or_part (tree.tuple_struct_pat at p comma ps) = inr (refl, refl)
dots_or_part (tree.tuple_pat at comma ps) = inr (refl, refl)
dots_or_part (tree.record_pat at p fs dots) = inr (refl, refl)
dots_or_part (tree.or_pat at ps) = inr (refl, refl)
dots_or_part (tree.paren_pat at p) = inr (refl, refl)
dots_or_part (tree.macro_pat at c p) = inr (refl, refl)
dots_or_part (tree.barred_pat at) = inr (refl, refl)
dots_or_part (tree.slice_pat at before middle behind) = inr (refl, refl)
dots_or_part (tree.over_pat at form p) = inr (refl, refl)
dots_or_part (tree.literal_pat at own l) = inr (refl, refl)
dots_or_part (tree.range_pat at op start end) = inr (refl, refl)
