-- Where each part of a pattern has a lower id, `pats_in` has all patterns inside a pattern, if these are no more than the store has.
use Rattle.std.proofs.Common.{arith, ◌≡◌, ◌∙◌, refl, ap, ◌<◌, ◌≤◌, ◌++◌, ℕ, zero, suc, List, [], ◌∷◌, Option, Some, None, length, take}
use Rattle.std.proofs.Common.{slice_get}
use Rattle.std.proofs.lemmas.List.{take_all}
use Rattle.std.specs.List.{flat_map}
use Rattle.hir_store.specs.declared.ids.PatId.{PatId}
use Rattle.hir_store.specs.declared.pat.Pat.{Pat}
use Rattle.hir_store.specs.Stored.{Store}
use Rattle.hir_walks.specs.Pats.{AllBelow, Descends, pat_children, pats_in, pats_to, with_parts}

each_same : (f g : PatId → List PatId) (n : ℕ) → ((j : PatId) → j.0 < n → f j ≡ g j) → (js : List PatId) → AllBelow n js
    → flat_map f js ≡ flat_map g js
each_same f g n same [] below = refl
each_same f g n same (j ∷ js) below =
    ap (λ is. is ++ flat_map f js) (same j below.0) ∙ ap (λ is. g j ++ is) (each_same f g n same js below.1)

parts_same : (store : Store) (f g : PatId → List PatId) (i : PatId) → Descends store → ((j : PatId) → j.0 < i.0 → f j ≡ g j)
    → (o : Option Pat) → slice_get store.pats i.0 ≡ o → with_parts store i f o ≡ with_parts store i g o
parts_same store f g i descends same None is = refl
parts_same store f g i descends same (Some p) is =
    ap (λ js. i ∷ js) (each_same f g i.0 same (pat_children p) (descends i p is))

-- more levels than the id counts have nothing more
pub same_levels : (store : Store) → Descends store → (d e : ℕ) (i : PatId) → i.0 < d → i.0 < e → pats_to store d i ≡ pats_to store e i
unfolding pats_to
same_levels store descends zero e i less more = absurd (omega (arith, less))
same_levels store descends (suc d) zero i less more = absurd (omega (arith, more))
same_levels store descends (suc d) (suc e) i less more =
    parts_same store (pats_to store d) (pats_to store e) i descends
    (λ j below. same_levels store descends d e j (omega (arith, below, less)) (omega (arith, below, more)))
    (slice_get store.pats i.0) refl

pub pats_in_whole : (store : Store) → Descends store → (i : PatId) → i.0 < length store.pats
    → length (pats_to store (suc i.0) i) ≤ length store.pats → pats_in store i ≡ pats_to store (suc i.0) i
pats_in_whole store descends i there few =
    ap (take (length store.pats)) (same_levels store descends (length store.pats) (suc i.0) i there (omega arith))
    ∙ take_all (length store.pats) (pats_to store (suc i.0) i) few
