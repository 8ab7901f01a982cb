-- A pattern that doesn't bind a name leaves its state.
use Rattle.std.proofs.Common.{◌≡◌, ℕ, Bool, true, false, refl, ◌∙◌, ap, ◌||◌}
use Rattle.hir_binding.specs.declared.binding.Mark.TheVariants.{Unseen}
use Rattle.hir_binding.specs.Uses.{Uses, name_use, product, alternatives, Parts, no_parts, more_parts}
use Rattle.hir_binding.specs.Steps.{over_all, Tracked, enter_first, left, after, after_parts, after_alternatives, after_later}
use Rattle.hir_binding.proofs.Summary.{binds, binds_some}

neither : (a b : Bool) → a || b ≡ false → (a ≡ false) × (b ≡ false)
neither true b e = cc
neither false b e = (refl, e)

-- the name isn't seen in the set at hand
abbrev unseen_in : Bool → Tracked → Tracked
unseen_in later s = record s { here = record { mark = Unseen; later = later } }

mutual
  pub unused : (k : ℕ) (t : Uses) (s : Tracked) → binds k t ≡ false → after over_all k t s ≡ s
  unused k (name_use n m) s e = rw e refl
  unused k (product ps) s e = unused_parts k ps s e
  unused k (alternatives ps) s e = unused_alternatives k ps s e

  unused_parts : (k : ℕ) (ps : Parts) (s : Tracked) → binds_some k ps ≡ false → after_parts over_all k ps s ≡ s
  unused_parts k no_parts s e = refl
  unused_parts k (more_parts p ps) s e = let h = neither (binds k p) (binds_some k ps) e in ap (λ x. after_parts over_all k ps x)
      (unused k p s h.0) ∙ unused_parts k ps s h.1

  unused_alternatives : (k : ℕ) (ps : Parts) (s : Tracked) → binds_some k ps ≡ false → after_alternatives over_all k ps s ≡ s
  unused_alternatives k no_parts s e = refl
  unused_alternatives k (more_parts p ps) s e =
      let h = neither (binds k p) (binds_some k ps) e in
      ap (λ x. left over_all (after_later over_all k ps x)) (unused k p (enter_first s) h.0) ∙ unused_later k ps s false h.1

  unused_later : (k : ℕ) (ps : Parts) (s : Tracked) (later : Bool) → binds_some k ps ≡ false →
      left over_all (after_later over_all k ps (unseen_in later (enter_first s))) ≡ s
  unused_later k no_parts s later e = refl
  unused_later k (more_parts p ps) s later e =
      let h = neither (binds k p) (binds_some k ps) e in
      ap (λ x. left over_all (after_later over_all k ps x)) (unused k p (unseen_in true (enter_first s)) h.0) ∙ unused_later k ps s true h.1
