-- What is known of the names, the dots and the alternatives of patterns.
use Rattle.std.proofs.Common.{◌≡◌, refl, sym, ap, ℕ, true, arith, List, [], ◌∷◌, Option, Some, None, true≢false}
use Rattle.hir_store.specs.declared.ids.BindingId.{BindingId}
use Rattle.hir_env.specs.ResolvedTree as tree
use Rattle.hir_env.specs.ResolvedTree.{Pat, Pats}
use Rattle.spec_data.specs.Patterns.{is_dots}
use Rattle.spec_data.specs.Uses.{FirstUses}
use Rattle.hir_lower_builder.specs.Pats.{Key, key_of, Table, no_names}
use Rattle.thm_logic.specs.PatNames.{names_after}
use Rattle.thm_logic.proofs.TupleDots as parts

-- names

-- the names that have a binding are these, in the same order
abbrev pub AreKeyed : FirstUses → List (Key × BindingId) → Type 0
AreKeyed [] [] = Unit {0}
AreKeyed (u ∷ us) (e ∷ es) = (e.0 ≡ key_of u) × AreKeyed us es
AreKeyed [] (e ∷ es) = ⊥
AreKeyed (u ∷ us) [] = ⊥

pub record Keyed (us : FirstUses) (t : Table) : Type 0 where
  pub each : AreKeyed us t.bindings

pub none_keyed : Keyed [] no_names
none_keyed = record { each = tt }

-- parts of tuples, and alternatives

-- two dots use no name
pub dots_use_none : (p : Pat) → is_dots p ≡ true → (us : FirstUses) → names_after p us ≡ us
dots_use_none (tree.leaf_pat at form) e us = refl
dots_use_none p e us = absurd (true≢false (sym e))

-- the place of dots among parts behind none
pub from_none : (d : Option ℕ) → parts.dots_behind 0 None d ≡ d
from_none None = refl
from_none (Some n) = ap Some (omega arith)

-- of so many alternatives as there are patterns
abbrev pub AsMany : {A : Type 0} → Pats → List A → Type 0
AsMany tree.no_pats [] = Unit {0}
AsMany tree.no_pats (x ∷ xs) = ⊥
AsMany (tree.more_pats p ps) [] = ⊥
AsMany (tree.more_pats p ps) (x ∷ xs) = AsMany ps xs
AsMany (tree.tracked_pats called ps) xs = AsMany ps xs
