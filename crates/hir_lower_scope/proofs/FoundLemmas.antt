-- The search goes from what is met to what is met next.
use Rattle.std.proofs.Common.{◌≡◌, refl, subst, ℕ, zero, suc, List, Option, None, Some}
use Rattle.std.specs.Prelude.{IfSome}
use Rattle.std.proofs.lemmas.Option.{same_Some}
use Rattle.hir_store.specs.declared.name.Name.{Name}
use Rattle.hir_store.specs.declared.ids.CtxId.{CtxId}
use Rattle.hir_store.specs.declared.ids.HygieneId.{HygieneId}
use Rattle.hir_store.specs.declared.ids.LabelId.{LabelId}
use Rattle.hir_store.specs.declared.ids.MacroDefId.{MacroDefId}
use Rattle.hir_env.specs.Answers.{Contexts}
use Rattle.hir_lower_scope.specs.ScopeRibs.{Rib}
use Rattle.hir_lower_scope.specs.Depths.{IsDeepest}
use Rattle.hir_lower_scope.specs.Ribs.{rib_at, is_met}
use Rattle.hir_lower_scope.specs.Walk.{Asked, EndsAfter}
use Rattle.hir_lower_scope.specs.declared.found.Wanted.{Wanted}
use Rattle.hir_lower_scope.proofs.WalkLemmas.{none≢some, outer_in}

module _ (contexts : Contexts) where
  asked_is : (h : HygieneId) (o : Option CtxId) (m : Option MacroDefId)
      → Asked contexts (record { hygiene = h; context = o; outer = m }) → m ≡ outer_in contexts o
  asked_is h None m a = a
  asked_is h (Some c) m a = a

  -- what is met, by the context
  pub met_by : (name : Name) (below : ℕ) (rs : List (Rib LabelId)) (w : Wanted) → Asked contexts w → (o : Option ℕ)
      → IsDeepest (λ q. is_met name w.hygiene w.outer (rib_at q rs)) below o
      → IsDeepest (λ q. is_met name w.hygiene (outer_in contexts w.context) (rib_at q rs)) below o
  met_by name below rs w a o h =
      subst (λ m. IsDeepest (λ q. is_met name w.hygiene m (rib_at q rs)) below o) (asked_is w.hygiene w.context w.outer a) h

  -- a climb is a step of the chain
  pub ends_on : (j : ℕ) (o : Option CtxId) (c : CtxId) → o ≡ Some c → (contexts.outer_macro c ≡ None → ⊥) → EndsAfter contexts j o
      → (i : ℕ) × ((j ≡ suc i) × EndsAfter contexts i (Some (contexts.parent c)))
  ends_on j o c e came ends = by j (subst (EndsAfter contexts j) e ends)
    where
      by : (j : ℕ) → EndsAfter contexts j (Some c) → (i : ℕ) × ((j ≡ suc i) × EndsAfter contexts i (Some (contexts.parent c)))
      by zero ends = absurd (came ends)
      by (suc i) ends = (i, (refl, ends))

pub if_some : {A : Type 0} (P : A → Type 0) (o : Option A) (a : A) → o ≡ Some a → IfSome o P → P a
if_some P None a e p = absurd (none≢some a e)
if_some P (Some b) a e p = subst P (same_Some b a e) p
