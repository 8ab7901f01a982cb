-- The constants among arguments, as a visitor is handed the parts of these.
use Rattle.std.proofs.Common.{◌≡◌, ◌∙◌, refl, sym, ap, true, ◌++◌}
use Rattle.hir_store.specs.Handed.{handed}
use Rattle.hir_store.specs.Parts.{Parts, no_parts, type_and, lifetime_and, args_and}
use Rattle.hir_store.specs.declared.ids.ExprId.{ExprId}
use Rattle.hir_store.specs.declared.path.GenericArgs.{GenericArgs}
use Rattle.hir_walks.specs.Pats.{taken}
use Rattle.hir_walks.specs.Exprs.{constants_in, own_constants}
use Rattle.hir_walks.proofs.PatLemmas.{taken_append}

module _ {U V : Type 0} (get : U → V) (put : U → V → U) (f : V → ExprId → V) (step : U → GenericArgs → U) where
  abbrev hand : Parts → U → U
  hand = handed (λ u t. u) (λ u l. u) step (λ u a. true)

  handed_put : (ps : Parts) (u : U) (v : V) → ((w : V) (a : GenericArgs) → step (put u w) a ≡ put u (taken f (own_constants a) w))
      → hand ps (put u v) ≡ put u (taken f (constants_in ps) v)
  handed_put no_parts u v steps = refl
  handed_put (type_and t ps) u v steps = handed_put ps u v steps
  handed_put (lifetime_and l ps) u v steps = handed_put ps u v steps
  handed_put (args_and a inside ps) u v steps =
      let w = taken f (own_constants a) v in
      ap (λ s. hand ps (hand inside s)) (steps v a)
      ∙ (ap (hand ps) (handed_put inside u w steps)
      ∙ (handed_put ps u (taken f (constants_in inside) w) steps
      ∙ ap (put u) (sym (taken_append f (own_constants a) (constants_in inside ++ constants_in ps) v
      ∙ taken_append f (constants_in inside) (constants_in ps) w))))

  pub handed_within : (ps : Parts) (u : U) → u ≡ put u (get u)
      → ((w : V) (a : GenericArgs) → step (put u w) a ≡ put u (taken f (own_constants a) w))
      → hand ps u ≡ put u (taken f (constants_in ps) (get u))
  handed_within ps u same steps = ap (hand ps) same ∙ handed_put ps u (get u) steps
