-- Small trees with patterns, worked out.
use Rattle.std.proofs.Common.{◌≡◌, ◌∙◌, ◌⊎◌, inl, inr, refl, sym, ap, ℕ, List, [], ◌∷◌, ◌++◌, slice_get, Option, Some, None, option_map}
use Rattle.std.proofs.lemmas.Option.{same_Some, slice_get-map}
use Rattle.hir_binding.specs.declared.binding.BindingAnnotation.{BindingAnnotation}
use Rattle.hir_binding.specs.declared.binding.BindingAnnotation.TheVariants.{Unannotated}
use Rattle.hir_binding.specs.declared.binding.BindingProblems.{BindingProblems}
use Rattle.hir_binding.specs.declared.binding.BindingProblems.TheVariants.{BoundMoreThanOnce, BoundInconsistently, NotBoundAcrossAll}
use Rattle.hir_binding.specs.Rule.{BindsAs, Shows}
use Rattle.hir_binding.specs.Uses.{Uses}
use Rattle.hir_store.specs.Stored.{Store, SourceMap}
use Rattle.hir_store.specs.declared.ids.ExprId.{ExprId}
use Rattle.hir_store.specs.declared.ids.PatId.{PatId}
use Rattle.hir_store.specs.declared.pat.Pat.TheVariants as pat
use Rattle.spec_data.specs.Patterns.{written_uses}
use Rattle.spec_semantics.specs.Small.{at}
use Rattle.thm_body_result.specs.Leads.{Mapping, expr_mapping, binding_mapping}
use Rattle.thm_body_result.specs.Corresponds.{Corresponds}
use Rattle.thm_body_result.specs.CorrespondsReads.{made_for}
use Rattle.thm_body_result.specs.CorrespondsWhole.{CorrespondsTop}
use Rattle.thm_body_result.specs.Examples.{Assigns, BindsTwice, Patterned, assign_one, twice, use_x}
use Rattle.thm_body_result.proofs.Rows.{literal_stored}

abbrev names : Uses
names = written_uses twice

abbrev Same : ℕ → BindingAnnotation → ℕ → BindingAnnotation → Type 0
Same n l k m = (n ≡ k) × (l ≡ m)

-- each use has the mode of the first
abbrev InOne : BindingAnnotation → Type 0
InOne m = ⊥ ⊎ (Same 0 Unannotated 0 m ⊎ ⊥)

as_one : (m : BindingAnnotation) → InOne m → Unannotated ≡ m
as_one m (inl x) = absurd x
as_one m (inr (inl x)) = x.1
as_one m (inr (inr x)) = absurd x

as_first : (m : BindingAnnotation) → BindsAs 0 m names → Unannotated ≡ m
as_first m (inl x) = as_one m x
as_first m (inr (inl x)) = absurd x
as_first m (inr (inr (inl x))) = as_one m x
as_first m (inr (inr (inr x))) = absurd x

-- it can't show anything else
shows_twice : (o : Option BindingProblems) → Shows o 0 names → o ≡ Some BoundMoreThanOnce
shows_twice None h = absurd (h.once.0.0 (inr (inl refl)) (inr (inl (inr (inl refl)))))
shows_twice (Some BoundMoreThanOnce) h = refl
shows_twice (Some BoundInconsistently) h = absurd (h (λ m l x y. sym (as_first m x) ∙ as_first l y))
shows_twice (Some NotBoundAcrossAll) h = absurd (h ((tt, (tt, tt)), (tt, ((tt, (tt, tt)), tt))))

binds_twice : (store : Store) (source_map : SourceMap) (q : PatId) (ws : List Mapping) → CorrespondsTop store source_map [] twice q ws
    → BindsTwice store q ws
binds_twice store source_map q ws h =
    let ks = h.0 in
    let named = h.1 in
    let tuple = h.2 in
    let first = tuple.5 in
    let one = first.3.first in
    let second = first.3.second in
    let other = second.3.first in
    let none = second.3.second in
    let parts = tuple.4 ∙ (first.2 ∙ (ap (λ is. first.0 ∷ is) second.2 ∙ ap (λ is. first.0 ∷ second.0 ∷ is) none.0)) in
    let bound = one.3.second.0 in
    let same : other.0 ≡ one.0 = same_Some other.0 one.0 (sym other.3.second.0 ∙ bound) in
    let begins : Some (made_for store one.0) ≡ Some (Some use_x) =
    ap (λ o. option_map (made_for store) o) (sym bound)
    ∙ (sym (slice_get-map (made_for store) ks 0) ∙ ap (λ l. slice_get l 0) named.one_for_each) in
    record {
      one = one.0;
      first = first.0;
      second = second.0;
      dots = tuple.0;
      tuple = tuple.3 ∙ ap (λ is. Some (pat.Tuple tuple.0 is)) parts;
      first_binds = one.2 ∙ ap (λ o. Some (pat.Bind one.0 o)) one.3.first.0;
      second_binds = other.2 ∙ (ap (λ o. Some (pat.Bind other.0 o)) other.3.first.0 ∙ ap (λ b. Some (pat.Bind b None)) same);
      made = same_Some _ _ begins;
      shows = λ x there. shows_twice x.problems (named.shown 0 one.0 x bound there);
      mappings =
          let left = one.3.is ∙ (ap (λ l. l ++ one.3.right) one.3.first.1 ∙ one.3.second.1) in
          let middle = other.3.is ∙ (ap (λ l. l ++ other.3.right) other.3.first.1 ∙ other.3.second.1) in
          let right = second.3.is ∙ (ap (λ l. l ++ second.3.right) middle ∙ none.1) in
          first.3.is ∙ (ap (λ l. l ++ first.3.right) left ∙ ap (λ r. binding_mapping one.0 None ∷ r) right);
    }

assigns : (store : Store) (source_map : SourceMap) (i : ExprId) (ws : List Mapping) → Corresponds store source_map [] assign_one i ws
    → Assigns store i ws
assigns store source_map i ws h =
    let parts = h.3 in
    let place = parts.first.1 in
    let more = parts.second in
    let later = more.is ∙ (ap (λ l. l ++ more.right) more.first.2.1 ∙ ap (λ r. expr_mapping (at 2) h.1 ∷ r) more.second) in
    record {
      target = h.0;
      place = place.0;
      value = h.1;
      whole = h.2.stored;
      is_place = place.1;
      first = literal_stored store source_map (at 1) _ place.0 parts.left place.2;
      second = literal_stored store source_map (at 2) _ h.1 more.left more.first;
      mappings = parts.is ∙ (ap (λ l. l ++ parts.right) place.2.2.1 ∙ ap (λ r. expr_mapping (at 1) place.0 ∷ r) later);
    }

pub patterned : Patterned
patterned = record {
  binds_twice = binds_twice;
  last_shows = λ store source_map q ks named b x first there. named.is_last 0 b x first there;
  assigns = assigns;
}
