-- What is claimed of an item that is lowered from nothing.
use Rattle.std.proofs.Common.{◌≡◌, ◌∙◌, refl, sym, ap, subst, ℕ, List, [], Result, Ok, Err}
use Rattle.std.specs.Prelude.{IfOk}
use Rattle.hir_store.specs.Params.{early_among}
use Rattle.hir_store.specs.Stored.{Store, SourceMap, map_of, store_of}
use Rattle.hir_store.specs.declared.error.StoreError.TheVariants.{Full}
use Rattle.hir_store.specs.declared.generics.GenericParams.{GenericParams}
use Rattle.hir_store.specs.declared.generics.LifetimeParamData.{LifetimeParamData}
use Rattle.hir_store.proofs.Extending.{extends_refl}
use Rattle.hir_lower_builder.specs.Builder.{Builder, new_builder}
use Rattle.hir_lower_builder.specs.Lowering.{Lowering}
use Rattle.hir_lower_builder.specs.declared.generics.GenericLists.{GenericLists}
use Rattle.hir_lower_builder.specs.declared.generics.SideOutput.{SideOutput}
use Rattle.hir_lower_item.specs.Kinds.{finished}
use Rattle.thm_logic.specs.Keeps.{Paired}
use Rattle.thm_item_generics.specs.Asked.{IsAsked, Stand}
use Rattle.thm_item_generics.specs.AskedFold.{Asks}
use Rattle.thm_item_generics.specs.Fold.{ItemTracking}
use Rattle.thm_item_generics.specs.Theorems.{Made}
use Rattle.thm_item_result.specs.Answers.{Answers}
use Rattle.thm_item_result.specs.Apart.{KeepsApart}
use Rattle.thm_item_result.specs.Fits.{Refused}
use Rattle.thm_item_result.specs.Parts.{Part}
use Rattle.thm_item_result.specs.Sizes.{ItemTooLarge}
use Rattle.hir_lower.specs.ItemParams.{ParamsAre}
use Rattle.hir_lower.specs.Items.{ItemFromNothing}
use Rattle.hir_lower.specs.Means.{MadeOnce}
use Rattle.hir_lower.specs.Roots.{RefusedAtEnd}
use Rattle.hir_lower.specs.declared.error.LowerError.{LowerError}
use Rattle.hir_lower.proofs.GeneratedNames.{apart_from_nothing, once_if}

pub nothing_stored : (limit : ℕ) → Paired (new_builder limit).stored
nothing_stored limit = record { exprs = refl; labels = refl; pats = refl; types = refl; lifetimes = refl }

-- parameters and predicates, in the store that they are answered with

pub params_are : (n : ItemTracking) (lifetimes : List LifetimeParamData) (x : Asks) (limit : ℕ) (c : Builder) (g : GenericLists)
    → Made n lifetimes c.stored (finished g) → IsAsked x (new_builder limit) c → g.where_predicates ≡ c.tracks.generics.where_predicates
    → ParamsAre (store_of c.stored) (map_of c.stored) n lifetimes (x 0).asks (finished g)
params_are n lifetimes x limit c g m a same = record {
  params = m.params c.stored (extends_refl c.stored);
  lifetimes_are = m.lifetimes_are;
  counted = m.counted ∙ ap early_among m.lifetimes_are;
  predicates = subst (λ ps. Stand (store_of c.stored) (map_of c.stored) ps (x 0).asks) (sym (same ∙ a.predicates))
      (a.stand c.stored (extends_refl c.stored));
}

-- what the steps leave

module _ {A T : Type 0} (p : Lowering A) (made_of : SideOutput → GenericLists) (limit : ℕ) (answer : T → A) (params : T → GenericParams)
    (store : T → Store) (source_map : T → SourceMap) where
  -- whatever holds of it
  pub from_if : (R : GenericParams → Store → SourceMap → A → Type 0)
      → ((c : Builder) (a : A) → p (new_builder limit) ≡ (Ok a, c)
      → R (finished (made_of c.tracks)) (store_of c.stored) (map_of c.stored) a)
      → (r : Result T LowerError)
      → IfOk r (λ t. ItemFromNothing p made_of limit (answer t) (params t) (store t) (source_map t))
      → IfOk r (λ t. R (params t) (store t) (source_map t) (answer t))
  from_if R theorem (Ok t) h =
      let c = h.builder in
      subst (λ g. R g (store t) (source_map t) (answer t)) (sym h.params_are)
      (subst (λ s. R (finished (made_of c.tracks)) s (source_map t) (answer t)) (sym h.store_is)
      (subst (λ m. R (finished (made_of c.tracks)) (store_of c.stored) m (answer t)) (sym h.source_map_is) (theorem c (answer t) h.done)))
  from_if R theorem (Err e) h = tt

  pub reads_if : (R : Store → SourceMap → A → Type 0) → Answers R p → (r : Result T LowerError)
      → IfOk r (λ t. ItemFromNothing p made_of limit (answer t) (params t) (store t) (source_map t))
      → IfOk r (λ t. R (store t) (source_map t) (answer t))
  reads_if R theorem = from_if (λ g s m a. R s m a)
      (λ c a is. theorem (new_builder limit) c a (nothing_stored limit) is c.stored (extends_refl c.stored))

  pub made_once_if : KeepsApart p → (r : Result T LowerError)
      → IfOk r (λ t. ItemFromNothing p made_of limit (answer t) (params t) (store t) (source_map t)) → IfOk r (λ t. MadeOnce (store t) [])
  made_once_if theorem = from_if (λ g s m a. MadeOnce s [])
      (λ c a is. once_if c.names c.stored (theorem (new_builder limit) c a (nothing_stored limit) is (apart_from_nothing limit)))

pub item_too_large : {A : Type 0} (xs : List Part) (p : Lowering A) (limit : ℕ) → Refused xs p → RefusedAtEnd p limit
    → ItemTooLarge limit xs
item_too_large xs p limit theorem h = theorem limit h.builder Full h.refused
