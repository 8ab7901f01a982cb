-- What is answered where an item is lowered from nothing.
use Rattle.std.proofs.Common.{◌≡◌, ◌≢◌, ◌∙◌, ap, subst, ℕ, Ok, Err}
use Rattle.std.specs.Prelude.{IsErrOf}
use Rattle.hir_store.specs.Stored.{Store, SourceMap, Stored, map_of, store_of}
use Rattle.hir_store.specs.declared.error.StoreError.{StoreError}
use Rattle.hir_store.specs.declared.error.StoreError.TheVariants.{Memory, Full}
use Rattle.hir_store.specs.declared.generics.GenericParams.{GenericParams}
use Rattle.hir_env.specs.declared.ctx.LowerCtx.{LowerCtx}
use Rattle.hir_lower_builder.specs.Builder.{Builder, new_builder}
use Rattle.hir_lower_builder.specs.Lowering.{Lowering, SomeEnd}
use Rattle.hir_lower_builder.specs.declared.generics.GenericLists.{GenericLists}
use Rattle.hir_lower_builder.specs.declared.generics.SideOutput.{SideOutput}
use Rattle.hir_lower_item.specs.Kinds.{finished}
use Rattle.hir_lower.specs.Calls.{refusal}
use Rattle.hir_lower.specs.Items.{ItemFromNothing}
use Rattle.hir_lower.specs.Roots.{RefusedAtEnd}
use Rattle.hir_lower.specs.declared.error.LowerError.{LowerError}
use Rattle.hir_lower.specs.declared.error.LowerError.TheVariants as refused

-- the steps are those of a place
module _ {A : Type 0} (steps : LowerCtx → Lowering A) {limit : ℕ} {place outside : LowerCtx} {old new : Builder} where
  pub made_from : (made_of : SideOutput → GenericLists) {answer : A} {params : GenericParams} {stored : Stored} {tracks : SideOutput}
      {store : Store}
      {source_map : SourceMap} → place ≡ outside → old ≡ new_builder limit → steps place old ≡ (Ok answer, new) → stored ≡ new.stored
      → tracks ≡ new.tracks → params ≡ finished (made_of tracks) → store ≡ store_of stored → source_map ≡ map_of stored
      → ItemFromNothing (steps outside) made_of limit answer params store source_map
  made_from made_of {answer = answer} at none is stored_is tracks_are params_are store_is map_is = record {
    builder = new;
    done = subst (λ b. steps outside b ≡ (Ok answer, new)) none (subst (λ p. steps p old ≡ (Ok answer, new)) at is);
    params_are = params_are ∙ ap (λ n. finished (made_of n)) tracks_are;
    store_is = store_is ∙ ap store_of stored_is;
    source_map_is = map_is ∙ ap map_of stored_is;
  }

  pub refused_from : {T : Type 0} (f : StoreError) (e : LowerError) → place ≡ outside → old ≡ new_builder limit
      → (f ≢ Memory → (steps place old ≡ (Err f, new)) × SomeEnd new) → e ≡ refusal f → IsErrOf {T = T} (Err e) refused.Full
      → RefusedAtEnd (steps outside) limit
  refused_from Memory e at none h r is = cc
  refused_from Full e at none h r is =
      let other : Full ≢ Memory = λ m. cc in
      let g = h other in
      record {
        builder = new;
        refused = subst (λ b. steps outside b ≡ (Err Full, new)) none (subst (λ p. steps p old ≡ (Err Full, new)) at g.0);
        at_end = g.1;
      }
