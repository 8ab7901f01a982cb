-- Small closures and functions that are coroutines.
use Rattle.std.proofs.Common.{◌≡◌, ◌∙◌, refl, ap, subst, Bool, true, false, List, [], ◌∷◌, ◌++◌, Some, None}
use Rattle.hir_binding.specs.declared.binding.BindingAnnotation.TheVariants.{Mutable}
use Rattle.hir_store.specs.Stored.{Store, SourceMap}
use Rattle.hir_store.specs.declared.hir.ClosureKind.TheVariants as closure
use Rattle.hir_store.specs.declared.hir.CoroutineKind.{CoroutineKind}
use Rattle.hir_store.specs.declared.hir.Expr.TheVariants as hir
use Rattle.hir_store.specs.declared.hir.Statement.{Statement}
use Rattle.hir_store.specs.declared.ids.ExprId.{ExprId}
use Rattle.hir_store.specs.declared.ids.LabelId.{LabelId}
use Rattle.hir_store.specs.declared.ids.PatId.{PatId}
use Rattle.spec_data.specs.Closures.{capture_of}
use Rattle.spec_data.specs.Data.{PatData}
use Rattle.spec_data.specs.Patterns.{written_pat}
use Rattle.spec_semantics.specs.Small.{label_a}
use Rattle.thm_body_result.specs.Forms.{path_of_name}
use Rattle.thm_body_result.specs.Leads.{Mapping}
use Rattle.thm_body_result.specs.Corresponds.{Corresponds, opened}
use Rattle.thm_body_result.specs.CorrespondsPreludes.{Named, CorrespondsHanded, CorrespondsLets}
use Rattle.thm_body_result.specs.ExamplePreludes.{CoroutineClosures, IsCoroutineClosure, OwnersOfCoroutines, async_break, plain_x}

-- what stands for one

module _ (store : Store) (source_map : SourceMap) where
  -- `let`s of one parameter
  pub single : (y : PatData) (xs : List Named) (is : List PatId) (ss : List Statement) (ws : List Mapping)
      → CorrespondsLets store source_map xs (y ∷ []) is ss ws → (x : Named) × (q : PatId) × (xs ≡ x ∷ []) × (is ≡ q ∷ [])
  single y [] is ss ws h = absurd h
  single y (x ∷ xs) [] ss ws h = absurd h
  single y (x ∷ []) (q ∷ []) ss ws h = (x, q, refl, refl)
  single y (x ∷ []) (q ∷ p ∷ is) ss ws h = absurd h.4.second
  single y (x ∷ z ∷ xs) (q ∷ is) ss ws h = absurd h.4.second

is_coroutine_closure : (moves : Bool) (kind : CoroutineKind) (outer : LabelId) (store : Store) (source_map : SourceMap) (i : ExprId)
    (ws : List Mapping) → Corresponds store source_map (opened label_a outer []) (async_break kind moves) i ws
    → IsCoroutineClosure kind (capture_of moves) store source_map i
is_coroutine_closure moves kind outer store source_map i ws x =
    let h = x.2 in
    let y = written_pat plain_x in
    let within = h.11.first.2 in
    let inner = within.second.second in
    let body = inner.first in
    let front = inner.second in
    let one = single store source_map y h.3 h.0.0 h.4 front.left front.first in
    let lets = subst (λ is. CorrespondsLets store source_map (one.0 ∷ []) (y ∷ []) is h.4 front.left) one.3
    (subst (λ xs. CorrespondsLets store source_map xs (y ∷ []) h.0.0 h.4 front.left) one.2 front.first) in
    let own = lets.4.first in
    let formals = subst (λ xs. CorrespondsHanded store source_map xs (y ∷ []) h.7 h.11.second.left) one.2 h.11.second.first in
    let bind = formals.3.first in
    let is = formals.2 ∙ ap (λ os. formals.0 ∷ os) formals.3.second.0 in
    let front_is = lets.2 ∙ (λ j. own.1 j ++ lets.4.second.0 j) in
    record {
      formal = formals.0;
      types = h.0.1;
      ret = h.1;
      coroutine = h.6;
      block = h.5;
      written = one.1;
      value = own.0;
      body = h.2;
      binding = bind.0;
      whole = h.8.stored ∙ ap (λ fs. Some (hir.Closure fs h.0.1 h.1 h.6 (closure.CoroutineClosure kind) (capture_of moves))) is;
      behind = h.9;
      around = h.10.around.stored;
      inside = h.10.inside.stored ∙ ap (λ ss. Some (hir.Block false None None ss (Some h.2))) front_is;
      from_none = h.10.inside.source;
      reads = own.2.0.stored ∙ ap (λ x. Some (hir.Path (path_of_name x.name) x.hygiene)) lets.3;
      breaks = body.1.stored ∙ ap (λ v. Some (hir.Break None v)) body.2.first.0;
      binds = bind.1.stored;
      from = bind.1.source;
      bound = bind.2 ∙ ap (λ x. Some (record { name = x.name; mode = Mutable; hygiene = x.hygiene; problems = None })) lets.3;
    }

pub coroutine_closures : CoroutineClosures
coroutine_closures = record {
  moves = is_coroutine_closure true;
  refers = is_coroutine_closure false;
  unreachable = λ kind moves. refl;
  plain = λ kind. refl;
  between = λ kind. refl;
  led = λ kind. refl;
  named = λ kind. refl;
  unnamed = λ kind. refl;
  parameters_first = λ kind moves. refl;
}

-- what owns bindings

pub owners_of_coroutines : OwnersOfCoroutines
owners_of_coroutines = record {
  of_closure = λ kind moves. refl;
  of_between = λ kind moves. refl;
  innermost = λ kind moves. refl;
  of_function = λ kind. refl;
}
