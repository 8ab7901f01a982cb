-- What a closure or a function that is a coroutine tells: as much as its parts do, that of a closure behind a barrier.
use Rattle.std.proofs.Common.{◌∙◌, refl, ap, Bool, true, false, List, [], ◌∷◌, ◌++◌, Option, Some, None}
use Rattle.hir_store.specs.Bindings.{binding_id}
use Rattle.hir_store.specs.Pointers.{Pointer}
use Rattle.hir_store.specs.declared.hir.CoroutineKind.{CoroutineKind}
use Rattle.hir_store.specs.declared.hir.CoroutineSource.{CoroutineSource}
use Rattle.hir_store.specs.declared.hir.CoroutineSource.TheVariants as source
use Rattle.hir_store.specs.declared.hir.Statement.{Statement}
use Rattle.hir_store.specs.declared.ids.BindingId.{BindingId}
use Rattle.hir_store.specs.declared.ids.ExprId.{ExprId}
use Rattle.hir_store.specs.declared.ids.HygieneId.{HygieneId}
use Rattle.hir_store.specs.declared.ids.PatId.{PatId}
use Rattle.hir_store.specs.declared.ids.TypeRefId.{TypeRefId}
use Rattle.hir_store.specs.declared.name.Name.{Name}
use Rattle.hir_store.specs.declared.name.Name.TheVariants.{Generated}
use Rattle.hir_store.specs.declared.pat.Binding.{Binding}
use Rattle.hir_store.specs.declared.pat.Pat.{Pat}
use Rattle.hir_env.specs.ResolvedTree.{Formals, OptionExpr}
use Rattle.hir_lower_scope.specs.ScopeRibs.{barrier_rib}
use Rattle.hir_lower_scope.specs.Scopes.{Scope, barrier}
use Rattle.hir_lower_builder.specs.declared.closures.ClosureParams.{ClosureParams}
use Rattle.hir_lower_builder.specs.declared.preludes.Handed.{Handed}
use Rattle.hir_lower_builder.specs.declared.preludes.OwnName.{OwnName}
use Rattle.hir_lower_builder.specs.declared.preludes.Prelude.{Prelude}
use Rattle.hir_lower_builder.specs.Forms.{ExprSteps, root_hygiene}
use Rattle.hir_lower_builder.specs.Lower.{lower_part}
use Rattle.hir_lower_builder.specs.Lowering.{Lowering, owning}
use Rattle.hir_lower_builder.specs.Preludes as forms
use Rattle.hir_lower_builder.specs.Preludes.{alloc_beside, coroutine_closure_form, handed_as, handed_form, let_form, let_param, let_params}
use Rattle.hir_lower_builder.specs.Preludes.{let_self, lower_handed, made_coroutine_form, name_form, no_prelude, stored_coroutine_closure}
use Rattle.hir_lower_builder.specs.Preludes.{two_lets_form, within_form}
use Rattle.thm_logic.proofs.CoroutineClosures.{correct_coroutine_closure}
use Rattle.thm_logic.proofs.Owning.{with_owned}
use Rattle.thm_logic.proofs.PatSteps.{correct_alloc_beside, put_made_pat, source_in}
use Rattle.thm_logic.proofs.Preludes.{correct_binding_of, correct_own_name_of}
use Rattle.thm_logic.proofs.Steps.{Correct, correct_as}
use Rattle.thm_body_result.specs.Formals.{coroutine_body, each_formal, in_function, lower_self}
use Rattle.thm_body_result.proofs.PatEmitting.{emits_binding, emits_define, emits_number, emits_pat}
use Rattle.thm_body_result.proofs.Emission.{Listing, Emits, added_none, added_then, last_none, nothing, owning_emits, emits_alloc}
use Rattle.thm_body_result.proofs.Emission.{emits_bind}
use Rattle.thm_body_result.proofs.Emission.{emits_end, emits_pure}

module _ {X : Type 0} (L : Listing X) where
  -- preludes

  emits_own_name : (p : PatId) → Correct (forms.own_name_of p) (Emits L (nothing L))
  emits_own_name p = correct_as (correct_own_name_of p)
      (λ final ps m m' a g row. record { emitted = λ ss e. added_none L (ap (λ k. L.list k.stored) row.still) })

  emits_bound : (b : BindingId) → Correct (forms.binding_of b) (Emits L (nothing L))
  emits_bound b = correct_as (correct_binding_of b)
      (λ final ps m m' a g row. record { emitted = λ ss e. added_none L (ap (λ k. L.list k.stored) row.still) })

  emits_beside : (x : Pat) (p : PatId) → Correct (alloc_beside x p) (Emits L (nothing L))
  emits_beside x p = correct_as (correct_alloc_beside x p) (λ final ps m m' i g row. record {
    emitted = λ ss e. let after = put_made_pat x (source_in m.stored p) m.stored in
        added_none L (ap L.list row.stored ∙ L.unchanged m.stored after refl refl refl);
  })

  handed_emits : (x : Handed) → Correct (handed_form x) (Emits L (nothing L))
  unfolding handed_form
  handed_emits x = emits_end L (emits_binding L _) (λ i. emits_end L (emits_beside _ x.pat)
      (λ p. emits_end L (emits_define L i p) (λ u. emits_pure L p)))

  name_emits : (n : Name) (h : HygieneId) → Correct (name_form n h) (Emits L (nothing L))
  unfolding name_form
  name_emits n h = emits_alloc L _ None

  let_emits : (x : Handed) (p : PatId) → Correct (let_form x p) (Emits L (nothing L))
  unfolding let_form
  let_emits x p = emits_end L (name_emits x.name x.hygiene) (λ e. emits_pure L _)

  two_lets_emit : (x : Handed) (p : PatId) → Correct (two_lets_form x p) (Emits L (nothing L))
  unfolding two_lets_form
  two_lets_emit x p = emits_end L (handed_emits x) (λ q. emits_end L (name_emits x.name x.hygiene)
      (λ e. emits_end L (name_emits x.name x.hygiene) (λ f. emits_pure L _)))

  between_emits : (done : Prelude) (p : PatId) (x : Handed) → Correct (forms.handed_between done p x) (Emits L (nothing L))
  unfolding forms.handed_between
  between_emits done p x = emits_end L (two_lets_emit x p) (λ ss. emits_pure L _)

  own_emits : (done : Prelude) (p : PatId) (alone : Bool) (x : Handed) → Correct (forms.handed_own done p alone x) (Emits L (nothing L))
  unfolding forms.handed_by_name
  own_emits done p true x = emits_end L (let_emits x p) (λ ss. emits_pure L _)
  own_emits done p false x = between_emits done p x

  in_emits : (done : Prelude) (p : PatId) (own : Option OwnName) → Correct (forms.handed_in done p own) (Emits L (nothing L))
  unfolding forms.handed_in
  in_emits done p (Some own) = own_emits done p own.is_alone (handed_as own.name own.hygiene p)
  in_emits done p None = emits_end L (emits_number L) (λ n. between_emits done p (handed_as (Generated n) root_hygiene p))

  let_param_emits : (done : Prelude) (p : PatId) → Correct (let_param done p) (Emits L (nothing L))
  unfolding let_param
  let_param_emits done p = emits_end L (emits_own_name p) (λ own. in_emits done p own)

  let_params_emit : (done : Prelude) (is : List PatId) → Correct (let_params done is) (Emits L (nothing L))
  let_params_emit done [] = emits_pure L done
  let_params_emit done (p ∷ is) = emits_end L (let_param_emits done p) (λ l. let_params_emit l is)

  lower_handed_emits : (done : List PatId) (xs : List Handed) → Correct (lower_handed done xs) (Emits L (nothing L))
  lower_handed_emits done [] = emits_pure L done
  lower_handed_emits done (x ∷ xs) = emits_end L (handed_emits x) (λ p. lower_handed_emits (done ++ p ∷ []) xs)

  rebound_emits : (b : BindingId) (x : Option Binding) → Correct (forms.rebound b x) (Emits L (nothing L))
  unfolding forms.rebind_form
  rebound_emits b None = emits_pure L _
  rebound_emits b (Some x) = emits_end L (emits_binding L _) (λ i. emits_end L (emits_pat L _ None)
      (λ p. emits_end L (emits_define L i p) (λ u. emits_end L (name_emits x.name x.hygiene) (λ e. emits_pure L _))))

  let_self_emits : (self : Option BindingId) → Correct (let_self self) (Emits L (nothing L))
  unfolding let_self
  let_self_emits None = emits_pure L _
  let_self_emits (Some b) = emits_end L (emits_bound b) (λ x. emits_end L (rebound_emits b x) (λ r. emits_pure L _))

  made_coroutine_emits : (kind : CoroutineKind) (from : CoroutineSource) (lets : List Statement) (body : ExprId)
      → Correct (made_coroutine_form kind from lets body) (Emits L (nothing L))
  unfolding made_coroutine_form
  made_coroutine_emits kind from lets body = emits_end L (emits_alloc L _ None) (λ b. emits_alloc L _ None)

  -- closures

  within_emits : (kind : CoroutineKind) {D E F : List Scope → List X} {p : Lowering ClosureParams} {t : Lowering (Option TypeRefId)}
      {e : ExprSteps} → Correct p (Emits L D) → Correct t (Emits L E) → Correct e (Emits L F)
      → Correct (within_form kind p t e) (Emits L (λ ss. D ss ++ (E ss ++ F ss)))
  unfolding within_form
  within_emits kind hp ht he = emits_bind L hp (λ l. emits_bind L ht (λ r. emits_end L he (λ i.
      emits_end L (let_params_emit no_prelude l.args)
      (λ k. emits_end L (made_coroutine_emits kind source.Closure k.lets i) (λ c. emits_pure L _)))))

  pub coroutine_closure_emits : (at : Pointer) (kind : CoroutineKind) (moves : Bool) {D E F : List Scope → List X}
      {p : Lowering ClosureParams} {t : Lowering (Option TypeRefId)} {e : ExprSteps} → Correct p (Emits L D) → Correct t (Emits L E)
      → Correct e (Emits L F) → Correct (owning (λ i. i) (coroutine_closure_form at kind moves p t e))
      (Emits L (λ ss. D (barrier ∷ ss) ++ (E (barrier ∷ ss) ++ F (barrier ∷ ss))))
  coroutine_closure_emits at kind moves hp ht he = owning_emits L (λ i. i) (correct_as
      (correct_coroutine_closure at kind moves _ _ _ (within_emits kind hp ht he) (λ xs. lower_handed_emits [] xs))
      (λ final ps m m' i g row.
      let w = row.within in
      let node = stored_coroutine_closure kind moves row.formals w in
      let same = L.unchanged row.left.stored (with_owned (binding_id m.bindings) w.coroutine row.left.stored) refl refl refl in record {
        emitted = λ ss e.
            let around = ap (λ y. barrier_rib ∷ y) e in
            let inside = barrier ∷ ss in
            let formals = added_then L (added_none L same) (row.in_formals.emitted inside around) in
            let last = added_none L (ap L.list row.made.stored ∙ L.expr node (Some at) row.handed.stored) in
            last_none L (added_then L (last_none L (added_then L (row.in_within.emitted inside around) formals)) last);
      }))

  -- functions

  module _ (kind : CoroutineKind) (skipped : Bool) (f : Formals) (e : OptionExpr) where
    pub coroutine_body_emits : {D E F : List Scope → List X} → Correct (lower_self f.receiver) (Emits L D)
        → Correct (each_formal skipped [] f.formals) (Emits L E) → Correct (lower_part e) (Emits L F)
        → Correct (coroutine_body kind skipped f e) (Emits L (λ ss. D ss ++ (E ss ++ F ss)))
    unfolding coroutine_body in_function
    coroutine_body_emits hs hf he = emits_bind L hs (λ self. emits_end L
        (owning_emits L (λ x. x.1.1) (emits_bind L hf (λ ps. emits_end L he (λ i. emits_end L (let_self_emits self)
        (λ begun. emits_end L (let_params_emit begun.1 ps)
        (λ l. emits_end L (made_coroutine_emits kind source.Fn l.lets i) (λ c. emits_pure L _)))))))
        (λ x. emits_end L (lower_handed_emits [] x.1.0) (λ ps. emits_pure L _)))
