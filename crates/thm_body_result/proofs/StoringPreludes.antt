-- What hands arguments in stores neither types nor lifetimes, so a closure or a function that is a coroutine stores what its parts do.
use Rattle.std.proofs.Common.{ap, refl, Bool, true, false, List, [], ◌∷◌, ◌++◌, Option, Some, None}
use Rattle.hir_store.specs.Pointers.{Pointer}
use Rattle.hir_store.specs.declared.hir.CoroutineKind.{CoroutineKind}
use Rattle.hir_store.specs.declared.hir.CoroutineSource.{CoroutineSource}
use Rattle.hir_store.specs.declared.hir.CoroutineSource.TheVariants as source
use Rattle.hir_store.specs.declared.hir.Statement.{Statement}
use Rattle.hir_store.specs.declared.ids.BindingId.{BindingId}
use Rattle.hir_store.specs.declared.ids.ExprId.{ExprId}
use Rattle.hir_store.specs.declared.ids.HygieneId.{HygieneId}
use Rattle.hir_store.specs.declared.ids.PatId.{PatId}
use Rattle.hir_store.specs.declared.ids.TypeRefId.{TypeRefId}
use Rattle.hir_store.specs.declared.name.Name.{Name}
use Rattle.hir_store.specs.declared.name.Name.TheVariants.{Generated}
use Rattle.hir_store.specs.declared.pat.Binding.{Binding}
use Rattle.hir_store.specs.declared.pat.Pat.{Pat}
use Rattle.hir_env.specs.ResolvedTree.{Formals, OptionExpr}
use Rattle.hir_lower_builder.specs.declared.closures.ClosureParams.{ClosureParams}
use Rattle.hir_lower_builder.specs.declared.preludes.Handed.{Handed}
use Rattle.hir_lower_builder.specs.declared.preludes.OwnName.{OwnName}
use Rattle.hir_lower_builder.specs.declared.preludes.Prelude.{Prelude}
use Rattle.hir_lower_builder.specs.Forms.{ExprSteps, root_hygiene}
use Rattle.hir_lower_builder.specs.Lower.{lower_part}
use Rattle.hir_lower_builder.specs.Lowering.{Lowering, made_number, owning}
use Rattle.hir_lower_builder.specs.Preludes as forms
use Rattle.hir_lower_builder.specs.Preludes.{alloc_beside, coroutine_closure_form, handed_as, handed_form, let_form, let_param, let_params}
use Rattle.hir_lower_builder.specs.Preludes.{let_self, lower_handed, made_coroutine_form, name_form, no_prelude, two_lets_form, within_form}
use Rattle.thm_logic.proofs.CoroutineClosures.{correct_coroutine_closure}
use Rattle.thm_logic.proofs.MadeSteps.{correct_made_number}
use Rattle.thm_logic.proofs.PatSteps.{correct_alloc_beside}
use Rattle.thm_logic.proofs.Preludes.{correct_binding_of, correct_own_name_of}
use Rattle.thm_logic.proofs.Steps.{Correct, correct_as}
use Rattle.thm_body_result.specs.Formals.{coroutine_body, each_formal, in_function, lower_self}
use Rattle.thm_body_result.specs.StoredData.{StoredData, and_then, no_data}
use Rattle.thm_body_result.proofs.StoreSink.{Stores, binding_stores, data_of, define_stores, expr_stores, more_end, more_last}
use Rattle.thm_body_result.proofs.StoreSink.{owning_stores}
use Rattle.thm_body_result.proofs.StoreSink.{pat_stores, pure_stores, still, stores_end, stores_then}

pub number_stores : Correct made_number (Stores no_data)
number_stores = still correct_made_number (λ final ps m m' n row. ap data_of row.stored)

own_name_stores : (p : PatId) → Correct (forms.own_name_of p) (Stores no_data)
own_name_stores p = still (correct_own_name_of p) (λ final ps m m' a row. ap (λ k. data_of k.stored) row.still)

bound_stores : (b : BindingId) → Correct (forms.binding_of b) (Stores no_data)
bound_stores b = still (correct_binding_of b) (λ final ps m m' a row. ap (λ k. data_of k.stored) row.still)

beside_stores : (x : Pat) (p : PatId) → Correct (alloc_beside x p) (Stores no_data)
beside_stores x p = still (correct_alloc_beside x p) (λ final ps m m' i row. ap data_of row.stored)

handed_stores : (x : Handed) → Correct (handed_form x) (Stores no_data)
unfolding handed_form
handed_stores x = stores_end (binding_stores _) (λ i. stores_end (beside_stores _ x.pat)
    (λ p. stores_end (define_stores i p) (λ u. pure_stores p)))

name_stores : (n : Name) (h : HygieneId) → Correct (name_form n h) (Stores no_data)
unfolding name_form
name_stores n h = expr_stores _ None

let_stores : (x : Handed) (p : PatId) → Correct (let_form x p) (Stores no_data)
unfolding let_form
let_stores x p = stores_end (name_stores x.name x.hygiene) (λ e. pure_stores _)

two_lets_store : (x : Handed) (p : PatId) → Correct (two_lets_form x p) (Stores no_data)
unfolding two_lets_form
two_lets_store x p = stores_end (handed_stores x) (λ q. stores_end (name_stores x.name x.hygiene)
    (λ e. stores_end (name_stores x.name x.hygiene) (λ f. pure_stores _)))

between_stores : (done : Prelude) (p : PatId) (x : Handed) → Correct (forms.handed_between done p x) (Stores no_data)
unfolding forms.handed_between
between_stores done p x = stores_end (two_lets_store x p) (λ ss. pure_stores _)

own_stores : (done : Prelude) (p : PatId) (alone : Bool) (x : Handed) → Correct (forms.handed_own done p alone x) (Stores no_data)
unfolding forms.handed_by_name
own_stores done p true x = stores_end (let_stores x p) (λ ss. pure_stores _)
own_stores done p false x = between_stores done p x

in_stores : (done : Prelude) (p : PatId) (own : Option OwnName) → Correct (forms.handed_in done p own) (Stores no_data)
unfolding forms.handed_in
in_stores done p (Some own) = own_stores done p own.is_alone (handed_as own.name own.hygiene p)
in_stores done p None = stores_end number_stores (λ n. between_stores done p (handed_as (Generated n) root_hygiene p))

let_param_stores : (done : Prelude) (p : PatId) → Correct (let_param done p) (Stores no_data)
unfolding let_param
let_param_stores done p = stores_end (own_name_stores p) (λ own. in_stores done p own)

let_params_store : (done : Prelude) (is : List PatId) → Correct (let_params done is) (Stores no_data)
let_params_store done [] = pure_stores done
let_params_store done (p ∷ is) = stores_end (let_param_stores done p) (λ l. let_params_store l is)

handed_each_store : (done : List PatId) (xs : List Handed) → Correct (lower_handed done xs) (Stores no_data)
handed_each_store done [] = pure_stores done
handed_each_store done (x ∷ xs) = stores_end (handed_stores x) (λ p. handed_each_store (done ++ p ∷ []) xs)

rebound_stores : (b : BindingId) (x : Option Binding) → Correct (forms.rebound b x) (Stores no_data)
unfolding forms.rebind_form
rebound_stores b None = pure_stores _
rebound_stores b (Some x) = stores_end (binding_stores _) (λ i. stores_end (pat_stores _ None)
    (λ p. stores_end (define_stores i p) (λ u. stores_end (name_stores x.name x.hygiene) (λ e. pure_stores _))))

let_self_stores : (self : Option BindingId) → Correct (let_self self) (Stores no_data)
unfolding let_self
let_self_stores None = pure_stores _
let_self_stores (Some b) = stores_end (bound_stores b) (λ x. stores_end (rebound_stores b x) (λ r. pure_stores _))

made_coroutine_stores : (kind : CoroutineKind) (from : CoroutineSource) (lets : List Statement) (body : ExprId)
    → Correct (made_coroutine_form kind from lets body) (Stores no_data)
unfolding made_coroutine_form
made_coroutine_stores kind from lets body = stores_end (expr_stores _ None) (λ b. expr_stores _ None)

-- closures

module _ (kind : CoroutineKind) {c d e : StoredData} {p : Lowering ClosureParams} {t : Lowering (Option TypeRefId)} {b : ExprSteps} where
  within_stores : Correct p (Stores c) → Correct t (Stores d) → Correct b (Stores e)
      → Correct (within_form kind p t b) (Stores (and_then c (and_then d e)))
  unfolding within_form
  within_stores hp ht hb = stores_then hp (λ l. stores_then ht (λ r. stores_end hb (λ i.
      stores_end (let_params_store no_prelude l.args)
      (λ k. stores_end (made_coroutine_stores kind source.Closure k.lets i) (λ c. pure_stores _)))))

  pub coroutine_closure_stores : (at : Pointer) (moves : Bool) → Correct p (Stores c) → Correct t (Stores d) → Correct b (Stores e)
      → Correct (owning (λ i. i) (coroutine_closure_form at kind moves p t b)) (Stores (and_then c (and_then d e)))
  coroutine_closure_stores at moves hp ht hb = owning_stores (λ i. i) (correct_as
      (correct_coroutine_closure at kind moves _ _ _ (within_stores hp ht hb) (λ xs. handed_each_store [] xs))
      (λ final ps m m' i g row. more_end (more_last (more_end row.in_within refl) row.in_formals) (ap data_of row.made.stored)))

-- functions

pub coroutine_body_stores : (kind : CoroutineKind) (skipped : Bool) (f : Formals) (e : OptionExpr) {a b c : StoredData}
    → Correct (lower_self f.receiver) (Stores a) → Correct (each_formal skipped [] f.formals) (Stores b)
    → Correct (lower_part e) (Stores c) → Correct (coroutine_body kind skipped f e) (Stores (and_then a (and_then b c)))
unfolding coroutine_body in_function
coroutine_body_stores kind skipped f e hs hf he = stores_then hs (λ self. stores_end
    (owning_stores (λ x. x.1.1) (stores_then hf (λ ps. stores_end he (λ i. stores_end (let_self_stores self)
    (λ begun. stores_end (let_params_store begun.1 ps)
    (λ l. stores_end (made_coroutine_stores kind source.Fn l.lets i) (λ c. pure_stores _)))))))
    (λ x. stores_end (handed_each_store [] x.1.0) (λ ps. pure_stores _)))
