-- What stands in front of the body of a closure that is a coroutine notes nothing, and the closure what its parts do.
use Rattle.std.proofs.Common.{refl, Bool, true, false, List, [], ◌∷◌, ◌++◌, Option, Some, None}
use Rattle.hir_store.specs.Pointers.{Pointer}
use Rattle.hir_store.specs.declared.hir.CoroutineKind.{CoroutineKind}
use Rattle.hir_store.specs.declared.hir.CoroutineSource.{CoroutineSource}
use Rattle.hir_store.specs.declared.hir.CoroutineSource.TheVariants as source
use Rattle.hir_store.specs.declared.hir.Statement.{Statement}
use Rattle.hir_store.specs.declared.ids.BindingId.{BindingId}
use Rattle.hir_store.specs.declared.ids.ExprId.{ExprId}
use Rattle.hir_store.specs.declared.ids.HygieneId.{HygieneId}
use Rattle.hir_store.specs.declared.ids.PatId.{PatId}
use Rattle.hir_store.specs.declared.ids.TypeRefId.{TypeRefId}
use Rattle.hir_store.specs.declared.name.Name.{Name}
use Rattle.hir_store.specs.declared.name.Name.TheVariants.{Generated}
use Rattle.hir_store.specs.declared.pat.Binding.{Binding}
use Rattle.hir_store.specs.declared.pat.Pat.{Pat}
use Rattle.hir_lower_builder.specs.declared.closures.ClosureParams.{ClosureParams}
use Rattle.hir_lower_builder.specs.declared.preludes.Handed.{Handed}
use Rattle.hir_lower_builder.specs.declared.preludes.OwnName.{OwnName}
use Rattle.hir_lower_builder.specs.declared.preludes.Prelude.{Prelude}
use Rattle.hir_lower_builder.specs.Forms.{ExprSteps, root_hygiene}
use Rattle.hir_lower_builder.specs.Lowering.{Lowering, owning}
use Rattle.hir_lower_builder.specs.Preludes as forms
use Rattle.hir_lower_builder.specs.Preludes.{alloc_beside, coroutine_closure_form, handed_as, handed_form, let_form, let_param, let_params}
use Rattle.hir_lower_builder.specs.Preludes.{let_self, lower_handed, made_coroutine_form, name_form, no_prelude, stored_coroutine_closure}
use Rattle.hir_lower_builder.specs.Preludes.{two_lets_form, within_form}
use Rattle.std.proofs.Common.{Ok, slice_get}
use Rattle.hir_store.specs.Pointers.{flat_option}
use Rattle.hir_store.specs.Stored.{Stored}
use Rattle.hir_lower_builder.specs.Preludes.{pat_source}
use Rattle.hir_store.proofs.Extending.{extends_refl}
use Rattle.spec_data.specs.Tracking.{Tracking, none, ◌⊕◌}
use Rattle.thm_generics.proofs.Logic.{SideOutput, tracked_none, tracks_begin, tracks_end, tracks_pure, tracks_then}
use Rattle.thm_generics.proofs.Steps.{tracks_binding, tracks_close_barrier, tracks_define, tracks_expr, tracks_made_number, tracks_made_pat}
use Rattle.thm_generics.proofs.Steps.{tracks_open_barrier}
use Rattle.thm_generics.proofs.Steps.{tracks_owning, tracks_pat}

-- preludes

-- what is only seen by what is stored
tracks_seen : {A : Type 0} (emits : Stored → A) → SideOutput none (λ b. (Ok (emits b.stored), b))
tracks_seen emits = record { at = λ b d. (d, tracked_none (λ p. p) (extends_refl b.stored) refl) }

pub tracks_own_name : (p : PatId) → SideOutput none (forms.own_name_of p)
unfolding forms.own_name_of
tracks_own_name p = tracks_seen (λ s. forms.own_in s (slice_get s.pats.entries p.0))

pub tracks_bound : (i : BindingId) → SideOutput none (forms.binding_of i)
unfolding forms.binding_of
tracks_bound i = tracks_seen (λ s. slice_get s.bindings.entries i.0)

tracks_source : (p : PatId) → SideOutput none (pat_source p)
unfolding pat_source
tracks_source p = tracks_seen (λ s. flat_option (slice_get s.pats.sources p.0))

pub tracks_beside : (x : Pat) (p : PatId) → SideOutput none (alloc_beside x p)
unfolding alloc_beside
tracks_beside x p = tracks_begin (tracks_source p) (λ at. tracks_made_pat x at)

handed_tracks : (x : Handed) → SideOutput none (handed_form x)
unfolding handed_form
handed_tracks x = tracks_end (tracks_binding _) (λ i. tracks_end (tracks_beside _ x.pat)
    (λ p. tracks_end (tracks_define i p) (λ u. tracks_pure p)))

name_tracks : (n : Name) (h : HygieneId) → SideOutput none (name_form n h)
unfolding name_form
name_tracks n h = tracks_expr _ None

let_tracks : (x : Handed) (p : PatId) → SideOutput none (let_form x p)
unfolding let_form
let_tracks x p = tracks_end (name_tracks x.name x.hygiene) (λ e. tracks_pure _)

two_lets_track : (x : Handed) (p : PatId) → SideOutput none (two_lets_form x p)
unfolding two_lets_form
two_lets_track x p = tracks_end (handed_tracks x) (λ q. tracks_end (name_tracks x.name x.hygiene)
    (λ e. tracks_end (name_tracks x.name x.hygiene) (λ f. tracks_pure _)))

between_tracks : (done : Prelude) (p : PatId) (x : Handed) → SideOutput none (forms.handed_between done p x)
unfolding forms.handed_between
between_tracks done p x = tracks_end (two_lets_track x p) (λ ss. tracks_pure _)

own_tracks : (done : Prelude) (p : PatId) (alone : Bool) (x : Handed) → SideOutput none (forms.handed_own done p alone x)
unfolding forms.handed_by_name
own_tracks done p true x = tracks_end (let_tracks x p) (λ ss. tracks_pure _)
own_tracks done p false x = between_tracks done p x

in_tracks : (done : Prelude) (p : PatId) (own : Option OwnName) → SideOutput none (forms.handed_in done p own)
unfolding forms.handed_in
in_tracks done p (Some own) = own_tracks done p own.is_alone (handed_as own.name own.hygiene p)
in_tracks done p None = tracks_end (tracks_made_number) (λ n. between_tracks done p (handed_as (Generated n) root_hygiene p))

let_param_tracks : (done : Prelude) (p : PatId) → SideOutput none (let_param done p)
unfolding let_param
let_param_tracks done p = tracks_end (tracks_own_name p) (λ own. in_tracks done p own)

let_params_track : (done : Prelude) (is : List PatId) → SideOutput none (let_params done is)
let_params_track done [] = tracks_pure done
let_params_track done (p ∷ is) = tracks_end (let_param_tracks done p) (λ l. let_params_track l is)

lower_handed_tracks : (done : List PatId) (xs : List Handed) → SideOutput none (lower_handed done xs)
lower_handed_tracks done [] = tracks_pure done
lower_handed_tracks done (x ∷ xs) = tracks_end (handed_tracks x) (λ p. lower_handed_tracks (done ++ p ∷ []) xs)

rebound_tracks : (b : BindingId) (x : Option Binding) → SideOutput none (forms.rebound b x)
unfolding forms.rebind_form
rebound_tracks b None = tracks_pure _
rebound_tracks b (Some x) = tracks_end (tracks_binding _) (λ i. tracks_end (tracks_pat _ None)
    (λ p. tracks_end (tracks_define i p) (λ u. tracks_end (name_tracks x.name x.hygiene) (λ e. tracks_pure _))))

let_self_tracks : (self : Option BindingId) → SideOutput none (let_self self)
unfolding let_self
let_self_tracks None = tracks_pure _
let_self_tracks (Some b) = tracks_end (tracks_bound b) (λ x. tracks_end (rebound_tracks b x) (λ r. tracks_pure _))

made_coroutine_tracks : (kind : CoroutineKind) (from : CoroutineSource) (lets : List Statement) (body : ExprId)
    → SideOutput none (made_coroutine_form kind from lets body)
unfolding made_coroutine_form
made_coroutine_tracks kind from lets body = tracks_end (tracks_expr _ None) (λ b. tracks_expr _ None)

-- closures

within_tracks : (kind : CoroutineKind) {D E F : Tracking} {p : Lowering ClosureParams} {t : Lowering (Option TypeRefId)}
    {e : ExprSteps} → SideOutput D p → SideOutput E t → SideOutput F e
    → SideOutput (D ⊕ (E ⊕ F)) (within_form kind p t e)
unfolding within_form
within_tracks kind hp ht he = tracks_then hp (λ l. tracks_then ht (λ r. tracks_end he (λ i.
    tracks_end (let_params_track no_prelude l.args)
    (λ k. tracks_end (made_coroutine_tracks kind source.Closure k.lets i) (λ c. tracks_pure _)))))

pub coroutine_closure_tracks : (at : Pointer) (kind : CoroutineKind) (moves : Bool) {D E F : Tracking}
    {p : Lowering ClosureParams} {t : Lowering (Option TypeRefId)} {e : ExprSteps} → SideOutput D p → SideOutput E t
    → SideOutput F e → SideOutput (D ⊕ (E ⊕ F)) (owning (λ i. i) (coroutine_closure_form at kind moves p t e))
unfolding coroutine_closure_form
coroutine_closure_tracks at kind moves hp ht he = tracks_owning (λ i. i) (tracks_begin tracks_open_barrier (λ outside.
    tracks_end (tracks_owning (λ w. w.coroutine) (within_tracks kind hp ht he))
    (λ w. tracks_begin (lower_handed_tracks [] w.handed)
    (λ ps. tracks_begin (tracks_close_barrier outside) (λ y. tracks_expr _ (Some at))))))
