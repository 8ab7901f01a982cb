-- How much the `let`s store that stand in front of the body of a coroutine, and what the outside hands its parameters to: as much as it
-- is of what the written patterns are, by which they read back.
use Rattle.std.proofs.Common.{◌≡◌, ◌∙◌, sym, ap, subst, Bool, true, false, true≢false, List, [], ◌∷◌, ◌++◌, Option, Some, None}
use Rattle.hir_store.specs.Pointers.{Pointer}
use Rattle.hir_store.specs.Stored.{Stored}
use Rattle.hir_store.specs.StoreSink.{Extends}
use Rattle.hir_store.proofs.Extending.{extends_refl, extends_trans}
use Rattle.hir_store.specs.declared.hir.CoroutineKind.{CoroutineKind}
use Rattle.hir_store.specs.declared.hir.CoroutineSource.{CoroutineSource}
use Rattle.hir_store.specs.declared.hir.Statement.{Statement}
use Rattle.hir_store.specs.declared.ids.ExprId.{ExprId}
use Rattle.hir_store.specs.declared.ids.HygieneId.{HygieneId}
use Rattle.hir_store.specs.declared.ids.PatId.{PatId}
use Rattle.hir_store.specs.declared.name.Name.{Name}
use Rattle.hir_store.specs.declared.name.Name.TheVariants.{Generated}
use Rattle.hir_store.specs.declared.pat.Pat.{Pat}
use Rattle.hir_lower_builder.specs.declared.preludes.Handed.{Handed}
use Rattle.hir_lower_builder.specs.declared.preludes.OwnName.{OwnName}
use Rattle.hir_lower_builder.specs.declared.preludes.Prelude.{Prelude}
use Rattle.hir_lower_builder.specs.Forms.{root_hygiene}
use Rattle.hir_lower_builder.specs.Lowering.{alloc_desugared_pat}
use Rattle.hir_lower_builder.specs.Preludes as forms
use Rattle.hir_lower_builder.specs.Preludes.{alloc_beside, handed_as, handed_form, let_form, let_param, let_params, lower_handed}
use Rattle.hir_lower_builder.specs.Preludes.{made_coroutine_form, name_form, own_name_of, pat_source, two_lets_form}
use Rattle.thm_logic.specs.Keeps.{Paired}
use Rattle.thm_logic.proofs.Keeping.{any}
use Rattle.thm_logic.proofs.PatSteps.{correct_alloc_binding, source_in}
use Rattle.thm_logic.proofs.Preludes.{correct_handed, correct_let_param, own_at}
use Rattle.thm_logic.proofs.MadeSteps.{correct_made_number}
use Rattle.spec_data.specs.Data.{PatData}
use Rattle.spec_data.specs.Preludes.{handed_in, source_of}
use Rattle.thm_round_trip.proofs.Preludes.{HandIn, ReadAs, ReadsAs, by_alone, handed_alike, handed_of, source_alike}
use Rattle.thm_body_result.specs.PreludeRoom.{handed_size, let_size, lets_size, prelude_size, two_lets_size}
use Rattle.thm_body_result.specs.Size.{a_binding, a_made_pat, an_expr, ◌∪◌}
use Rattle.thm_body_result.proofs.Knowing.{Known, Lasting, TakesIf, takes_any, takes_if_end, takes_if_then}
use Rattle.thm_body_result.proofs.MadeRooms.{takes_number}
use Rattle.thm_body_result.proofs.Rooms.{Takes, takes_alloc, takes_binding, takes_define, takes_end, takes_made_pat, takes_pure, takes_then}
use Rattle.thm_body_result.proofs.Took.{Room}

-- what is known of patterns

-- the pattern came from this node, also in each later store
abbrev pub From : PatId → Option Pointer → Known
From p at s = (later : Stored) → Extends s later → Paired later → source_in later p ≡ at

pub from_lasts : (p : PatId) (at : Option Pointer) → Lasting (From p at)
from_lasts p at s t e h = λ later f. h later (extends_trans e f)

-- what it reads as tells that
pub reads_from : (s : Stored) (p : PatId) (y : PatData) → ReadsAs s p y → From p (source_of y) s
reads_from s p y h = λ later e d. source_alike later d p ∙ ap source_of (h later e)

-- so of each that is handed in
abbrev pub Froms : List Handed → List PatData → Known
Froms [] [] s = Unit {0}
Froms (x ∷ xs) (y ∷ ys) s = From x.pat (source_of y) s × Froms xs ys s
Froms xs ys s = ⊥

pub froms_last : (xs : List Handed) (ys : List PatData) → Lasting (Froms xs ys)
froms_last [] [] s t e h = tt
froms_last (x ∷ xs) (y ∷ ys) s t e h = (from_lasts x.pat (source_of y) s t e h.0, froms_last xs ys s t e h.1)
froms_last [] (y ∷ ys) s t e h = absurd h
froms_last (x ∷ xs) [] s t e h = absurd h

abbrev is_empty : {A : Type 0} → List A → Bool
is_empty [] = true
is_empty (x ∷ xs) = false

abbrev first_or : {A : Type 0} → A → List A → A
first_or d [] = d
first_or d (x ∷ xs) = x

abbrev others : {A : Type 0} → List A → List A
others [] = []
others (x ∷ xs) = xs

pub first_reads : (s : Stored) (p : PatId) (is : List PatId) (y : PatData) (ys : List PatData) → ReadAs s (p ∷ is) (y ∷ ys) → ReadsAs s p y
first_reads s p is y ys h = λ later e. ap (first_or y) (h later e)

pub others_read : (s t : Stored) → Extends s t → (p : PatId) (is : List PatId) (y : PatData) (ys : List PatData)
    → ReadAs s (p ∷ is) (y ∷ ys) → ReadAs t is ys
others_read s t pre p is y ys h = λ later e. ap others (h later (extends_trans pre e))

-- as many are written as there are patterns
pub none_written : (s : Stored) (y : PatData) (ys : List PatData) → ReadAs s [] (y ∷ ys) → ⊥
none_written s y ys h = true≢false (ap is_empty (h s (extends_refl s)))

pub one_written : (s : Stored) (p : PatId) (is : List PatId) → ReadAs s (p ∷ is) [] → ⊥
one_written s p is h = true≢false (sym (ap is_empty (h s (extends_refl s))))

-- those that are handed in as what is written is come from the nodes of that
pub hand_from : (xs : List Handed) (is : List PatId) (ys : List PatData) (s : Stored) → HandIn xs is ys → ReadAs s is ys → Froms xs ys s
hand_from [] [] [] s h r = tt
hand_from (x ∷ xs) (p ∷ is) (y ∷ ys) s h r = (
  subst (λ q. From q (source_of y) s) (sym h.0.pattern) (reads_from s p y (first_reads s p is y ys r)),
  hand_from xs is ys s h.1 (others_read s s (extends_refl s) p is y ys r),
)
hand_from [] [] (y ∷ ys) s h r = absurd h
hand_from [] (p ∷ is) ys s h r = absurd h
hand_from (x ∷ xs) [] ys s h r = absurd h
hand_from (x ∷ xs) (p ∷ is) [] s h r = absurd h

-- names that are handed in

pub name_takes : (n : Name) (h : HygieneId) → Takes an_expr (name_form n h)
unfolding name_form
name_takes n h = takes_alloc _ None

beside_takes : (x : Pat) (p : PatId) (at : Option Pointer) → TakesIf (From p at) (a_made_pat at) (alloc_beside x p)
unfolding alloc_beside pat_source
beside_takes x p at = record {
  takes = λ b d h.
      let is = h b.stored (extends_refl b.stored) d in
      subst (λ a. Room (a_made_pat at) b (alloc_desugared_pat x a b).0 (alloc_desugared_pat x a b).1) (sym is)
      ((takes_made_pat x at).takes b d);
}

handed_takes : (x : Handed) (at : Option Pointer) → TakesIf (From x.pat at) (a_binding ∪ a_made_pat at) (handed_form x)
unfolding handed_form
handed_takes x at = takes_if_then (from_lasts x.pat at) (takes_any (takes_binding _)) (any (correct_alloc_binding _))
    (λ i. takes_if_end (beside_takes _ x.pat at) (λ p. takes_end (takes_define i p) (λ u. takes_pure p)))

-- `let`s

let_takes : (x : Handed) (p : PatId) → Takes an_expr (let_form x p)
unfolding let_form
let_takes x p = takes_end (name_takes x.name x.hygiene) (λ e. takes_pure _)

two_lets_take : (x : Handed) (p : PatId) (y : PatData) → TakesIf (From x.pat (source_of y)) (two_lets_size y) (two_lets_form x p)
unfolding two_lets_form
two_lets_take x p y = takes_if_then {Q = λ s. Unit {0}} (λ s t e h. tt) (handed_takes x (source_of y)) (any (correct_handed x))
    (λ q. takes_any (takes_then (name_takes x.name x.hygiene) (λ e. takes_end (name_takes x.name x.hygiene) (λ f. takes_pure _))))

between_takes : (done : Prelude) (p : PatId) (x : Handed) (y : PatData)
    → TakesIf (From x.pat (source_of y)) (two_lets_size y) (forms.handed_between done p x)
unfolding forms.handed_between
between_takes done p x y = takes_if_end (two_lets_take x p y) (λ ss. takes_pure _)

own_takes : (done : Prelude) (p : PatId) (alone : Bool) (n : Name) (h : HygieneId) (y : PatData)
    → TakesIf (From p (source_of y)) (lets_size y (by_alone alone n h)) (forms.handed_own done p alone (handed_as n h p))
unfolding forms.handed_by_name
own_takes done p true n h y = takes_any (takes_end (let_takes (handed_as n h p) p) (λ ss. takes_pure _))
own_takes done p false n h y = between_takes done p (handed_as n h p) y

in_takes : (done : Prelude) (p : PatId) (own : Option OwnName) (y : PatData)
    → TakesIf (From p (source_of y)) (lets_size y (handed_of own)) (forms.handed_in done p own)
unfolding forms.handed_in
in_takes done p (Some own) y = own_takes done p own.is_alone own.name own.hygiene y
in_takes done p None y = takes_if_then (from_lasts p (source_of y)) (takes_any takes_number) (any correct_made_number)
    (λ n. between_takes done p (handed_as (Generated n) root_hygiene p) y)

-- by what is stored it is handed in as by what is written
let_param_takes : (done : Prelude) (p : PatId) (y : PatData) → TakesIf (λ s. ReadsAs s p y) (let_size y) (let_param done p)
unfolding let_param own_name_of
let_param_takes done p y = record {
  takes = λ b d h.
      let own = own_at p b.stored in
      let is = handed_alike b.stored p ∙ ap handed_in (h b.stored (extends_refl b.stored)) in
      let r = forms.handed_in done p own b in
      subst (λ k. Room (lets_size y k) b r.0 r.1) is ((in_takes done p own y).takes b d (reads_from b.stored p y h));
}

pub let_params_take : (done : Prelude) (is : List PatId) (ys : List PatData)
    → TakesIf (λ s. ReadAs s is ys) (prelude_size ys) (let_params done is)
let_params_take done [] [] = takes_any (takes_pure done)
let_params_take done [] (y ∷ ys) = record { takes = λ b d h. absurd (none_written b.stored y ys h) }
let_params_take done (p ∷ is) [] = record { takes = λ b d h. absurd (one_written b.stored p is h) }
let_params_take done (p ∷ is) (y ∷ ys) = takes_if_then {P = λ s. ReadAs s (p ∷ is) (y ∷ ys)} (λ s t e h. others_read s t e p is y ys h)
    (record { takes = λ b d h. (let_param_takes done p y).takes b d (first_reads b.stored p is y ys h) })
    (any (correct_let_param done p)) (λ l. let_params_take l is ys)

-- what the outside hands them to

pub lower_handed_takes : (done : List PatId) (xs : List Handed) (ys : List PatData)
    → TakesIf (Froms xs ys) (handed_size ys) (lower_handed done xs)
lower_handed_takes done [] [] = takes_any (takes_pure done)
lower_handed_takes done [] (y ∷ ys) = record { takes = λ b d h. absurd h }
lower_handed_takes done (x ∷ xs) [] = record { takes = λ b d h. absurd h }
lower_handed_takes done (x ∷ xs) (y ∷ ys) = takes_if_then {P = Froms (x ∷ xs) (y ∷ ys)} (λ s t e h. froms_last xs ys s t e h.1)
    (record { takes = λ b d h. (handed_takes x (source_of y)).takes b d h.0 })
    (any (correct_handed x)) (λ p. lower_handed_takes (done ++ p ∷ []) xs ys)

-- the coroutine

pub made_coroutine_takes : (kind : CoroutineKind) (from : CoroutineSource) (lets : List Statement) (body : ExprId)
    → Takes (an_expr ∪ an_expr) (made_coroutine_form kind from lets body)
unfolding made_coroutine_form
made_coroutine_takes kind from lets body = takes_then (takes_alloc _ None) (λ b. takes_alloc _ None)
