-- What stands in front of the body of a coroutine that a closure or a function has, and what it is handed its arguments by, are made of
-- such steps.
use Rattle.std.proofs.Common.{Bool, true, false, List, [], ◌∷◌, ◌++◌, Option, Some, None, Ok}
use Rattle.hir_store.specs.Pointers.{Pointer}
use Rattle.hir_store.specs.Stored.{Stored}
use Rattle.hir_store.specs.declared.hir.CoroutineKind.{CoroutineKind}
use Rattle.hir_store.specs.declared.hir.CoroutineSource.{CoroutineSource}
use Rattle.hir_store.specs.declared.hir.CoroutineSource.TheVariants as source
use Rattle.hir_store.specs.declared.hir.Statement.{Statement}
use Rattle.hir_store.specs.declared.ids.ExprId.{ExprId}
use Rattle.hir_store.specs.declared.ids.HygieneId.{HygieneId}
use Rattle.hir_store.specs.declared.ids.PatId.{PatId}
use Rattle.hir_store.specs.declared.ids.TypeRefId.{TypeRefId}
use Rattle.hir_store.specs.declared.name.Name.{Name}
use Rattle.hir_store.specs.declared.name.Name.TheVariants as name
use Rattle.hir_store.specs.declared.pat.Pat.{Pat as HirPat}
use Rattle.hir_lower_builder.specs.Forms.{ExprSteps, root_hygiene}
use Rattle.hir_lower_builder.specs.Lowering.{Lowering}
use Rattle.hir_lower_builder.specs.Preludes.{alloc_beside, coroutine_closure_form, handed_as, handed_between, handed_by_name, handed_form}
use Rattle.hir_lower_builder.specs.Preludes.{handed_in, handed_own, let_form, let_param, let_params, lower_handed, made_coroutine_form}
use Rattle.hir_lower_builder.specs.Preludes.{name_form, no_prelude, own_name_of, pat_source, two_lets_form, within_form}
use Rattle.hir_lower_builder.specs.declared.closures.ClosureParams.{ClosureParams}
use Rattle.hir_lower_builder.specs.declared.preludes.Handed.{Handed}
use Rattle.hir_lower_builder.specs.declared.preludes.OwnName.{OwnName}
use Rattle.hir_lower_builder.specs.declared.preludes.Prelude.{Prelude}
use Rattle.thm_body_result.proofs.EmittedOwnedMappings.{leading_owning}
use Rattle.thm_body_result.proofs.Onward.{Leading, any, anyway, leading_pure, makes, since, then', went_refl}
use Rattle.thm_body_result.proofs.Mappings.{leading_alloc, leading_alloc_binding, leading_barrier, leading_close_barrier, leading_define}
use Rattle.thm_body_result.proofs.Mappings.{leading_made_pat, leading_number}

-- nothing is stored where something is read
leading_read : {A : Type 0} (read : Stored → A) → Leading any (λ b. (Ok (read b.stored), b))
leading_read read = record { goes = λ b. (went_refl b.stored, tt) }

source_leads : (p : PatId) → Leading any (pat_source p)
unfolding pat_source
source_leads p = leading_read _

own_name_leads : (p : PatId) → Leading any (own_name_of p)
unfolding own_name_of
own_name_leads p = leading_read _

beside_leads : (x : HirPat) (p : PatId) → Leading any (alloc_beside x p)
unfolding alloc_beside
beside_leads x p = then' (source_leads p) (λ at. anyway (leading_made_pat x at))

handed_leads : (x : Handed) → Leading any (handed_form x)
unfolding handed_form
handed_leads x =
    then' (leading_alloc_binding _) (λ i. then' (beside_leads _ x.pat) (λ p. then' (leading_define i p) (λ u. leading_pure p)))

name_leads : (n : Name) (h : HygieneId) → Leading since (name_form n h)
unfolding name_form
name_leads n h = leading_alloc _ None

let_leads : (x : Handed) (p : PatId) → Leading any (let_form x p)
unfolding let_form
let_leads x p = then' (name_leads x.name x.hygiene) (λ e. leading_pure _)

two_lets_lead : (x : Handed) (p : PatId) → Leading any (two_lets_form x p)
unfolding two_lets_form
two_lets_lead x p = then' (handed_leads x)
    (λ q. then' (name_leads x.name x.hygiene) (λ e. then' (name_leads x.name x.hygiene) (λ f. leading_pure _)))

between_leads : (done : Prelude) (p : PatId) (x : Handed) → Leading any (handed_between done p x)
unfolding handed_between
between_leads done p x = then' (two_lets_lead x p) (λ ss. leading_pure _)

own_leads : (done : Prelude) (p : PatId) (alone : Bool) (x : Handed) → Leading any (handed_own done p alone x)
unfolding handed_by_name
own_leads done p true x = then' (let_leads x p) (λ ss. leading_pure _)
own_leads done p false x = between_leads done p x

in_leads : (done : Prelude) (p : PatId) (own : Option OwnName) → Leading any (handed_in done p own)
unfolding handed_in
in_leads done p (Some own) = own_leads done p own.is_alone (handed_as own.name own.hygiene p)
in_leads done p None = then' leading_number (λ n. between_leads done p (handed_as (name.Generated n) root_hygiene p))

let_param_leads : (done : Prelude) (p : PatId) → Leading any (let_param done p)
unfolding let_param
let_param_leads done p = then' (own_name_leads p) (λ own. in_leads done p own)

let_params_lead : (done : Prelude) (is : List PatId) → Leading any (let_params done is)
let_params_lead done [] = leading_pure done
let_params_lead done (p ∷ is) = then' (let_param_leads done p) (λ l. let_params_lead l is)

lower_handed_leads : (done : List PatId) (xs : List Handed) → Leading any (lower_handed done xs)
lower_handed_leads done [] = leading_pure done
lower_handed_leads done (x ∷ xs) = then' (handed_leads x) (λ p. lower_handed_leads (done ++ p ∷ []) xs)

made_coroutine_leads : (kind : CoroutineKind) (from : CoroutineSource) (lets : List Statement) (body : ExprId)
    → Leading since (made_coroutine_form kind from lets body)
unfolding made_coroutine_form
made_coroutine_leads kind from lets body = makes (leading_alloc _ None) (λ b. leading_alloc _ None)

within_leads : (kind : CoroutineKind) {p : Lowering ClosureParams} {t : Lowering (Option TypeRefId)} {e : ExprSteps} → Leading any p
    → Leading any t → Leading since e → Leading any (within_form kind p t e)
unfolding within_form
within_leads kind hp ht he = then' hp (λ l. then' ht (λ r. then' he (λ i. then' (let_params_lead no_prelude l.args)
    (λ k. then' (made_coroutine_leads kind source.Closure k.lets i) (λ c. leading_pure _)))))

pub coroutine_closure_leads : (at : Pointer) (kind : CoroutineKind) (moves : Bool) {p : Lowering ClosureParams}
    {t : Lowering (Option TypeRefId)} {e : ExprSteps} → Leading any p → Leading any t → Leading since e
    → Leading since (coroutine_closure_form at kind moves p t e)
unfolding coroutine_closure_form
coroutine_closure_leads at kind moves hp ht he = makes leading_barrier (λ outside.
    makes (leading_owning (λ w. w.coroutine) (within_leads kind hp ht he)) (λ w. makes (lower_handed_leads [] w.handed)
    (λ ps. makes (leading_close_barrier outside) (λ u. leading_alloc _ (Some at)))))
