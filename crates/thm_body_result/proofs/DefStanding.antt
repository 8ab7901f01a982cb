-- Definitions of macros: what stands for one, and what stands behind it inside of it.
use Rattle.std.proofs.Common.{◌≡◌, ◌∙◌, refl, ap, ℕ, List, ◌∷◌, ◌++◌, Option, Some, option_to_list}
use Rattle.hir_store.specs.Stored.{Stored}
use Rattle.hir_store.specs.declared.hir.Statement.{Statement}
use Rattle.hir_store.specs.declared.ids.MacroDefId.{MacroDefId}
use Rattle.hir_lower_scope.specs.ScopeRibs.{macro_rib}
use Rattle.hir_lower_builder.specs.Calls.{define_form, defined, inside_macro}
use Rattle.hir_lower_builder.specs.Forms.{StoredContents, push_some}
use Rattle.hir_lower_builder.specs.Lowering.{Lowering, ◌>>=◌}
use Rattle.thm_logic.proofs.Definitions as definitions
use Rattle.thm_logic.proofs.Definitions.{InMacro, correct_define}
use Rattle.thm_logic.proofs.Frames.{ribs}
use Rattle.thm_logic.proofs.Steps as steps
use Rattle.thm_logic.proofs.Steps.{Rel}
use Rattle.thm_body_result.specs.Leads.{Mapping, Mappings, ◌&◌}
use Rattle.thm_body_result.specs.Corresponds.{Open}
use Rattle.thm_body_result.proofs.Lasting.{Correct, correct_as, correct_bind, keeping, settled_as}
use Rattle.thm_body_result.proofs.Leading.{Shown, shown_after, shown_as}
use Rattle.thm_body_result.proofs.PatStanding.{Behind}
use Rattle.thm_logic.proofs.Settled.{push_append}
use Rattle.thm_body_result.proofs.Standing.{Facts, Of, Shows, moved_pure}

pub define_facts : (k : ℕ) (d : Option MacroDefId) → Correct (define_form k d) (Facts (λ final x. x ≡ Some (defined d)))
define_facts k d = correct_as
    (keeping (correct_define k d) (λ final ps m m' x row. settled_as m.stored m'.stored (ap (λ y. y.stored.bindings) row.still)))
    (λ final ps m m' x g row. record { fact = row.is; moved = moved_pure row.still })

correct_inside : {A : Type 0} {R : Rel A} (d : MacroDefId) {p : Lowering A} → Correct p R → Correct (inside_macro d p) (InMacro d R)
correct_inside d h = steps.correct_as (definitions.correct_inside_macro d h)
    (λ final ps m m' x g row. record { settled = row.settled; rel = λ s. row.rel s })

pub inside_shows : {A : Type 0} (d : MacroDefId) {S : Of A} {p : Lowering A} → Correct p (Shows S)
    → Correct (inside_macro d p) (Shows (λ final rs x. S final (macro_rib d ∷ rs) x))
inside_shows d h = correct_as (correct_inside d h) (λ final ps m m' x g row. record { shown = row.shown })

-- a statement that leads nowhere, before others
pub first_corresponds : (s : Statement) (done : List Statement) {p : Lowering (Option Statement)}
    {q : List Statement → Lowering StoredContents} (T : Stored → Open → List Statement → StoredContents → Mappings)
    → Correct p (Facts (λ final x. x ≡ Some s))
    → ((ys : List Statement) → Correct (q ys) (Shows (λ final rs r. Behind ys (λ is. T final rs is r) r.0)))
    → Correct (p >>= (λ x. q (push_some done x)))
    (Shows (λ final rs r. Behind done (λ is ws. (others : List Statement) × (is ≡ s ∷ others) × T final rs others r ws) r.0))
first_corresponds s done T hp hq = correct_as (correct_bind hp (λ x. hq (push_some done x))) (λ final ps m m' r g row.
    let q = row.second.shown in
    let is = q.shown.1 ∙ (push_append done row.one q.shown.0 ∙ ap (λ o. done ++ (option_to_list o ++ q.shown.0)) row.first.fact) in
    let others : Shown (T final (ribs ps) q.shown.0 r) row.middle.stored m'.stored =
    record { mappings = q.mappings; shown = q.shown.2; moved = q.moved } in
    record { shown = shown_after row.first.moved (shown_as others (λ ws y. (s ∷ q.shown.0, is, (q.shown.0, refl, y)))) })

-- what else is so of the same ways
pub beside_mappings : {P Q R S : Mappings} {ws : List Mapping} (z : (P & Q) ws) → R z.left → S z.right → (R & S) ws
beside_mappings z r s = record { left = z.left; right = z.right; is = z.is; first = r; second = s }
