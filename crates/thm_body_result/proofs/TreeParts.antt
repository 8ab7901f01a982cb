-- Parts of trees: what is kept of lists, statements and blocks, and what stands for all of it.
use Rattle.std.proofs.Common.{◌≡◌, ◌∙◌, refl, sym, ap, subst, List, [], append-nil, Bool, Option, Some, None}
use Rattle.hir_store.specs.Pointers.{Pointer}
use Rattle.hir_store.specs.Stored.{Stored, store_of, map_of}
use Rattle.hir_store.specs.declared.hir.Expr.TheVariants as hir
use Rattle.hir_store.specs.declared.hir.MatchArm.{MatchArm}
use Rattle.hir_store.specs.declared.hir.RecordLitField.{RecordLitField}
use Rattle.hir_store.specs.declared.hir.Statement.{Statement}
use Rattle.hir_store.specs.declared.ids.ExprId.{ExprId}
use Rattle.hir_store.specs.declared.ids.LabelId.{LabelId}
use Rattle.hir_store.specs.declared.ids.BlockId.{BlockId}
use Rattle.hir_store.specs.declared.ids.PatId.{PatId}
use Rattle.hir_store.specs.declared.pat.RecordFieldPat.{RecordFieldPat}
use Rattle.hir_env.specs.ResolvedTree as tree
use Rattle.hir_env.specs.ResolvedTree.{Expr, OptionExpr, Exprs, Fields, Stmts, Arms, Target, Targets, TargetFields}
use Rattle.spec_semantics.specs.Contents.{BlockContents}
use Rattle.spec_semantics.specs.Left.{is_kept, is_left, gives_value}
use Rattle.thm_round_trip.proofs.Targets.{target_now}
use Rattle.hir_lower_builder.specs.Lower.{ExprSteps, StoredContents, push_some, block_form, kept, settled, kept_part, lower_stmts}
use Rattle.hir_lower_builder.specs.Lower.{lower_target}
use Rattle.hir_lower_builder.specs.Lowering.{Lowering, ◌>>=◌, pure}
use Rattle.hir_lower_builder.specs.Pats.{Elements}
use Rattle.thm_logic.proofs.Frames.{ribs}
use Rattle.thm_body_result.specs.Leads.{Mappings, No, OneMapping, ◌&◌}
use Rattle.thm_body_result.specs.Corresponds.{CorrespondsFields, Open, ThereIf, CorrespondsPart, CorrespondsKept, CorrespondsEach}
use Rattle.thm_body_result.specs.Corresponds.{CorrespondsContents}
use Rattle.thm_logic.specs.Statements.{statement_of}
use Rattle.thm_body_result.specs.Corresponds.{CorrespondsArms, CorrespondsTarget, CorrespondsTargets, CorrespondsTargetFields}
use Rattle.thm_body_result.specs.CorrespondsWhole.{CorrespondsAssigned}
use Rattle.thm_logic.proofs.Calls.{only_gone}
use Rattle.thm_body_result.proofs.CallStanding.{only_facts}
use Rattle.thm_body_result.proofs.Contents.{has_contents}
use Rattle.thm_body_result.proofs.Lasting.{Correct, correct_as, correct_bind, correct_both, correct_pure}
use Rattle.thm_body_result.proofs.Leading.{Shown, shown_as, shown_none, shown_before, moved_then}
use Rattle.thm_body_result.proofs.PatStanding.{Behind}
use Rattle.thm_body_result.proofs.Standing.{Of, Placed, Shows, moved_pure, present_some, block_form_corresponds}

pub kept_corresponds : (e : Expr) {p : ExprSteps} {S : Of ExprId} → Correct p (Shows S)
    → Correct (kept e p) (Shows (λ final rs o. ThereIf (is_kept e) (λ i. S final rs i) o))
kept_corresponds (tree.disabled_expr why e) h = correct_as (correct_bind (only_facts (only_gone why)) (λ u. correct_pure None))
    (λ final ps m m' o g row.
    let moved = moved_then row.first.moved (moved_pure row.second.still) in
    record { shown = shown_none moved (row.second.is, refl) })
kept_corresponds e h = present_some h

pub behind_none : {A : Type 0} (S : List A → Mappings) {a b : Stored} {is : List A} → Shown (Behind [] S is) a b → Shown (S is) a b
behind_none S x = shown_as x (λ ws y. subst (λ k. S k ws) (sym y.1) y.2)

module _ (final : Stored) where
  abbrev pub part : Open → OptionExpr → ExprId → Mappings
  part = CorrespondsPart (store_of final) (map_of final)

  abbrev pub each : Open → Exprs → List ExprId → Mappings
  each = CorrespondsEach (store_of final) (map_of final)

  abbrev pub fields : Open → Fields → List RecordLitField → Mappings
  fields = CorrespondsFields (store_of final) (map_of final)

  abbrev pub arms : Open → Arms → List MatchArm → Mappings
  arms = CorrespondsArms (store_of final) (map_of final)

  abbrev pub targets : Open → Targets → List PatId → Mappings
  targets = CorrespondsTargets (store_of final) (map_of final)

  abbrev pub target_fields : Open → TargetFields → List RecordFieldPat → Mappings
  target_fields = CorrespondsTargetFields (store_of final) (map_of final)

  abbrev pub kept_or_none : Open → OptionExpr → Option ExprId → Mappings
  kept_or_none = CorrespondsKept (store_of final) (map_of final)

  abbrev pub contents : Open → Stmts → OptionExpr → List Statement → Option ExprId → Mappings
  contents rs ss e = CorrespondsContents (store_of final) (map_of final) rs ss (λ around o. kept_or_none around e o)

pub all_fields_stand : (fs : Fields) {p : Lowering (List RecordLitField)}
    → Correct p (Shows (λ final rs is. Behind [] (fields final rs fs) is))
    → Correct p (Shows (λ final rs is. fields final rs fs is))
all_fields_stand fs h =
    correct_as h (λ final ps m m' is g row. record { shown = behind_none (fields final (ribs ps) fs) row.shown })

-- one that is left out
pub left_out : {A : Type 0} (S : List A → Mappings) (done : List A) (o : Option A) {is : List A} {a b : Stored} → o ≡ None
    → Shown (Behind (push_some done o) S is) a b → Shown (Behind done S is) a b
left_out S done o {is = is} {a = a} {b = b} e x = subst (λ z. Shown (Behind (push_some done z) S is) a b) e x

pub all_stand_for : (es : Exprs) {p : Lowering (List ExprId)} → Correct p (Shows (λ final rs is. Behind [] (each final rs es) is))
    → Correct p (Shows (λ final rs is. each final rs es is))
all_stand_for es h =
    correct_as h (λ final ps m m' is g row. record { shown = behind_none (each final (ribs ps) es) row.shown })

-- an expression statement, and what it became
pub expr_stmt_corresponds : (semi : Bool) {p : Lowering (Option ExprId)} {S : Of (Option ExprId)} → Correct p (Shows S)
    → Correct (p >>= (λ x. pure (statement_of semi x)))
    (Shows (λ final rs o ws. (v : Option ExprId) × (o ≡ statement_of semi v) × S final rs v ws))
expr_stmt_corresponds semi h =
    correct_as (correct_bind h (λ x. correct_pure (statement_of semi x))) (λ final ps m m' o g row.
    record { shown = shown_as (shown_before row.first.shown (moved_pure row.second.still)) (λ ws y. (row.one, row.second.is, y)) })

-- what is in a block
pub inside_corresponds : (at : Pointer) (is_unsafe : Bool) (n : Option LabelId) (number : Option BlockId) (ss : Stmts) (e : OptionExpr)
    → Correct (lower_stmts [] ss (kept_part e)) (Shows (λ final rs r. Behind [] (λ is. contents final rs ss e is r.1) r.0))
    → Correct (block_form at is_unsafe n number (lower_stmts [] ss (kept_part e)))
    (Shows (λ final rs i ws. (kept : List Statement) × (last : Option ExprId) × (r : StoredContents)
    × BlockContents (gives_value ss (is_left e)) kept last r × Placed final i (hir.Block is_unsafe n number r.0 r.1) (Some at)
    × (contents final rs ss e kept last & OneMapping at i) ws))
inside_corresponds at is_unsafe n number ss e h =
    correct_as (block_form_corresponds at is_unsafe n number {S = λ final rs r. contents final rs ss e r.0 r.1}
    (correct_as h (λ final ps m m' r g row. record { shown = behind_none (λ is. contents final (ribs ps) ss e is r.1) row.shown })))
    (λ final ps m m' i g row. record {
      shown = shown_as row.shown (λ ws y.
          let is = has_contents (store_of final) (map_of final) (ribs ps) ss e y.0.0 y.0.1 y.2.left y.2.first in
          (y.0.0, y.0.1, settled y.0.0 y.0.1, is, y.1, y.2));
    })

pub all_arms_stand : (as' : Arms) {p : Lowering (List MatchArm)} → Correct p (Shows (λ final rs is. Behind [] (arms final rs as') is))
    → Correct p (Shows (λ final rs is. arms final rs as' is))
all_arms_stand as' h =
    correct_as h (λ final ps m m' is g row. record { shown = behind_none (arms final (ribs ps) as') row.shown })

pub all_targets_stand : (ts : Targets) {p : Lowering Elements} → Correct p (Shows (λ final rs es. Behind [] (targets final rs ts) es.0))
    → Correct p (Shows (λ final rs es. targets final rs ts es.0))
all_targets_stand ts h =
    correct_as h (λ final ps m m' is g row. record { shown = behind_none (targets final (ribs ps) ts) row.shown })

pub all_target_fields_stand : (fs : TargetFields) {p : Lowering (List RecordFieldPat)}
    → Correct p (Shows (λ final rs is. Behind [] (target_fields final rs fs) is))
    → Correct p (Shows (λ final rs is. target_fields final rs fs is))
all_target_fields_stand fs h =
    correct_as h (λ final ps m m' is g row. record { shown = behind_none (target_fields final (ribs ps) fs) row.shown })

pub no_targets_stand : (done : Elements)
    → Correct (pure done) (Shows (λ final rs es. Behind done.0 (λ js ws. (js ≡ []) × No ws) es.0))
no_targets_stand done = correct_as (correct_pure done) (λ final ps m m' es g row.
    record { shown = shown_none (moved_pure row.still) ([], ap (λ e. e.0) row.is ∙ sym (append-nil done.0), (refl, refl)) })

pub assigned_corresponds : (t : Target)
    → Correct (lower_target t) (Shows (λ final rs i. CorrespondsTarget (store_of final) (map_of final) rs t i))
    → Correct (lower_target t)
    (Shows (λ final rs i. CorrespondsAssigned (store_of final) (map_of final) rs t i))
assigned_corresponds t h = correct_as (correct_both h (target_now t))
    (λ final ps m m' i g row. record { shown = shown_as row.one.shown (λ ws y. (row.other.is, y)) })
