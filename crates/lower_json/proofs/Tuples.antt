-- Lists that have not the length that is wanted.
use Rattle.std.proofs.Common.{◌≡◌, ◌≢◌, ◌<◌, ◌≤◌, List, [], ◌∷◌, length, refl, arith, Option, Some, None}
use Rattle.serde_json.specs.View.{items_view}
use Rattle.serde_json.specs.declared.value.Value.{Value}
use Rattle.json_errors.specs.declared.kind.Kind.{Kind}
use Rattle.serde_json.specs.Data.{Items}
use Rattle.hir_tables.specs.declared.table.MacroAnswer.TheVariants as answer
use Rattle.lower_json.specs.Aliases.{pair_in}
use Rattle.lower_json.specs.Macros.{answer_in, call_in, defined_of, legacy_of}
use Rattle.lower_json.specs.Tables.{alias_of, decided_of, triple_of, quadruple_of, said_of, context_of}

pub under_two : (vs : List Value) → length vs < 2 → None ≡ decided_of (Some (items_view vs))
under_two [] h = refl
under_two (v ∷ []) h = refl
under_two (v ∷ w ∷ vs) h = absurd (omega arith)

pub over_two : (vs : List Value) → 3 ≤ length vs → None ≡ decided_of (Some (items_view vs))
over_two [] h = absurd (omega arith)
over_two (v ∷ []) h = absurd (omega arith)
over_two (v ∷ w ∷ []) h = absurd (omega arith)
over_two (v ∷ w ∷ x ∷ vs) h = refl

pub under_three : (vs : List Value) → length vs < 3 → None ≡ triple_of (Some (items_view vs))
under_three [] h = refl
under_three (v ∷ []) h = refl
under_three (v ∷ w ∷ []) h = refl
under_three (v ∷ w ∷ x ∷ vs) h = absurd (omega arith)

pub over_three : (vs : List Value) → 4 ≤ length vs → None ≡ triple_of (Some (items_view vs))
over_three [] h = absurd (omega arith)
over_three (v ∷ []) h = absurd (omega arith)
over_three (v ∷ w ∷ []) h = absurd (omega arith)
over_three (v ∷ w ∷ x ∷ []) h = absurd (omega arith)
over_three (v ∷ w ∷ x ∷ y ∷ vs) h = refl

pub under_four : (vs : List Value) → length vs < 4 → None ≡ quadruple_of (Some (items_view vs))
under_four [] h = refl
under_four (v ∷ []) h = refl
under_four (v ∷ w ∷ []) h = refl
under_four (v ∷ w ∷ x ∷ []) h = refl
under_four (v ∷ w ∷ x ∷ y ∷ vs) h = absurd (omega arith)

pub over_four : (vs : List Value) → 5 ≤ length vs → None ≡ quadruple_of (Some (items_view vs))
over_four [] h = absurd (omega arith)
over_four (v ∷ []) h = absurd (omega arith)
over_four (v ∷ w ∷ []) h = absurd (omega arith)
over_four (v ∷ w ∷ x ∷ []) h = absurd (omega arith)
over_four (v ∷ w ∷ x ∷ y ∷ []) h = absurd (omega arith)
over_four (v ∷ w ∷ x ∷ y ∷ z ∷ vs) h = refl

pub under_six : (vs : List Value) → length vs < 6 → None ≡ context_of (Some (items_view vs))
under_six [] h = refl
under_six (v ∷ []) h = refl
under_six (v ∷ w ∷ []) h = refl
under_six (v ∷ w ∷ x ∷ []) h = refl
under_six (v ∷ w ∷ x ∷ y ∷ []) h = refl
under_six (v ∷ w ∷ x ∷ y ∷ z ∷ []) h = refl
under_six (v ∷ w ∷ x ∷ y ∷ z ∷ u ∷ vs) h = absurd (omega arith)

pub over_six : (vs : List Value) → 7 ≤ length vs → None ≡ context_of (Some (items_view vs))
over_six [] h = absurd (omega arith)
over_six (v ∷ []) h = absurd (omega arith)
over_six (v ∷ w ∷ []) h = absurd (omega arith)
over_six (v ∷ w ∷ x ∷ []) h = absurd (omega arith)
over_six (v ∷ w ∷ x ∷ y ∷ []) h = absurd (omega arith)
over_six (v ∷ w ∷ x ∷ y ∷ z ∷ []) h = absurd (omega arith)
over_six (v ∷ w ∷ x ∷ y ∷ z ∷ u ∷ []) h = absurd (omega arith)
over_six (v ∷ w ∷ x ∷ y ∷ z ∷ u ∷ t ∷ vs) h = refl

pub alias_under_two : (vs : List Value) → length vs < 2 → None ≡ alias_of (Some (items_view vs))
alias_under_two [] h = refl
alias_under_two (v ∷ []) h = refl
alias_under_two (v ∷ w ∷ vs) h = absurd (omega arith)

pub alias_over_two : (vs : List Value) → 3 ≤ length vs → None ≡ alias_of (Some (items_view vs))
alias_over_two [] h = absurd (omega arith)
alias_over_two (v ∷ []) h = absurd (omega arith)
alias_over_two (v ∷ w ∷ []) h = absurd (omega arith)
alias_over_two (v ∷ w ∷ x ∷ vs) h = refl

pub not_five : (vs : List Value) → length vs ≢ 5 → None ≡ said_of (Some (items_view vs))
not_five [] h = refl
not_five (v ∷ []) h = refl
not_five (v ∷ w ∷ []) h = refl
not_five (v ∷ w ∷ x ∷ []) h = refl
not_five (v ∷ w ∷ x ∷ y ∷ []) h = refl
not_five (v ∷ w ∷ x ∷ y ∷ z ∷ []) h = absurd (omega (arith, h))
not_five (v ∷ w ∷ x ∷ y ∷ z ∷ u ∷ vs) h = refl

pub call_under_two : (vs : List Value) → length vs < 2 → None ≡ call_in (Some (items_view vs))
call_under_two [] h = refl
call_under_two (a ∷ []) h = refl
call_under_two (a ∷ b ∷ vs) h = absurd (omega arith)

pub answer_under_three : (ks : List (Option Kind)) (ns : Items) (vs : List Value) → length vs < 3
    → None ≡ answer_in ks ns (Some (items_view vs))
answer_under_three ks ns [] h = refl
answer_under_three ks ns (a ∷ []) h = refl
answer_under_three ks ns (a ∷ b ∷ []) h = refl
answer_under_three ks ns (a ∷ b ∷ c ∷ vs) h = absurd (omega arith)

pub answer_three : (ks : List (Option Kind)) (ns : Items) (vs : List Value) → 3 ≤ length vs → length vs < 4
    → Some answer.NoExpansion ≡ answer_in ks ns (Some (items_view vs))
answer_three ks ns [] h l = absurd (omega arith)
answer_three ks ns (a ∷ []) h l = absurd (omega arith)
answer_three ks ns (a ∷ b ∷ []) h l = absurd (omega arith)
answer_three ks ns (a ∷ b ∷ c ∷ []) h l = refl
answer_three ks ns (a ∷ b ∷ c ∷ d ∷ vs) h l = absurd (omega arith)

pub answer_over_five : (ks : List (Option Kind)) (ns : Items) (vs : List Value) → 6 ≤ length vs
    → None ≡ answer_in ks ns (Some (items_view vs))
answer_over_five ks ns [] h = absurd (omega arith)
answer_over_five ks ns (a ∷ []) h = absurd (omega arith)
answer_over_five ks ns (a ∷ b ∷ []) h = absurd (omega arith)
answer_over_five ks ns (a ∷ b ∷ c ∷ []) h = absurd (omega arith)
answer_over_five ks ns (a ∷ b ∷ c ∷ d ∷ []) h = absurd (omega arith)
answer_over_five ks ns (a ∷ b ∷ c ∷ d ∷ e ∷ []) h = absurd (omega arith)
answer_over_five ks ns (a ∷ b ∷ c ∷ d ∷ e ∷ f ∷ vs) h = refl

pub defined_under_three : (vs : List Value) → length vs < 3 → None ≡ defined_of (Some (items_view vs))
defined_under_three [] h = refl
defined_under_three (a ∷ []) h = refl
defined_under_three (a ∷ b ∷ []) h = refl
defined_under_three (a ∷ b ∷ c ∷ vs) h = absurd (omega arith)

pub defined_over_three : (vs : List Value) → 4 ≤ length vs → None ≡ defined_of (Some (items_view vs))
defined_over_three [] h = absurd (omega arith)
defined_over_three (a ∷ []) h = absurd (omega arith)
defined_over_three (a ∷ b ∷ []) h = absurd (omega arith)
defined_over_three (a ∷ b ∷ c ∷ []) h = absurd (omega arith)
defined_over_three (a ∷ b ∷ c ∷ d ∷ vs) h = refl

pub legacy_under_four : (vs : List Value) → length vs < 4 → None ≡ legacy_of (Some (items_view vs))
legacy_under_four [] h = refl
legacy_under_four (a ∷ []) h = refl
legacy_under_four (a ∷ b ∷ []) h = refl
legacy_under_four (a ∷ b ∷ c ∷ []) h = refl
legacy_under_four (a ∷ b ∷ c ∷ d ∷ vs) h = absurd (omega arith)

pub legacy_over_four : (vs : List Value) → 5 ≤ length vs → None ≡ legacy_of (Some (items_view vs))
legacy_over_four [] h = absurd (omega arith)
legacy_over_four (a ∷ []) h = absurd (omega arith)
legacy_over_four (a ∷ b ∷ []) h = absurd (omega arith)
legacy_over_four (a ∷ b ∷ c ∷ []) h = absurd (omega arith)
legacy_over_four (a ∷ b ∷ c ∷ d ∷ []) h = absurd (omega arith)
legacy_over_four (a ∷ b ∷ c ∷ d ∷ e ∷ vs) h = refl

pub entry_under_two : (ks : List (Option Kind)) (ns : Items) (vs : List Value) → length vs < 2
    → None ≡ pair_in ks ns (Some (items_view vs))
entry_under_two ks ns [] h = refl
entry_under_two ks ns (a ∷ []) h = refl
entry_under_two ks ns (a ∷ b ∷ vs) h = absurd (omega arith)

pub entry_over_two : (ks : List (Option Kind)) (ns : Items) (vs : List Value) → 3 ≤ length vs
    → None ≡ pair_in ks ns (Some (items_view vs))
entry_over_two ks ns [] h = absurd (omega arith)
entry_over_two ks ns (a ∷ []) h = absurd (omega arith)
entry_over_two ks ns (a ∷ b ∷ []) h = absurd (omega arith)
entry_over_two ks ns (a ∷ b ∷ c ∷ vs) h = refl
