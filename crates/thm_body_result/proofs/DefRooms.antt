-- Definitions of macros: how far they are counted, and that steps behind one take what they take elsewhere.
use Rattle.std.proofs.Common.{◌≡◌, refl, ℕ, suc, ◌≤◌, ◌^◌, Bool, true, false, nat_lt, if◌then◌else◌, Option, Some}
use Rattle.std.proofs.lemmas.Bool.{ltb-false}
use Rattle.hir_store.specs.declared.ids.MacroDefId.{MacroDefId}
use Rattle.hir_lower_builder.specs.Calls.{define_form, defined, inside_macro}
use Rattle.hir_lower_builder.specs.Lowering.{Lowering, pure, count_def, count_out, open_macro}
use Rattle.thm_body_result.specs.Size.{Size, a_def, nothing}
use Rattle.thm_body_result.proofs.PathRooms.{counts_out, counts_so_far}
use Rattle.thm_body_result.proofs.Rooms.{Takes, takes_as, takes_begin, takes_close, takes_end, takes_pure}
use Rattle.thm_body_result.proofs.Took.{took_besides}

pub takes_count : (k : ℕ) → Takes (a_def k) (count_def k)
unfolding count_def count_out
takes_count k = by (nat_lt (suc k) (2 ^ 32)) refl
  where
    by : (t : Bool) → nat_lt (suc k) (2 ^ 32) ≡ t → Takes {A = Unit {0}} (a_def k) (if t then pure tt else count_out)
    by true is = takes_as (counts_so_far (2 ^ 32 ≤ suc k)) (takes_pure tt)
    by false is = record { takes = λ b d. counts_out (a_def k) b (ltb-false (suc k) (2 ^ 32) is) }

pub define_takes : (k : ℕ) (d : Option MacroDefId) → Takes (a_def k) (define_form k d)
unfolding define_form
define_takes k d = takes_end (takes_count k) (λ u. takes_pure (Some (defined d)))

pub takes_open_macro : (d : MacroDefId) → Takes nothing (open_macro d)
unfolding open_macro
takes_open_macro d = record { takes = λ b e. took_besides _ _ refl refl refl refl refl refl refl refl refl refl refl refl refl }

pub inside_takes : {A : Type 0} {n : Size} (d : MacroDefId) {p : Lowering A} → Takes n p → Takes n (inside_macro d p)
unfolding inside_macro
inside_takes d h = takes_begin (takes_open_macro d) (λ u. takes_end h (λ x. takes_end takes_close (λ v. takes_pure x)))
