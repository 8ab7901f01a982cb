-- Definitions of macros name no type and no pattern, and steps behind one name what they name elsewhere.
use Rattle.std.proofs.Common.{arith, ℕ, suc, Bool, true, false, if◌then◌else◌, nat_lt, List, Option, Some, None}
use Rattle.std.specs.Prelude.{◌^◌}
use Rattle.hir_store.specs.declared.hir.Statement.TheVariants as statement
use Rattle.hir_store.specs.declared.ids.MacroDefId.{MacroDefId}
use Rattle.hir_env.specs.ResolvedTree as tree
use Rattle.hir_env.specs.ResolvedTree.{Called, Stmt}
use Rattle.hir_lower_builder.specs.Calls.{behind, define_form, emitted}
use Rattle.hir_lower_builder.specs.Lowering.{Lowering, count_def, count_out, pure}
use Rattle.thm_logic.proofs.Calls.{only_emitted}
use Rattle.thm_type_result.proofs.Adding.{Numbers, none}
use Rattle.thm_type_result.proofs.Asked.{Correct, Adds, Quiet, Steps, adds_pure, adds_quiet, adds_refused, adds_then, keeps_table}
use Rattle.thm_type_result.proofs.Naming.{defined_names, quiet_only}
use Rattle.thm_type_result.proofs.OwnedPats.{maybe_statement}

counted : (room : Bool) → Correct {A = Unit {0}} (if room then pure tt else count_out) Quiet
counted true = adds_pure tt (λ l k. omega arith)
counted false = adds_refused

quiet_count : (k : ℕ) → Correct (count_def k) Quiet
unfolding count_def
quiet_count k = counted (nat_lt (suc k) (2 ^ 32))

pub define_named : (k : ℕ) (d : Option MacroDefId) → Correct (define_form k d) (Adds none maybe_statement)
unfolding define_form
define_named k None = adds_then (quiet_count k) (λ u. adds_pure (Some statement.Item) (λ l j. omega arith))
define_named k (Some d) = adds_then (quiet_count k) (λ u. adds_pure (Some (statement.MacroDef d)) (λ l j. omega arith))

pub behind_named : {A : Type 0} {bs : List ℕ} {was : Numbers} {cs : A → List ℕ} {now : A → Numbers} (s : Stmt) {p : Lowering A}
    → Correct p (Steps bs was cs now) → Correct (behind s p) (Steps bs was cs now)
behind_named (tree.macro_stmt k (Some d)) h = defined_names d h
behind_named s h = h

-- what is told of a call in front of parts
pub emitted_named : {bs : List ℕ} {was : Numbers} (c : Called) → Correct (emitted c) (Steps bs was (λ u. bs) (λ u. was))
emitted_named c = keeps_table (adds_quiet (quiet_only (only_emitted c)))
