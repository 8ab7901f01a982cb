-- Nothing is told of what the condition of a `while` stands in.
use Rattle.std.proofs.Common.{◌≡◌, ◌∙◌, Bool, true, false, List, append-nil}
use Rattle.hir_store.specs.declared.ids.BlockId.{BlockId}
use Rattle.hir_lower_scope.specs.Scopes.{Scope}
use Rattle.thm_body_result.specs.Diagnostics.{Faults}
use Rattle.thm_logic.specs.Grading.{condition}
use Rattle.thm_body_result.specs.Lists.{blocks, faults}

pub blocks_of_condition : (lets : Bool) (D : List Scope → List BlockId) (ss : List Scope) {ns : List BlockId} → D ss ≡ ns
    → condition blocks lets D ss ≡ ns
blocks_of_condition true D ss h = h
blocks_of_condition false D ss h = append-nil (D ss) ∙ h

pub faults_of_condition : (lets : Bool) (D : List Scope → Faults) (ss : List Scope) {xs : Faults} → D ss ≡ xs
    → condition faults lets D ss ≡ xs
faults_of_condition true D ss h = h
faults_of_condition false D ss h = append-nil (D ss) ∙ h
