-- Definitions of macros reach nothing, and steps behind one reach what they reach elsewhere.
use Rattle.std.proofs.Common.{arith, ℕ, List, Option, Some, None}
use Rattle.hir_store.specs.declared.hir.Statement.{Statement}
use Rattle.hir_store.specs.declared.hir.Statement.TheVariants as statement
use Rattle.hir_store.specs.declared.ids.MacroDefId.{MacroDefId}
use Rattle.hir_env.specs.ResolvedTree as tree
use Rattle.hir_env.specs.ResolvedTree.{Stmt}
use Rattle.hir_lower_builder.specs.Calls.{behind, define_form}
use Rattle.hir_lower_builder.specs.Forms.{StoredContents}
use Rattle.hir_lower_builder.specs.Lowering.{Lowering}
use Rattle.thm_type_result.proofs.InsideForms.{a_statement, maybe}
use Rattle.thm_type_result.proofs.InsideMade.{Contains, contains_defined}
use Rattle.thm_type_result.proofs.Asked.{Correct}
use Rattle.thm_type_result.proofs.Weighed.{Cost, free}
use Rattle.thm_type_result.proofs.Weighing.{Adds, adds_defined, adds_any, adds_pure, adds_then}
use Rattle.thm_generics.proofs.Steps.{tracks_count_def}

pub define_adds : (k : ℕ) (d : Option MacroDefId) → Correct (define_form k d) (Adds free (maybe a_statement))
unfolding define_form
define_adds k None = adds_then (adds_any (tracks_count_def k)) (λ u. adds_pure (Some statement.Item) (λ v. omega arith))
define_adds k (Some d) = adds_then (adds_any (tracks_count_def k)) (λ u. adds_pure (Some (statement.MacroDef d)) (λ v. omega arith))

pub behind_adds : {A : Type 0} {was : Cost} {now : A → Cost} (s : Stmt) {p : Lowering A} → Correct p (Adds was now)
    → Correct (behind s p) (Adds was now)
behind_adds (tree.macro_stmt k (Some d)) h = adds_defined d h
behind_adds s h = h

pub behind_contains : {done : List Statement} (s : Stmt) {p : Lowering StoredContents} → Correct p (Contains done)
    → Correct (behind s p) (Contains done)
behind_contains (tree.macro_stmt k (Some d)) h = contains_defined d h
behind_contains s h = h
