-- Lowering a tree reports its faults: those that are told of it are those that are listed.
use Rattle.std.proofs.Common.{◌≡◌, ◌∙◌, refl, sym, ap, Bool, true, false, List, [], ◌∷◌, ◌++◌, append_assoc, Option, Some, None}
use Rattle.hir_store.specs.declared.hir.CoroutineKind.{CoroutineKind}
use Rattle.hir_env.specs.ResolvedTree as tree
use Rattle.hir_env.specs.ResolvedTree.{Binder, Formal, Formals, OptionExpr, OptionPath, OptionType, SelfFormal}
use Rattle.hir_lower_scope.specs.Scopes.{Scope}
use Rattle.hir_lower_builder.specs.Lower.{lower_path, type_part}
use Rattle.hir_lower_builder.specs.Lowering.{Lowering}
use Rattle.thm_logic.proofs.Steps.{Correct}
use Rattle.thm_body_result.specs.Bodies.{GradingBodies, grade_body, grade_formal, grade_formals, grade_self}
use Rattle.thm_body_result.specs.Diagnostics.{Faults, body_faults, each_formal_faults, formal_faults, part_diagnostics, self_faults}
use Rattle.thm_body_result.specs.Diagnostics.{type_part_faults, whole_faults}
use Rattle.thm_body_result.specs.Formals.{lower_body}
use Rattle.thm_body_result.specs.Theorems.{DiagnosticsAre}
use Rattle.thm_body_result.specs.Lists.{bodies_listed, faults}
use Rattle.thm_body_result.proofs.AsEmitting.{behind, fault_listing, emits_bodies, emits_graded}
use Rattle.thm_body_result.proofs.FaultsAgree.{expr_part_is, part_is, top_is, whole_is}
use Rattle.thm_body_result.proofs.GradedBodies.{body_graded}
use Rattle.thm_body_result.proofs.Joined.{both}
use Rattle.thm_logic.proofs.GradedTree.{expr_part_graded, part_graded, path_graded}
use Rattle.thm_body_result.proofs.Emission.{Emits, emits_as}

abbrev pub Reports : {A : Type 0} → (List Scope → Faults) → Lowering A → Type 0
Reports D p = Correct p (Emits fault_listing D)

pub type_reports : (b : Option Binder) (t : OptionType) → Reports (λ ss. type_part_faults ss t) (type_part b t)
type_reports b t = emits_as fault_listing (part_graded (emits_graded fault_listing) b t) (λ ss. sym (part_is b t ss))

pub whole_reports : (p : OptionPath) → Reports (λ ss. whole_faults ss p) (lower_path p)
whole_reports p = emits_as fault_listing (path_graded (emits_graded fault_listing) p).claim (λ ss. sym (whole_is p ss))

pub diagnostics_are : DiagnosticsAre
diagnostics_are e old id new paired is ss around =
    behind fault_listing (λ xs ys like. like) (expr_part_graded (emits_graded fault_listing) e) old new id paired is ss around
    ∙ ap (λ ds. old.stored.diagnostics ++ ds) (expr_part_is e ss)

-- bodies behind their parameters

self_is : (s : SelfFormal) (ss : List Scope) → grade_self faults s ss ≡ self_faults s
self_is tree.no_self ss = refl
self_is (tree.disabled_self at by) ss = refl
self_is (tree.self_formal at u _) ss = refl

formal_is : (skipped : Bool) (f : Formal) (ss : List Scope) → grade_formal faults skipped f ss ≡ formal_faults skipped ss f
formal_is false (tree.disabled_formal at by) ss = refl
formal_is true (tree.disabled_formal at by) ss = refl
formal_is true (tree.formal p) ss = refl
formal_is false (tree.formal p) ss = top_is p ss

formals_are : (skipped : Bool) (fs : List Formal) (ss : List Scope)
    → grade_formals faults skipped fs ss ≡ each_formal_faults skipped ss fs
formals_are skipped [] ss = refl
formals_are skipped (f ∷ fs) ss = both (formal_is skipped f ss) (formals_are skipped fs ss)

abbrev in_bodies : GradingBodies faults
in_bodies = bodies_listed fault_listing.of_faults fault_listing.of_block fault_listing.of_emitted

body_is : (kind : Option CoroutineKind) (skipped : Bool) (f : Formals) (e : OptionExpr) (ss : List Scope)
    → grade_body faults in_bodies kind skipped f e ss ≡ body_faults skipped ss f e
body_is None skipped f e ss = both (both (self_is f.receiver ss) (formals_are skipped f.formals ss)) (expr_part_is e ss)
body_is (Some kind) skipped f e ss =
    both (self_is f.receiver ss) (both (formals_are skipped f.formals ss) (expr_part_is e ss))
    ∙ sym (append_assoc (self_faults f.receiver) (each_formal_faults skipped ss f.formals) (part_diagnostics ss e))

pub body_reports : (kind : Option CoroutineKind) (skipped : Bool) (f : Formals) (e : OptionExpr)
    → Reports (λ ss. body_faults skipped ss f e) (lower_body kind skipped f e)
body_reports kind skipped f e =
    emits_as fault_listing (body_graded (emits_graded fault_listing) (emits_bodies fault_listing) kind skipped f e)
    (λ ss. sym (body_is kind skipped f e ss))
