-- What is told of a body behind its parameters, which may be one of a function that is a coroutine.
use Rattle.std.specs.Prelude.{Bool, true, false, List, [], ◌∷◌, Option, Some, None}
use Rattle.hir_store.specs.declared.diagnostics.ExpressionStoreDiagnostics.TheVariants.{InactiveCode}
use Rattle.hir_store.specs.declared.hir.CoroutineKind.{CoroutineKind}
use Rattle.hir_env.specs.ResolvedTree as tree
use Rattle.hir_env.specs.ResolvedTree.{Formal, Formals, OptionExpr, SelfFormal}
use Rattle.thm_logic.specs.Grades.{grade_expr_part, grade_top}
use Rattle.thm_logic.specs.Grading.{Grading}

-- of a coroutine: what is told of `self`, of the other parameters and of the body
pub record GradingBodies {ℓ} (S : Grading {ℓ}) : Type ℓ where
  pub coroutine_body : Bool → Formals → S.G → S.G → S.G → S.G

module _ {ℓ} (S : Grading {ℓ}) where
  abbrev pub grade_self : SelfFormal → S.G
  grade_self tree.no_self = S.none
  grade_self (tree.disabled_self at by) = S.fault (InactiveCode at by)
  grade_self (tree.self_formal at u _) = S.binding

  -- nothing of a parameter is read where the body is skipped, nor of one at fault
  abbrev pub grade_formal : Bool → Formal → S.G
  grade_formal skipped (tree.disabled_formal at by) = S.fault (InactiveCode at by)
  grade_formal true (tree.formal p) = S.pat_at None
  grade_formal false (tree.formal p) = grade_top S p

  abbrev pub grade_formals : Bool → List Formal → S.G
  grade_formals skipped [] = S.none
  grade_formals skipped (f ∷ fs) = S.then' (grade_formal skipped f) (grade_formals skipped fs)

  abbrev pub grade_body : GradingBodies S → Option CoroutineKind → Bool → Formals → OptionExpr → S.G
  grade_body B None skipped f e =
      S.then' (S.then' (grade_self f.receiver) (grade_formals skipped f.formals)) (grade_expr_part S e)
  grade_body B (Some kind) skipped f e =
      B.coroutine_body skipped f (grade_self f.receiver) (grade_formals skipped f.formals) (grade_expr_part S e)
