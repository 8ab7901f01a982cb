-- What is told of a body behind its parameters holds of its lowering.
use Rattle.std.proofs.Common.{Bool, true, false, List, [], ◌∷◌, Option, Some, None}
use Rattle.hir_store.specs.declared.hir.CoroutineKind.{CoroutineKind}
use Rattle.hir_store.specs.declared.ids.PatId.{PatId}
use Rattle.hir_env.specs.ResolvedTree as tree
use Rattle.hir_env.specs.ResolvedTree.{Formal, Formals, OptionExpr, SelfFormal}
use Rattle.hir_lower_builder.specs.Lower.{lower_part}
use Rattle.thm_body_result.specs.Formals.{coroutine_body, each_formal, lower_body, lower_formal, lower_formals, lower_self, plain_body}
use Rattle.thm_body_result.specs.Bodies.{GradingBodies, grade_body, grade_formal, grade_formals, grade_self}
use Rattle.thm_logic.specs.Grading.{Grading}
use Rattle.thm_logic.proofs.Graded.{Graded, next, map_is}
use Rattle.thm_logic.proofs.GradedPats.{missing_pat_graded}
use Rattle.thm_logic.proofs.GradedTree.{expr_part_graded, top_graded}

-- A property of functions that are coroutines, too. That made names stay apart is none: there some are of two bindings.
pub record GradedBodies {ℓ} {S : Grading {ℓ}} (L : Graded S) (B : GradingBodies S) : Type (ℓ ⊔ 1) where
  pub coroutine_body_is : (kind : CoroutineKind) (skipped : Bool) (f : Formals) (e : OptionExpr) {g h : S.G}
      → L.Claim (grade_self S f.receiver) (lower_self f.receiver) → L.Claim g (each_formal skipped [] f.formals)
      → L.Made h (lower_part e)
      → L.Claim (B.coroutine_body skipped f (grade_self S f.receiver) g h) (coroutine_body kind skipped f e)

module _ {ℓ} {S : Grading {ℓ}} (L : Graded S) where
  self_graded : (s : SelfFormal) → L.Claim (grade_self S s) (lower_self s)
  self_graded tree.no_self = L.pure_is None
  self_graded (tree.disabled_self at by) = map_is L _ (L.fault_is _)
  self_graded (tree.self_formal at u is) = map_is L _ (L.binding_is u is)

  formal_graded : (skipped : Bool) (f : Formal) → L.Claim (grade_formal S skipped f) (lower_formal skipped f)
  formal_graded false (tree.disabled_formal at by) = map_is L _ (L.fault_is _)
  formal_graded true (tree.disabled_formal at by) = map_is L _ (L.fault_is _)
  formal_graded true (tree.formal p) = map_is L _ (L.pat_made_is (missing_pat_graded L))
  formal_graded false (tree.formal p) = map_is L _ (top_graded L p)

  formals_graded : (skipped : Bool) (done : List PatId) (fs : List Formal)
      → L.Claim (grade_formals S skipped fs) (each_formal skipped done fs)
  formals_graded skipped done [] = L.pure_is done
  formals_graded skipped done (f ∷ fs) = next L (formal_graded skipped f) (λ x. formals_graded skipped _ fs)

  pub body_graded : {B : GradingBodies S} → GradedBodies L B → (kind : Option CoroutineKind) (skipped : Bool) (f : Formals)
      (e : OptionExpr) → L.Claim (grade_body S B kind skipped f e) (lower_body kind skipped f e)
  unfolding lower_formals plain_body
  body_graded G None skipped f e =
      next L (next L (self_graded f.receiver) (λ s. map_is L _ (formals_graded skipped [] f.formals)))
      (λ given. map_is L _ (L.made_is (expr_part_graded L e)))
  body_graded G (Some kind) skipped f e =
      G.coroutine_body_is kind skipped f e (self_graded f.receiver) (formals_graded skipped [] f.formals) (expr_part_graded L e)
