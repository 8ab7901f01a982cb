-- In what is made up, made names stay apart: what the one induction says of its forms.
use Rattle.std.proofs.Common.{ℕ, Bool, Option}
use Rattle.hir_store.specs.Pointers.{Pointer}
use Rattle.hir_store.specs.declared.ids.ExprId.{ExprId}
use Rattle.hir_store.specs.declared.ids.LangItemId.{LangItemId}
use Rattle.hir_store.specs.declared.ids.PatId.{PatId}
use Rattle.hir_env.specs.ResolvedTree.{ForItems, IsWrittenLabel, Label, QuestionItems}
use Rattle.hir_lower_builder.specs.Forms.{ExprSteps}
use Rattle.hir_lower_builder.specs.Made.{condition_form, flow_arm_form, for_iteration_form, item_call_form, made_loop_form, made_path_form}
use Rattle.hir_lower_builder.specs.Made.{residual_form, wrapped_form}
use Rattle.thm_logic.proofs.Apart.{Apart}
use Rattle.thm_logic.proofs.AsApart.{apart_graded}
use Rattle.thm_logic.proofs.GradedMade as made
use Rattle.thm_logic.proofs.Logic.{Correct}

pub flow_arm_apart : (item : LangItemId) {body : ℕ → ExprSteps} → ((n : ℕ) → Correct (body n) Apart)
    → Correct (flow_arm_form item body) Apart
flow_arm_apart item h = made.flow_arm_graded apart_graded item h

module _ (at : Pointer) where
  pub made_path_apart : (n : ℕ) → Correct (made_path_form at n) Apart
  made_path_apart n = made.path_graded apart_graded at n

  pub item_call_apart : (item : Option LangItemId) (argument : ExprId) → Correct (item_call_form at item argument) Apart
  item_call_apart item argument = made.item_call_graded apart_graded at item argument

  pub residual_apart : (items : QuestionItems) (n : ℕ) → Correct (residual_form at items n) Apart
  residual_apart items n = made.residual_graded apart_graded at items n

  pub wrapped_apart : (item : Option LangItemId) (tail : Option ExprId) → Correct (wrapped_form at item tail) Apart
  wrapped_apart item tail = made.wrapped_graded apart_graded at item tail

  pub condition_apart : (lets : Bool) {c : ExprSteps} → Correct c Apart → Correct (condition_form lets at c) Apart
  condition_apart lets h = made.condition_graded apart_graded at lets h

  pub for_iteration_apart : (items : ForItems) (n : ℕ) (p : PatId) {b : ExprSteps} → Correct b Apart
      → Correct (for_iteration_form at items n p b) Apart
  for_iteration_apart items n p h = made.iteration_graded apart_graded at items n p h

  pub made_loop_apart : (label : Option Label) → IsWrittenLabel label → {b : ExprSteps} → Correct b Apart
      → Correct (made_loop_form at label b) Apart
  made_loop_apart label is h = made.loop_graded apart_graded at label is h
