-- What is made up for `for`, `?` and `try` notes nothing beside what their parts do.
use Rattle.std.proofs.Common.{ℕ, Bool, true, false, Option, Some, None}
use Rattle.hir_binding.specs.declared.binding.BindingAnnotation.{BindingAnnotation}
use Rattle.hir_store.specs.Pointers.{Pointer}
use Rattle.hir_store.specs.declared.ids.BlockId.{BlockId}
use Rattle.hir_store.specs.declared.ids.ExprId.{ExprId}
use Rattle.hir_store.specs.declared.ids.LabelId.{LabelId}
use Rattle.hir_store.specs.declared.ids.LangItemId.{LangItemId}
use Rattle.hir_store.specs.declared.ids.PatId.{PatId}
use Rattle.hir_store.specs.declared.ids.TypeRefId.{TypeRefId}
use Rattle.hir_env.specs.ResolvedTree.{ForItems, Label, QuestionItems}
use Rattle.hir_lower_builder.specs.Forms.{ExprSteps, StoredContents}
use Rattle.hir_lower_builder.specs.Lowering.{Lowering, ◌>>=◌, open_try, close}
use Rattle.hir_lower_builder.specs.Made.{made_path_form, made_bind_form, item_call_form, flow_arm_form, residual_form, question_form}
use Rattle.hir_lower_builder.specs.Made.{value_or_unit, wrapped_form, try_block_form, typed_try_form, made_reference_form, next_form}
use Rattle.hir_lower_builder.specs.Made.{done_arm_form, gives_arm_form, for_iteration_form, made_loop_form, for_form}
use Rattle.hir_lower_builder.specs.Made.{condition_form, held_form, hold_form}
use Rattle.spec_data.specs.Tracking.{Tracking, none, ◌⊕◌}
use Rattle.thm_generics.proofs.Forms.{opened_tracks}
use Rattle.thm_generics.proofs.Logic.{SideOutput, tracks_begin, tracks_end, tracks_pure, tracks_then}
use Rattle.thm_generics.proofs.Steps.{tracks_binding, tracks_close, tracks_define, tracks_enter_block, tracks_expr, tracks_made}
use Rattle.thm_generics.proofs.Steps.{tracks_made_number}
use Rattle.thm_generics.proofs.Steps.{tracks_open_try, tracks_pat, tracks_try_target}

made_bind_tracks : (mode : BindingAnnotation) (n : ℕ) → SideOutput none (made_bind_form mode n)
unfolding made_bind_form
made_bind_tracks mode n = tracks_end (tracks_binding _)
    (λ b. tracks_end (tracks_pat _ None) (λ p. tracks_end (tracks_define b p) (λ u. tracks_pure p)))

-- a `try` around steps
opened_try_tracks : {A B C : Type 0} {D E : Tracking} (at : Pointer) (typed : Bool) {s : Lowering C} {p : Lowering A}
    {f : LabelId → A → Lowering B} → SideOutput D s → SideOutput E p → ((n : LabelId) (a : A) → SideOutput none (f n a))
    → SideOutput (D ⊕ E) (open_try at typed >>= (λ n. s >>= (λ u. p >>= (λ a. close >>= (λ _. f n a)))))
opened_try_tracks at typed hs hp hf = tracks_begin (tracks_open_try at typed)
    (λ n. tracks_then hs (λ u. tracks_end hp (λ a. tracks_begin tracks_close (λ v. hf n a))))

module _ (at : Pointer) where
  made_path_tracks : (n : ℕ) → SideOutput none (made_path_form at n)
  unfolding made_path_form
  made_path_tracks n = tracks_made _ _

  item_call_tracks : (item : Option LangItemId) (argument : ExprId) → SideOutput none (item_call_form at item argument)
  unfolding item_call_form
  item_call_tracks item argument = tracks_end (tracks_made _ _) (λ f. tracks_made _ _)

  flow_arm_tracks : (item : LangItemId) {body : ℕ → ExprSteps} → ((n : ℕ) → SideOutput none (body n))
      → SideOutput none (flow_arm_form item body)
  unfolding flow_arm_form
  flow_arm_tracks item h = tracks_end tracks_made_number (λ n. tracks_end (made_bind_tracks _ n)
      (λ p. tracks_end (tracks_pat _ None) (λ q. tracks_end (h n) (λ e. tracks_pure _))))

  residual_tracks : (items : QuestionItems) (n : ℕ) → SideOutput none (residual_form at items n)
  unfolding residual_form
  residual_tracks items n = tracks_end (made_path_tracks n)
      (λ r. tracks_end tracks_try_target (λ t. tracks_end (item_call_tracks _ r) (λ e. tracks_made _ _)))

  pub question_tracks : (items : QuestionItems) {D : Tracking} {e : ExprSteps} → SideOutput D e
      → SideOutput D (question_form at items e)
  unfolding question_form
  question_tracks items h = tracks_end h (λ e. tracks_end (item_call_tracks _ e)
      (λ b. tracks_end (flow_arm_tracks items.goes_on made_path_tracks)
      (λ a. tracks_end (flow_arm_tracks items.breaks (residual_tracks items)) (λ c. tracks_expr _ _))))

  value_tracks : (tail : Option ExprId) → SideOutput none (value_or_unit at tail)
  unfolding value_or_unit
  value_tracks (Some e) = tracks_pure e
  value_tracks None = tracks_made _ _

  wrapped_tracks : (item : Option LangItemId) (tail : Option ExprId) → SideOutput none (wrapped_form at item tail)
  unfolding wrapped_form
  wrapped_tracks item tail = tracks_end (tracks_made _ _) (λ f. tracks_end (value_tracks tail) (λ v. tracks_made _ _))

  pub try_block_tracks : (item : Option LangItemId) (typed : Bool) (number : Option BlockId) {D : Tracking}
      {c : Lowering StoredContents} → SideOutput D c
      → SideOutput D (try_block_form at item typed number c)
  unfolding try_block_form
  try_block_tracks item typed number h =
      opened_try_tracks at typed (tracks_enter_block number) h (λ l r. tracks_end (wrapped_tracks item _) (λ v. tracks_expr _ _))

  -- the type last
  pub typed_try_tracks : {D E : Tracking} {b : ExprSteps} {t : Lowering TypeRefId} → SideOutput D b
      → SideOutput E t → SideOutput (D ⊕ E) (typed_try_form at b t)
  unfolding typed_try_form
  typed_try_tracks hb ht = tracks_then hb (λ b. tracks_then tracks_made_number (λ n. tracks_end ht (λ t. tracks_end (made_bind_tracks _ n)
      (λ p. tracks_end (made_path_tracks n) (λ e. tracks_made _ _)))))

  -- a condition, where its temporaries end

  held_tracks : {D : Tracking} {c : ExprSteps} → SideOutput D c → SideOutput D (held_form at c)
  unfolding held_form hold_form
  held_tracks h = tracks_end h (λ c. tracks_end tracks_made_number
      (λ n. tracks_end (made_bind_tracks _ n) (λ p. tracks_end (made_path_tracks n) (λ e. tracks_made _ _))))

  pub condition_tracks : (lets : Bool) {D : Tracking} {c : ExprSteps} → SideOutput D c → SideOutput D (condition_form lets at c)
  condition_tracks true h = h
  condition_tracks false h = held_tracks h

  -- `for`

  made_reference_tracks : (n : ℕ) → SideOutput none (made_reference_form at n)
  unfolding made_reference_form
  made_reference_tracks n = tracks_end (made_path_tracks n) (λ e. tracks_made _ _)

  next_tracks : (item : LangItemId) (n : ℕ) → SideOutput none (next_form at item n)
  unfolding next_form
  next_tracks item n = tracks_end (made_reference_tracks n) (λ r. item_call_tracks (Some item) r)

  done_tracks : (item : LangItemId) → SideOutput none (done_arm_form at item)
  unfolding done_arm_form
  done_tracks item = tracks_end (tracks_pat _ None) (λ p. tracks_end (tracks_made _ _) (λ e. tracks_pure _))

  gives_tracks : (item : LangItemId) (p : PatId) {D : Tracking} {body : ExprSteps} → SideOutput D body
      → SideOutput D (gives_arm_form item p body)
  unfolding gives_arm_form
  gives_tracks item p h = tracks_begin (tracks_pat _ None) (λ q. tracks_end h (λ e. tracks_pure _))

  for_iteration_tracks : (items : ForItems) (n : ℕ) (p : PatId) {D : Tracking} {body : ExprSteps} → SideOutput D body
      → SideOutput D (for_iteration_form at items n p body)
  unfolding for_iteration_form
  for_iteration_tracks items n p h = tracks_begin (next_tracks items.next n) (λ c. tracks_begin (done_tracks items.is_done)
      (λ a. tracks_end (gives_tracks items.gives p h) (λ b. tracks_end (tracks_made _ _) (λ e. tracks_made _ _))))

  made_loop_tracks : (label : Option Label) {D : Tracking} {body : ExprSteps} → SideOutput D body
      → SideOutput D (made_loop_form at label body)
  unfolding made_loop_form
  made_loop_tracks None h = tracks_end h (λ b. tracks_made _ _)
  made_loop_tracks (Some l) h = opened_tracks l (λ n. h) (λ n b. tracks_made _ _)

-- in the order of lowering
pub for_tracks : (at head_at : Pointer) (items : ForItems) (label : Option Label) {D E F : Tracking} {head : ExprSteps}
    {pattern : Lowering PatId} {body : ExprSteps} → SideOutput D head → SideOutput E pattern → SideOutput F body
    → SideOutput (D ⊕ (E ⊕ F)) (for_form at head_at items label head pattern body)
unfolding for_form
for_tracks at head_at items label hh hp hb = tracks_then hh (λ h. tracks_begin (item_call_tracks head_at (Some items.into_iter) h)
    (λ i. tracks_then hp (λ p. tracks_begin tracks_made_number (λ n. tracks_begin (made_bind_tracks _ n)
    (λ q. tracks_end (made_loop_tracks at label (for_iteration_tracks at items n p hb)) (λ l. tracks_expr _ _))))))
