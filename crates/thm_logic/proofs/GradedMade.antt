-- What is done for `for`, `?` and `try`, by what is told of the parts: one lemma a form, for all claims.
use Rattle.std.proofs.Common.{◌≡◌, ℕ, Bool, true, false, not, Option, Some, None, is_some}
use Rattle.hir_binding.specs.declared.binding.BindingAnnotation.TheVariants.{Mutable, Unannotated}
use Rattle.hir_store.specs.Pointers.{Pointer}
use Rattle.hir_store.specs.declared.ids.BlockId.{BlockId}
use Rattle.hir_store.specs.declared.ids.ExprId.{ExprId}
use Rattle.hir_store.specs.declared.ids.LangItemId.{LangItemId}
use Rattle.hir_store.specs.declared.ids.PatId.{PatId}
use Rattle.hir_store.specs.declared.ids.TypeRefId.{TypeRefId}
use Rattle.hir_env.specs.ResolvedTree.{ForItems, IsWrittenLabel, Label, QuestionItems}
use Rattle.hir_lower_builder.specs.Forms.{ExprSteps, StoredContents, settled}
use Rattle.hir_lower_builder.specs.Lowering.{Lowering}
use Rattle.hir_lower_builder.specs.Made as made
use Rattle.thm_logic.specs.Grading.{Grading, if_so, condition, item_call, flow_arm, residual, for_iteration, made_bind, wrapped}
use Rattle.thm_logic.proofs.Graded.{Graded, Emitted, next, made_next, map_is}

module _ {ℓ} {S : Grading {ℓ}} (L : Graded S) where
  -- an arm for an item, with what is done with what the item holds
  pub flow_arm_graded : (item : LangItemId) {g : S.G} {body : ℕ → ExprSteps} → ((n : ℕ) → L.Made g (body n))
      → L.Claim (flow_arm S g) (made.flow_arm_form item body)
  unfolding made.flow_arm_form
  flow_arm_graded item h =
      L.named_is Unannotated (λ n p. next L (L.pat_made_is (L.pat_is _ None)) (λ q. map_is L _ (L.made_is (h n))))

  module _ (at : Pointer) where
    pub path_graded : (n : ℕ) → L.Made S.expr (made.made_path_form at n)
    unfolding made.made_path_form
    path_graded n = L.made_expr_is _ (Some at)

    pub item_call_graded : (item : Option LangItemId) (argument : ExprId) → L.Made (item_call S) (made.item_call_form at item argument)
    unfolding made.item_call_form
    item_call_graded item argument = made_next L (L.made_is (L.made_expr_is _ (Some at))) (λ f. L.made_expr_is _ (Some at))

    -- `?`

    pub residual_graded : (items : QuestionItems) (n : ℕ) → L.Made (residual S) (made.residual_form at items n)
    unfolding made.residual_form
    residual_graded items n = made_next L (L.made_is (path_graded n)) (λ r. L.asked_is (λ t.
        made_next L (L.made_is (item_call_graded _ r)) (λ e. L.made_expr_is _ (Some at))))

    pub question_graded : (items : QuestionItems) {g : S.G} {e : ExprSteps} → L.Made g e
        → L.Made (S.then' g (S.then' (item_call S) (S.then' (flow_arm S S.expr) (S.then' (flow_arm S (residual S)) S.expr))))
        (made.question_form at items e)
    unfolding made.question_form
    question_graded items h = made_next L (L.made_is h) (λ e. made_next L (L.made_is (item_call_graded (Some items.branch) e)) (λ b.
        made_next L (flow_arm_graded items.goes_on path_graded) (λ a.
        made_next L (flow_arm_graded items.breaks (residual_graded items)) (λ c. L.expr_is _ (Some at)))))

    -- `try`

    value_graded : (tail : Option ExprId) → L.Claim (if_so S (not (is_some tail)) S.expr) (made.value_or_unit at tail)
    unfolding made.value_or_unit
    value_graded (Some e) = L.pure_is e
    value_graded None = L.made_is (L.made_expr_is _ (Some at))

    pub wrapped_graded : (item : Option LangItemId) (tail : Option ExprId)
        → L.Made (wrapped S (is_some tail)) (made.wrapped_form at item tail)
    unfolding made.wrapped_form
    wrapped_graded item tail = made_next L (L.made_is (L.made_expr_is _ (Some at))) (λ f.
        made_next L (value_graded tail) (λ v. L.made_expr_is _ (Some at)))

    -- where it is known whether what is in the block has a value
    pub try_block_graded : (item : Option LangItemId) (typed : Bool) (number : Option BlockId) (b : Bool) {g : S.G}
        {c : Lowering StoredContents} → Emitted L g (λ r. is_some (settled r.0 r.1).1 ≡ b) c
        → L.Made (S.tried typed (S.block number) g (S.then' (wrapped S b) S.expr)) (made.try_block_form at item typed number c)
    unfolding made.try_block_form
    try_block_graded item typed number b h = L.try_is at typed (λ x. S.then' (wrapped S x) S.expr) (λ r. is_some (settled r.0 r.1).1) b
        (L.block_is number) h.claim h.known (λ l r.
        made_next L (L.made_is (wrapped_graded item (settled r.0 r.1).1)) (λ v. L.expr_is _ (Some at)))

    pub typed_try_graded : {g h : S.G} {b : ExprSteps} {t : Lowering TypeRefId} → L.Made g b → L.Claim h t
        → L.Made (S.then' g (S.then' S.generated_name (S.then' h (S.then' (made_bind S) (S.then' S.expr S.expr)))))
        (made.typed_try_form at b t)
    unfolding made.typed_try_form
    typed_try_graded hb ht = made_next L (L.made_is hb) (λ b. L.named_past_is Unannotated ht (λ n t p.
        made_next L (L.made_is (path_graded n)) (λ e. L.made_expr_is _ (Some at))))

    -- a condition, where its temporaries end

    held_graded : {g : S.G} {c : ExprSteps} → L.Made g c → L.Made (condition S false g) (made.held_form at c)
    unfolding made.held_form made.hold_form
    held_graded h = made_next L (L.made_is h) (λ c. L.made_named_is Unannotated (λ n p.
        made_next L (L.made_is (path_graded n)) (λ e. L.made_expr_is _ (Some at))))

    pub condition_graded : (lets : Bool) {g : S.G} {c : ExprSteps} → L.Made g c
        → L.Made (condition S lets g) (made.condition_form lets at c)
    condition_graded true h = h
    condition_graded false h = held_graded h

    -- `for`

    reference_graded : (n : ℕ) → L.Made (S.then' S.expr S.expr) (made.made_reference_form at n)
    unfolding made.made_reference_form
    reference_graded n = made_next L (L.made_is (path_graded n)) (λ e. L.made_expr_is _ (Some at))

    next_graded : (item : LangItemId) (n : ℕ) → L.Made (S.then' (S.then' S.expr S.expr) (item_call S)) (made.next_form at item n)
    unfolding made.next_form
    next_graded item n = made_next L (L.made_is (reference_graded n)) (λ r. item_call_graded (Some item) r)

    done_graded : (item : LangItemId) → L.Claim (S.then' (S.pat_at None) S.expr) (made.done_arm_form at item)
    unfolding made.done_arm_form
    done_graded item = next L (L.pat_made_is (L.pat_is _ None)) (λ p. map_is L _ (L.made_is (L.made_expr_is _ (Some at))))

    gives_graded : (item : LangItemId) (p : PatId) {g : S.G} {body : ExprSteps} → L.Made g body
        → L.Claim (S.then' (S.pat_at None) g) (made.gives_arm_form item p body)
    unfolding made.gives_arm_form
    gives_graded item p h = next L (L.pat_made_is (L.pat_is _ None)) (λ q. map_is L _ (L.made_is h))

    pub iteration_graded : (items : ForItems) (n : ℕ) (p : PatId) {g : S.G} {body : ExprSteps} → L.Made g body
        → L.Made (for_iteration S g) (made.for_iteration_form at items n p body)
    unfolding made.for_iteration_form
    iteration_graded items n p h = made_next L (L.made_is (next_graded items.next n)) (λ c. made_next L (done_graded items.is_done) (λ a.
        made_next L (gives_graded items.gives p h) (λ b. made_next L (L.made_is (L.made_expr_is _ (Some at))) (λ e.
        L.made_expr_is _ (Some at)))))

    pub loop_graded : (label : Option Label) → IsWrittenLabel label → {g : S.G} {body : ExprSteps} → L.Made g body
        → L.Made (S.looped label g) (made.made_loop_form at label body)
    unfolding made.made_loop_form
    loop_graded None is h = L.bare_is (L.made_is h) (λ i. L.made_expr_is _ (Some at))
    loop_graded (Some l) is h = L.loop_is l is _ (L.made_is h) (λ n i. L.made_expr_is _ (Some at))

  -- what makes an iterator of the head comes from another node
  pub for_graded : (at head_at : Pointer) (items : ForItems) (label : Option Label) → IsWrittenLabel label → {g h k : S.G}
      {head : ExprSteps} {pattern : Lowering PatId} {body : ExprSteps} → L.Made g head → L.Claim h pattern → L.Made k body
      → L.Made (S.then' g (S.then' (item_call S) (S.then' h (S.then' S.generated_name (S.then' (made_bind S)
      (S.then' (S.looped label (for_iteration S k)) S.expr)))))) (made.for_form at head_at items label head pattern body)
  unfolding made.for_form
  for_graded at head_at items label is hh hp hb = made_next L (L.made_is hh) (λ h.
      made_next L (L.made_is (item_call_graded head_at (Some items.into_iter) h)) (λ i. made_next L hp (λ p.
      L.made_named_is Mutable (λ n q. made_next L (L.made_is (loop_graded at label is (iteration_graded at items n p hb))) (λ l.
      L.expr_is _ (Some at))))))
