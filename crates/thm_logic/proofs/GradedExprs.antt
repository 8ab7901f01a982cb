-- What is done with the parts of expressions and statements, by what is told of the parts: one lemma a form, for all claims.
use Rattle.std.proofs.Common.{Bool, true, false, List, Option, Some, None, is_some}
use Rattle.hir_store.specs.Pointers.{Pointer}
use Rattle.hir_store.specs.declared.diagnostics.AwaitLocation.{AwaitLocation}
use Rattle.hir_store.specs.declared.hir.Expr.{Expr as HirExpr}
use Rattle.hir_store.specs.declared.hir.Expr.TheVariants as hir
use Rattle.hir_store.specs.declared.hir.LoopSource.{LoopSource}
use Rattle.hir_store.specs.declared.hir.MatchArm.{MatchArm}
use Rattle.hir_store.specs.declared.hir.RecordLitField.{RecordLitField}
use Rattle.hir_store.specs.declared.hir.RecordSpread.{RecordSpread}
use Rattle.hir_store.specs.declared.ids.BlockId.{BlockId}
use Rattle.hir_store.specs.declared.ids.ExprId.{ExprId}
use Rattle.hir_store.specs.declared.ids.HygieneId.{HygieneId}
use Rattle.hir_store.specs.declared.ids.LabelId.{LabelId}
use Rattle.hir_store.specs.declared.ids.PatId.{PatId}
use Rattle.hir_store.specs.declared.ids.TypeRefId.{TypeRefId}
use Rattle.hir_store.specs.declared.name.Name.{Name}
use Rattle.hir_store.specs.declared.path.GenericArgs.{GenericArgs}
use Rattle.hir_store.specs.declared.path.Path.{Path as HirPath}
use Rattle.hir_store.specs.declared.type_ref.ConstRef.{ConstRef}
use Rattle.hir_env.specs.ResolvedTree as tree
use Rattle.hir_env.specs.ResolvedTree.{Expr, IsWrittenLabel, Jump, Label, Listing, RangeForm, Stmt}
use Rattle.hir_lower_builder.specs.declared.closures.ClosureParams.{ClosureParams}
use Rattle.hir_lower_builder.specs.Calls.{behind}
use Rattle.hir_lower_builder.specs.Forms as forms
use Rattle.hir_lower_builder.specs.Forms.{ExprSteps, StoredContents, StoredFields, missing, kept, some}
use Rattle.hir_lower_builder.specs.Lowering.{Lowering, report_await}
use Rattle.hir_lower_builder.specs.Ranges as ranges
use Rattle.hir_lower_builder.specs.Types.{TypeSteps}
use Rattle.thm_logic.specs.PathSeen.{Seen}
use Rattle.thm_logic.proofs.PathAnswers.{GivesPath, option_seen}
use Rattle.thm_logic.specs.Grading.{Grading, grade_await, grade_behind, grade_front, grade_range, kept_of, labelled_of, record_of}
use Rattle.thm_logic.proofs.Graded.{Graded, Emitted, next, made_next, map_is}
use Rattle.thm_logic.proofs.GradedTypes.{made_by_path}

module _ {ℓ} {S : Grading {ℓ}} (L : Graded S) where
  pub missing_graded : L.Made S.expr missing
  unfolding missing
  missing_graded = L.expr_is _ None

  pub some_graded : {g : S.G} {p : ExprSteps} → L.Made g p → L.Claim g (some p)
  some_graded h = map_is L _ (L.made_is h)

  -- what is gone leaves what is told of that and nothing else
  pub kept_graded : (e : Expr) {g : S.G} {p : ExprSteps} → L.Made g p → L.Claim (kept_of S e g) (kept e p)
  kept_graded (tree.disabled_expr why e) h = map_is L _ (L.gone_is why)
  kept_graded e h = some_graded h

  report_graded : (at : Pointer) (location : Option AwaitLocation) → L.Claim (grade_await S at location) (report_await at location)
  unfolding report_await
  report_graded at None = L.pure_is tt
  report_graded at (Some location) = L.fault_is _

  made_range_graded : (at : Pointer) (form : RangeForm) (s e : Option ExprId) → L.Made (grade_range S form) (ranges.made_range at form s e)
  made_range_graded at (tree.record_range item last) s e = L.expr_is _ (Some at)
  made_range_graded at (tree.call_range item) s e = made_next L (L.made_is (L.expr_is _ None)) (λ f. L.expr_is _ (Some at))
  made_range_graded at tree.itemless_range s e = L.expr_is _ (Some at)

  module _ (at : Pointer) where
    pub if_graded : {g h k : S.G} {c t : ExprSteps} {e : Lowering (Option ExprId)} → L.Made g c → L.Made h t → L.Claim k e
        → L.Made (S.then' h (S.then' k (S.then' g S.expr))) (forms.if_form at c t e)
    unfolding forms.if_form
    if_graded hc ht he = made_next L (L.made_is ht) (λ x. made_next L he (λ y. made_next L (L.made_is hc) (λ z. L.expr_is _ (Some at))))

    pub loop_graded : (from : LoopSource) (label : Option Label) → IsWrittenLabel label → {g : S.G} {b : ExprSteps} → L.Made g b
        → L.Made (S.looped label g) (forms.loop_form at from label b)
    unfolding forms.loop_form
    loop_graded from None is h = L.bare_is (L.made_is h) (λ i. L.expr_is _ (Some at))
    loop_graded from (Some l) is h = L.loop_is l is _ (L.made_is h) (λ n i. L.expr_is _ (Some at))

    pub iteration_graded : {g h : S.G} {c b : ExprSteps} → L.Made g c → L.Made h b
        → L.Made (S.then' h (S.then' g (S.then' S.expr S.expr))) (forms.iteration_form at c b)
    unfolding forms.iteration_form
    iteration_graded hc hb = made_next L (L.made_is hb) (λ i. made_next L (L.made_is hc) (λ j.
        made_next L (L.made_is (L.expr_is _ (Some at))) (λ o. L.expr_is _ (Some at))))

    pub call_graded : {g h : S.G} {f : ExprSteps} {xs : Lowering (List ExprId)} → L.Made g f → L.Claim h xs
        → L.Made (S.then' g (S.then' h S.expr)) (forms.call_form at f xs)
    unfolding forms.call_form
    call_graded hf hx = made_next L (L.made_is hf) (λ i. made_next L hx (λ is. L.expr_is _ (Some at)))

    pub continue_graded : (j : Option Jump) → L.Made (S.then' (S.jump j) S.expr) (forms.continue_form at j)
    unfolding forms.continue_form
    continue_graded j = made_next L (L.jump_is j) (λ n. L.expr_is _ (Some at))

    pub break_graded : (j : Option Jump) {g : S.G} {e : Lowering (Option ExprId)} → L.Claim g e
        → L.Made (S.then' (S.jump j) (S.then' g S.expr)) (forms.break_form at j e)
    unfolding forms.break_form
    break_graded j h = made_next L (L.jump_is j) (λ n. made_next L h (λ v. L.expr_is _ (Some at)))

    pub paren_graded : {g : S.G} {e : ExprSteps} → L.Made g e → L.Made g (forms.paren_form at e)
    unfolding forms.paren_form
    paren_graded h = L.point_is at h

    pub path_graded : (h : HygieneId) {g : S.G} {p : Lowering (Option HirPath)} → L.Claim g p
        → L.Made (S.then' g S.expr) (forms.path_form at h p)
    unfolding forms.path_form
    path_graded h hp = made_next L hp (λ p. L.expr_is _ (Some at))

    pub operand_graded : (form : ExprId → HirExpr) {g : S.G} {e : ExprSteps} → L.Made g e
        → L.Made (S.then' g S.expr) (forms.operand_form at form e)
    unfolding forms.operand_form
    operand_graded form h = made_next L (L.made_is h) (λ i. L.expr_is _ (Some at))

    pub operands_graded : (form : ExprId → ExprId → HirExpr) {g h : S.G} {a b : ExprSteps} → L.Made g a → L.Made h b
        → L.Made (S.then' g (S.then' h S.expr)) (forms.operands_form at form a b)
    unfolding forms.operands_form
    operands_graded form ha hb = made_next L (L.made_is ha) (λ i. made_next L (L.made_is hb) (λ j. L.expr_is _ (Some at)))

    pub value_graded : (form : Option ExprId → HirExpr) {g : S.G} {e : Lowering (Option ExprId)} → L.Claim g e
        → L.Made (S.then' g S.expr) (forms.value_form at form e)
    unfolding forms.value_form
    value_graded form h = made_next L h (λ i. L.expr_is _ (Some at))

    pub yield_graded : {g : S.G} {e : Lowering (Option ExprId)} → L.Claim g e
        → L.Made (S.yielding (S.then' g S.expr)) (forms.yield_form at e)
    yield_graded h = L.yield_is at _ (value_graded hir.Yield h)

    pub list_graded : (form : Listing) {g : S.G} {xs : Lowering (List ExprId)} → L.Claim g xs
        → L.Made (S.then' g (grade_front S form)) (forms.list_form at form xs)
    unfolding forms.list_form
    list_graded (tree.tuple_of false) h = made_next L h (λ is. L.expr_is _ (Some at))
    list_graded (tree.tuple_of true) h = made_next L h (λ is. made_next L (L.made_is missing_graded) (λ i. L.expr_is _ (Some at)))
    list_graded tree.array_of h = made_next L h (λ is. L.expr_is _ (Some at))

    pub repeat_graded : {g h : S.G} {e : ExprSteps} {c : Lowering ConstRef} → L.Made g e → L.Claim h c
        → L.Made (S.then' g (S.then' h S.expr)) (forms.repeat_form at e c)
    unfolding forms.repeat_form
    repeat_graded he hc = made_next L (L.made_is he) (λ i. made_next L hc (λ c. L.expr_is _ (Some at)))

    pub const_graded : {g : S.G} {c : Lowering ConstRef} → L.Claim g c → L.Made (S.then' g S.expr) (forms.const_form at c)
    unfolding forms.const_form
    const_graded h = made_next L h (λ c. L.expr_is _ (Some at))

    pub method_call_graded : (name : Name) {g h k : S.G} {e : ExprSteps} {xs : Lowering (List ExprId)}
        {as' : Lowering (Option GenericArgs)} → L.Made g e → L.Claim h xs → L.Claim k as'
        → L.Made (S.then' g (S.then' h (S.then' k S.expr))) (forms.method_call_form at e name xs as')
    unfolding forms.method_call_form
    method_call_graded name he hx ha =
        made_next L (L.made_is he) (λ i. made_next L hx (λ is. made_next L ha (λ a. L.expr_is _ (Some at))))

    pub cast_graded : {g h : S.G} {e : ExprSteps} {t : TypeSteps} → L.Made g e → L.Claim h t
        → L.Made (S.then' g (S.then' h S.expr)) (forms.cast_form at e t)
    unfolding forms.cast_form
    cast_graded he ht = made_next L (L.made_is he) (λ i. made_next L ht (λ t. L.expr_is _ (Some at)))

    pub offset_of_graded : (names : List Name) {g : S.G} {t : TypeSteps} → L.Claim g t
        → L.Made (S.then' g S.expr) (forms.offset_of_form at t names)
    unfolding forms.offset_of_form
    offset_of_graded names ht = made_next L ht (λ t. L.expr_is _ (Some at))

    record_of_graded : {g : S.G} {c : Lowering StoredFields} → L.Claim g c → (o : Option HirPath)
        → L.Made (record_of S (is_some (option_seen o)) g) (forms.record_of at c o)
    record_of_graded h None = missing_graded
    record_of_graded h (Some o) = made_next L h (λ r. L.expr_is _ (Some at))

    pub record_graded : {x : Option Seen} {f g : S.G} {q : Lowering (Option HirPath)} {c : Lowering StoredFields}
        → Emitted L f (GivesPath x) q → L.Claim g c → L.Made (S.then' f (record_of S (is_some x) g)) (forms.record_form at q c)
    unfolding forms.record_form
    record_graded {g = g} hq h = made_by_path L (λ y. record_of S (is_some y) g) hq (λ o. record_of_graded h o)

    pub field_graded : (name : Name) {g : S.G} {e : ExprSteps} → L.Made g e → L.Claim g (forms.field_form at name e)
    unfolding forms.field_form
    field_graded name h = L.end_is (L.made_is h) (λ i. map_is L _ (L.point_field_is i at))

    pub await_graded : (location : Option AwaitLocation) {g : S.G} {e : ExprSteps} → L.Made g e
        → L.Made (S.then' g (S.then' (grade_await S at location) S.expr)) (forms.await_form at location e)
    unfolding forms.await_form
    await_graded location h = made_next L (L.made_is h) (λ i. made_next L (report_graded at location) (λ u. L.expr_is _ (Some at)))

    pub let_graded : {g h : S.G} {p : Lowering PatId} {e : ExprSteps} → L.Claim g p → L.Made h e
        → L.Made (S.then' g (S.then' h S.expr)) (forms.let_form at p e)
    unfolding forms.let_form
    let_graded hp he = made_next L hp (λ p. made_next L (L.made_is he) (λ e. L.expr_is _ _))

    pub match_graded : {g h : S.G} {e : ExprSteps} {arms : Lowering (List MatchArm)} → L.Made g e → L.Claim h arms
        → L.Made (S.then' g (S.then' h S.expr)) (forms.match_form at e arms)
    unfolding forms.match_form
    match_graded he ha = made_next L (L.made_is he) (λ e. made_next L ha (λ as'. L.expr_is _ _))

    pub assign_graded : {g h : S.G} {t : Lowering PatId} {v : ExprSteps} → L.Claim g t → L.Made h v
        → L.Made (S.then' g (S.then' h S.expr)) (forms.assign_form at t v)
    unfolding forms.assign_form
    assign_graded ht hv = made_next L ht (λ t. made_next L (L.made_is hv) (λ v. L.expr_is _ _))

    pub range_graded : (form : RangeForm) {g h : S.G} {s e : Lowering (Option ExprId)} → L.Claim g s → L.Claim h e
        → L.Made (S.then' g (S.then' h (grade_range S form))) (ranges.range_form at form s e)
    unfolding ranges.range_form
    range_graded form hs he = made_next L hs (λ s. made_next L he (λ e. made_range_graded at form s e))

    pub block_graded : (is_unsafe : Bool) (label : Option LabelId) (number : Option BlockId) {g : S.G} {c : Lowering StoredContents}
        → L.Claim g c → L.Made (S.then' (S.block number) (S.then' g S.expr)) (forms.block_form at is_unsafe label number c)
    unfolding forms.block_form
    block_graded is_unsafe label number h = made_next L (L.block_is number) (λ u. made_next L h (λ r. L.expr_is _ (Some at)))

  pub labelled_graded : (label : Option Label) → IsWrittenLabel label → {g : S.G} {f : Option LabelId → ExprSteps}
      → ((n : Option LabelId) → L.Made g (f n)) → L.Made (labelled_of S label g) (forms.labelled label f)
  unfolding forms.labelled
  labelled_graded None is h = h None
  labelled_graded (Some l) is h = L.labelled_is l is (λ n. h (Some n))

  pub contents_graded : {g h : S.G} {fs : Lowering (List RecordLitField)} {s : Lowering RecordSpread} → L.Claim g fs → L.Claim h s
      → L.Claim (S.then' g h) (forms.record_contents fs s)
  unfolding forms.record_contents
  contents_graded hf hs = next L hf (λ fs. map_is L _ hs)

  -- what comes behind a statement
  pub behind_graded : (s : Stmt) {A : Type 0} {g : S.G} {p : Lowering A} → L.Claim g p → L.Claim (grade_behind S s g) (behind s p)
  behind_graded (tree.macro_stmt k (Some d)) h = L.defined_is d h
  behind_graded s h = h

  pub arm_graded : {g h k : S.G} {p : Lowering PatId} {e : ExprSteps} {guard : Lowering (Option ExprId)} → L.Claim g p → L.Made h e
      → L.Claim k guard → L.Claim (S.then' g (S.then' h k)) (forms.arm_form p e guard)
  unfolding forms.arm_form
  arm_graded hp he hg = next L hp (λ p. next L (L.made_is he) (λ e. map_is L _ hg))

  pub let_stmt_graded : {f g h k : S.G} {p : Lowering PatId} {t : Lowering (Option TypeRefId)} {i b : Lowering (Option ExprId)}
      → L.Claim f p → L.Claim g t → L.Claim h i → L.Claim k b
      → L.Claim (S.then' f (S.then' g (S.then' h k))) (forms.let_stmt_form p t i b)
  unfolding forms.let_stmt_form
  let_stmt_graded hp ht hi hb = next L hp (λ p. next L ht (λ t. next L hi (λ i. map_is L _ hb)))

  pub param_graded : (l : ClosureParams) {g h : S.G} {p : Lowering PatId} {t : Lowering (Option TypeRefId)} → L.Claim g p → L.Claim h t
      → L.Claim (S.then' g h) (forms.param_form l p t)
  unfolding forms.param_form
  param_graded l hp ht = next L hp (λ p. map_is L _ ht)
