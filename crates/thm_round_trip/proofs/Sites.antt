-- What a written expression becomes comes from its node: a line for each form, whatever its parts are.
use Rattle.std.proofs.Common.{arith, refl, ℕ, Bool, true, false, List, [], Option, Some, None, option_map}
use Rattle.hir_binding.specs.declared.binding.BindingAnnotation.TheVariants.{Mutable, Unannotated}
use Rattle.hir_store.specs.Pointers.{Pointer}
use Rattle.hir_store.specs.Stored.{Stored}
use Rattle.hir_store.specs.declared.hir.CoroutineKind.{CoroutineKind}
use Rattle.hir_store.specs.declared.hir.Expr.{Expr as HirExpr}
use Rattle.hir_store.specs.declared.hir.Expr.TheVariants as hir
use Rattle.hir_store.specs.declared.hir.LoopSource.{LoopSource}
use Rattle.hir_store.specs.declared.hir.MatchArm.{MatchArm}
use Rattle.hir_store.specs.declared.ids.BlockId.{BlockId}
use Rattle.hir_store.specs.declared.ids.ExprId.{ExprId}
use Rattle.hir_store.specs.declared.ids.HygieneId.{HygieneId}
use Rattle.hir_store.specs.declared.ids.LabelId.{LabelId}
use Rattle.hir_store.specs.declared.ids.LangItemId.{LangItemId}
use Rattle.hir_store.specs.declared.ids.PatId.{PatId}
use Rattle.hir_store.specs.declared.ids.TypeRefId.{TypeRefId}
use Rattle.hir_store.specs.declared.name.Name.{Name}
use Rattle.hir_store.specs.declared.path.GenericArgs.{GenericArgs}
use Rattle.hir_store.specs.declared.path.Path.{Path as HirPath}
use Rattle.hir_store.specs.declared.type_ref.ConstRef.{ConstRef}
use Rattle.hir_store.specs.declared.diagnostics.AwaitLocation.{AwaitLocation}
use Rattle.hir_env.specs.ResolvedTree as tree
use Rattle.hir_env.specs.ResolvedTree.{ForItems, Jump, Label, Listing, QuestionItems, RangeForm}
use Rattle.hir_env.specs.NodeMap.{Site}
use Rattle.hir_env.specs.ResolveCtx.{site_of}
use Rattle.hir_lower_builder.specs.declared.closures.ClosureParams.{ClosureParams}
use Rattle.hir_lower_builder.specs.Lowering.{Lowering, ◌>>=◌, alloc_expr, alloc_desugared, owning}
use Rattle.hir_lower_builder.specs.Made.{for_form, for_iteration_form, made_loop_form, question_form, try_block_form, typed_try_form}
use Rattle.hir_lower_builder.specs.Types.{TypeSteps}
use Rattle.hir_lower_builder.specs.Forms.{ExprSteps, StoredContents, StoredFields, missing, if_form, loop_form, call_form, continue_form}
use Rattle.hir_lower_builder.specs.Forms.{break_form, paren_form, path_form, operand_form, operands_form, value_form, list_form}
use Rattle.hir_lower_builder.specs.Forms.{method_call_form, await_form, cast_form, offset_of_form, record_of, record_form, block_form}
use Rattle.hir_lower_builder.specs.Forms.{labelled, constant_form, let_form, match_form, assign_form, settled, repeat_form, const_form}
use Rattle.hir_lower_builder.specs.Forms.{closure_form, coroutine_block_form, coroutine_form, yield_form}
use Rattle.hir_lower_builder.specs.Preludes.{coroutine_closure_form}
use Rattle.hir_lower_builder.specs.Ranges.{made_range, range_form}
use Rattle.hir_lower_builder.specs.Forms.{coroutine_around_form}
use Rattle.thm_logic.proofs.Frames.{Frame, loop_at, block_at}
use Rattle.thm_logic.proofs.Steps.{Mark, Rel, Correct, correct_bind, correct_as, correct_pure, correct_alloc, correct_point}
use Rattle.thm_logic.proofs.Steps.{correct_enter_block, correct_opened, correct_report_await, correct_target}
use Rattle.thm_logic.proofs.Barriers.{correct_closure, correct_coroutine, correct_yield}
use Rattle.thm_logic.proofs.Constants.{correct_constant}
use Rattle.thm_logic.proofs.ApartForms.{flow_arm_apart, item_call_apart, made_path_apart, residual_apart, wrapped_apart}
use Rattle.thm_logic.proofs.CoroutineClosures.{correct_coroutine_closure}
use Rattle.thm_logic.proofs.Keeping.{Any, handed_any, within_any}
use Rattle.thm_logic.proofs.MadeSteps.{correct_alloc_desugared, correct_made_bind, correct_made_number, correct_opened_try}
use Rattle.thm_logic.proofs.Owning.{owning_keeps}
use Rattle.spec_data.specs.Rule.{PathRead}
use Rattle.spec_data.specs.Written as written
use Rattle.thm_round_trip.proofs.Layers.{Layer, Reads, a_constant, a_source}
use Rattle.thm_round_trip.proofs.Going.{PathIs}
use Rattle.thm_round_trip.proofs.Walk.{Answers}

-- what comes from this node
abbrev pub From : Option Site → ExprSteps → Type 0
From x p = Correct p (Reads a_source x)

pub alloc_from : (e : HirExpr) (source : Option Pointer) → From (option_map site_of source) (alloc_expr e source)
alloc_from e source = correct_as (correct_alloc e source) (λ final ps m m' i g at. record { is = λ d le. rw (at.number, at.from) refl })

pub missing_from : From None missing
unfolding missing
missing_from = alloc_from _ None

-- behind other steps
pub ends_from : {A : Type 0} {x : Option Site} {R : Rel A} {p : Lowering A} {f : A → ExprSteps} → Correct p R
    → ((a : A) → From x (f a)) → From x (p >>= f)
ends_from h k = correct_as (correct_bind h k) (λ final ps m m' i g row. record { is = row.second.is })

-- it reads back the same, whatever owns bindings
owning_reads : {A D : Type 0} {l : Layer A D} {x : D} (owner : A → ExprId) {p : Lowering A} → Correct p (Reads l x)
    → Correct (owning owner p) (Reads l x)
owning_reads owner h = owning_keeps owner (λ final ps m left start id a row. record { is = row.is }) h

pub owning_from : {x : Option Site} {p : ExprSteps} → From x p → From x (owning (λ i. i) p)
owning_from h = owning_reads (λ i. i) h

-- what stands behind the barrier of a coroutine block
pub coroutine_from : {x : Option Site} {p : ExprSteps} → From x p → From x (coroutine_form p)
coroutine_from h = correct_as (correct_coroutine h) (λ final ps m m' i g row. record { is = row.inside.is })

module _ (at : Pointer) where
  abbrev here : Option Site
  here = Some (site_of at)

  stored_from : (e : HirExpr) → From here (alloc_expr e (Some at))
  stored_from e = alloc_from e (Some at)

  made_from : (e : HirExpr) → From here (alloc_desugared e (Some at))
  made_from e = correct_as (correct_alloc_desugared e (Some at))
      (λ final ps m m' i g row. record { is = λ d le. rw (row.number, row.from) refl })

  pub if_from : {c t : ExprSteps} {e : Lowering (Option ExprId)} → Correct c Any → Correct t Any → Correct e Any
      → From here (if_form at c t e)
  unfolding if_form
  if_from hc ht he = ends_from ht (λ i. ends_from he (λ j. ends_from hc (λ k. stored_from _)))

  pub loop_from : (from : LoopSource) (label : Option Label) {b : ExprSteps} → Correct b Any → From here (loop_form at from label b)
  unfolding loop_form
  loop_from from None h = ends_from h (λ i. stored_from _)
  loop_from from (Some l) h = correct_as (correct_opened loop_at l (λ n ps. refl) (λ n. h) (λ n i. stored_from _))
      (λ final ps m m' i g row. record { is = row.second.is })

  pub call_from : {f : ExprSteps} {xs : Lowering (List ExprId)} → Correct f Any → Correct xs Any → From here (call_form at f xs)
  unfolding call_form
  call_from hf hx = ends_from hf (λ i. ends_from hx (λ is. stored_from _))

  pub continue_from : (j : Option Jump) → From here (continue_form at j)
  unfolding continue_form
  continue_from j = ends_from (correct_target j) (λ n. stored_from _)

  pub break_from : (j : Option Jump) {e : Lowering (Option ExprId)} → Correct e Any → From here (break_form at j e)
  unfolding break_form
  break_from j h = ends_from (correct_target j) (λ n. ends_from h (λ v. stored_from _))

  -- parentheses are what is in them
  pub paren_from : {x : Option Site} {e : ExprSteps} → From x e → From x (paren_form at e)
  unfolding paren_form
  paren_from h = correct_as (correct_bind h (λ i. correct_bind (correct_point at i) (λ u. correct_pure i)))
      (λ final ps m m' i g row. let s = row.second in rw s.second.is (record {
        is = λ d le. row.first.is d (omega (le, row.after.entries, arith));
      }))

  pub path_from : (h : HygieneId) {p : Lowering (Option HirPath)} → Correct p Any → From here (path_form at h p)
  unfolding path_form
  path_from h hp = ends_from hp (λ r. stored_from _)

  pub operand_from : (form : ExprId → HirExpr) {e : ExprSteps} → Correct e Any → From here (operand_form at form e)
  unfolding operand_form
  operand_from form h = ends_from h (λ i. stored_from _)

  pub operands_from : (form : ExprId → ExprId → HirExpr) {a b : ExprSteps} → Correct a Any → Correct b Any
      → From here (operands_form at form a b)
  unfolding operands_form
  operands_from form ha hb = ends_from ha (λ i. ends_from hb (λ j. stored_from _))

  pub value_from : (form : Option ExprId → HirExpr) {e : Lowering (Option ExprId)} → Correct e Any → From here (value_form at form e)
  unfolding value_form
  value_from form h = ends_from h (λ v. stored_from _)

  pub list_from : (form : Listing) {xs : Lowering (List ExprId)} → Correct xs Any → From here (list_form at form xs)
  unfolding list_form
  list_from (tree.tuple_of false) h = ends_from h (λ is. stored_from _)
  list_from (tree.tuple_of true) h = ends_from h (λ is. ends_from missing_from (λ i. stored_from _))
  list_from tree.array_of h = ends_from h (λ is. stored_from _)

  pub repeat_from : {e : ExprSteps} {c : Lowering ConstRef} → Correct e Any → Correct c Any → From here (repeat_form at e c)
  unfolding repeat_form
  repeat_from he hc = ends_from he (λ i. ends_from hc (λ c. stored_from _))

  pub const_from : {c : Lowering ConstRef} → Correct c Any → From here (const_form at c)
  unfolding const_form
  const_from h = ends_from h (λ c. stored_from _)

  pub closure_from : (moves is_static : Bool) {p : Lowering ClosureParams} {t : Lowering (Option TypeRefId)} {e : ExprSteps} → Correct p Any
      → Correct t Any → Correct e Any → From here (closure_form at moves is_static p t e)
  closure_from moves is_static hp ht he = correct_as (correct_closure at moves is_static hp ht he)
      (λ final ps m m' i g row. record { is = λ d le. rw (row.made.number, row.made.from) refl })

  pub coroutine_closure_from : (which : CoroutineKind) (moves : Bool) {p : Lowering ClosureParams} {t : Lowering (Option TypeRefId)}
      {e : ExprSteps} → Correct p Any → Correct t Any → Correct e Any → From here (coroutine_closure_form at which moves p t e)
  coroutine_closure_from which moves hp ht he = correct_as
      (correct_coroutine_closure at which moves _ _ _ (within_any which hp ht he) (handed_any []))
      (λ final ps m m' i g row. record { is = λ d le. rw (row.made.number, row.made.from) refl })

  pub coroutine_block_from : (kind : CoroutineKind) (moves : Bool) (number : Option BlockId) {c : Lowering StoredContents} → Correct c Any
      → From here (coroutine_block_form at kind moves number c)
  unfolding coroutine_block_form coroutine_around_form
  coroutine_block_from kind moves number h =
      ends_from (correct_enter_block number) (λ u. ends_from h (λ r. ends_from (alloc_from _ None) (λ b. stored_from _)))

  pub yield_from : {e : Lowering (Option ExprId)} → Correct e Any → From here (yield_form at e)
  yield_from h = correct_yield at _ (value_from hir.Yield h)

  pub method_call_from : {e : ExprSteps} (name : Name) {xs : Lowering (List ExprId)} {as' : Lowering (Option GenericArgs)}
      → Correct e Any → Correct xs Any → Correct as' Any → From here (method_call_form at e name xs as')
  unfolding method_call_form
  method_call_from name he hx ha = ends_from he (λ i. ends_from hx (λ is. ends_from ha (λ g. stored_from _)))

  pub await_from : (location : Option AwaitLocation) {e : ExprSteps} → Correct e Any → From here (await_form at location e)
  unfolding await_form
  await_from location h = ends_from h (λ i. ends_from (correct_report_await at location) (λ u. stored_from _))

  pub cast_from : {e : ExprSteps} {t : TypeSteps} → Correct e Any → Correct t Any → From here (cast_form at e t)
  unfolding cast_form
  cast_from he ht = ends_from he (λ i. ends_from ht (λ t. stored_from _))

  pub offset_of_from : {t : TypeSteps} (names : List Name) → Correct t Any → From here (offset_of_form at t names)
  unfolding offset_of_form
  offset_of_from names h = ends_from h (λ t. stored_from _)

  -- where its path is absent or refused it is missing, without a node
  abbrev FromEither : Option HirPath → Rel ExprId
  FromEither None = Reads a_source None
  FromEither (Some p) = Reads a_source here

  record_of_from : {c : Lowering StoredFields} → Correct c Any → (p : Option HirPath) → Correct (record_of at c p) (FromEither p)
  record_of_from h None = missing_from
  record_of_from h (Some p) = ends_from h (λ r. stored_from _)

  pub record_from : (y : Option PathRead) {p : Lowering (Option HirPath)} {c : Lowering StoredFields} → Correct p (PathIs y)
      → Correct c Any → From (written.record_site at y) (record_form at p c)
  unfolding record_form
  record_from y hp hc = correct_as (correct_bind hp (λ p. record_of_from hc p))
      (λ final ps m m' i g row. go final ps m row.middle m' i y row.one row.first.is row.second)
    where
      go : (final : Stored) (ps : List Frame) (m n m' : Mark) (i : ExprId) (y : Option PathRead) (o : Option HirPath)
          → Answers final n.entries y o → FromEither o final ps n m' i → Reads a_source (written.record_site at y) final ps m m' i
      go final ps m n m' i None None h row = record { is = row.is }
      go final ps m n m' i None (Some p) h row = absurd h
      go final ps m n m' i (Some x) None h row = absurd h
      go final ps m n m' i (Some x) (Some p) h row = record { is = row.is }

  pub block_form_from : (is_unsafe : Bool) (label : Option LabelId) (number : Option BlockId) {c : Lowering StoredContents}
      → Correct c Any → From here (block_form at is_unsafe label number c)
  unfolding block_form
  block_form_from is_unsafe label number h = ends_from (correct_enter_block number) (λ u. ends_from h (λ r. stored_from _))

  pub let_from : {p : Lowering PatId} {e : ExprSteps} → Correct p Any → Correct e Any → From here (let_form at p e)
  unfolding let_form
  let_from hp he = ends_from hp (λ p. ends_from he (λ i. stored_from _))

  pub match_from : {e : ExprSteps} {arms : Lowering (List MatchArm)} → Correct e Any → Correct arms Any → From here (match_form at e arms)
  unfolding match_form
  match_from he ha = ends_from he (λ i. ends_from ha (λ as'. stored_from _))

  pub assign_from : {t : Lowering PatId} {v : ExprSteps} → Correct t Any → Correct v Any → From here (assign_form at t v)
  unfolding assign_form
  assign_from ht hv = ends_from ht (λ t. ends_from hv (λ v. stored_from _))

  range_made_from : (form : RangeForm) (s e : Option ExprId) → From here (made_range at form s e)
  range_made_from (tree.record_range i last) s e = stored_from _
  range_made_from (tree.call_range i) s e = ends_from (alloc_from _ None) (λ f. stored_from _)
  range_made_from tree.itemless_range s e = stored_from _

  pub range_from : (form : RangeForm) {s e : Lowering (Option ExprId)} → Correct s Any → Correct e Any → From here (range_form at form s e)
  unfolding range_form
  range_from form hs he = ends_from hs (λ s. ends_from he (λ e. range_made_from form s e))

  -- `for`, `?` and `try`

  pub question_from : (items : QuestionItems) {e : ExprSteps} → Correct e Any → From here (question_form at items e)
  unfolding question_form
  question_from items h = ends_from h (λ e. ends_from (item_call_apart at (Some items.branch) e)
      (λ b. ends_from (flow_arm_apart items.goes_on (made_path_apart at))
      (λ a. ends_from (flow_arm_apart items.breaks (residual_apart at items)) (λ c. stored_from _))))

  pub try_from : (item : Option LangItemId) (typed : Bool) (number : Option BlockId) {c : Lowering StoredContents} → Correct c Any
      → From here (try_block_form at item typed number c)
  unfolding try_block_form
  try_from item typed number h = correct_as (correct_opened_try at typed (correct_enter_block number) h
      (λ n r. ends_from (wrapped_apart at item (settled r.0 r.1).1) (λ v. stored_from _)))
      (λ final ps m m' i g row. record { is = row.second.is })

  pub typed_try_from : {b : ExprSteps} {t : Lowering TypeRefId} → Correct b Any → Correct t Any → From here (typed_try_form at b t)
  unfolding typed_try_form
  typed_try_from hb ht = ends_from hb (λ b. ends_from correct_made_number (λ n. ends_from ht
      (λ t. ends_from (correct_made_bind Unannotated n) (λ p. ends_from (made_path_apart at n) (λ e. made_from _)))))

pub for_from : (at head_at : Pointer) (items : ForItems) (label : Option Label) {h : ExprSteps} {p : Lowering PatId} (b : ExprSteps)
    → Correct h Any → Correct p Any
    → ((n : ℕ) (q : PatId) → Correct (made_loop_form at label (for_iteration_form at items n q b)) Any)
    → From (Some (site_of at)) (for_form at head_at items label h p b)
unfolding for_form
for_from at head_at items label b hh hp hl = ends_from hh (λ h. ends_from (item_call_apart head_at (Some items.into_iter) h)
    (λ i. ends_from hp (λ p. ends_from correct_made_number (λ n. ends_from (correct_made_bind Mutable n)
    (λ q. ends_from (hl n p) (λ l. alloc_from _ (Some at)))))))

pub labelled_from : {x : Option Site} (label : Option Label) {f : Option LabelId → ExprSteps} → ((n : Option LabelId) → From x (f n))
    → From x (labelled label f)
unfolding labelled
labelled_from None h = h None
labelled_from (Some l) h = correct_as (correct_opened block_at l (λ n ps. refl) (λ n. h (Some n)) (λ n i. correct_pure i))
    (λ final ps m m' i g row. rw (row.second.is, row.second.still) (record { is = row.first.is }))

-- constants

rooted_reads : {x : Option Site} {p : ExprSteps} → From x p → Correct (constant_form p) (Reads a_constant x)
rooted_reads h = correct_as (correct_constant h)
    (λ final ps m m' c g row. record { is = λ d le. row.first.is d (omega (le, row.after.entries, arith)) })

pub constant_reads : {x : Option Site} {p : ExprSteps} → From x p → Correct (owning (λ c. c.expr) (constant_form p)) (Reads a_constant x)
constant_reads h = owning_reads (λ c. c.expr) (rooted_reads h)
