-- What each form of an expression becomes holds what its parts hold.
use Rattle.std.proofs.Common.{◌≡◌, ◌∙◌, refl, sym, subst, ℕ, ◌+◌, ◌≤◌, Bool, true, false, List, [], ◌∷◌, ◌++◌, append-nil, append_assoc}
use Rattle.std.proofs.Common.{Option, Some, None, option_map, arith}
use Rattle.hir_store.specs.Pointers.{Pointer}
use Rattle.hir_store.specs.Stored.{Stored}
use Rattle.hir_store.specs.declared.diagnostics.AwaitLocation.{AwaitLocation}
use Rattle.hir_store.specs.declared.hir.Array.TheVariants as array
use Rattle.hir_store.specs.declared.hir.Expr.{Expr as HirExpr}
use Rattle.hir_store.specs.declared.hir.Expr.TheVariants as hir
use Rattle.hir_store.specs.declared.hir.LoopSource.{LoopSource}
use Rattle.hir_store.specs.declared.hir.RecordLitField.{RecordLitField}
use Rattle.hir_store.specs.declared.hir.RecordSpread.{RecordSpread}
use Rattle.hir_store.specs.declared.hir.Statement.{Statement}
use Rattle.hir_store.specs.declared.hir.Statement.TheVariants as statement
use Rattle.hir_store.specs.declared.ids.BlockId.{BlockId}
use Rattle.hir_store.specs.declared.ids.ExprId.{ExprId}
use Rattle.hir_store.specs.declared.ids.HygieneId.{HygieneId}
use Rattle.hir_store.specs.declared.ids.LabelId.{LabelId}
use Rattle.hir_store.specs.declared.ids.MacroDefId.{MacroDefId}
use Rattle.hir_store.specs.declared.name.Name.{Name}
use Rattle.hir_store.specs.declared.path.GenericArgs.{GenericArgs}
use Rattle.hir_store.specs.declared.path.Path.{Path as HirPath}
use Rattle.hir_store.specs.declared.type_ref.ConstRef.{ConstRef}
use Rattle.hir_env.specs.ResolvedTree as tree
use Rattle.hir_env.specs.ResolvedTree.{Leaf, Unary, Binary, Listing, Leaving, Label, Jump, Expr, Stmt}
use Rattle.spec_data.specs.Rule.{PathRead}
use Rattle.hir_lower_builder.specs.Lowering.{Lowering, ◌>>=◌, pure, alloc_expr}
use Rattle.hir_lower_builder.specs.Calls.{behind, define_form, defined}
use Rattle.hir_lower_builder.specs.Types.{TypeSteps}
use Rattle.hir_lower_builder.specs.Lower.{ExprSteps, StoredContents, StoredFields, push_some, missing, some, if_form, loop_form, call_form}
use Rattle.hir_lower_builder.specs.Lower.{iteration_form, continue_form, break_form, operand_form, operands_form, value_form, list_form}
use Rattle.hir_lower_builder.specs.Lower.{method_call_form, await_form, paren_form, path_form, path_or_missing, cast_form}
use Rattle.hir_lower_builder.specs.Lower.{offset_of_form, record_contents, record_of, record_form, field_form, block_form, labelled}
use Rattle.hir_lower_builder.specs.Lower.{repeat_form, const_form, yield_form}
use Rattle.hir_lower_builder.specs.Lower.{stored_leaf, stored_unary, stored_binary, stored_leaving, settled, settled_block, kept}
use Rattle.spec_semantics.specs.Inner.{Bodies, Inners, Inside, all_of, of_present, of_path, of_list, of_field, of_others, of_statement}
use Rattle.spec_semantics.specs.Inner.{of_expr, if_read, expr_bodies}
use Rattle.thm_round_trip.proofs.Going.{PathIs}
use Rattle.thm_round_trip.proofs.Layers.{Pushed}
use Rattle.thm_round_trip.proofs.Walk.{Answers}
use Rattle.thm_logic.proofs.Frames.{Frame, loop_at, block_at}
use Rattle.thm_logic.proofs.Barriers.{correct_yield}
use Rattle.thm_logic.proofs.Calls.{correct_track_gone}
use Rattle.thm_logic.proofs.Definitions.{correct_define, correct_inside_macro}
use Rattle.thm_logic.proofs.Steps.{Allocated, Grows, Mark, Rel, Correct, correct_bind, correct_as, correct_both, correct_pure}
use Rattle.thm_logic.proofs.Steps.{correct_alloc, correct_report_await, correct_point, correct_point_field}
use Rattle.thm_logic.proofs.Steps.{correct_enter_block, correct_opened, correct_target}
use Rattle.thm_semantics.proofs.Holding.{SameIn, inners_in, same_append, same_ids, same_bodies, Ids, an_expr, a_type, each, maybe, Holds}
use Rattle.thm_semantics.proofs.Holding.{holds_none, holds_one, holds_two, holds_behind, expr_held, expr0, expr1, expr2}
use Rattle.thm_semantics.proofs.HeldTypes.{a_constant, a_path, some_args}

-- what is kept, and lists of it

pub missing_held : Correct missing (Holds an_expr [])
unfolding missing
missing_held = expr0 hir.Missing None (λ r. refl)

pub some_held : {es : Bodies} {p : ExprSteps} → Correct p (Holds an_expr es) → Correct (some p) (Holds (maybe an_expr) es)
some_held h = holds_one Some (λ r i. refl) h

pub kept_held : (e : Expr) {p : ExprSteps} → Correct p (Holds an_expr (expr_bodies e))
    → Correct (kept e p) (Holds (maybe an_expr) (expr_bodies e))
kept_held (tree.disabled_expr why e) h = holds_behind (correct_track_gone why) (λ u. holds_none None (λ r. refl))
kept_held e h = some_held h

-- what is pushed where something is left
pub push_option : {A : Type 0} → Option A → List A → List A
push_option None xs = xs
push_option (Some x) xs = x ∷ xs

pub newly_pushed : {A : Type 0} (done : List A) (o : Option A) (new : List A) → push_some done o ++ new ≡ done ++ push_option o new
unfolding push_option
newly_pushed done None new = refl
newly_pushed done (Some x) new = append_assoc done (x ∷ []) new

pub newly_holds : {A : Type 0} (f : A → List Inside) (o : Option A) (new : List A)
    → all_of f (push_option o new) ≡ of_present f o ++ all_of f new
unfolding push_option
newly_holds f None new = refl
newly_holds f (Some x) new = refl

pub some_pushed : {A : Type 0} {ids : Ids A} {es fs : Bodies} {p : Lowering (Option A)} {q : List A → Lowering (List A)}
    → Correct p (Holds (maybe ids) es) → ((done : List A) → Correct (q done) (Pushed done (Holds (each ids) fs)))
    → (done : List A) → Correct (p >>= (λ o. q (push_some done o))) (Pushed done (Holds (each ids) (es ++ fs)))
some_pushed {ids = ids} {es = es} {fs = fs} h k done = correct_as (correct_bind h (λ o. k (push_some done o)))
    (λ final ps m m' r g row. let s = row.second in record {
      new = push_option row.one s.new;
      is = s.is ∙ newly_pushed done row.one s.new;
      rel = record {
        same = λ d le. let r = inners_in final d in same_ids final (es ++ fs) (newly_holds (ids r) row.one s.new)
            (same_append final (of_present (ids r) row.one) (all_of (ids r) s.new) es fs
            (row.first.same d (omega (le, row.after.nodes, row.after.entries, arith))) (s.rel.same d le));
      };
    })

-- forms

leaf_is : (form : Leaf) (r : Inners) → of_expr r (stored_leaf form) ≡ []
leaf_is tree.underscore r = refl
leaf_is tree.include_bytes r = refl
leaf_is tree.left_out r = refl

unary_is : (form : Unary) (r : Inners) (i : ExprId) → of_expr r (stored_unary form i) ≡ r.expr i
unary_is (tree.field_of name) r i = refl
unary_is (tree.prefix_of op) r i = refl
unary_is (tree.reference_to rawness mutability) r i = refl

binary_is : (form : Binary) (r : Inners) (i j : ExprId) → of_expr r (stored_binary form i j) ≡ r.expr i ++ r.expr j
binary_is (tree.operator op) r i j = refl
binary_is tree.index_of r i j = refl

leaving_is : (form : Leaving) (r : Inners) (o : Option ExprId) → of_expr r (stored_leaving form o) ≡ of_present r.expr o
leaving_is tree.returning r o = refl
leaving_is tree.yeeting r o = refl

path_is : (h : HygieneId) (r : Inners) (p : Option HirPath) → of_expr r (path_or_missing h p) ≡ a_path r p
path_is h r None = refl
path_is h r (Some p) = refl

-- what is in a record
abbrev pub a_field : Ids RecordLitField
a_field r f = of_field r f

abbrev pub a_record : Ids StoredFields
a_record r c = all_of (of_field r) c.0 ++ of_others r c.1

abbrev pub a_spread : Ids RecordSpread
a_spread r s = of_others r s

-- where the path became this

abbrev if_some : Option HirPath → Bodies → Bodies
if_some None bs = []
if_some (Some p) bs = bs

record Record (es fs : Bodies) (o : Option HirPath) (final : Stored) (ps : List Frame) (m m' : Mark) (i : ExprId) : Type 0 where
  rel : (n : Mark) → Holds a_path es final ps n m o → Holds an_expr (if_some o (es ++ fs)) final ps m m' i

record_of_held : {es fs : Bodies} (at : Pointer) {c : Lowering StoredFields} → Correct c (Holds a_record fs) → (o : Option HirPath)
    → Correct (record_of at c o) (Record es fs o)
record_of_held at hc None = correct_as missing_held (λ final ps m m' i g row. record { rel = λ n h. row })
record_of_held {es = es} {fs = fs} at hc (Some p) =
    correct_as (correct_bind hc (λ c. correct_alloc (hir.RecordLit p c.0 c.1) (Some at)))
    (λ final ps m m' i g row. record {
      rel = λ n h. expr_held row.second row.after (λ d le. let r = inners_in final d in
          same_append final (of_path r p) (a_record r row.one) es fs
          (h.same d (omega (le, row.before.nodes, row.before.entries, arith))) (row.first.same d le));
    })

module _ (at : Pointer) where
  pub leaf_held : (form : Leaf) → Correct (alloc_expr (stored_leaf form) (Some at)) (Holds an_expr [])
  leaf_held form = expr0 (stored_leaf form) (Some at) (leaf_is form)

  -- a prefix without operator holds nothing
  pub nameless_held : {R : Rel ExprId} {p : ExprSteps} → Correct p R → Correct (operand_form at (λ i. hir.Missing) p) (Holds an_expr [])
  unfolding operand_form
  nameless_held h = holds_behind h (λ i. expr0 hir.Missing (Some at) (λ r. refl))

  pub continue_held : (j : Option Jump) → Correct (continue_form at j) (Holds an_expr [])
  unfolding continue_form
  continue_held j = holds_behind (correct_target j) (λ n. expr0 (hir.Continue n) (Some at) (λ r. refl))

module _ (at : Pointer) {es : Bodies} where
  pub unary_held : (form : Unary) {p : ExprSteps} → Correct p (Holds an_expr es)
      → Correct (operand_form at (stored_unary form) p) (Holds an_expr es)
  unfolding operand_form
  unary_held form h = expr1 (Some at) (stored_unary form) (unary_is form) h

  pub become_held : {p : ExprSteps} → Correct p (Holds an_expr es) → Correct (operand_form at hir.Become p) (Holds an_expr es)
  unfolding operand_form
  become_held h = expr1 (Some at) hir.Become (λ r i. refl) h

  pub leaving_held : (form : Leaving) {p : Lowering (Option ExprId)} → Correct p (Holds (maybe an_expr) es)
      → Correct (value_form at (stored_leaving form) p) (Holds an_expr es)
  unfolding value_form
  leaving_held form h = expr1 (Some at) (stored_leaving form) (leaving_is form) h

  pub yield_held : {p : Lowering (Option ExprId)} → Correct p (Holds (maybe an_expr) es)
      → Correct (yield_form at p) (Holds an_expr es)
  unfolding value_form
  yield_held h = correct_yield at _ (expr1 (Some at) hir.Yield (λ r o. refl) h)

  pub list_held : (form : Listing) {p : Lowering (List ExprId)} → Correct p (Holds (each an_expr) es)
      → Correct (list_form at form p) (Holds an_expr es)
  unfolding list_form
  list_held (tree.tuple_of false) h = expr1 (Some at) hir.Tuple (λ r is. refl) h
  -- what is missing in front is made last
  list_held (tree.tuple_of true) h = correct_as
      (correct_bind h (λ is. correct_bind missing_held (λ i. correct_alloc (hir.Tuple (i ∷ is)) (Some at))))
      (λ final ps m m' i g row. let s = row.second in expr_held s.second s.after (λ d le. let r = inners_in final d in
      same_append final (r.expr s.one) (all_of r.expr row.one) [] es (s.first.same d le)
      (row.first.same d (omega (le, s.before.nodes, s.before.entries, arith)))))
  list_held tree.array_of h = expr1 (Some at) (λ is. hir.Array (array.ElementList is)) (λ r is. refl) h

  pub const_held : {n : Lowering ConstRef} → Correct n (Holds a_constant es) → Correct (const_form at n) (Holds an_expr es)
  unfolding const_form
  const_held h = expr1 (Some at) hir.Const (λ r c. refl) h

  pub await_held : (l : Option AwaitLocation) {p : ExprSteps} → Correct p (Holds an_expr es)
      → Correct (await_form at l p) (Holds an_expr es)
  unfolding await_form
  await_held l h = correct_as
      (correct_bind h (λ i. correct_bind (correct_report_await at l) (λ u. correct_alloc (hir.Await i) (Some at))))
      (λ final ps m m' i g row. let s = row.second in expr_held s.second s.after (λ d le.
      row.first.same d (omega (le, s.before.nodes, s.before.entries, arith))))

  pub paren_held : {p : ExprSteps} → Correct p (Holds an_expr es) → Correct (paren_form at p) (Holds an_expr es)
  unfolding paren_form
  paren_held h = correct_as (correct_bind h (λ i. correct_bind (correct_point at i) (λ u. correct_pure i)))
      (λ final ps m m' i g row. rw row.second.second.is (record {
        same = λ d le. row.first.same d (omega (le, row.after.nodes, row.after.entries, arith));
      }))

  pub path_held : (h : HygieneId) {p : Lowering (Option HirPath)} → Correct p (Holds a_path es)
      → Correct (path_form at h p) (Holds an_expr es)
  unfolding path_form
  path_held h hp = expr1 (Some at) (path_or_missing h) (path_is h) hp

  pub break_held : (j : Option Jump) {p : Lowering (Option ExprId)} → Correct p (Holds (maybe an_expr) es)
      → Correct (break_form at j p) (Holds an_expr es)
  unfolding break_form
  break_held j h = holds_behind (correct_target j) (λ n. expr1 (Some at) (hir.Break n) (λ r o. refl) h)

  pub loop_held : (from : LoopSource) (label : Option Label) {b : ExprSteps} → Correct b (Holds an_expr es)
      → Correct (loop_form at from label b) (Holds an_expr es)
  unfolding loop_form
  loop_held from None h = expr1 (Some at) (λ b. hir.Loop b None from) (λ r i. refl) h
  loop_held from (Some l) h = correct_as
      (correct_opened loop_at l (λ n ps. refl) (λ n. h) (λ n i. correct_alloc (hir.Loop i (Some n) from) (Some at)))
      (λ final ps m m' i g row. expr_held row.second row.after (λ d le. row.first.same d le))

  pub offset_of_held : (names : List Name) {t : TypeSteps} → Correct t (Holds a_type es)
      → Correct (offset_of_form at t names) (Holds an_expr es)
  unfolding offset_of_form
  offset_of_held names h = expr1 (Some at) (λ t. hir.OffsetOf t names) (λ r t. refl) h

  pub field_held : (name : Name) {p : ExprSteps} → Correct p (Holds an_expr es) → Correct (field_form at name p) (Holds (maybe a_field) es)
  unfolding field_form
  field_held name h = correct_as (correct_bind h (λ i. correct_bind (correct_point_field i at) (λ u. correct_pure _)))
      (λ final ps m m' o g row. rw row.second.second.is (record {
        same = λ d le. row.first.same d (omega (le, row.after.nodes, row.after.entries, arith));
      }))

  -- of more parts

  module _ {fs : Bodies} where
    pub binary_held : (form : Binary) {p q : ExprSteps} → Correct p (Holds an_expr es) → Correct q (Holds an_expr fs)
        → Correct (operands_form at (stored_binary form) p q) (Holds an_expr (es ++ fs))
    unfolding operands_form
    binary_held form hp hq = expr2 (Some at) (stored_binary form) (binary_is form) hp hq

    pub both_held : (form : ExprId → ExprId → HirExpr) {p q : ExprSteps}
        → ((r : Inners) (i j : ExprId) → of_expr r (form i j) ≡ r.expr i ++ r.expr j)
        → Correct p (Holds an_expr es) → Correct q (Holds an_expr fs) → Correct (operands_form at form p q) (Holds an_expr (es ++ fs))
    unfolding operands_form
    both_held form is hp hq = expr2 (Some at) form is hp hq

    pub call_held : {p : ExprSteps} {q : Lowering (List ExprId)} → Correct p (Holds an_expr es) → Correct q (Holds (each an_expr) fs)
        → Correct (call_form at p q) (Holds an_expr (es ++ fs))
    unfolding call_form
    call_held hp hq = expr2 (Some at) hir.Call (λ r f xs. refl) hp hq

    -- the body is lowered before the condition, and a break behind both
    pub iteration_held : {c b : ExprSteps} → Correct c (Holds an_expr es) → Correct b (Holds an_expr fs)
        → Correct (iteration_form at c b) (Holds an_expr (es ++ fs))
    unfolding iteration_form
    iteration_held hc hb = correct_as
        (correct_bind hb (λ b. correct_bind hc (λ c. correct_bind (expr0 (hir.Break None None) (Some at) (λ r. refl))
        (λ o. correct_alloc (hir.If c b (Some o)) (Some at)))))
        (λ final ps m m' i g row. let s = row.second in let u = s.second in
        expr_held u.second u.after (λ d le. let r = inners_in final d in
        same_append final (r.expr s.one) (r.expr row.one ++ r.expr u.one) es fs
        (s.first.same d (omega (le, u.before.nodes, u.before.entries, arith)))
        (same_bodies final (r.expr row.one ++ r.expr u.one) (append-nil fs)
        (same_append final (r.expr row.one) (r.expr u.one) fs []
        (row.first.same d (omega (le, s.before.nodes, s.before.entries, u.before.nodes, u.before.entries, arith)))
        (u.first.same d le)))))

    pub cast_held : {p : ExprSteps} {t : TypeSteps} → Correct p (Holds an_expr es) → Correct t (Holds a_type fs)
        → Correct (cast_form at p t) (Holds an_expr (es ++ fs))
    unfolding cast_form
    cast_held hp ht = expr2 (Some at) hir.Cast (λ r e t. refl) hp ht

    -- the length stands behind what is repeated
    pub repeat_held : {p : ExprSteps} {n : Lowering ConstRef} → Correct p (Holds an_expr es) → Correct n (Holds a_constant fs)
        → Correct (repeat_form at p n) (Holds an_expr (es ++ fs))
    unfolding repeat_form
    repeat_held hp hn = expr2 (Some at) (λ e c. hir.Array (array.Repeat e c)) (λ r e c. refl) hp hn

    -- it is read where its path is
    pub record_held : (y : Option PathRead) {p : Lowering (Option HirPath)} {c : Lowering StoredFields} → Correct p (PathIs y)
        → Correct p (Holds a_path es) → Correct c (Holds a_record fs)
        → Correct (record_form at p c) (Holds an_expr (if_read y (es ++ fs)))
    unfolding record_form
    record_held y says hp hc = correct_as (correct_bind (correct_both says hp) (λ o. record_of_held at hc o))
        (λ final ps m m' i g row.
        go final ps row.middle m m' i y row.one row.first.one.is (row.second.rel m row.first.other))
      where
        go : (final : Stored) (ps : List Frame) (n m m' : Mark) (i : ExprId) (y : Option PathRead) (o : Option HirPath)
            → Answers final n.entries y o → Holds an_expr (if_some o (es ++ fs)) final ps n m' i
            → Holds an_expr (if_read y (es ++ fs)) final ps m m' i
        go final ps n m m' i None None e h = record { same = h.same }
        go final ps n m m' i None (Some p) e h = absurd e
        go final ps n m m' i (Some x) None e h = absurd e
        go final ps n m m' i (Some x) (Some p) e h = record { same = h.same }

  module _ {fs gs : Bodies} where
    -- the condition is lowered last
    pub if_held : {c t : ExprSteps} {e : Lowering (Option ExprId)} → Correct c (Holds an_expr es) → Correct t (Holds an_expr fs)
        → Correct e (Holds (maybe an_expr) gs) → Correct (if_form at c t e) (Holds an_expr (es ++ (fs ++ gs)))
    unfolding if_form
    if_held hc ht he = correct_as
        (correct_bind ht (λ t. correct_bind he (λ e. correct_bind hc (λ c. correct_alloc (hir.If c t e) (Some at)))))
        (λ final ps m m' i g row. let s = row.second in let u = s.second in
        expr_held u.second u.after (λ d le. let r = inners_in final d in
        same_append final (r.expr u.one) (r.expr row.one ++ of_present r.expr s.one) es (fs ++ gs) (u.first.same d le)
        (same_append final (r.expr row.one) (of_present r.expr s.one) fs gs
        (row.first.same d (omega (le, s.before.nodes, s.before.entries, u.before.nodes, u.before.entries, arith)))
        (s.first.same d (omega (le, u.before.nodes, u.before.entries, arith))))))

    -- the generic arguments are lowered last
    pub method_call_held : (name : Name) {p : ExprSteps} {q : Lowering (List ExprId)} {a : Lowering (Option GenericArgs)}
        → Correct p (Holds an_expr es) → Correct a (Holds some_args fs) → Correct q (Holds (each an_expr) gs)
        → Correct (method_call_form at p name q a) (Holds an_expr (es ++ (fs ++ gs)))
    unfolding method_call_form
    method_call_held name hp ha hq = correct_as
        (correct_bind hp (λ i. correct_bind hq (λ is. correct_bind ha (λ a. correct_alloc (hir.MethodCall i name a is) (Some at)))))
        (λ final ps m m' i g row. let s = row.second in let u = s.second in
        expr_held u.second u.after (λ d le. let r = inners_in final d in
        same_append final (r.expr row.one) (of_list r u.one ++ all_of r.expr s.one) es (fs ++ gs)
        (row.first.same d (omega (le, s.before.nodes, s.before.entries, u.before.nodes, u.before.entries, arith)))
        (same_append final (of_list r u.one) (all_of r.expr s.one) fs gs (u.first.same d le)
        (s.first.same d (omega (le, u.before.nodes, u.before.entries, arith))))))

pub contents_held : {es fs : Bodies} {p : Lowering (List RecordLitField)} {q : Lowering RecordSpread} → Correct p (Holds (each a_field) es)
    → Correct q (Holds a_spread fs) → Correct (record_contents p q) (Holds a_record (es ++ fs))
unfolding record_contents
contents_held hp hq = holds_two (λ fs s. (fs, s)) (λ r fs s. refl) hp hq

-- blocks

abbrev pub a_statement : Ids Statement
a_statement r s = of_statement r s

-- a statement in front of others, which hold the bodies behind its own
pub record HoldsFirst (final : Stored) (n : ℕ) (s : Statement) (Rest : Bodies → Type 0) (bs : Bodies) : Type 0 where
  pub own : Bodies
  pub others : Bodies
  pub are : bs ≡ own ++ others
  pub held : (d : ℕ) → n ≤ d → SameIn final (of_statement (inners_in final d) s) own
  pub rest : Rest others

-- However deep one looks, past so many entries, statements and the tail behind them hold these bodies, one after another.
abbrev pub InTurn : Stored → ℕ → List Statement → Option ExprId → Bodies → Type 0
InTurn final n [] o bs = (d : ℕ) → n ≤ d → SameIn final (of_present (inners_in final d).expr o) bs
InTurn final n (s ∷ ss) o bs = HoldsFirst final n s (λ cs. InTurn final n ss o cs) bs

-- the statements are pushed on those that stand, and the tail is behind them
pub record Filled (done : List Statement) (es fs : Bodies) (final : Stored) (ps : List Frame) (m m' : Mark) (r : StoredContents)
    : Type 0 where
  pub new : List Statement
  pub is : r.0 ≡ done ++ new
  pub held : InTurn final (m'.nodes + m'.entries) new r.1 (es ++ fs)

pub filled_end : {fs : Bodies} {q : Lowering (Option ExprId)} (done : List Statement) → Correct q (Holds (maybe an_expr) fs)
    → Correct (q >>= (λ t. pure (done, t))) (Filled done [] fs)
filled_end done h = correct_as (correct_bind h (λ t. correct_pure (done, t)))
    (λ final ps m m' r g row. rw (row.second.is, row.second.still) (record {
      new = [];
      is = sym (append-nil done);
      held = row.first.same;
    }))

-- nothing holds no body
pub none_held_by : (final : Stored) (bs : Bodies) → SameIn final [] bs → bs ≡ []
none_held_by final [] h = refl
none_held_by final (b ∷ bs) h = absurd h

pub filled_more : {es fs gs : Bodies} {p : Lowering (Option Statement)} {q : List Statement → Lowering StoredContents}
    → Correct p (Holds (maybe a_statement) es) → ((done : List Statement) → Correct (q done) (Filled done fs gs))
    → (done : List Statement) → Correct (p >>= (λ o. q (push_some done o))) (Filled done (es ++ fs) gs)
unfolding push_option
filled_more {es = es} {fs = fs} {gs = gs} h k done = correct_as (correct_bind h (λ o. k (push_some done o)))
    (λ final ps m m' r g row. let s = row.second in
    let one : (d : ℕ) → m'.nodes + m'.entries ≤ d → SameIn final (of_present (of_statement (inners_in final d)) row.one) es =
    λ d le. row.first.same d (omega (le, row.after.nodes, row.after.entries, arith)) in record {
      new = push_option row.one s.new;
      is = s.is ∙ newly_pushed done row.one s.new;
      held = first final (m'.nodes + m'.entries) row.one s.new r.1 one s.held;
    })
  where
    first : (final : Stored) (n : ℕ) (o : Option Statement) (new : List Statement) (tail : Option ExprId)
        → ((d : ℕ) → n ≤ d → SameIn final (of_present (of_statement (inners_in final d)) o) es) → InTurn final n new tail (fs ++ gs)
        → InTurn final n (push_option o new) tail ((es ++ fs) ++ gs)
    first final n None new tail one others = subst (λ bs. InTurn final n new tail ((bs ++ fs) ++ gs))
        (sym (none_held_by final es (one n (omega arith)))) others
    first final n (Some x) new tail one others = record {
      own = es;
      others = fs ++ gs;
      are = append_assoc es fs gs;
      held = one;
      rest = others;
    }

-- the definition of a macro holds nothing, and what is behind it what it holds elsewhere

nothing_of : (r : Inners) (def : Option MacroDefId) → of_statement r (defined def) ≡ []
nothing_of r None = refl
nothing_of r (Some def) = refl

pub define_held : (k : ℕ) (def : Option MacroDefId) → Correct (define_form k def) (Holds (maybe a_statement) [])
define_held k def = correct_as (correct_define k def) (λ final ps m m' o g row. rw row.is
    (record { same = λ d le. same_ids final [] (nothing_of (inners_in final d) def) tt }))

pub behind_held : {es fs : Bodies} {done : List Statement} {p : Lowering StoredContents} (s : Stmt) → Correct p (Filled done es fs)
    → Correct (behind s p) (Filled done es fs)
behind_held (tree.macro_stmt k (Some def)) h = correct_as (correct_inside_macro def h)
    (λ final ps m m' r g row. record { new = row.new; is = row.is; held = row.held })
behind_held s h = h

statement_is : (semi : Bool) (r : Inners) (o : Option ExprId)
    → of_present (of_statement r) (option_map (λ i. statement.Expr i semi) o) ≡ of_present r.expr o
statement_is semi r None = refl
statement_is semi r (Some i) = refl

pub statement_held : {es : Bodies} (semi : Bool) {p : Lowering (Option ExprId)} → Correct p (Holds (maybe an_expr) es)
    → Correct (p >>= (λ x. pure (option_map (λ i. statement.Expr i semi) x))) (Holds (maybe a_statement) es)
statement_held semi h = holds_one (option_map (λ i. statement.Expr i semi)) (statement_is semi) h

-- a last expression without a semicolon becomes the tail

abbrev pub of_contents : Ids StoredContents
of_contents r c = all_of (of_statement r) c.0 ++ of_present r.expr c.1

-- all together
pub iteration_all : (final : Stored) (n : ℕ) (ss : List Statement) (o : Option ExprId) (bs : Bodies) → InTurn final n ss o bs
    → (d : ℕ) → n ≤ d → SameIn final (of_contents (inners_in final d) (ss, o)) bs
iteration_all final n [] o bs h d le = h d le
iteration_all final n (s ∷ ss) o bs h d le = let r = inners_in final d in
    same_bodies final (of_contents r (s ∷ ss, o)) (sym h.are)
    (same_ids final (h.own ++ h.others) (append_assoc (of_statement r s) (all_of (of_statement r) ss) (of_present r.expr o))
    (same_append final (of_statement r s) (of_contents r (ss, o)) h.own h.others (h.held d le)
    (iteration_all final n ss o h.others h.rest d le)))

-- a last expression that becomes the tail holds what it held
pub settled_iteration : (final : Stored) (n : ℕ) (ss : List Statement) (o : Option ExprId) (bs : Bodies) → InTurn final n ss o bs
    → InTurn final n (settled ss o).0 (settled ss o).1 bs
settled_iteration final n ss (Some i) bs h = h
settled_iteration final n [] None bs h = h
settled_iteration final n (statement.Item ∷ ss) None bs h =
    record { own = h.own; others = h.others; are = h.are; held = h.held; rest = settled_iteration final n ss None h.others h.rest }
settled_iteration final n (statement.MacroDef def ∷ ss) None bs h =
    record { own = h.own; others = h.others; are = h.are; held = h.held; rest = settled_iteration final n ss None h.others h.rest }
settled_iteration final n (statement.Let p t e b ∷ ss) None bs h =
    record { own = h.own; others = h.others; are = h.are; held = h.held; rest = settled_iteration final n ss None h.others h.rest }
settled_iteration final n (statement.Expr i true ∷ ss) None bs h =
    record { own = h.own; others = h.others; are = h.are; held = h.held; rest = settled_iteration final n ss None h.others h.rest }
settled_iteration final n (statement.Expr i false ∷ []) None bs h = λ d le. let r = inners_in final d in
    same_bodies final (r.expr i) (sym h.are) (same_ids final (h.own ++ h.others) (sym (append-nil (r.expr i)))
    (same_append final (r.expr i) [] h.own h.others (h.held d le) (h.rest d le)))
settled_iteration final n (statement.Expr i false ∷ (s ∷ ss)) None bs h =
    record { own = h.own; others = h.others; are = h.are; held = h.held; rest = settled_iteration final n (s ∷ ss) None h.others h.rest }

-- another tail that holds what the one holds
pub iteration_ended : (final : Stored) (n n' : ℕ) → n ≤ n' → (o c : Option ExprId)
    → ((bs : Bodies) → ((d : ℕ) → n ≤ d → SameIn final (of_present (inners_in final d).expr o) bs)
    → (d : ℕ) → n' ≤ d → SameIn final (of_present (inners_in final d).expr c) bs)
    → (ss : List Statement) (bs : Bodies) → InTurn final n ss o bs → InTurn final n' ss c bs
iteration_ended final n n' le o c ends [] bs h = ends bs h
iteration_ended final n n' le o c ends (s ∷ ss) bs h = record {
  own = h.own;
  others = h.others;
  are = h.are;
  held = λ d ge. h.held d (omega (arith, le, ge));
  rest = iteration_ended final n n' le o c ends ss h.others h.rest;
}

-- what is in it is in its parts, whatever it came from
pub block_held : {es fs : Bodies} {final : Stored} {ps qs : List Frame} {m n m' k : Mark} {r : StoredContents} {source : Option Pointer}
    {i : ExprId} (is_unsafe : Bool) (label : Option LabelId) (number : Option BlockId) → Filled [] es fs final ps m n r
    → Allocated (settled_block is_unsafe label number (settled r.0 r.1)) source final qs n m' i → Grows n m'
    → Holds an_expr (es ++ fs) final ps k m' i
block_held {es = es} {fs = fs} {final = final} {n = n} {r = r} is_unsafe label number s here g =
    let o = r.1 in let seen = n.nodes + n.entries in
    expr_held here g (λ d le.
    subst (λ ks. SameIn final (of_contents (inners_in final d) (settled ks o)) (es ++ fs)) (sym s.is)
    (iteration_all final seen (settled s.new o).0 (settled s.new o).1 (es ++ fs)
    (settled_iteration final seen s.new o (es ++ fs) s.held) d le))

pub block_form_held : {es fs : Bodies} (at : Pointer) (is_unsafe : Bool) (label : Option LabelId) (number : Option BlockId)
    {p : Lowering StoredContents} → Correct p (Filled [] es fs)
    → Correct (block_form at is_unsafe label number p) (Holds an_expr (es ++ fs))
unfolding block_form
block_form_held at is_unsafe label number h = holds_behind (correct_enter_block number) (λ u. correct_as
    (correct_bind h (λ r. correct_alloc (settled_block is_unsafe label number (settled r.0 r.1)) (Some at)))
    (λ final ps m m' i g row. block_held is_unsafe label number row.first row.second row.after))

pub labelled_held : {es : Bodies} (label : Option Label) {f : Option LabelId → ExprSteps}
    → ((n : Option LabelId) → Correct (f n) (Holds an_expr es)) → Correct (labelled label f) (Holds an_expr es)
unfolding labelled
labelled_held None h = h None
labelled_held (Some l) h = correct_as (correct_opened block_at l (λ n ps. refl) (λ n. h (Some n)) (λ n i. correct_pure i))
    (λ final ps m m' i g row. rw (row.second.is, row.second.still) (record { same = row.first.same }))
