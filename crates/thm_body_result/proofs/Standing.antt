-- Steps whose answers stand for what is written, and the forms that are made of them.
use Rattle.std.proofs.Common.{◌≡◌, ◌∙◌, refl, sym, ap, subst, ℕ, List, [], ◌∷◌, ◌++◌, slice_get, Option, Some, None}
use Rattle.std.proofs.Common.{option_map, option_to_list, Bool, true, false, append-nil}
use Rattle.hir_syntax.specs.declared.ast.Literal.{Literal as AstLiteral}
use Rattle.hir_store.specs.Bindings.{binding_id}
use Rattle.hir_store.specs.Pointers.{Pointer}
use Rattle.hir_store.specs.Stored.{Stored, store_of, map_of}
use Rattle.hir_store.specs.declared.hir.Array.TheVariants as array
use Rattle.hir_store.specs.declared.hir.Expr.{Expr as HirExpr}
use Rattle.hir_store.specs.declared.hir.Expr.TheVariants as hir
use Rattle.hir_store.specs.declared.hir.LoopSource.TheVariants as source
use Rattle.hir_store.specs.declared.hir.MatchArm.{MatchArm}
use Rattle.hir_store.specs.declared.hir.RecordLitField.{RecordLitField}
use Rattle.hir_store.specs.declared.hir.RecordSpread.{RecordSpread}
use Rattle.hir_store.specs.declared.hir.RecordSpread.TheVariants as spread
use Rattle.hir_store.specs.declared.hir.Statement.TheVariants as statement
use Rattle.hir_store.specs.declared.ids.ExprId.{ExprId}
use Rattle.hir_store.specs.declared.ids.LabelId.{LabelId}
use Rattle.hir_store.specs.declared.ids.BlockId.{BlockId}
use Rattle.hir_store.specs.declared.ids.HygieneId.{HygieneId}
use Rattle.hir_store.specs.declared.ids.LangItemId.{LangItemId}
use Rattle.hir_store.specs.declared.ids.PatId.{PatId}
use Rattle.hir_store.specs.declared.ids.TypeRefId.{TypeRefId}
use Rattle.hir_store.specs.declared.diagnostics.ExpressionStoreDiagnostics.{ExpressionStoreDiagnostics}
use Rattle.hir_store.specs.declared.diagnostics.AwaitLocation.{AwaitLocation}
use Rattle.hir_store.specs.declared.name.Name.{Name}
use Rattle.hir_store.specs.declared.path.GenericArgs.{GenericArgs}
use Rattle.hir_store.specs.declared.path.Path.{Path}
use Rattle.hir_store.specs.declared.path.Path.TheVariants.{LangItem}
use Rattle.hir_lower_scope.specs.ScopeRibs.{Rib, Target, reachable, unreachable, undeclared, target, jump_number}
use Rattle.hir_env.specs.ResolvedTree as tree
use Rattle.hir_env.specs.ResolvedTree.{Leaf, Unary, Binary, Leaving, Listing, Label, Jump, OptionPath, OptionType, OptionArgs, RangeForm}
use Rattle.spec_data.specs.Data.{PathData}
use Rattle.spec_data.specs.Reading.{stored_path, stored_type, stored_option_type, stored_args}
use Rattle.spec_data.specs.Written.{written_path, written_type, written_option_type, written_args}
use Rattle.thm_round_trip.proofs.Now.{path_now, type_now, option_type_now, args_now}
use Rattle.hir_lower_builder.specs.Lower.{StoredFields, type_part, present_type, args_part, cast_form, offset_of_form, record_contents}
use Rattle.hir_lower_builder.specs.Lower.{record_of, record_form, field_form, ExprSteps, StoredContents, missing, some, if_form, loop_form}
use Rattle.hir_lower_builder.specs.Lower.{call_form, continue_form, break_form, stored_leaf, stored_unary, stored_binary, stored_leaving}
use Rattle.hir_lower_builder.specs.Lower.{operand_form, operands_form, value_form, list_form, method_call_form, await_form, paren_form}
use Rattle.hir_lower_builder.specs.Lower.{path_or_missing, path_form, lower_path, block_form, labelled, settled, stored_literal, let_form}
use Rattle.hir_lower_builder.specs.Lower.{match_form, arm_form, assign_form, let_stmt_form, repeat_form, const_form}
use Rattle.hir_store.specs.declared.type_ref.ConstRef.{ConstRef}
use Rattle.hir_lower_builder.specs.Lowering.{Lowering, ◌>>=◌, pure, alloc_expr, owning}
use Rattle.hir_lower_builder.specs.Ranges as ranges
use Rattle.hir_lower_builder.specs.Ranges.{range_form, item_expr, end_operand}
use Rattle.hir_lower_builder.specs.Types.{TypeSteps}
use Rattle.thm_logic.proofs.Frames.{Frame, loop_at, block_at, ribs}
use Rattle.thm_logic.proofs.MadeSteps.{AllocatedMade}
use Rattle.thm_logic.proofs.Steps.{Mark, Rel, Put, Allocated, AllocatedBy, OpenedBy, with_fault, with_target, with_jump, with_block}
use Rattle.thm_logic.proofs.Steps.{with_await}
use Rattle.thm_body_result.specs.Forms.{leaf_form, unary_form, binary_form, leaving_form, item_or_missing, range_fields}
use Rattle.thm_body_result.specs.Leads.{Mapping, Mappings, OneMapping, OneUnled, OneLabelMapping, OneFieldMapping, OwnedBy, Overtaken, ◌&◌}
use Rattle.thm_body_result.specs.Corresponds.{ReadsAs, CorrespondsOverThree, CorrespondsRecord, Open, Absent, There, ExprAt, LabelAt}
use Rattle.thm_body_result.specs.Corresponds.{CorrespondsMissing}
use Rattle.thm_body_result.specs.Corresponds.{CorrespondsAlone, CorrespondsPath, CorrespondsLiteral, CorrespondsOver, CorrespondsOverTwo}
use Rattle.thm_body_result.specs.Corresponds.{CorrespondsList, InLabel}
use Rattle.thm_body_result.specs.Corresponds.{CorrespondsRange}
use Rattle.thm_body_result.proofs.Data.{PathIs, path_is}
use Rattle.thm_body_result.proofs.Lasting.{Correct, correct_alloc, correct_as, correct_bind, correct_both, correct_counted}
use Rattle.thm_body_result.proofs.Lasting.{correct_enter_block, correct_opened, correct_owning, correct_point, correct_point_field}
use Rattle.thm_body_result.proofs.Lasting.{correct_pure, correct_report_await, correct_target}
use Rattle.thm_body_result.proofs.Leading.{Shown, shown_as, shown_none, shown_both, shown_swap, shown_after, shown_before, shown_to}
use Rattle.thm_body_result.proofs.Leading.{shown_expr, shown_made, shown_unled, shown_label, shown_point, shown_field, Moved, moved_same}
use Rattle.thm_body_result.proofs.Leading.{moved_to, moved_still, moved_report}
use Rattle.thm_body_result.proofs.OwnedMappings.{shown_owned}
use Rattle.thm_body_result.proofs.Overtaken.{shown_later}

abbrev pub Of : Type 0 → Type 1
Of A = Stored → Open → A → Mappings

abbrev pub Placed : Stored → ExprId → HirExpr → Option Pointer → Type 0
Placed final i e from = ExprAt (store_of final) (map_of final) i e from

-- what is so of the final store, with the ways from what was written
pub record Shows {A : Type 0} (S : Of A) (final : Stored) (ps : List Frame) (m m' : Mark) (a : A) : Type 0 where
  pub shown : Shown (S final (ribs ps) a) m.stored m'.stored

-- whatever the answer is
pub record Leaves {A : Type 0} (W : Stored → Open → Mappings) (final : Stored) (ps : List Frame) (m m' : Mark) (a : A) : Type 0 where
  pub shown : Shown (W final (ribs ps)) m.stored m'.stored

-- what is so of the answer, where nothing that is led to is new
pub record Facts {A : Type 0} (P : Stored → A → Type 0) (final : Stored) (ps : List Frame) (m m' : Mark) (a : A) : Type 0 where
  pub fact : P final a
  pub moved : Moved m.stored m'.stored []

-- what steps store, and where they lead

pub moved_pure : {a b : Mark} → b ≡ a → Moved a.stored b.stored []
moved_pure e = moved_same (ap (λ m. m.stored) e)

pub moved_fault : (d : ExpressionStoreDiagnostics) {a b : Stored} → b ≡ with_fault d a → Moved a b []
moved_fault d {a = a} e = moved_to e (moved_report d a)

target_leads : {A : Type 0} (j : Jump) (t : Target A) (s : Stored) → Moved s (with_target j t s) []
target_leads j (reachable n) s = moved_same refl
target_leads j unreachable s = moved_report _ s
target_leads j undeclared s = moved_report _ s

jump_leads : {A : Type 0} (j : Option Jump) (rs : List (Rib A)) (s : Stored) → Moved s (with_jump j rs s) []
jump_leads None rs s = moved_same refl
jump_leads (Some j) rs s = target_leads j (target j rs) s

pub block_leads : (n : Option BlockId) (s : Stored) → Moved s (with_block n s) []
block_leads None s = moved_same refl
block_leads (Some n) s = moved_still s (with_block (Some n) s) refl refl refl refl refl refl

await_leads : (at : Pointer) (location : Option AwaitLocation) (s : Stored) → Moved s (with_await at location s) []
await_leads at None s = moved_same refl
await_leads at (Some location) s = moved_report _ s

module _ {e : HirExpr} {final : Stored} {ps : List Frame} {m m' : Mark} {i : ExprId} where
  pub expr_at : {put : Put} {at : Option Pointer} → AllocatedBy put e at final ps m m' i → Placed final i e at
  expr_at row =
      record {
        stored = ap (λ n. slice_get final.exprs.entries n) row.number ∙ row.here;
        source = ap (λ n. slice_get final.exprs.sources n) row.number ∙ row.from;
      }

  pub own : {at : Pointer} → Allocated e (Some at) final ps m m' i → Shown (OneMapping at i) m.stored m'.stored
  own {at = at} row = shown_expr e at i (row.number ∙ row.last) row.stored

  pub unled : Allocated e None final ps m m' i → Shown (OneUnled i) m.stored m'.stored
  unled row = shown_unled e i (row.number ∙ row.last) row.stored

  -- one that its node doesn't lead to
  pub hidden : {at : Option Pointer} → AllocatedMade e at final ps m m' i → Shown (OneUnled i) m.stored m'.stored
  hidden {at = at} row = shown_made e at i (row.number ∙ row.last) row.stored

module _ {made : ℕ} {A B : Type 0} {at : Label → LabelId → Frame} {l : Label} {R : LabelId → Rel A} {Q : LabelId → A → Rel B}
    {final : Stored} {ps : List Frame} {m m' : Mark} {b : B} where
  pub label_at : (row : OpenedBy made at l R Q final ps m m' b) → LabelAt (store_of final) (map_of final) row.number l
  label_at row =
      record {
        stored = ap (λ n. slice_get final.labels.entries n) row.new ∙ row.here;
        source = ap (λ n. slice_get final.labels.sources n) row.new ∙ row.from;
      }

  pub own_label : (row : OpenedBy made at l R Q final ps m m' b) → Shown (OneLabelMapping l.pointer row.number) m.stored row.entered.stored
  own_label row = shown_label l row.number (row.new ∙ row.last) row.stored

-- and then what they answer owns what is bound in them
pub owning_shows : {A : Type 0} (owner : A → ExprId) {S : Of A} {p : Lowering A} → Correct p (Shows S)
    → Correct (owning owner p) (Shows (λ final rs a. OwnedBy (owner a) (S final rs a)))
owning_shows owner h = correct_as (correct_counted (correct_owning owner h)) (λ final ps m m' a g x.
    let owned = ap (λ k. k.stored) x.row.is in
    record { shown = shown_owned (binding_id m.bindings) (owner a) x.counted x.row.first.shown owned })

-- leaves

pub missing_corresponds : Correct missing (Shows (λ final rs i. CorrespondsMissing (store_of final) (map_of final) i))
unfolding missing
missing_corresponds = correct_as (correct_alloc hir.Missing None) (λ final ps m m' i g row.
    record { shown = shown_as (unled row) (λ ws x. (expr_at row, x)) })

pub alone_corresponds : (e : HirExpr) (at : Pointer)
    → Correct (alloc_expr e (Some at)) (Shows (λ final rs i. CorrespondsAlone (store_of final) (map_of final) e at i))
alone_corresponds e at =
    correct_as (correct_alloc e (Some at)) (λ final ps m m' i g row. record { shown = shown_as (own row) (λ ws x. (expr_at row, x)) })

-- an item that isn't there is missing
pub item_is : (item : Option LangItemId) → item_expr item ≡ item_or_missing item
item_is None = refl
item_is (Some i) = refl

-- what the description stores for a form of a family is its stored form
leaf_is : (form : Leaf) → stored_leaf form ≡ leaf_form form
leaf_is tree.underscore = refl
leaf_is tree.include_bytes = refl
leaf_is tree.left_out = refl

pub unary_is : (form : Unary) (e : ExprId) → stored_unary form e ≡ unary_form form e
unary_is (tree.field_of name) e = refl
unary_is (tree.prefix_of op) e = refl
unary_is (tree.reference_to rawness mutability) e = refl

pub binary_is : (form : Binary) (a b : ExprId) → stored_binary form a b ≡ binary_form form a b
binary_is (tree.operator op) a b = refl
binary_is tree.index_of a b = refl

pub leaving_is : (form : Leaving) (o : Option ExprId) → stored_leaving form o ≡ leaving_form form o
leaving_is tree.returning o = refl
leaving_is tree.yeeting o = refl

pub leaf_corresponds : (at : Pointer) (form : Leaf)
    → Correct (alloc_expr (stored_leaf form) (Some at))
    (Shows (λ final rs i. CorrespondsAlone (store_of final) (map_of final) (leaf_form form) at i))
leaf_corresponds at form = correct_as (alone_corresponds (stored_leaf form) at) (λ final ps m m' i g row.
    record { shown = shown_as row.shown (λ ws y. (subst (λ e. Placed final i e (Some at)) (leaf_is form) y.0, y.1)) })

path_shown : {final : Stored} {qs : List Frame} {m m' : Mark} {i : ExprId} (at : Pointer) (h : HygieneId) (d : Option PathData)
    (e : HirExpr)
    → PathIs (store_of final) (map_of final) d h e → Allocated e (Some at) final qs m m' i
    → Shown (CorrespondsPath (store_of final) (map_of final) at d h i) m.stored m'.stored
path_shown {final = final} {i = i} at h None e is row =
    shown_as (own row) (λ ws y. (subst (λ z. Placed final i z (Some at)) is (expr_at row), y))
path_shown {final = final} {i = i} at h (Some p) e is row =
    shown_as (own row) (λ ws y. (is.0, is.1, (subst (λ z. Placed final i z (Some at)) is.2 (expr_at row), y)))

pub path_corresponds : (at : Pointer) (p : OptionPath) (h : HygieneId) {W : Stored → Open → Mappings} → Correct (lower_path p) (Leaves W)
    → Correct (path_form at h (lower_path p))
    (Shows (λ final rs i. W final rs & CorrespondsPath (store_of final) (map_of final) at (written_path p) h i))
unfolding path_form
path_corresponds at p h hp = correct_as
    (correct_bind (correct_both hp (path_now p)) (λ r. correct_alloc (path_or_missing h r) (Some at)))
    (λ final ps m m' i g row. record {
      shown = shown_both row.first.one.shown
          (path_shown at h (written_path p) (path_or_missing h row.one)
          (path_is (store_of final) (map_of final) row.one (written_path p) h row.first.other.is) row.second);
    })

pub literal_corresponds : (at : Pointer) (l : AstLiteral)
    → Correct (alloc_expr (hir.Literal (stored_literal l)) (Some at))
    (Shows (λ final rs i. CorrespondsLiteral (store_of final) (map_of final) at l i))
literal_corresponds at l =
    correct_as (alone_corresponds (hir.Literal (stored_literal l)) at) (λ final ps m m' i g row.
    record { shown = shown_as row.shown (λ ws y. (stored_literal l, refl, y)) })

-- parts that are no expressions

-- what its constants leave, and how it reads back
read_behind : {A D : Type 0} {W : Mappings} (read : A → D) {d : D} {a : A} {s t : Stored} → read a ≡ d → Shown W s t
    → Shown (W & ReadsAs read d a) s t
read_behind read e x = shown_as x (λ ws y. record { left = ws; right = []; is = sym (append-nil ws); first = y; second = (e, refl) })

pub type_shown : (t : OptionType) {W : Stored → Open → Mappings} → Correct (type_part None t) (Leaves W)
    → Correct (type_part None t)
    (Shows (λ final rs i. W final rs & ReadsAs (stored_type (store_of final) (map_of final)) (written_type t) i))
type_shown t h = correct_as (correct_both h (type_now t)) (λ final ps m m' i g row.
    record { shown = read_behind (stored_type (store_of final) (map_of final)) row.other.is row.one.shown })

pub option_type_shown : (t : OptionType) {W : Stored → Open → Mappings} → Correct (present_type t) (Leaves W)
    → Correct (present_type t)
    (Shows (λ final rs i. W final rs & ReadsAs (stored_option_type (store_of final) (map_of final)) (written_option_type t) i))
option_type_shown t h = correct_as (correct_both h (option_type_now t)) (λ final ps m m' i g row.
    record { shown = read_behind (stored_option_type (store_of final) (map_of final)) row.other.is row.one.shown })

pub args_shown : (a : OptionArgs) {W : Stored → Open → Mappings} → Correct (args_part a) (Leaves W)
    → Correct (args_part a)
    (Shows (λ final rs r. W final rs & ReadsAs (stored_args (store_of final) (map_of final)) (written_args a) r))
args_shown a h = correct_as (correct_both h (args_now a)) (λ final ps m m' i g row.
    record { shown = read_behind (stored_args (store_of final) (map_of final)) row.other.is row.one.shown })

-- forms

pub contents_stand : {fs : Lowering (List RecordLitField)} {s : Lowering RecordSpread} {F : Of (List RecordLitField)}
    {O : Of RecordSpread} → Correct fs (Shows F) → Correct s (Shows O)
    → Correct (record_contents fs s) (Shows (λ final rs r. F final rs r.0 & O final rs r.1))
unfolding record_contents
contents_stand {F = F} {O = O} hf hs = correct_as (correct_bind hf (λ fs. correct_bind hs (λ s. correct_pure (fs, s))))
    (λ final ps m m' r g row. let s = row.second in
    let both = shown_before (shown_both row.first.shown s.first.shown) (moved_pure s.second.still) in
    record { shown = shown_as both (λ ws y. subst (λ c. (F final (ribs ps) c.0 & O final (ribs ps) c.1) ws) (sym s.second.is) y) })

pub present_none : {A : Type 0} → Correct {A = Option A} (pure None) (Shows (λ final rs o. Absent o))
present_none = correct_as (correct_pure None) (λ final ps m m' o g row. record { shown = shown_none (moved_pure row.still) (row.is, refl) })

pub present_some : {A : Type 0} {p : Lowering A} {S : Of A} → Correct p (Shows S)
    → Correct (some p) (Shows (λ final rs o. There (λ a. S final rs a) o))
present_some h = correct_as (correct_bind h (λ a. correct_pure (Some a))) (λ final ps m m' o g row.
    record { shown = shown_as (shown_before row.first.shown (moved_pure row.second.still)) (λ ws y. (row.one, row.second.is, y)) })

module _ (at : Pointer) where
  pub if_corresponds : {c t : ExprSteps} {e : Lowering (Option ExprId)} {C T : Of ExprId} {E : Of (Option ExprId)} → Correct c (Shows C)
      → Correct t (Shows T) → Correct e (Shows E)
      → Correct (if_form at c t e) (Shows (λ final rs i ws. (condition : ExprId) × (then_branch : ExprId) × (else_branch : Option ExprId)
      × Placed final i (hir.If condition then_branch else_branch) (Some at)
      × (C final rs condition & T final rs then_branch & E final rs else_branch & OneMapping at i) ws))
  unfolding if_form
  if_corresponds hc ht he =
      correct_as (correct_bind ht (λ i. correct_bind he (λ j. correct_bind hc (λ k. correct_alloc (hir.If k i j) (Some at)))))
      (λ final ps m m' i g row.
      let r = row.second in let q = r.second in
      let two = shown_swap (shown_both r.first.shown (shown_both q.first.shown (own q.second))) in
      let parts = shown_swap (shown_both row.first.shown two) in
      record { shown = shown_as parts (λ ws x. (q.one, row.one, r.one, expr_at q.second, x)) })

  pub loop_corresponds : (label : Option Label) {b : ExprSteps} {B : Of ExprId} → Correct b (Shows B)
      → Correct (loop_form at source.Loop label b)
      (Shows (λ final rs i. InLabel (store_of final) (map_of final) rs label (λ inner n ws. (body : ExprId)
      × Placed final i (hir.Loop body n source.Loop) (Some at) × (B final inner body & OneMapping at i) ws)))
  unfolding loop_form
  loop_corresponds None h =
      correct_as (correct_bind h (λ i. correct_alloc (hir.Loop i None source.Loop) (Some at))) (λ final ps m m' i g row.
      record { shown = shown_as (shown_both row.first.shown (own row.second)) (λ ws x. (row.one, expr_at row.second, x)) })
  loop_corresponds (Some l) h =
      correct_as (correct_opened loop_at l (λ n ps. refl) (λ n. h) (λ n i. correct_alloc (hir.Loop i (Some n) source.Loop) (Some at)))
      (λ final ps m m' i g row.
      let body = shown_as (shown_both row.first.shown (own row.second)) (λ ws y. (row.one, expr_at row.second, y)) in
      record { shown = shown_as (shown_both (own_label row) body) (λ ws y. (row.number, label_at row, y)) })

  pub call_corresponds : {f : ExprSteps} {xs : Lowering (List ExprId)} {F : Of ExprId} {X : Of (List ExprId)} → Correct f (Shows F)
      → Correct xs (Shows X)
      → Correct (call_form at f xs) (Shows (λ final rs i ws. (callee : ExprId) × (arguments : List ExprId)
      × Placed final i (hir.Call callee arguments) (Some at) × (F final rs callee & X final rs arguments & OneMapping at i) ws))
  unfolding call_form
  call_corresponds hf hx =
      correct_as (correct_bind hf (λ i. correct_bind hx (λ js. correct_alloc (hir.Call i js) (Some at)))) (λ final ps m m' i g row.
      let r = row.second in
      let parts = shown_both row.first.shown (shown_both r.first.shown (own r.second)) in
      record { shown = shown_as parts (λ ws x. (row.one, r.one, expr_at r.second, x)) })

  -- a node over one part, or over two, whose form is this one
  over : {A : Type 0} {made form : A → HirExpr} {p : Lowering A} {S : Of A} → ((a : A) → made a ≡ form a) → Correct p (Shows S)
      → Correct (p >>= (λ a. alloc_expr (made a) (Some at)))
      (Shows (λ final rs i. CorrespondsOver (store_of final) (map_of final) form at (λ a. S final rs a) i))
  over {made = made} is h = correct_as (correct_bind h (λ a. correct_alloc (made a) (Some at))) (λ final ps m m' i g row.
      let node = subst (λ e. Placed final i e (Some at)) (is row.one) (expr_at row.second) in
      record { shown = shown_as (shown_both row.first.shown (own row.second)) (λ ws x. (row.one, node, x)) })

  over_two : {A B : Type 0} {made form : A → B → HirExpr} {p : Lowering A} {q : Lowering B} {S : Of A} {T : Of B}
      → ((a : A) (b : B) → made a b ≡ form a b) → Correct p (Shows S) → Correct q (Shows T)
      → Correct (p >>= (λ a. q >>= (λ b. alloc_expr (made a b) (Some at))))
      (Shows (λ final rs i. CorrespondsOverTwo (store_of final) (map_of final) form at (λ a. S final rs a) (λ b. T final rs b) i))
  over_two {made = made} is hp hq =
      correct_as (correct_bind hp (λ a. correct_bind hq (λ b. correct_alloc (made a b) (Some at)))) (λ final ps m m' i g row.
      let r = row.second in
      let node = subst (λ e. Placed final i e (Some at)) (is row.one r.one) (expr_at r.second) in
      let parts = shown_both row.first.shown (shown_both r.first.shown (own r.second)) in
      record { shown = shown_as parts (λ ws x. (row.one, r.one, node, x)) })

  pub operand_corresponds : {made form : ExprId → HirExpr} {e : ExprSteps} {S : Of ExprId} → ((i : ExprId) → made i ≡ form i)
      → Correct e (Shows S)
      → Correct (operand_form at made e)
      (Shows (λ final rs i. CorrespondsOver (store_of final) (map_of final) form at (λ x. S final rs x) i))
  unfolding operand_form
  operand_corresponds is h = over is h

  pub operands_stand : {made form : ExprId → ExprId → HirExpr} {a b : ExprSteps} {S T : Of ExprId}
      → ((i j : ExprId) → made i j ≡ form i j) → Correct a (Shows S) → Correct b (Shows T)
      → Correct (operands_form at made a b)
      (Shows (λ final rs i. CorrespondsOverTwo (store_of final) (map_of final) form at (λ x. S final rs x) (λ y. T final rs y) i))
  unfolding operands_form
  operands_stand is ha hb = over_two is ha hb

  pub value_corresponds : {made form : Option ExprId → HirExpr} {e : Lowering (Option ExprId)} {S : Of (Option ExprId)}
      → ((o : Option ExprId) → made o ≡ form o) → Correct e (Shows S)
      → Correct (value_form at made e) (Shows (λ final rs i. CorrespondsOver (store_of final) (map_of final) form at (λ o. S final rs o) i))
  unfolding value_form
  value_corresponds is h = over is h

  pub list_corresponds : (form : Listing) {xs : Lowering (List ExprId)} {S : Of (List ExprId)} → Correct xs (Shows S)
      → Correct (list_form at form xs)
      (Shows (λ final rs i. CorrespondsList (store_of final) (map_of final) at form (λ is. S final rs is) i))
  unfolding list_form
  list_corresponds (tree.tuple_of false) h = over (λ is. refl) h
  list_corresponds (tree.tuple_of true) h = over_two (λ is i. refl) h missing_corresponds
  list_corresponds tree.array_of h = over (λ is. refl) h

  pub repeat_corresponds : {e : ExprSteps} {c : Lowering ConstRef} {S : Of ExprId} {T : Of ConstRef} → Correct e (Shows S)
      → Correct c (Shows T)
      → Correct (repeat_form at e c) (Shows (λ final rs i. CorrespondsOverTwo (store_of final) (map_of final)
      (λ x n. hir.Array (array.Repeat x n)) at (λ x. S final rs x) (λ n. T final rs n) i))
  unfolding repeat_form
  repeat_corresponds he hc = over_two (λ e c. refl) he hc

  pub const_corresponds : {c : Lowering ConstRef} {T : Of ConstRef} → Correct c (Shows T)
      → Correct (owning (λ i. i) (const_form at c))
      (Shows (λ final rs i. OwnedBy i (CorrespondsOver (store_of final) (map_of final) hir.Const at (λ n. Overtaken at (T final rs n)) i)))
  unfolding const_form
  const_corresponds h = owning_shows (λ i. i) (correct_as (correct_bind h (λ c. correct_alloc (hir.Const c) (Some at)))
      (λ final ps m m' i g row. let made = row.second in record {
        shown = shown_as (shown_later (hir.Const row.one) at i row.first.shown (made.number ∙ made.last) made.stored)
            (λ ws x. (row.one, expr_at made, x));
      }))

  pub method_call_corresponds : (name : Name) {e : ExprSteps} {xs : Lowering (List ExprId)} {as' : Lowering (Option GenericArgs)}
      {S : Of ExprId} {X : Of (List ExprId)} {G : Of (Option GenericArgs)} → Correct e (Shows S) → Correct xs (Shows X)
      → Correct as' (Shows G)
      → Correct (method_call_form at e name xs as') (Shows (λ final rs i. CorrespondsOverThree (store_of final) (map_of final)
      (λ receiver arguments a. hir.MethodCall receiver name a arguments) at (λ x. S final rs x) (λ is. X final rs is)
      (λ a. G final rs a) i))
  unfolding method_call_form
  method_call_corresponds name he hx ha = correct_as (correct_bind he (λ i. correct_bind hx (λ is. correct_bind ha
      (λ a. correct_alloc (hir.MethodCall i name a is) (Some at))))) (λ final ps m m' i u row.
      let r = row.second in
      let s = r.second in
      let parts = shown_both row.first.shown (shown_both r.first.shown (shown_both s.first.shown (own s.second))) in
      record { shown = shown_as parts (λ ws x. (row.one, r.one, s.one, expr_at s.second, x)) })

  pub cast_corresponds : {e : ExprSteps} {t : TypeSteps} {S : Of ExprId} {T : Of TypeRefId} → Correct e (Shows S) → Correct t (Shows T)
      → Correct (cast_form at e t) (Shows (λ final rs i. CorrespondsOverTwo (store_of final) (map_of final) hir.Cast at
      (λ x. S final rs x) (λ y. T final rs y) i))
  unfolding cast_form
  cast_corresponds he ht = over_two (λ e i. refl) he ht

  pub offset_of_corresponds : (names : List Name) {t : TypeSteps} {T : Of TypeRefId} → Correct t (Shows T)
      → Correct (offset_of_form at t names) (Shows (λ final rs i. CorrespondsOver (store_of final) (map_of final)
      (λ container. hir.OffsetOf container names) at (λ y. T final rs y) i))
  unfolding offset_of_form
  offset_of_corresponds names ht = over (λ i. refl) ht

  -- what a record is, where the path became this
  abbrev record_over : Option Path → Of StoredFields → Of ExprId
  record_over None S final rs i = CorrespondsMissing (store_of final) (map_of final) i
  record_over (Some p) S final rs i =
      CorrespondsOver (store_of final) (map_of final) (λ r. hir.RecordLit p r.0 r.1) at (λ r. S final rs r) i

  record_of_corresponds : {c : Lowering StoredFields} {S : Of StoredFields} → Correct c (Shows S) → (p : Option Path)
      → Correct (record_of at c p) (Shows (record_over p S))
  record_of_corresponds h None = missing_corresponds
  record_of_corresponds h (Some p) = over (λ r. refl) h

  record_is : (final : Stored) (rs : Open) (S : Of StoredFields) (i : ExprId) (o : Option Path) (d : Option PathData)
      → option_map (stored_path (store_of final) (map_of final)) o ≡ d → (ws : List Mapping) → record_over o S final rs i ws
      → CorrespondsRecord (store_of final) (map_of final) at d (λ r. S final rs r) i ws
  record_is final rs S i o d e ws h =
      subst (λ k. CorrespondsRecord (store_of final) (map_of final) at k (λ r. S final rs r) i ws) e (by o h)
    where
      by : (o : Option Path) → record_over o S final rs i ws
          → CorrespondsRecord (store_of final) (map_of final) at (option_map (stored_path (store_of final) (map_of final)) o)
          (λ r. S final rs r) i ws
      by None h = h
      by (Some p) h = (p, h.0, h.1, record { left = []; right = ws; is = refl; first = (refl, refl); second = h.2 })

  pub record_corresponds : (p : OptionPath) {W : Stored → Open → Mappings} {c : Lowering StoredFields} {S : Of StoredFields}
      → Correct (lower_path p) (Leaves W) → Correct c (Shows S)
      → Correct (record_form at (lower_path p) c)
      (Shows (λ final rs i. W final rs & CorrespondsRecord (store_of final) (map_of final) at (written_path p) (λ r. S final rs r) i))
  unfolding record_form
  record_corresponds p {S = S} hp h = correct_as
      (correct_bind (correct_both hp (path_now p)) (λ o. record_of_corresponds h o))
      (λ final ps m m' i g row. record {
        shown = shown_both row.first.one.shown (shown_as row.second.shown
            (record_is final (ribs ps) S i row.one (written_path p) row.first.other.is));
      })

  -- a field: its value, which leads to it
  pub field_corresponds : (name : Name) {e : ExprSteps} {S : Of ExprId} → Correct e (Shows S)
      → Correct (field_form at name e) (Shows (λ final rs o ws. (value : ExprId) × (o ≡ Some (record { name = name; expr = value }))
      × (S final rs value & OneFieldMapping value at) ws))
  unfolding field_form
  field_corresponds name h = correct_as (correct_bind h (λ i. correct_bind (correct_point_field i at) (λ u. correct_pure _)))
      (λ final ps m m' o g row. let r = row.second in
      let leads = shown_to r.first.stored (shown_field row.one at row.middle.stored) in
      let both = shown_both row.first.shown (shown_before leads (moved_pure r.second.still)) in
      record { shown = shown_as both (λ ws y. (row.one, r.second.is, y)) })

  pub await_corresponds : (location : Option AwaitLocation) {e : ExprSteps} {S : Of ExprId} → Correct e (Shows S)
      → Correct (await_form at location e)
      (Shows (λ final rs i. CorrespondsOver (store_of final) (map_of final) hir.Await at (λ x. S final rs x) i))
  unfolding await_form
  await_corresponds location h =
      correct_as (correct_bind h (λ i. correct_bind (correct_report_await at location) (λ u. correct_alloc (hir.Await i) (Some at))))
      (λ final ps m m' i g row.
      let r = row.second in
      let moved = moved_to r.first.stored (await_leads at location row.middle.stored) in
      let parts = shown_both (shown_before row.first.shown moved) (own r.second) in
      record { shown = shown_as parts (λ ws x. (row.one, expr_at r.second, x)) })

  pub continue_corresponds : (j : Option Jump)
      → Correct (continue_form at j)
      (Shows (λ final rs i. CorrespondsAlone (store_of final) (map_of final) (hir.Continue (jump_number rs j)) at i))
  unfolding continue_form
  continue_corresponds j =
      correct_as (correct_bind (correct_target j) (λ n. correct_alloc (hir.Continue n) (Some at))) (λ final ps m m' i g row.
      let node = subst (λ n. Placed final i (hir.Continue n) (Some at)) row.first.is (expr_at row.second) in
      record {
        shown = shown_after (moved_to row.first.stored (jump_leads j (ribs ps) m.stored)) (shown_as (own row.second) (λ ws x. (node, x)));
      })

  pub break_corresponds : (j : Option Jump) {e : Lowering (Option ExprId)} {E : Of (Option ExprId)} → Correct e (Shows E)
      → Correct (break_form at j e) (Shows (λ final rs i ws. (value : Option ExprId)
      × Placed final i (hir.Break (jump_number rs j) value) (Some at) × (E final rs value & OneMapping at i) ws))
  unfolding break_form
  break_corresponds j he =
      correct_as (correct_bind (correct_target j) (λ n. correct_bind he (λ v. correct_alloc (hir.Break n v) (Some at))))
      (λ final ps m m' i g row.
      let r = row.second in
      let node = subst (λ n. Placed final i (hir.Break n r.one) (Some at)) row.first.is (expr_at r.second) in
      let whole = shown_as (shown_both r.first.shown (own r.second)) (λ ws x. (r.one, node, x)) in
      record { shown = shown_after (moved_to row.first.stored (jump_leads j (ribs ps) m.stored)) whole })

  pub paren_corresponds : {e : ExprSteps} {S : Of ExprId} → Correct e (Shows S)
      → Correct (paren_form at e) (Shows (λ final rs i. S final rs i & OneMapping at i))
  unfolding paren_form
  paren_corresponds {S = S} h =
      correct_as (correct_bind h (λ i. correct_bind (correct_point at i) (λ u. correct_pure i))) (λ final ps m m' i g row.
      let r = row.second in
      let led = shown_to r.first.stored (shown_point at row.one row.middle.stored) in
      let x = shown_before (shown_both row.first.shown led) (moved_pure r.second.still) in
      record { shown = subst (λ k. Shown (S final (ribs ps) k & OneMapping at k) m.stored m'.stored) (sym r.second.is) x })

  pub let_corresponds : {p : Lowering PatId} {e : ExprSteps} {P : Of PatId} {S : Of ExprId} → Correct p (Shows P) → Correct e (Shows S)
      → Correct (let_form at p e)
      (Shows (λ final rs i. CorrespondsOverTwo (store_of final) (map_of final) hir.Let at (λ q. P final rs q) (λ x. S final rs x) i))
  unfolding let_form
  let_corresponds hp he = over_two (λ q x. refl) hp he

  pub match_corresponds : {e : ExprSteps} {arms : Lowering (List MatchArm)} {S : Of ExprId} {X : Of (List MatchArm)} → Correct e (Shows S)
      → Correct arms (Shows X)
      → Correct (match_form at e arms)
      (Shows (λ final rs i. CorrespondsOverTwo (store_of final) (map_of final) hir.Match at (λ x. S final rs x) (λ is. X final rs is) i))
  unfolding match_form
  match_corresponds he ha = over_two (λ x is. refl) he ha

  pub assign_corresponds : {t : Lowering PatId} {e : ExprSteps} {T : Of PatId} {S : Of ExprId} → Correct t (Shows T) → Correct e (Shows S)
      → Correct (assign_form at t e)
      (Shows (λ final rs i. CorrespondsOverTwo (store_of final) (map_of final) hir.Assignment at (λ q. T final rs q) (λ x. S final rs x) i))
  unfolding assign_form
  assign_corresponds ht he = over_two (λ q x. refl) ht he

  operands_are : (low high : Option ExprId) → end_operand low ++ end_operand high ≡ option_to_list low ++ option_to_list high
  operands_are None None = refl
  operands_are None (Some j) = refl
  operands_are (Some i) None = refl
  operands_are (Some i) (Some j) = refl

  ends_are : (last : Name) (low high : Option ExprId) → ranges.range_fields last low high ≡ range_fields last low high
  ends_are last None None = refl
  ends_are last None (Some j) = refl
  ends_are last (Some i) None = refl
  ends_are last (Some i) (Some j) = refl

  pub range_corresponds : (form : RangeForm) {low high : Lowering (Option ExprId)} {S T : Of (Option ExprId)} → Correct low (Shows S)
      → Correct high (Shows T)
      → Correct (range_form at form low high)
      (Shows (λ final rs i. CorrespondsRange (store_of final) (map_of final) at form (λ o. S final rs o) (λ o. T final rs o) i))
  unfolding range_form
  range_corresponds (tree.record_range item last) hs ht =
      over_two (λ low high. ap (λ fs. hir.RecordLit (LangItem item) fs spread.None) (ends_are last low high)) hs ht
  range_corresponds (tree.call_range item) hs ht = correct_as
      (correct_bind hs (λ low. correct_bind ht (λ high. correct_bind (correct_alloc (item_expr item) None)
      (λ f. correct_alloc (hir.Call f (end_operand low ++ end_operand high)) (Some at)))))
      (λ final ps m m' i g row.
      let r = row.second in
      let s = r.second in
      let node = subst (λ is. Placed final i (hir.Call s.one is) (Some at)) (operands_are row.one r.one) (expr_at s.second) in
      let item_at = subst (λ e. Placed final s.one e None) (item_is item) (expr_at s.first) in
      let callee = shown_as (unled s.first) (λ ws x. (item_at, x)) in
      let parts = shown_both row.first.shown (shown_both r.first.shown (shown_both callee (own s.second))) in
      record { shown = shown_as parts (λ ws x. (row.one, r.one, s.one, node, x)) })
  range_corresponds tree.itemless_range hs ht = over_two (λ low high. refl) hs ht

  -- what its statements and its tail became, as it is settled
  pub block_form_corresponds : (is_unsafe : Bool) (label : Option LabelId) (number : Option BlockId) {c : Lowering StoredContents}
      {S : Of StoredContents}
      → Correct c (Shows S)
      → Correct (block_form at is_unsafe label number c) (Shows (λ final rs i ws. (r : StoredContents)
      × Placed final i (hir.Block is_unsafe label number (settled r.0 r.1).0 (settled r.0 r.1).1) (Some at)
      × (S final rs r & OneMapping at i) ws))
  unfolding block_form
  block_form_corresponds is_unsafe label number h =
      correct_as (correct_bind (correct_enter_block number) (λ u. correct_bind h (λ r. correct_alloc _ (Some at))))
      (λ final ps m m' i g row.
      let r = row.second in
      let moved = moved_to row.first.stored (block_leads number m.stored) in
      record { shown = shown_after moved (shown_as (shown_both r.first.shown (own r.second)) (λ ws x. (r.one, expr_at r.second, x))) })

pub labelled_corresponds : (label : Option Label) {f : Option LabelId → ExprSteps} {S : Stored → Open → Option LabelId → ExprId → Mappings}
    → ((n : Option LabelId) → Correct (f n) (Shows (λ final rs i. S final rs n i)))
    → Correct (labelled label f) (Shows (λ final rs i. InLabel (store_of final) (map_of final) rs label (λ inner n. S final inner n i)))
unfolding labelled
labelled_corresponds None h = h None
labelled_corresponds (Some l) {S = S} h =
    correct_as (correct_opened block_at l (λ n ps. refl) (λ n. h (Some n)) (λ n i. correct_pure i)) (λ final ps m m' i g row.
    let part = shown_before row.first.shown (moved_pure row.second.still) in
    let rs = ribs (block_at l row.number ∷ ps) in
    let body = subst (λ k. Shown (S final rs (Some row.number) k) row.entered.stored m'.stored) (sym row.second.is) part in
    record { shown = shown_as (shown_both (own_label row) body) (λ ws y. (row.number, label_at row, y)) })

-- an arm of a match, and a statement that binds

pub arm_corresponds : {p : Lowering PatId} {e : ExprSteps} {g : Lowering (Option ExprId)} {P : Of PatId} {S : Of ExprId}
    {G : Of (Option ExprId)}
    → Correct p (Shows P) → Correct e (Shows S) → Correct g (Shows G)
    → Correct (arm_form p e g) (Shows (λ final rs o ws. (q : PatId) × (x : ExprId) × (c : Option ExprId)
    × (o ≡ Some (record { pat = q; guard = c; expr = x })) × (P final rs q & S final rs x & G final rs c) ws))
unfolding arm_form
arm_corresponds hp he hg = correct_as (correct_bind hp (λ q. correct_bind he (λ x. correct_bind hg (λ c. correct_pure _))))
    (λ final ps m m' o g row.
    let r = row.second in
    let s = r.second in
    let parts = shown_both row.first.shown (shown_both r.first.shown (shown_before s.first.shown (moved_pure s.second.still))) in
    record { shown = shown_as parts (λ ws y. (row.one, r.one, s.one, s.second.is, y)) })

pub let_stmt_corresponds : {p : Lowering PatId} {t : Lowering (Option TypeRefId)} {e b : Lowering (Option ExprId)} {P : Of PatId}
    {T : Of (Option TypeRefId)} {S B : Of (Option ExprId)} → Correct p (Shows P) → Correct t (Shows T) → Correct e (Shows S)
    → Correct b (Shows B)
    → Correct (let_stmt_form p t e b) (Shows (λ final rs o ws. (q : PatId) × (y : Option TypeRefId) × (x : Option ExprId)
    × (z : Option ExprId) × (o ≡ Some (statement.Let q y x z))
    × (P final rs q & T final rs y & S final rs x & B final rs z) ws))
unfolding let_stmt_form
let_stmt_corresponds hp ht he hb =
    correct_as (correct_bind hp (λ q. correct_bind ht (λ y. correct_bind he (λ x. correct_bind hb (λ z. correct_pure _)))))
    (λ final ps m m' o g row.
    let r = row.second in
    let s = r.second in
    let u = s.second in
    let last = shown_before u.first.shown (moved_pure u.second.still) in
    let parts = shown_both row.first.shown (shown_both r.first.shown (shown_both s.first.shown last)) in
    record { shown = shown_as parts (λ ws y. (row.one, r.one, s.one, u.one, u.second.is, y)) })
