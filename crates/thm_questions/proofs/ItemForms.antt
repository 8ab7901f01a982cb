-- What is made of lang items is framed by those of them that are put in.
use Rattle.std.proofs.Common.{◌≡◌, refl, Bool, true, false, List, [], ◌∷◌, Option, Some, None}
use Rattle.hir_base.specs.declared.node.HirFileId.{HirFileId}
use Rattle.hir_base.specs.declared.op.RangeOp.{RangeOp}
use Rattle.hir_base.specs.declared.op.RangeOp.TheVariants as op
use Rattle.hir_store.specs.declared.ids.LangItemId.{LangItemId}
use Rattle.hir_store.specs.declared.ids.ModuleId.{ModuleId}
use Rattle.hir_env.specs.ResolvedTree as tree
use Rattle.hir_env.specs.ResolvedTree.{OptionPat, Pat, Pats, QuestionItems, RangeForm, Side}
use Rattle.hir_env.specs.Answering.{for_items, for_items_if, items_if, question_items}
use Rattle.hir_env.specs.Ranges as of
use Rattle.hir_env.specs.TypePats.{end_at, end_limit, pat_pointer, start_limit, type_pat_of, type_pat_or_none, type_pats_of}
use Rattle.hir_env.specs.declared.lang.LangItems.{LangItems}
use Rattle.hir_env.specs.Answers.{Answers}
use Rattle.thm_frame.specs.Items as item
use Rattle.thm_frame.specs.Questions.{Question, of_lang_item}
use Rattle.thm_questions.specs.Decided as asked
use Rattle.thm_questions.specs.Areas.{NodeArea}
use Rattle.thm_questions.proofs.Asks.{item_asked, new_range_asked}
use Rattle.thm_questions.proofs.Framing.{ByList, as_made, go_on, one, still, two, four}

-- the items of a `?`, each by itself
abbrev items_with : Option LangItemId → Option LangItemId → Option LangItemId → Option LangItemId → Option LangItemId → Option QuestionItems
items_with (Some x) (Some y) (Some z) t r = Some (record {
  branch = x;
  goes_on = y;
  breaks = z;
  into_try_type = t;
  from_residual = r;
})
items_with _ _ _ t r = None

items_are : (x y z : Option LangItemId) (i : LangItems)
    → items_if x y z i ≡ items_with x y z i.residual_into_try_type i.try_trait_from_residual
items_are (Some x) (Some y) (Some z) i = refl
items_are (Some x) (Some y) None i = refl
items_are (Some x) None z i = refl
items_are None y z i = refl

-- of no node
abbrev Free : {X : Type 0} {a : Answers} → NodeArea a → HirFileId → ModuleId → (Answers → X) → List Question → Type 0
Free area f m made qs = ByList area f m [] made qs

module _ (a : Answers) (area : NodeArea a) {file : HirFileId} {m : ModuleId} where
  pub question_items_by : Free area file m (λ b. question_items b.lang_items) asked.question_items
  question_items_by = as_made
      (λ b. items_are b.lang_items.try_trait_branch b.lang_items.control_flow_continue b.lang_items.control_flow_break b.lang_items)
      refl refl
      (four {W = Option LangItemId × Option LangItemId} (λ x y z v. items_with x y z v.0 v.1) (item_asked a area item.try_trait_branch)
      (item_asked a area item.control_flow_continue) (item_asked a area item.control_flow_break)
      (two (λ t r. (t, r)) (item_asked a area item.residual_into_try_type) (item_asked a area item.try_trait_from_residual)))

  pub for_items_by : Free area file m (λ b. for_items b.lang_items) asked.for_items
  for_items_by = four for_items_if (item_asked a area item.into_iter_into_iter) (item_asked a area item.iterator_next)
      (item_asked a area item.option_some) (item_asked a area item.option_none)

  -- ranges

  record_by : (i : item.LangItem) → Free area file m (λ b. of.record_of (item.item_of b.lang_items i) of.end_name) (of_lang_item i ∷ [])
  record_by i = one (λ k. of.record_of k of.end_name) (item_asked a area i)

  last_by : (i : item.LangItem) → Free area file m (λ b. of.record_of (item.item_of b.lang_items i) of.last_name) (of_lang_item i ∷ [])
  last_by i = one (λ k. of.record_of k of.last_name) (item_asked a area i)

  from_by : (r : Bool) → Free area file m (λ b. of.record_of (of.newer r b.lang_items.range_from_copy b.lang_items.range_from) of.end_name)
      (of_lang_item (asked.from_item r) ∷ [])
  from_by true = record_by item.range_from_copy
  from_by false = record_by item.range_from

  to_by : (r is_inclusive : Bool)
      → Free area file m (λ b. of.to_form b.lang_items r is_inclusive) (of_lang_item (asked.to_item r is_inclusive) ∷ [])
  to_by r false = record_by item.range_to
  to_by true true = last_by item.range_to_inclusive_copy
  to_by false true = record_by item.range_to_inclusive

  between_by : (r is_inclusive : Bool)
      → Free area file m (λ b. of.between_form b.lang_items r is_inclusive) (of_lang_item (asked.between_item r is_inclusive) ∷ [])
  between_by true false = record_by item.range_copy
  between_by false false = record_by item.range
  between_by true true = last_by item.range_inclusive_copy
  between_by false true = one tree.call_range (item_asked a area item.range_inclusive_new)

  pub range_by : (o : Option RangeOp) (x y : Bool)
      → Free area file m (λ b. of.range_form b.lang_items (b.new_range m) o x y) (asked.of_range m (a.new_range m) o x y)
  range_by o false false = record_by item.range_full
  range_by o true false = go_on
      (λ b r. of.record_of (of.newer r b.lang_items.range_from_copy b.lang_items.range_from) of.end_name)
      (new_range_asked a area) (from_by (a.new_range m))
  range_by o false true = go_on (λ b r. of.to_form b.lang_items r (of.is_inclusive o)) (new_range_asked a area)
      (to_by (a.new_range m) (of.is_inclusive o))
  range_by o true true = go_on (λ b r. of.between_form b.lang_items r (of.is_inclusive o)) (new_range_asked a area)
      (between_by (a.new_range m) (of.is_inclusive o))

  -- patterns in types

  start_by : (s : Side) → Free area file m (λ b. start_limit b.lang_items s) (asked.of_start s)
  start_by tree.no_side = one tree.item_limit (item_asked a area item.range_min)
  start_by s = still (tree.side_limit s)

  end_at_by : (o : Option RangeOp) (s : Side) → Free area file m (λ b. end_at b.lang_items o s) (asked.of_end_at o)
  end_at_by (Some op.Exclusive) s = one (λ k. tree.before_limit k s) (item_asked a area item.range_sub)
  end_at_by _ s = still (tree.side_limit s)

  end_by : (o : Option RangeOp) (s : Side) → Free area file m (λ b. end_limit b.lang_items o s) (asked.of_end o s)
  end_by o tree.no_side = one tree.item_limit (item_asked a area item.range_max)
  end_by o s = end_at_by o s

  mutual
    type_pat_by : (p : Pat) → Free area file m (λ b. type_pat_of b.lang_items p) (asked.of_type_pat p)
    type_pat_by (tree.leaf_pat at tree.not_null_leaf) = still (tree.not_null_type_pat at)
    type_pat_by (tree.or_pat at ps) = one (tree.or_type_pat at) (type_pats_by ps)
    type_pat_by (tree.range_pat at o x y) = two (tree.range_type_pat at) (start_by x) (end_by o y)
    type_pat_by (tree.macro_pat at called tree.no_pat) = still (tree.macro_type_pat at called tree.no_type_pat)
    type_pat_by (tree.macro_pat at called (tree.some_pat p)) =
        one (λ t. tree.macro_type_pat at called (tree.some_type_pat t)) (type_pat_by p)
    type_pat_by p = still (tree.other_type_pat (pat_pointer p))

    type_pats_by : (ps : Pats) → Free area file m (λ b. type_pats_of b.lang_items ps) (asked.of_type_pats ps)
    type_pats_by tree.no_pats = still tree.no_type_pats
    type_pats_by (tree.more_pats p ps) = two tree.more_type_pats (type_pat_by p) (type_pats_by ps)
    type_pats_by (tree.tracked_pats called ps) = type_pats_by ps

  pub type_pat_or_by : (x : OptionPat) → Free area file m (λ b. type_pat_or_none b.lang_items x) (asked.of_type_pat_part x)
  type_pat_or_by tree.no_pat = still tree.no_type_pat
  type_pat_or_by (tree.some_pat p) = one tree.some_type_pat (type_pat_by p)
