-- What is made of lang items is framed by those of them that are put in.
use Rattle.std.proofs.Common.{◌≡◌, refl, Bool, true, false, Option, Some, None}
use Rattle.hir_base.specs.declared.op.RangeOp.{RangeOp}
use Rattle.hir_base.specs.declared.op.RangeOp.TheVariants as op
use Rattle.hir_store.specs.declared.ids.LangItemId.{LangItemId}
use Rattle.hir_env.specs.ResolvedTree as tree
use Rattle.hir_env.specs.ResolvedTree.{OptionPat, Pat, Pats, QuestionItems, Side}
use Rattle.hir_env.specs.Answering.{for_items, for_items_if, items_if, question_items}
use Rattle.hir_env.specs.Ranges as of
use Rattle.hir_env.specs.TypePats.{end_at, end_limit, pat_pointer, start_limit, type_pat_of, type_pat_or_none, type_pats_of}
use Rattle.hir_env.specs.declared.lang.LangItems.{LangItems}
use Rattle.hir_env.specs.declared.ctx.LowerCtx.{LowerCtx}
use Rattle.hir_env.specs.Answers.{Answers}
use Rattle.thm_frame.specs.Items as item
use Rattle.thm_frame.specs.Questions.{Area, Framed, Here}
use Rattle.thm_frame.proofs.Asks.{item_asked, new_range_asked}
use Rattle.thm_frame.proofs.Framing.{app, as_made, go_on, one, still, two, four}

-- the items of a `?`, each by itself
abbrev items_with : Option LangItemId → Option LangItemId → Option LangItemId → Option LangItemId → Option LangItemId → Option QuestionItems
items_with (Some x) (Some y) (Some z) t r = Some (record {
  branch = x;
  goes_on = y;
  breaks = z;
  into_try_type = t;
  from_residual = r;
})
items_with _ _ _ t r = None

items_are : (x y z : Option LangItemId) (i : LangItems)
    → items_if x y z i ≡ items_with x y z i.residual_into_try_type i.try_trait_from_residual
items_are (Some x) (Some y) (Some z) i = refl
items_are (Some x) (Some y) None i = refl
items_are (Some x) None z i = refl
items_are None y z i = refl

module _ (a : Answers) (area : Area a) where
  pub question_items_framed : Framed area (λ b. question_items b.lang_items) a
  question_items_framed = as_made
      (λ b. items_are b.lang_items.try_trait_branch b.lang_items.control_flow_continue b.lang_items.control_flow_break b.lang_items)
      (app (four items_with (item_asked a area item.try_trait_branch) (item_asked a area item.control_flow_continue)
      (item_asked a area item.control_flow_break) (item_asked a area item.residual_into_try_type))
      (item_asked a area item.try_trait_from_residual))

  pub for_items_framed : Framed area (λ b. for_items b.lang_items) a
  for_items_framed = four for_items_if (item_asked a area item.into_iter_into_iter) (item_asked a area item.iterator_next)
      (item_asked a area item.option_some) (item_asked a area item.option_none)

  -- ranges

  record_framed : (i : item.LangItem) → Framed area (λ b. of.record_of (item.item_of b.lang_items i) of.end_name) a
  record_framed i = one (λ k. of.record_of k of.end_name) (item_asked a area i)

  last_framed : (i : item.LangItem) → Framed area (λ b. of.record_of (item.item_of b.lang_items i) of.last_name) a
  last_framed i = one (λ k. of.record_of k of.last_name) (item_asked a area i)

  from_framed : (r : Bool)
      → Framed area (λ b. of.record_of (of.newer r b.lang_items.range_from_copy b.lang_items.range_from) of.end_name) a
  from_framed true = record_framed item.range_from_copy
  from_framed false = record_framed item.range_from

  to_framed : (r is_inclusive : Bool) → Framed area (λ b. of.to_form b.lang_items r is_inclusive) a
  to_framed r false = record_framed item.range_to
  to_framed true true = last_framed item.range_to_inclusive_copy
  to_framed false true = record_framed item.range_to_inclusive

  between_framed : (r is_inclusive : Bool) → Framed area (λ b. of.between_form b.lang_items r is_inclusive) a
  between_framed true false = record_framed item.range_copy
  between_framed false false = record_framed item.range
  between_framed true true = last_framed item.range_inclusive_copy
  between_framed false true = one tree.call_range (item_asked a area item.range_inclusive_new)

  pub range_framed : (o : Option RangeOp) (x y : Bool) (p : LowerCtx) (w : Here area p)
      → Framed area (λ b. of.range_form b.lang_items (b.new_range p.module_id) o x y) a
  range_framed o false false p w = record_framed item.range_full
  range_framed o true false p w = go_on
      (λ b r. of.record_of (of.newer r b.lang_items.range_from_copy b.lang_items.range_from) of.end_name)
      (new_range_asked a area p.module_id w.1) (from_framed (a.new_range p.module_id))
  range_framed o false true p w = go_on (λ b r. of.to_form b.lang_items r (of.is_inclusive o))
      (new_range_asked a area p.module_id w.1) (to_framed (a.new_range p.module_id) (of.is_inclusive o))
  range_framed o true true p w = go_on (λ b r. of.between_form b.lang_items r (of.is_inclusive o))
      (new_range_asked a area p.module_id w.1) (between_framed (a.new_range p.module_id) (of.is_inclusive o))

  -- patterns in types

  start_framed : (s : Side) → Framed area (λ b. start_limit b.lang_items s) a
  start_framed tree.no_side = one tree.item_limit (item_asked a area item.range_min)
  start_framed s = still (tree.side_limit s)

  end_at_framed : (o : Option RangeOp) (s : Side) → Framed area (λ b. end_at b.lang_items o s) a
  end_at_framed (Some op.Exclusive) s = one (λ k. tree.before_limit k s) (item_asked a area item.range_sub)
  end_at_framed _ s = still (tree.side_limit s)

  end_framed : (o : Option RangeOp) (s : Side) → Framed area (λ b. end_limit b.lang_items o s) a
  end_framed o tree.no_side = one tree.item_limit (item_asked a area item.range_max)
  end_framed o s = end_at_framed o s

  mutual
    type_pat_framed : (p : Pat) → Framed area (λ b. type_pat_of b.lang_items p) a
    type_pat_framed (tree.leaf_pat at tree.not_null_leaf) = still (tree.not_null_type_pat at)
    type_pat_framed (tree.or_pat at ps) = one (tree.or_type_pat at) (type_pats_framed ps)
    type_pat_framed (tree.range_pat at o x y) = two (tree.range_type_pat at) (start_framed x) (end_framed o y)
    type_pat_framed (tree.macro_pat at called tree.no_pat) = still (tree.macro_type_pat at called tree.no_type_pat)
    type_pat_framed (tree.macro_pat at called (tree.some_pat p)) =
        one (λ t. tree.macro_type_pat at called (tree.some_type_pat t)) (type_pat_framed p)
    type_pat_framed p = still (tree.other_type_pat (pat_pointer p))

    type_pats_framed : (ps : Pats) → Framed area (λ b. type_pats_of b.lang_items ps) a
    type_pats_framed tree.no_pats = still tree.no_type_pats
    type_pats_framed (tree.more_pats p ps) = two tree.more_type_pats (type_pat_framed p) (type_pats_framed ps)
    type_pats_framed (tree.tracked_pats called ps) = type_pats_framed ps

  pub type_pat_or_framed : (x : OptionPat) → Framed area (λ b. type_pat_or_none b.lang_items x) a
  type_pat_or_framed tree.no_pat = still tree.no_type_pat
  type_pat_or_framed (tree.some_pat p) = one tree.some_type_pat (type_pat_framed p)
