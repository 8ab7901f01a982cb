-- What a range becomes is what the rules say, and nothing else is.
use Rattle.std.proofs.Common.{◌≡◌, ◌↔◌, refl, sym, Bool, true, false, List, Option, Some, None, ℕ, codes, ◌∙◌}
use Rattle.hir_base.specs.declared.op.RangeOp.{RangeOp}
use Rattle.hir_base.specs.declared.op.RangeOp.TheVariants as range
use Rattle.hir_store.specs.declared.ids.LangItemId.{LangItemId}
use Rattle.hir_store.specs.declared.name.Name.TheVariants as name
use Rattle.hir_env.specs.declared.lang.LangItems.{LangItems}
use Rattle.hir_env.specs.ResolvedTree.{RangeForm}
use Rattle.hir_env.specs.Ranges.{range_form, record_of}
use Rattle.thm_reading.specs.Decided as rule
use Rattle.thm_reading.specs.Decided.{RangeAs, RecordAs}
use Rattle.thm_reading.proofs.Alone.{bool_clash}
use Rattle.thm_reading.proofs.Decided.{by_both}

record_as : (k : Option LangItemId) (t : List ℕ) → RecordAs k t (record_of k (name.Text t))
record_as None t = rule.without_item
record_as (Some k) t = rule.record_of_item

its_record : (k : Option LangItemId) (t : List ℕ) (x : RangeForm) → RecordAs k t x → record_of k (name.Text t) ≡ x
its_record _ _ _ rule.record_of_item = refl
its_record _ _ _ rule.without_item = refl

module _ (items : LangItems) where
  range_as : (n : Bool) (o : Option RangeOp) (a b : Bool) → RangeAs items n o a b (range_form items n o a b)
  range_as n o false false = rule.full (record_as _ _)
  range_as false o true false = rule.older_from (record_as _ _)
  range_as true o true false = rule.newer_from (record_as _ _)
  range_as n None false true = rule.to refl (record_as _ _)
  range_as n (Some range.Exclusive) false true = rule.to refl (record_as _ _)
  range_as false (Some range.Inclusive) false true = rule.older_to_last (record_as _ _)
  range_as true (Some range.Inclusive) false true = rule.newer_to_last (record_as _ _)
  range_as false None true true = rule.older_between refl (record_as _ _)
  range_as false (Some range.Exclusive) true true = rule.older_between refl (record_as _ _)
  range_as true None true true = rule.newer_between refl (record_as _ _)
  range_as true (Some range.Exclusive) true true = rule.newer_between refl (record_as _ _)
  range_as false (Some range.Inclusive) true true = rule.older_through
  range_as true (Some range.Inclusive) true true = rule.newer_through (record_as _ _)

  open_to : (n : Bool) (o : Option RangeOp) → rule.is_closed o ≡ false
      → range_form items n o false true ≡ record_of items.range_to (name.Text (codes "end"))
  open_to n None e = refl
  open_to n (Some range.Exclusive) e = refl
  open_to n (Some range.Inclusive) e = bool_clash (sym e)

  open_between : (n : Bool) (o : Option RangeOp) → rule.is_closed o ≡ false
      → range_form items n o true true ≡ range_form items n None true true
  open_between n None e = refl
  open_between n (Some range.Exclusive) e = refl
  open_between n (Some range.Inclusive) e = bool_clash (sym e)

  its_range : (n : Bool) (o : Option RangeOp) (a b : Bool) (x : RangeForm) → RangeAs items n o a b x → range_form items n o a b ≡ x
  its_range _ _ _ _ _ (rule.full h) = its_record _ _ _ h
  its_range _ _ _ _ _ (rule.older_from h) = its_record _ _ _ h
  its_range _ _ _ _ _ (rule.newer_from h) = its_record _ _ _ h
  its_range n o _ _ _ (rule.to e h) = open_to n o e ∙ its_record _ _ _ h
  its_range _ _ _ _ _ (rule.older_to_last h) = its_record _ _ _ h
  its_range _ _ _ _ _ (rule.newer_to_last h) = its_record _ _ _ h
  its_range _ o _ _ _ (rule.older_between e h) = open_between false o e ∙ its_record _ _ _ h
  its_range _ o _ _ _ (rule.newer_between e h) = open_between true o e ∙ its_record _ _ _ h
  its_range _ _ _ _ _ rule.older_through = refl
  its_range _ _ _ _ _ (rule.newer_through h) = its_record _ _ _ h

  pub ranges_decided : (n : Bool) (o : Option RangeOp) (a b : Bool) (x : RangeForm)
      → (range_form items n o a b ≡ x) ↔ RangeAs items n o a b x
  ranges_decided n o a b = by_both (RangeAs items n o a b) (range_form items n o a b) (range_as n o a b) (its_range n o a b)
