-- The rules for what is decided on the resolved tree allow one thing alone: what the function makes.
use Rattle.std.proofs.Common.{◌≡◌, ◌↔◌, ◌∙◌, sym, Bool, Option}
use Rattle.hir_base.specs.declared.op.RangeOp.{RangeOp}
use Rattle.hir_env.specs.ResolvedTree.{OptionExpr, OptionPat, Pat, Pats}
use Rattle.hir_env.specs.Answers.{Answers}
use Rattle.hir_env.specs.declared.lang.LangItems.{LangItems}
use Rattle.hir_env.specs.declared.ctx.LowerCtx.{LowerCtx}
use Rattle.thm_reading.specs.OneTree.{AtMostOne, OneBarePat, OneElement, OneForItems, OneQuestionItems, OneRange, OneSide, OneTarget}
use Rattle.thm_reading.specs.OneTree.{OneTypePat}
use Rattle.thm_reading.proofs.Decided.{bare_pats_decided, elements_decided, sides_decided, type_pats_decided}
use Rattle.thm_reading.proofs.Ranges.{ranges_decided}
use Rattle.thm_reading.proofs.TakenItems.{for_items_decided, question_items_decided}
use Rattle.thm_reading.proofs.Targets.{targets_decided}

-- what says just what is made says one thing
only_made : {A : Type 0} {F : A → Type 0} {made : A} → ((x : A) → (made ≡ x) ↔ F x) → AtMostOne F
only_made d x y h k = sym ((d x).1 h) ∙ (d y).1 k

pub one_side : OneSide
one_side q = only_made (sides_decided q)

pub one_element : OneElement
one_element q qs = only_made (elements_decided q qs)

pub one_type_pat : OneTypePat
one_type_pat items q = only_made (type_pats_decided items q)

pub one_bare_pat : OneBarePat
one_bare_pat q = only_made (bare_pats_decided q)

pub one_range : OneRange
one_range items is_new o has_start has_end = only_made (ranges_decided items is_new o has_start has_end)

pub one_for_items : OneForItems
one_for_items items = only_made (for_items_decided items)

pub one_question_items : OneQuestionItems
one_question_items items = only_made (question_items_decided items)

pub one_target : OneTarget
one_target a p e = only_made (targets_decided a p e)
