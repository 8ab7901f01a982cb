-- What a `while` becomes stands for it: a loop, the turn in it, and the break in that.
use Rattle.std.proofs.Common.{◌≡◌, ◌∙◌, refl, length, List, Option, Some, None}
use Rattle.hir_store.specs.Pointers.{Pointer}
use Rattle.hir_store.specs.Stored.{Stored, store_of, map_of}
use Rattle.hir_store.specs.declared.hir.Expr.{Expr as HirExpr}
use Rattle.hir_store.specs.declared.hir.Expr.TheVariants as hir
use Rattle.hir_store.specs.declared.hir.LoopSource.TheVariants as source
use Rattle.hir_store.specs.declared.ids.ExprId.{ExprId}
use Rattle.hir_env.specs.ResolvedTree.{Label}
use Rattle.hir_lower_builder.specs.Lower.{ExprSteps, loop_form, iteration_form}
use Rattle.thm_logic.proofs.Frames.{Frame, loop_at, ribs}
use Rattle.thm_logic.proofs.Steps.{Mark, with_expr}
use Rattle.thm_body_result.specs.Leads.{OneMapping, OneUnled, ◌&◌}
use Rattle.thm_body_result.specs.Corresponds.{InLabel}
use Rattle.thm_body_result.specs.CorrespondsMade.{CorrespondsWhile}
use Rattle.thm_body_result.proofs.Lasting.{Correct, correct_alloc, correct_as, correct_bind, correct_opened}
use Rattle.thm_body_result.proofs.Leading.{Shown, shown_as, shown_both, shown_swap, shown_third}
use Rattle.thm_body_result.proofs.Standing.{Of, Placed, Shows, expr_at, label_at, own_label}

module _ (at : Pointer) where
  -- The turn with the break in it, and what is shown once one more expression comes from its node.
  record Turned (C B : Of ExprId) (final : Stored) (ps : List Frame) (m m' : Mark) (i : ExprId) : Type 0 where
    condition : ExprId
    body : ExprId
    out : ExprId
    iteration_at : Placed final i (hir.If condition body (Some out)) (Some at)
    out_at : Placed final out (hir.Break None None) (Some at)
    shown : (e : HirExpr) (k : ExprId) (s : Stored) → s ≡ with_expr e (Some at) m'.stored → k.0 ≡ length m'.stored.exprs.entries
        → Shown (C final (ribs ps) condition & B final (ribs ps) body & OneUnled out & OneUnled i & OneMapping at k) m.stored s

  turned : {c b : ExprSteps} {C B : Of ExprId} → Correct c (Shows C) → Correct b (Shows B) → Correct (iteration_form at c b) (Turned C B)
  unfolding iteration_form
  turned hc hb = correct_as
      (correct_bind hb (λ j. correct_bind hc (λ k. correct_bind (correct_alloc (hir.Break None None) (Some at))
      (λ o. correct_alloc (hir.If k j (Some o)) (Some at)))))
      (λ final ps m m' i g row. let r = row.second in let q = r.second in record {
        condition = r.one;
        body = row.one;
        out = q.one;
        iteration_at = expr_at q.second;
        out_at = expr_at q.first;
        shown = λ e k s is number. shown_swap (shown_both row.first.shown (shown_both r.first.shown
            (shown_third (hir.Break None None) (hir.If r.one row.one (Some q.one)) e at q.one i k
            q.first.stored q.second.stored is (q.first.number ∙ q.first.last) (q.second.number ∙ q.second.last) number)));
      })

  pub while_corresponds : (label : Option Label) {c b : ExprSteps} {C B : Of ExprId} → Correct c (Shows C) → Correct b (Shows B)
      → Correct (loop_form at source.While label (iteration_form at c b))
      (Shows (λ final rs i. InLabel (store_of final) (map_of final) rs label
      (λ inner n. CorrespondsWhile (store_of final) (map_of final) at n (λ x. C final inner x) (λ x. B final inner x) i)))
  unfolding loop_form
  while_corresponds None hc hb = correct_as
      (correct_bind (turned hc hb) (λ i. correct_alloc (hir.Loop i None source.While) (Some at)))
      (λ final ps m m' i g row. let t = row.first in let a = row.second in record {
        shown = shown_as (t.shown (hir.Loop row.one None source.While) i m'.stored a.stored (a.number ∙ a.last))
            (λ ws x. (t.condition, t.body, t.out, row.one, expr_at a, t.iteration_at, t.out_at, x));
      })
  while_corresponds (Some l) hc hb = correct_as
      (correct_opened loop_at l (λ n ps. refl) (λ n. turned hc hb) (λ n i. correct_alloc (hir.Loop i (Some n) source.While) (Some at)))
      (λ final ps m m' i g row. let t = row.first in let a = row.second in
      let whole = shown_as (t.shown (hir.Loop row.one (Some row.number) source.While) i m'.stored a.stored (a.number ∙ a.last))
      (λ ws x. (t.condition, t.body, t.out, row.one, expr_at a, t.iteration_at, t.out_at, x)) in
      record { shown = shown_as (shown_both (own_label row) whole) (λ ws x. (row.number, label_at row, x)) })
