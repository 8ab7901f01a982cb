use Rattle.std.proofs.lemmas.Grind.{common_steps}
use Rattle.std.proofs.Common.{subst, arith}
use Rattle.std.specs.Prelude.{◌≡◌, ◌+◌, option_copied}
use Rattle.hir_env.specs.Whole.{expr_part}
use Rattle.hir_env.specs.declared.ctx.LowerCtx.{LowerCtx}
use Rattle.thm_body_result.specs.Room.{size_part}
use Rattle.thm_item_result.specs.Exceeding.{FitsBehind}
use Rattle.hir_lower_callbacks.specs.ResolveCtxs.{rctx_at}
use Rattle.spec_data.specs.Fold.{tracked_in_part}
use Rattle.thm_generics.specs.Lists.{Tracked}
use Rattle.hir_lower.specs.Means.{Rooted}
use Rattle.hir_lower.proofs.StaysOn.{stays_refl}
use Rattle.hir_lower.proofs.collector.ExprCollector.lower_const_arg.Goals as goal

pub returns-clause-rooted : goal.returns-clause-rooted
returns-clause-rooted g c =
    let self = c.args.self.now in
    let read = λ (p : LowerCtx). expr_part (rctx_at (g.E.LowerEnv.answers self.db.now) p) (option_copied c.unboxed.result) in
    rw (← c.unboxed.ensures)
    (subst (λ p. Rooted self.state.stored c.lower_root.new.state.stored c.in_ok-expr.expr (read p)) c.inside_constant.ensures
    (c.in_ok-expr.ensures.rooted (self.paired c.if-self.false) (self.owners c.if-self.false)))

pub returns-clause-names : goal.returns-clause-names
returns-clause-names g c =
    let self = c.args.self.now in
    let read = λ (p : LowerCtx). expr_part (rctx_at (g.E.LowerEnv.answers self.db.now) p) (option_copied c.unboxed.result) in
    rw (← c.unboxed.ensures)
    (subst (λ p. c.lower_root.new.state.names ≡ self.state.names + (size_part (read p)).names) c.inside_constant.ensures
    (c.in_ok-expr.ensures.names (self.paired c.if-self.false)))

pub returns-clause-tracked : goal.returns-clause-tracked
returns-clause-tracked g c =
    let self = c.args.self.now in
    let read = λ (p : LowerCtx). expr_part (rctx_at (g.E.LowerEnv.answers self.db.now) p) (option_copied c.unboxed.result) in
    rw (← c.unboxed.ensures)
    (subst (λ p. Tracked (tracked_in_part (read p)) self.state c.lower_root.new.state) c.inside_constant.ensures
    (c.in_ok-expr.ensures.tracked (self.paired c.if-self.false)))

pub returns-then-self-clause-tracked : goal.returns-then-self-clause-tracked
returns-then-self-clause-tracked g c = grind (arith, common_steps)

pub returns-then-self-clause-stays : goal.returns-then-self-clause-stays
returns-then-self-clause-stays g c = λ n. stays_refl _

pub returns-clause-fits : goal.returns-clause-fits
returns-clause-fits g c =
    let self = c.args.self.now in
    let read = λ (p : LowerCtx). expr_part (rctx_at (g.E.LowerEnv.answers self.db.now) p) (option_copied c.unboxed.result) in
    rw (← c.unboxed.ensures)
    (subst (λ p. FitsBehind (size_part (read p)) self.state) c.inside_constant.ensures
    (c.in_ok-expr.ensures.fits (self.paired c.if-self.false) (self.within c.if-self.false)))

pub returns-then-self-clause-calls : goal.returns-then-self-clause-calls
returns-then-self-clause-calls g c = grind (arith, common_steps)

pub returns-then-self-clause-fits : goal.returns-then-self-clause-fits
returns-then-self-clause-fits g c = grind (arith, common_steps)

pub returns-then-self-clause-too_large : goal.returns-then-self-clause-too_large
returns-then-self-clause-too_large g c = grind (arith, common_steps)

pub returns-then-self-clause-full : goal.returns-then-self-clause-full
returns-then-self-clause-full g c = grind (arith, common_steps)

pub returns-clause-too_large : goal.returns-clause-too_large
returns-clause-too_large g c = grind (arith, common_steps)

pub returns-clause-full : goal.returns-clause-full
returns-clause-full g c = grind (arith, common_steps)

pub returns-clause-calls : goal.returns-clause-calls
returns-clause-calls g c = grind (arith, common_steps)

pub returns-in_err-expr-clause-full : goal.returns-in_err-expr-clause-full
returns-in_err-expr-clause-full g c = grind (arith, common_steps)

pub returns-then-self-clause-names : goal.returns-then-self-clause-names
returns-then-self-clause-names g c = grind (arith, common_steps)

pub returns-then-self-clause-rooted : goal.returns-then-self-clause-rooted
returns-then-self-clause-rooted g c = grind (arith, common_steps)
