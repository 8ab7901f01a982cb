use Rattle.std.proofs.lemmas.Grind.{common_steps}
use Rattle.std.proofs.Common.{arith, ◌∙◌, ap, subst, sym, Some, None, Ok, Err}
use Rattle.std.specs.Option.{option_copied}
use Rattle.hir_syntax.specs.declared.ast.ElseBranch.TheOpen.{ExprKind-F}
use Rattle.hir_syntax.specs.declared.ast.ExprKind.{out-ExprKind}
use Rattle.hir_store.specs.declared.hir.Statement.TheVariants as statement
use Rattle.hir_env.specs.Calls.{nothing}
use Rattle.hir_env.specs.ResolveCtx.{site_of}
use Rattle.hir_env.specs.Whole.{resolved_expr, resolved_value, pointer_at, stmt_level}
use Rattle.hir_lower_builder.specs.Calls.{found_of}
use Rattle.hir_lower_builder.specs.Lower.{lower_kept, push_some}
use Rattle.hir_lower_builder.specs.Nests.{KidsStmt}
use Rattle.hir_lower_builder.proofs.Runs.{run_moved}
use Rattle.hir_lower_expr.specs.Calls.{pointed}
use Rattle.hir_lower_expr.specs.Runs.{Counts, MayEnter, ValueBehind, lower_value, run_part, spliced_call, stmts_lent, value_part}
use Rattle.hir_lower_expr.proofs.RunLemmas.{ended_behind, ended_refused, first_may, grows_on, none_left, pushed_has, rest_may}
use Rattle.hir_lower_expr.proofs.RunLemmas.{run_begins, run_ends, run_goes_on, run_refused, still_has, stmt_expr, stmts_refused}
use Rattle.hir_lower_expr.proofs.RunLemmas.{value_refused}
use Rattle.hir_lower_expr.proofs.SpliceLemmas.{call_behind, call_kids, call_left, call_nothing, call_refused, call_value, is_on}
use Rattle.hir_lower_expr.proofs.SpliceLemmas.{nothing_behind, off_behind, off_refused, on_behind, run_in_call_refused, value_called}
use Rattle.hir_lower_expr.proofs.SpliceLemmas.{value_in_call_refused, whole_behind}
use Rattle.hir_lower_expr.proofs.StatementLemmas.{called_kind, def_off, def_on, def_unknown, ends_in, item_behind, let_behind}
use Rattle.hir_lower_expr.proofs.StatementLemmas.{let_refused, nothing_exists, pushed_one, rules_off, rules_on, rules_unknown}
use Rattle.hir_lower_expr.proofs.StatementLemmas.{splice_may, stmts_same, stmts_stay, stmts_unplaced, value_here, value_may, value_on}
use Rattle.hir_lower_expr.proofs.StatementLemmas.{value_same, value_unplaced}
use Rattle.hir_lower_expr.proofs.runs.+splice.Goals as goal

-- a call

pub collect_call-returns-in_err-entered-clause-steps : goal.collect_call-returns-in_err-entered-clause-steps
collect_call-returns-in_err-entered-clause-steps g t c =
    let at = g.P.LowerParts.rctx c.args.lowerer.now.parts in
    value_refused (spliced_call at c.args.at c.args.call.now) c.args.run.now _ c.args.state.now _ c.from_residual.result
    c.enter_splice.new.state c.from_residual.ensures.1
    (λ d h other. let k = c.in_err-entered.ensures other in
    (call_refused at c.args.at c.args.call.now c.args.run.now.done d c.args.state.now _ _ k.0, k.1))

pub collect_call-returns-in_err-entered-clause-placed : goal.collect_call-returns-in_err-entered-clause-placed
collect_call-returns-in_err-entered-clause-placed g t c =
    value_unplaced c.args.state.now c.enter_splice.new.state c.args.run.now.done c.from_residual.result _ c.from_residual.ensures.1

pub collect_call-returns-in_default-clause-steps : goal.collect_call-returns-in_default-clause-steps
collect_call-returns-in_default-clause-steps g t c =
    let at = g.P.LowerParts.rctx c.args.lowerer.now.parts in
    call_nothing at c.args.at c.args.call.now c.args.run.now c.args.state.now c.enter_splice.new.state
    (found_of c.in_ok-entered.entered) c.in_ok-entered.ensures.0 (sym c.stmts_of.ensures ∙ ap stmts_lent c.in_default.is)

pub collect_call-returns-in_default-clause-placed : goal.collect_call-returns-in_default-clause-placed
collect_call-returns-in_default-clause-placed g t c =
    nothing_exists c.args.state.now c.enter_splice.new.state c.args.run.now.done c.in_ok-entered.ensures.1 c.requires.done

pub collect_call-collect_run-requires : goal.collect_call-collect_run-requires
collect_call-collect_run-requires g t c =
    let it = c.args.lowerer.now.parts in
    let at = g.P.LowerParts.rctx it in
    let found = found_of c.in_ok-entered.entered in
    let is = sym c.stmts_of.ensures ∙ ap stmts_lent c.in-Some.is in
    let kids = call_kids (g.P.LowerParts.can it) at c.args.call.now c.requires.part c.args.state.now c.enter_splice.new.state found
    c.in_ok-entered.ensures.0 c.in-Some.place c.in-Some.made.now is in
    let moved = run_moved (g.P.LowerParts.can it) (g.P.LowerParts.can c.moved-inner.result.parts) c.in-Some.place
    c.moved-inner.ensures.can c.in-Some.made.now.stmts c.in-Some.made.now.expr kids in
    let less = call_left at c.args.call.now c.args.state.now c.enter_splice.new.state found c.in_ok-entered.ensures.0 c.in-Some.place
    c.in-Some.made.now is in
    let same = ap (λ x. x.place.left) c.moved-inner.ensures.rctx in
    let done = still_has c.args.state.now.stored c.enter_splice.new.state.stored c.args.run.now.done c.in_ok-entered.ensures.1
    c.requires.done in
    let rctx = c.moved-inner.ensures.rctx in
    λ κs within. (omega (arith, c.decreases, less, same), (within.0, (within.1, (rw (rctx, c.as_slice.ensures) moved.stmts, done))))

pub collect_call-returns-in_err-collect_run-clause-steps : goal.collect_call-returns-in_err-collect_run-clause-steps
collect_call-returns-in_err-collect_run-clause-steps g t c =
    let at = g.P.LowerParts.rctx c.args.lowerer.now.parts in
    let inner = g.P.LowerParts.rctx c.moved-inner.result.parts in
    let is = sym c.stmts_of.ensures ∙ ap stmts_lent c.in-Some.is in
    let run = rw c.as_slice.ensures at c.in_err-collect_run.ensures.steps in
    value_refused (spliced_call at c.args.at c.args.call.now) c.args.run.now _ c.args.state.now _
    c.from_residual-in_err-collect_run.result c.collect_run.new.state c.from_residual-in_err-collect_run.ensures.1
    (λ d h other. let k = run d h other in (
      run_in_call_refused at inner c.args.at c.args.call.now c.args.run.now c.args.state.now c.enter_splice.new.state
          (found_of c.in_ok-entered.entered) c.in_ok-entered.ensures.0 c.in-Some.place c.in-Some.made.now is c.moved-inner.ensures.rctx _ d
          c.collect_run.new.state k.0,
      k.1,
    ))

pub collect_call-returns-in_err-collect_run-clause-placed : goal.collect_call-returns-in_err-collect_run-clause-placed
collect_call-returns-in_err-collect_run-clause-placed g t c =
    value_unplaced c.args.state.now c.collect_run.new.state c.collect_run.new.run.done c.from_residual-in_err-collect_run.result _
    c.from_residual-in_err-collect_run.ensures.1

pub collect_call-collect_value_opt-requires : goal.collect_call-collect_value_opt-requires
collect_call-collect_value_opt-requires g t c =
    let it = c.args.lowerer.now.parts in
    let at = g.P.LowerParts.rctx it in
    let found = found_of c.in_ok-entered.entered in
    let is = sym c.stmts_of.ensures ∙ ap stmts_lent c.in-Some.is in
    let kids = call_kids (g.P.LowerParts.can it) at c.args.call.now c.requires.part c.args.state.now c.enter_splice.new.state found
    c.in_ok-entered.ensures.0 c.in-Some.place c.in-Some.made.now is in
    let moved = run_moved (g.P.LowerParts.can it) (g.P.LowerParts.can c.moved-inner.result.parts) c.in-Some.place
    c.moved-inner.ensures.can c.in-Some.made.now.stmts c.in-Some.made.now.expr kids in
    let less = call_left at c.args.call.now c.args.state.now c.enter_splice.new.state found c.in_ok-entered.ensures.0 c.in-Some.place
    c.in-Some.made.now is in
    let same = ap (λ x. x.place.left) c.moved-inner.ensures.rctx in
    let done = c.in_ok-collect_run.ensures.placed.1 in
    λ κs within. (omega (arith, c.decreases, less, same), (within.0, (within.1, (rw c.moved-inner.ensures.rctx moved.tail, done))))

pub collect_call-returns-in_err-value-clause-steps : goal.collect_call-returns-in_err-value-clause-steps
collect_call-returns-in_err-value-clause-steps g t c =
    let at = g.P.LowerParts.rctx c.args.lowerer.now.parts in
    let inner = g.P.LowerParts.rctx c.moved-inner.result.parts in
    let is = sym c.stmts_of.ensures ∙ ap stmts_lent c.in-Some.is in
    let ran = rw c.as_slice.ensures at c.in_ok-collect_run.ensures.steps in
    value_refused (spliced_call at c.args.at c.args.call.now) c.args.run.now _ c.args.state.now _
    c.from_residual-in_err-value.result c.collect_value_opt.new.state c.from_residual-in_err-value.ensures.1
    (λ d h other. value_in_call_refused at inner c.args.at c.args.call.now c.args.run.now c.args.state.now c.enter_splice.new.state
    (found_of c.in_ok-entered.entered) c.in_ok-entered.ensures.0 c.in-Some.place c.in-Some.made.now is c.moved-inner.ensures.rctx
    c.collect_run.new.run c.collect_run.new.state ran _ c.collect_value_opt.new.run d c.collect_value_opt.new.state h
    c.in_err-value.ensures.steps other)

pub collect_call-returns-in_err-value-clause-placed : goal.collect_call-returns-in_err-value-clause-placed
collect_call-returns-in_err-value-clause-placed g t c =
    value_unplaced c.args.state.now c.collect_value_opt.new.state c.collect_value_opt.new.run.done c.from_residual-in_err-value.result
    _ c.from_residual-in_err-value.ensures.1

pub collect_call-pointed-requires : goal.collect_call-pointed-requires
collect_call-pointed-requires g t c = c.in_ok-value.ensures.placed.1.1

pub collect_call-returns-clause-steps : goal.collect_call-returns-clause-steps
collect_call-returns-clause-steps g t c =
    let at = g.P.LowerParts.rctx c.args.lowerer.now.parts in
    let inner = g.P.LowerParts.rctx c.moved-inner.result.parts in
    let is = sym c.stmts_of.ensures ∙ ap stmts_lent c.in-Some.is in
    let ran = rw c.as_slice.ensures at c.in_ok-collect_run.ensures.steps in
    call_behind at inner c.args.at c.args.call.now c.args.run.now c.args.state.now c.enter_splice.new.state
    (found_of c.in_ok-entered.entered) c.in_ok-entered.ensures.0 c.in-Some.place c.in-Some.made.now is c.moved-inner.ensures.rctx
    c.collect_run.new.run c.collect_run.new.state ran c.collect_value_opt.new.run c.collect_value_opt.new.state c.pointed.new.state
    c.in_ok-value.value c.pointed.result c.in_ok-value.ensures.steps c.pointed.ensures

pub collect_call-returns-clause-placed : goal.collect_call-returns-clause-placed
collect_call-returns-clause-placed g t c =
    let run = c.in_ok-collect_run.ensures.placed in
    let value = c.in_ok-value.ensures.placed in
    let entered = c.in_ok-entered.ensures.1 in
    value_on c.args.state.now c.collect_value_opt.new.state c.pointed.new.state c.collect_value_opt.new.run.done
    (pointed c.args.at c.in_ok-value.value) c.pointed.result
    (grows_on c.args.state.now.stored c.collect_run.new.state.stored c.collect_value_opt.new.state.stored
    (grows_on c.args.state.now.stored c.enter_splice.new.state.stored c.collect_run.new.state.stored entered run.0) value.0)
    value.1.0 c.pointed.ensures

-- a run of statements

pub collect_run-loop-all-init : goal.collect_run-loop-all-init
collect_run-loop-all-init g t c = record {
  so_far = λ d h. run_begins (g.P.LowerParts.rctx c.args.lowerer.now.parts) c.args.run.now c.args.state.now c.args.all.now d h;
  may = c.requires.parts;
  placed = ((omega arith, omega arith, omega arith, omega arith, omega arith, omega arith), c.requires.done);
}

pub collect_run-collect_stmt-requires : goal.collect_run-collect_stmt-requires
collect_run-collect_stmt-requires g t c =
    let l = c.loop-all in
    let may = first_may _ l.all.now c.one-item.result c.one-item.is c.in-len1-up.len_at_least l.invariant.may in
    λ κs within. (omega (arith, c.decreases), (within.0, (within.1, (may, l.invariant.placed.1))))

pub collect_run-returns-in_err-collect_stmt-clause-steps : goal.collect_run-returns-in_err-collect_stmt-clause-steps
collect_run-returns-in_err-collect_stmt-clause-steps g t c =
    let at = g.P.LowerParts.rctx c.args.lowerer.now.parts in
    let l = c.loop-all in
    stmts_refused (run_part at c.args.all.now) c.args.run.now c.collect_stmt.new.run c.args.state.now _ c.from_residual.result
    c.collect_stmt.new.state c.from_residual.ensures.1
    (λ d h other. run_refused at c.args.run.now l.run c.collect_stmt.new.run c.args.state.now l.state c.collect_stmt.new.state
    c.args.all.now l.all.now c.one-item.result d _ c.one-item.is c.in-len1-up.len_at_least (l.invariant.so_far d h)
    c.in_err-collect_stmt.ensures.steps other)

pub collect_run-returns-in_err-collect_stmt-clause-placed : goal.collect_run-returns-in_err-collect_stmt-clause-placed
collect_run-returns-in_err-collect_stmt-clause-placed g t c =
    stmts_unplaced c.args.state.now c.collect_stmt.new.state c.collect_stmt.new.run.done c.from_residual.result _ c.from_residual.ensures.1

pub collect_run-loop-all-preserved : goal.collect_run-loop-all-preserved
collect_run-loop-all-preserved g t c =
    let at = g.P.LowerParts.rctx c.args.lowerer.now.parts in
    let l = c.loop-all in
    let h = c.in_ok-collect_stmt.ensures in record {
      so_far = λ d k. run_goes_on at c.args.run.now l.run c.collect_stmt.new.run c.args.state.now l.state c.collect_stmt.new.state
          c.args.all.now l.all.now c.one-item.result d c.one-item.is c.in-len1-up.len_at_least (l.invariant.so_far d k) h.steps;
      may = rest_may _ l.all.now c.one-item.result c.one-item.is c.in-len1-up.len_at_least l.invariant.may;
      placed = (
        grows_on c.args.state.now.stored l.state.stored c.collect_stmt.new.state.stored l.invariant.placed.0 h.placed.0,
        h.placed.1,
      );
    }

pub collect_run-returns-clause-steps : goal.collect_run-returns-clause-steps
collect_run-returns-clause-steps g t c =
    let l = c.loop-all in
    λ d h. run_ends (g.P.LowerParts.rctx c.args.lowerer.now.parts) c.args.run.now l.run c.args.state.now l.state c.args.all.now l.all.now d
    (none_left l.all.now c.in_default.len_below) (l.invariant.so_far d h)

pub collect_run-returns-clause-placed : goal.collect_run-returns-clause-placed
collect_run-returns-clause-placed g t c = c.loop-all.invariant.placed

-- a statement

pub collect_stmt-returns-in_err-made-in-LetStmt-clause-steps : goal.collect_stmt-returns-in_err-made-in-LetStmt-clause-steps
collect_stmt-returns-in_err-made-in-LetStmt-clause-steps g t c =
    let at = g.P.LowerParts.rctx c.args.lowerer.now.parts in
    let made = rw c.pointer-at.ensures at c.in_err-made-in-LetStmt.ensures in
    stmts_refused (λ d. stmt_level at d c.args.node.now) c.args.run.now c.args.run.now c.args.state.now _ c.from_residual.result
    c.let_stmt.new.state c.from_residual.ensures.1
    (λ d h other. let k = made other in (
      let_refused at c.args.node.now c.in-LetStmt.pat c.in-LetStmt.ty c.in-LetStmt.init c.in-LetStmt.else_ c.in-LetStmt.is
          c.args.run.now c.args.state.now c.let_stmt.new.state _ d k.0,
      k.1,
    ))

pub collect_stmt-returns-in_err-made-in-LetStmt-clause-placed : goal.collect_stmt-returns-in_err-made-in-LetStmt-clause-placed
collect_stmt-returns-in_err-made-in-LetStmt-clause-placed g t c =
    stmts_unplaced c.args.state.now c.let_stmt.new.state c.args.run.now.done c.from_residual.result _ c.from_residual.ensures.1

pub collect_stmt-returns-in_ok-push_kept_statement-in-LetStmt-clause-steps :
    goal.collect_stmt-returns-in_ok-push_kept_statement-in-LetStmt-clause-steps
collect_stmt-returns-in_ok-push_kept_statement-in-LetStmt-clause-steps g t c =
    let at = g.P.LowerParts.rctx c.args.lowerer.now.parts in
    let made = rw c.pointer-at.ensures at c.in_ok-made-in-LetStmt.ensures in
    let_behind at c.args.node.now c.in-LetStmt.pat c.in-LetStmt.ty c.in-LetStmt.init c.in-LetStmt.else_ c.in-LetStmt.is
    c.args.run.now c.args.state.now c.let_stmt.new.state _ c.push_kept_statement.new.statements made.0
    c.in_ok-push_kept_statement-in-LetStmt.ensures.items

pub collect_stmt-returns-in_ok-push_kept_statement-in-LetStmt-clause-placed :
    goal.collect_stmt-returns-in_ok-push_kept_statement-in-LetStmt-clause-placed
collect_stmt-returns-in_ok-push_kept_statement-in-LetStmt-clause-placed g t c =
    let made = c.in_ok-made-in-LetStmt.ensures in (
      made.1,
      pushed_one c.let_stmt.new.state.stored c.args.run.now.done _ _
          (still_has c.args.state.now.stored c.let_stmt.new.state.stored c.args.run.now.done made.1 c.requires.done) made.2
          c.in_ok-push_kept_statement-in-LetStmt.ensures.past,
    )

pub collect_stmt-collect_value_opt-requires : goal.collect_stmt-collect_value_opt-requires
collect_stmt-collect_value_opt-requires g t c =
    let it = c.args.lowerer.now.parts in
    let may = subst (KidsStmt (g.P.LowerParts.can it) (g.P.LowerParts.rctx it).place) (ends_in c.args.node.now _ _ c.in-ExprStmt.is)
    c.requires.parts in
    λ κs within. (omega (arith, c.decreases), (within.0, (within.1, (may, c.requires.done))))

pub collect_stmt-returns-in_err-value-in-ExprStmt-clause-steps : goal.collect_stmt-returns-in_err-value-in-ExprStmt-clause-steps
collect_stmt-returns-in_err-value-in-ExprStmt-clause-steps g t c =
    let at = g.P.LowerParts.rctx c.args.lowerer.now.parts in
    stmts_refused (λ d. stmt_level at d c.args.node.now) c.args.run.now c.collect_value_opt.new.run c.args.state.now _
    c.from_residual-in_err-value-in-ExprStmt.result c.collect_value_opt.new.state c.from_residual-in_err-value-in-ExprStmt.ensures.1
    (λ d h other. let k = c.in_err-value-in-ExprStmt.ensures.steps d h other in (
      ended_refused at c.args.node.now c.in-ExprStmt.expr c.in-ExprStmt.semi c.args.run.now.done _ c.args.state.now
          c.collect_value_opt.new.state d c.in-ExprStmt.is k.0,
      k.1,
    ))

pub collect_stmt-returns-in_err-value-in-ExprStmt-clause-placed : goal.collect_stmt-returns-in_err-value-in-ExprStmt-clause-placed
collect_stmt-returns-in_err-value-in-ExprStmt-clause-placed g t c =
    stmts_unplaced c.args.state.now c.collect_value_opt.new.state c.collect_value_opt.new.run.done
    c.from_residual-in_err-value-in-ExprStmt.result _ c.from_residual-in_err-value-in-ExprStmt.ensures.1

pub collect_stmt-returns-in_ok-push_kept_statement-in-ExprStmt-clause-steps :
    goal.collect_stmt-returns-in_ok-push_kept_statement-in-ExprStmt-clause-steps
collect_stmt-returns-in_ok-push_kept_statement-in-ExprStmt-clause-steps g t c =
    let at = g.P.LowerParts.rctx c.args.lowerer.now.parts in
    let run = c.collect_value_opt.new.run in
    λ d h. let v = c.in_ok-value-in-ExprStmt.ensures.steps d h in (
      ended_behind at c.args.node.now c.in-ExprStmt.expr c.in-ExprStmt.semi c.args.run.now.done run.done
          c.push_kept_statement-in-ExprStmt.new.statements c.in_ok-value-in-ExprStmt.value c.args.state.now c.collect_value_opt.new.state d
          c.in-ExprStmt.is v.0 (c.in_ok-push_kept_statement-in-ExprStmt.ensures.items ∙ ap (push_some run.done) c.expr_stmt.ensures),
      subst (Counts run.counts.entries)
          (sym (ap (λ r. r.defined) (stmt_expr at c.args.node.now c.in-ExprStmt.expr c.in-ExprStmt.semi d c.in-ExprStmt.is))) v.1,
    )

pub collect_stmt-returns-in_ok-push_kept_statement-in-ExprStmt-clause-placed :
    goal.collect_stmt-returns-in_ok-push_kept_statement-in-ExprStmt-clause-placed
collect_stmt-returns-in_ok-push_kept_statement-in-ExprStmt-clause-placed g t c =
    let value = c.in_ok-value-in-ExprStmt.ensures.placed in
    let pushed = c.in_ok-push_kept_statement-in-ExprStmt.ensures in (
      value.0,
      pushed_has c.collect_value_opt.new.state.stored c.collect_value_opt.new.run.done c.push_kept_statement-in-ExprStmt.new.statements
          c.in_ok-value-in-ExprStmt.value c.in-ExprStmt.semi value.1.0 value.1.1 (rw c.expr_stmt.ensures at pushed.past),
    )

pub collect_stmt-returns-in_err-is_enabled-in-MacroRules-clause-steps :
    goal.collect_stmt-returns-in_err-is_enabled-in-MacroRules-clause-steps
collect_stmt-returns-in_err-is_enabled-in-MacroRules-clause-steps g t c =
    let at = g.P.LowerParts.rctx c.args.lowerer.now.parts in
    let emitted = rw c.pointer-at.ensures at c.in_err-is_enabled-in-MacroRules.ensures in
    stmts_refused (λ d. stmt_level at d c.args.node.now) c.args.run.now c.args.run.now c.args.state.now _
    c.from_residual-in_err-is_enabled-in-MacroRules.result c.is_enabled.new.state c.from_residual-in_err-is_enabled-in-MacroRules.ensures.1
    (λ d h other. let k = emitted other in (
      rules_unknown at c.args.node.now c.in-MacroRules.name c.in-MacroRules.is c.args.run.now c.args.state.now c.is_enabled.new.state _
          d k.0,
      k.1,
    ))

pub collect_stmt-returns-in_err-is_enabled-in-MacroRules-clause-placed :
    goal.collect_stmt-returns-in_err-is_enabled-in-MacroRules-clause-placed
collect_stmt-returns-in_err-is_enabled-in-MacroRules-clause-placed g t c =
    stmts_unplaced c.args.state.now c.is_enabled.new.state c.args.run.now.done c.from_residual-in_err-is_enabled-in-MacroRules.result _
    c.from_residual-in_err-is_enabled-in-MacroRules.ensures.1

pub collect_stmt-rules_stmt-requires : goal.collect_stmt-rules_stmt-requires
collect_stmt-rules_stmt-requires g t c =
    still_has c.args.state.now.stored c.is_enabled.new.state.stored c.args.run.now.done c.in_ok-is_enabled-in-MacroRules.ensures.1
    c.requires.done

pub collect_stmt-returns-in_err-rules_stmt-in-MacroRules-clause-steps :
    goal.collect_stmt-returns-in_err-rules_stmt-in-MacroRules-clause-steps
collect_stmt-returns-in_err-rules_stmt-in-MacroRules-clause-steps g t c =
    let at = g.P.LowerParts.rctx c.args.lowerer.now.parts in
    let node = pointer_at at c.args.node.now.id c.args.node.now.range in
    let emitted = rw (c.pointer-at.ensures, c.if-branch.true) at c.in_ok-is_enabled-in-MacroRules.ensures.0 in
    let on = is_on node (at.answers.cfg (site_of node)) c.args.state.now c.is_enabled.new.state emitted in
    stmts_refused (λ d. stmt_level at d c.args.node.now) c.args.run.now c.rules_stmt.new.run c.args.state.now _
    c.from_residual-in_err-rules_stmt-in-MacroRules.result c.rules_stmt.new.state c.from_residual-in_err-rules_stmt-in-MacroRules.ensures.1
    (rules_on at c.args.node.now c.in-MacroRules.name c.in-MacroRules.is c.args.run.now c.rules_stmt.new.run c.args.state.now
    c.is_enabled.new.state c.rules_stmt.new.state (Err _) on.0 on.1 c.in_err-rules_stmt-in-MacroRules.ensures.steps)

pub collect_stmt-returns-in_err-rules_stmt-in-MacroRules-clause-placed :
    goal.collect_stmt-returns-in_err-rules_stmt-in-MacroRules-clause-placed
collect_stmt-returns-in_err-rules_stmt-in-MacroRules-clause-placed g t c =
    stmts_unplaced c.args.state.now c.rules_stmt.new.state c.rules_stmt.new.run.done
    c.from_residual-in_err-rules_stmt-in-MacroRules.result _
    c.from_residual-in_err-rules_stmt-in-MacroRules.ensures.1

pub collect_stmt-returns-in_err-is_enabled-in-MacroDef-clause-steps : goal.collect_stmt-returns-in_err-is_enabled-in-MacroDef-clause-steps
collect_stmt-returns-in_err-is_enabled-in-MacroDef-clause-steps g t c =
    let at = g.P.LowerParts.rctx c.args.lowerer.now.parts in
    let emitted = rw c.pointer-at.ensures at c.in_err-is_enabled-in-MacroDef.ensures in
    stmts_refused (λ d. stmt_level at d c.args.node.now) c.args.run.now c.args.run.now c.args.state.now _
    c.from_residual-in_err-is_enabled-in-MacroDef.result c.is_enabled-in-MacroDef.new.state
    c.from_residual-in_err-is_enabled-in-MacroDef.ensures.1
    (λ d h other. let k = emitted other in (
      def_unknown at c.args.node.now c.in-MacroDef.name c.in-MacroDef.is c.args.run.now c.args.state.now
          c.is_enabled-in-MacroDef.new.state _ d k.0,
      k.1,
    ))

pub collect_stmt-returns-in_err-is_enabled-in-MacroDef-clause-placed : goal.collect_stmt-returns-in_err-is_enabled-in-MacroDef-clause-placed
collect_stmt-returns-in_err-is_enabled-in-MacroDef-clause-placed g t c =
    stmts_unplaced c.args.state.now c.is_enabled-in-MacroDef.new.state c.args.run.now.done
    c.from_residual-in_err-is_enabled-in-MacroDef.result _
    c.from_residual-in_err-is_enabled-in-MacroDef.ensures.1

pub collect_stmt-def_stmt-requires : goal.collect_stmt-def_stmt-requires
collect_stmt-def_stmt-requires g t c =
    still_has c.args.state.now.stored c.is_enabled-in-MacroDef.new.state.stored c.args.run.now.done
    c.in_ok-is_enabled-in-MacroDef.ensures.1 c.requires.done

pub collect_stmt-returns-in_err-def_stmt-in-MacroDef-clause-steps : goal.collect_stmt-returns-in_err-def_stmt-in-MacroDef-clause-steps
collect_stmt-returns-in_err-def_stmt-in-MacroDef-clause-steps g t c =
    let at = g.P.LowerParts.rctx c.args.lowerer.now.parts in
    let node = pointer_at at c.args.node.now.id c.args.node.now.range in
    let emitted = rw (c.pointer-at.ensures, c.if-branch-2.true) at c.in_ok-is_enabled-in-MacroDef.ensures.0 in
    let on = is_on node (at.answers.cfg (site_of node)) c.args.state.now c.is_enabled-in-MacroDef.new.state emitted in
    stmts_refused (λ d. stmt_level at d c.args.node.now) c.args.run.now (record c.args.run.now { done = c.def_stmt.new.done })
    c.args.state.now _
    c.from_residual-in_err-def_stmt-in-MacroDef.result c.def_stmt.new.state c.from_residual-in_err-def_stmt-in-MacroDef.ensures.1
    (def_on at c.args.node.now c.in-MacroDef.name c.in-MacroDef.is c.args.run.now c.def_stmt.new.done c.args.state.now
    c.is_enabled-in-MacroDef.new.state c.def_stmt.new.state (Err _) on.0 on.1 c.in_err-def_stmt-in-MacroDef.ensures.steps)

pub collect_stmt-returns-in_err-def_stmt-in-MacroDef-clause-placed : goal.collect_stmt-returns-in_err-def_stmt-in-MacroDef-clause-placed
collect_stmt-returns-in_err-def_stmt-in-MacroDef-clause-placed g t c =
    stmts_unplaced c.args.state.now c.def_stmt.new.state c.def_stmt.new.done c.from_residual-in_err-def_stmt-in-MacroDef.result _
    c.from_residual-in_err-def_stmt-in-MacroDef.ensures.1

pub collect_stmt-returns-in_ok-rules_stmt-in-MacroRules-clause-steps : goal.collect_stmt-returns-in_ok-rules_stmt-in-MacroRules-clause-steps
collect_stmt-returns-in_ok-rules_stmt-in-MacroRules-clause-steps g t c =
    let at = g.P.LowerParts.rctx c.args.lowerer.now.parts in
    let node = pointer_at at c.args.node.now.id c.args.node.now.range in
    let emitted = rw (c.pointer-at.ensures, c.if-branch.true) at c.in_ok-is_enabled-in-MacroRules.ensures.0 in
    let on = is_on node (at.answers.cfg (site_of node)) c.args.state.now c.is_enabled.new.state emitted in
    rules_on at c.args.node.now c.in-MacroRules.name c.in-MacroRules.is c.args.run.now c.rules_stmt.new.run c.args.state.now
    c.is_enabled.new.state
    c.rules_stmt.new.state (Ok tt) on.0 on.1 c.in_ok-rules_stmt-in-MacroRules.ensures.steps

pub collect_stmt-returns-in_ok-rules_stmt-in-MacroRules-clause-placed :
    goal.collect_stmt-returns-in_ok-rules_stmt-in-MacroRules-clause-placed
collect_stmt-returns-in_ok-rules_stmt-in-MacroRules-clause-placed g t c =
    let at = g.P.LowerParts.rctx c.args.lowerer.now.parts in
    let node = pointer_at at c.args.node.now.id c.args.node.now.range in
    let emitted = rw (c.pointer-at.ensures, c.if-branch.true) at c.in_ok-is_enabled-in-MacroRules.ensures.0 in
    let on = is_on node (at.answers.cfg (site_of node)) c.args.state.now c.is_enabled.new.state emitted in
    stmts_same c.args.state.now c.is_enabled.new.state c.rules_stmt.new.state c.rules_stmt.new.run.done (Ok tt) on.1
    c.in_ok-rules_stmt-in-MacroRules.ensures.placed

pub collect_stmt-returns-else-branch-clause-steps : goal.collect_stmt-returns-else-branch-clause-steps
collect_stmt-returns-else-branch-clause-steps g t c =
    let at = g.P.LowerParts.rctx c.args.lowerer.now.parts in
    rules_off at c.args.node.now c.in-MacroRules.name c.in-MacroRules.is c.args.run.now c.args.state.now c.is_enabled.new.state
    (rw (c.pointer-at.ensures, c.if-branch.false) at c.in_ok-is_enabled-in-MacroRules.ensures.0)

pub collect_stmt-returns-else-branch-clause-placed : goal.collect_stmt-returns-else-branch-clause-placed
collect_stmt-returns-else-branch-clause-placed g t c =
    stmts_stay c.args.state.now c.is_enabled.new.state c.args.run.now.done c.in_ok-is_enabled-in-MacroRules.ensures.1 c.requires.done

pub collect_stmt-returns-in_ok-def_stmt-in-MacroDef-clause-steps : goal.collect_stmt-returns-in_ok-def_stmt-in-MacroDef-clause-steps
collect_stmt-returns-in_ok-def_stmt-in-MacroDef-clause-steps g t c =
    let at = g.P.LowerParts.rctx c.args.lowerer.now.parts in
    let node = pointer_at at c.args.node.now.id c.args.node.now.range in
    let emitted = rw (c.pointer-at.ensures, c.if-branch-2.true) at c.in_ok-is_enabled-in-MacroDef.ensures.0 in
    let on = is_on node (at.answers.cfg (site_of node)) c.args.state.now c.is_enabled-in-MacroDef.new.state emitted in
    def_on at c.args.node.now c.in-MacroDef.name c.in-MacroDef.is c.args.run.now c.def_stmt.new.done c.args.state.now
    c.is_enabled-in-MacroDef.new.state
    c.def_stmt.new.state (Ok tt) on.0 on.1 c.in_ok-def_stmt-in-MacroDef.ensures.steps

pub collect_stmt-returns-in_ok-def_stmt-in-MacroDef-clause-placed : goal.collect_stmt-returns-in_ok-def_stmt-in-MacroDef-clause-placed
collect_stmt-returns-in_ok-def_stmt-in-MacroDef-clause-placed g t c =
    let at = g.P.LowerParts.rctx c.args.lowerer.now.parts in
    let node = pointer_at at c.args.node.now.id c.args.node.now.range in
    let emitted = rw (c.pointer-at.ensures, c.if-branch-2.true) at c.in_ok-is_enabled-in-MacroDef.ensures.0 in
    let on = is_on node (at.answers.cfg (site_of node)) c.args.state.now c.is_enabled-in-MacroDef.new.state emitted in
    stmts_same c.args.state.now c.is_enabled-in-MacroDef.new.state c.def_stmt.new.state c.def_stmt.new.done (Ok tt) on.1
    c.in_ok-def_stmt-in-MacroDef.ensures.placed

pub collect_stmt-returns-else-branch-2-clause-steps : goal.collect_stmt-returns-else-branch-2-clause-steps
collect_stmt-returns-else-branch-2-clause-steps g t c =
    let at = g.P.LowerParts.rctx c.args.lowerer.now.parts in
    def_off at c.args.node.now c.in-MacroDef.name c.in-MacroDef.is c.args.run.now c.args.state.now c.is_enabled-in-MacroDef.new.state
    (rw (c.pointer-at.ensures, c.if-branch-2.false) at c.in_ok-is_enabled-in-MacroDef.ensures.0)

pub collect_stmt-returns-else-branch-2-clause-placed : goal.collect_stmt-returns-else-branch-2-clause-placed
collect_stmt-returns-else-branch-2-clause-placed g t c =
    stmts_stay c.args.state.now c.is_enabled-in-MacroDef.new.state c.args.run.now.done c.in_ok-is_enabled-in-MacroDef.ensures.1
    c.requires.done

pub collect_stmt-returns-in_ok-push_statement-in-Item-clause-steps : goal.collect_stmt-returns-in_ok-push_statement-in-Item-clause-steps
collect_stmt-returns-in_ok-push_statement-in-Item-clause-steps g t c =
    item_behind (g.P.LowerParts.rctx c.args.lowerer.now.parts) c.args.node.now c.args.run.now c.args.state.now _ c.in-Item.is
    c.in_ok-push_statement-in-Item.ensures.statements

pub collect_stmt-returns-in_ok-push_statement-in-Item-clause-placed : goal.collect_stmt-returns-in_ok-push_statement-in-Item-clause-placed
collect_stmt-returns-in_ok-push_statement-in-Item-clause-placed g t c = (
  (omega arith, omega arith, omega arith, omega arith, omega arith, omega arith),
  pushed_one c.args.state.now.stored c.args.run.now.done c.push_statement.new.statements (Some statement.Item) c.requires.done
      (omega arith, omega arith, omega arith, omega arith) c.in_ok-push_statement-in-Item.ensures.past,
)

-- an expression in statement or tail place

pub collect_value-maybe_collect_expr-requires : goal.collect_value-maybe_collect_expr-requires
collect_value-maybe_collect_expr-requires g t c =
    let it = c.args.lowerer.now.parts in
    value_may (g.P.LowerParts.can it) (g.P.LowerParts.rctx it).place (out-ExprKind c.args.node.now.kind) c.args.node.now
    (sym c.call_of.ensures ∙ ap option_copied c.in_default.is) c.requires.part

pub collect_value-returns-in_default-clause-steps : goal.collect_value-returns-in_default-clause-steps
collect_value-returns-in_default-clause-steps g t c =
    whole_behind (g.P.LowerParts.rctx c.args.lowerer.now.parts) c.args.node.now c.args.run.now c.args.state.now
    c.maybe_collect_expr.result c.maybe_collect_expr.new.state (sym c.call_of.ensures ∙ ap option_copied c.in_default.is)
    c.maybe_collect_expr.ensures

pub collect_value-returns-in_default-clause-placed : goal.collect_value-returns-in_default-clause-placed
collect_value-returns-in_default-clause-placed g t c =
    let at = g.P.LowerParts.rctx c.args.lowerer.now.parts in
    value_here c.args.state.now c.maybe_collect_expr.new.state c.args.run.now.done (lower_kept (resolved_expr at c.args.node.now))
    c.maybe_collect_expr.result c.requires.done c.maybe_collect_expr.ensures

pub collect_value-returns-in_err-is_enabled-clause-steps : goal.collect_value-returns-in_err-is_enabled-clause-steps
collect_value-returns-in_err-is_enabled-clause-steps g t c =
    let at = g.P.LowerParts.rctx c.args.lowerer.now.parts in
    let s = pointer_at at c.args.node.now.id c.args.node.now.range in
    let r = at.answers.cfg (site_of s) in
    let called = sym c.call_of.ensures ∙ ap option_copied c.in-Some.is in
    let emitted = rw c.pointer-at.ensures at c.in_err-is_enabled.ensures in
    value_refused (λ d. resolved_value at d c.args.node.now) c.args.run.now c.args.run.now c.args.state.now _ c.from_residual.result
    c.is_enabled.new.state c.from_residual.ensures.1
    (λ d h other. let k = emitted other in (
      ap (λ read. lower_value c.args.run.now.done (read d) c.args.state.now) (value_called at c.args.node.now c.in-Some.call.now called)
          ∙ off_refused s r (call_value at s c.in-Some.call.now) d c.args.run.now.done c.args.state.now c.is_enabled.new.state _ k.0,
      k.1,
    ))

pub collect_value-returns-in_err-is_enabled-clause-placed : goal.collect_value-returns-in_err-is_enabled-clause-placed
collect_value-returns-in_err-is_enabled-clause-placed g t c =
    value_unplaced c.args.state.now c.is_enabled.new.state c.args.run.now.done c.from_residual.result _ c.from_residual.ensures.1

pub collect_value-returns-then-not-branch-clause-steps : goal.collect_value-returns-then-not-branch-clause-steps
collect_value-returns-then-not-branch-clause-steps g t c =
    let at = g.P.LowerParts.rctx c.args.lowerer.now.parts in
    let s = pointer_at at c.args.node.now.id c.args.node.now.range in
    let r = at.answers.cfg (site_of s) in
    let called = sym c.call_of.ensures ∙ ap option_copied c.in-Some.is in
    subst (λ read. ValueBehind read c.args.run.now c.args.state.now (Ok None) c.args.run.now c.is_enabled.new.state)
    (sym (value_called at c.args.node.now c.in-Some.call.now called))
    (off_behind s r (call_value at s c.in-Some.call.now) c.args.run.now c.args.state.now c.is_enabled.new.state
    (rw (c.pointer-at.ensures, c.if-not-branch.true) at c.in_ok-is_enabled.ensures.0))

pub collect_value-returns-then-not-branch-clause-placed : goal.collect_value-returns-then-not-branch-clause-placed
collect_value-returns-then-not-branch-clause-placed g t c =
    nothing_exists c.args.state.now c.is_enabled.new.state c.args.run.now.done c.in_ok-is_enabled.ensures.1 c.requires.done

pub collect_value-collect_call-requires : goal.collect_value-collect_call-requires
collect_value-collect_call-requires g t c =
    let it = c.args.lowerer.now.parts in
    let at = g.P.LowerParts.rctx c.args.lowerer.now.parts in
    let s = pointer_at at c.args.node.now.id c.args.node.now.range in
    let r = at.answers.cfg (site_of s) in
    let called = sym c.call_of.ensures ∙ ap option_copied c.in-Some.is in
    let emitted = rw (c.pointer-at.ensures, c.if-not-branch.false) at c.in_ok-is_enabled.ensures.0 in
    let on = is_on s r c.args.state.now c.is_enabled.new.state emitted in
    let node = out-ExprKind c.args.node.now.kind in
    let may = splice_may (g.P.LowerParts.can it) at.place node c.args.node.now c.in-Some.call.now called c.requires.part in
    let is = called_kind node c.in-Some.call.now called ∙ ap (λ o. ExprKind-F.MacroExpr o) c.in-Some-call.is in
    let enters : MayEnter (g.P.LowerParts.can it) at c.in-Some-call.call =
    λ n f ms es left asked. g.met.P.LowerParts.splice_kids it c.args.node.now c.in-Some-call.call n f ms es may is on.0 left asked in
    let done = still_has c.args.state.now.stored c.is_enabled.new.state.stored c.args.run.now.done c.in_ok-is_enabled.ensures.1
    c.requires.done in
    λ κs within. (omega (arith, c.decreases), (within.0, (within.1, (enters, done))))

pub collect_value-returns-in-None-clause-steps : goal.collect_value-returns-in-None-clause-steps
collect_value-returns-in-None-clause-steps g t c =
    let at = g.P.LowerParts.rctx c.args.lowerer.now.parts in
    let s = pointer_at at c.args.node.now.id c.args.node.now.range in
    let r = at.answers.cfg (site_of s) in
    let called = sym c.call_of.ensures ∙ ap option_copied c.in-Some.is in
    let emitted = rw (c.pointer-at.ensures, c.if-not-branch.false) at c.in_ok-is_enabled.ensures.0 in
    let on = is_on s r c.args.state.now c.is_enabled.new.state emitted in
    let run = c.args.run.now in
    let here = subst (λ b. ValueBehind nothing run c.args.state.now (Ok None) run b) on.1 (nothing_behind run c.args.state.now) in
    let call = subst (λ o. ValueBehind (call_value at s o) run c.args.state.now (Ok None) run c.is_enabled.new.state) (sym c.in-None.is)
    here in
    subst (λ read. ValueBehind read run c.args.state.now (Ok None) run c.is_enabled.new.state)
    (sym (value_called at c.args.node.now c.in-Some.call.now called))
    (on_behind s r (call_value at s c.in-Some.call.now) run run c.args.state.now c.is_enabled.new.state (Ok None) on.0 call)

pub collect_value-returns-in-None-clause-placed : goal.collect_value-returns-in-None-clause-placed
collect_value-returns-in-None-clause-placed g t c =
    nothing_exists c.args.state.now c.is_enabled.new.state c.args.run.now.done c.in_ok-is_enabled.ensures.1 c.requires.done

pub collect_value-returns-in-Some-call-clause-steps : goal.collect_value-returns-in-Some-call-clause-steps
collect_value-returns-in-Some-call-clause-steps g t c =
    let at = g.P.LowerParts.rctx c.args.lowerer.now.parts in
    let s = pointer_at at c.args.node.now.id c.args.node.now.range in
    let r = at.answers.cfg (site_of s) in
    let called = sym c.call_of.ensures ∙ ap option_copied c.in-Some.is in
    let emitted = rw (c.pointer-at.ensures, c.if-not-branch.false) at c.in_ok-is_enabled.ensures.0 in
    let on = is_on s r c.args.state.now c.is_enabled.new.state emitted in
    let run = c.args.run.now in
    let now = c.collect_call.new.run in
    let end = c.collect_call.new.state in
    let o = c.collect_call.result in
    let here = subst (λ b. ValueBehind (spliced_call at s c.in-Some-call.call) run b o now end) (sym on.1)
    (rw c.pointer-at.ensures at c.collect_call.ensures.steps) in
    let call = subst (λ x. ValueBehind (call_value at s x) run c.args.state.now o now end) (sym c.in-Some-call.is) here in
    subst (λ read. ValueBehind read run c.args.state.now o now end) (sym (value_called at c.args.node.now c.in-Some.call.now called))
    (on_behind s r (call_value at s c.in-Some.call.now) run now c.args.state.now end o on.0 call)

pub collect_value-returns-in-Some-call-clause-placed : goal.collect_value-returns-in-Some-call-clause-placed
collect_value-returns-in-Some-call-clause-placed g t c =
    let at = g.P.LowerParts.rctx c.args.lowerer.now.parts in
    let s = pointer_at at c.args.node.now.id c.args.node.now.range in
    let r = at.answers.cfg (site_of s) in
    let emitted = rw (c.pointer-at.ensures, c.if-not-branch.false) at c.in_ok-is_enabled.ensures.0 in
    let on = is_on s r c.args.state.now c.is_enabled.new.state emitted in
    value_same c.args.state.now c.is_enabled.new.state c.collect_call.new.state c.collect_call.new.run.done c.collect_call.result on.1
    c.collect_call.ensures.placed

pub collect_value_opt-collect_value-requires : goal.collect_value_opt-collect_value-requires
collect_value_opt-collect_value-requires g t c =
    let part = c.requires.part in
    λ κs within. (omega (arith, c.decreases), (within.0, (within.1, (rw c.get.ensures (rw c.in-Some.is at part), c.requires.done))))

pub collect_value_opt-returns-in-None-clause-steps : goal.collect_value_opt-returns-in-None-clause-steps
collect_value_opt-returns-in-None-clause-steps g t c =
    let at = g.P.LowerParts.rctx c.args.lowerer.now.parts in
    let run = c.args.run.now in
    subst (λ o. ValueBehind (value_part at o) run c.args.state.now (Ok None) run c.args.state.now) (sym c.in-None.is)
    (nothing_behind run c.args.state.now)

pub collect_value_opt-returns-in-None-clause-placed : goal.collect_value_opt-returns-in-None-clause-placed
collect_value_opt-returns-in-None-clause-placed g t c =
    nothing_exists c.args.state.now c.args.state.now c.args.run.now.done
    (omega arith, omega arith, omega arith, omega arith, omega arith, omega arith) c.requires.done

pub collect_value_opt-returns-in-Some-clause-steps : goal.collect_value_opt-returns-in-Some-clause-steps
collect_value_opt-returns-in-Some-clause-steps g t c =
    let at = g.P.LowerParts.rctx c.args.lowerer.now.parts in
    subst (λ o. ValueBehind (value_part at o) c.args.run.now c.args.state.now c.collect_value.result c.collect_value.new.run
    c.collect_value.new.state) (sym c.in-Some.is) (rw c.get.ensures at c.collect_value.ensures.steps)

pub collect_value_opt-returns-in-Some-clause-placed : goal.collect_value_opt-returns-in-Some-clause-placed
collect_value_opt-returns-in-Some-clause-placed g t c = c.collect_value.ensures.placed

pub collect_run-bounds-all-0 : goal.collect_run-bounds-all-0
collect_run-bounds-all-0 g t c = grind (arith, common_steps)

pub collect_run-slice_bounds-rest-start : goal.collect_run-slice_bounds-rest-start
collect_run-slice_bounds-rest-start g t c = grind (arith, common_steps)

pub collect_run-loop-all-smaller : goal.collect_run-loop-all-smaller
collect_run-loop-all-smaller g t c = grind (arith, common_steps)

pub collect_run-slice_bounds-rest-count : goal.collect_run-slice_bounds-rest-count
collect_run-slice_bounds-rest-count g t c = grind (arith, common_steps)
