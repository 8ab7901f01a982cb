use Rattle.std.proofs.lemmas.Grind.{common_steps}
use Rattle.std.proofs.Common.{◌∙◌, ap, sym, Ok, arith}
use Rattle.hir_lower_builder.specs.Methods.{HasContents, contents_at}
use Rattle.hir_lower_expr.specs.Runs.{definitions}
use Rattle.hir_lower_expr.specs.declared.runs.Run.{Run}
use Rattle.hir_lower_expr.proofs.ContentLemmas.{contents_closed, contents_placed, contents_refused, last_refused}
use Rattle.hir_lower_expr.proofs.RunLemmas.{refused}
use Rattle.hir_lower_expr.proofs.blocks.flat_contents.Goals as goal

pub collect_run-requires-clause-parts : goal.collect_run-requires-clause-parts
collect_run-requires-clause-parts g c = rw c.as_slice.ensures c.requires.stmts

pub returns-in_err-collect_run : goal.returns-in_err-collect_run
returns-in_err-collect_run g c =
    let at = g.P.LowerParts.rctx c.args.lowerer.now.parts in
    let run = rw c.as_slice.ensures at c.in_err-collect_run.ensures.steps in
    let start : Run = record { done = c.new.result; counts = c.new-2.result } in
    refused HasContents (contents_at at c.args.node.now) c.args.state.now _ c.from_residual.result c.collect_run.new.state
    c.from_residual.ensures.1
    (contents_refused at c.args.node.now start c.new.ensures c.new-2.ensures.empty c.args.state.now _ c.collect_run.new.run
    c.collect_run.new.state run)

pub collect_value_opt-requires-clause-part : goal.collect_value_opt-requires-clause-part
collect_value_opt-requires-clause-part g c = c.requires.tail

pub collect_value_opt-requires-clause-done : goal.collect_value_opt-requires-clause-done
collect_value_opt-requires-clause-done g c = c.in_ok-collect_run.ensures.placed.1

pub returns-in_err-tail : goal.returns-in_err-tail
returns-in_err-tail g c =
    let at = g.P.LowerParts.rctx c.args.lowerer.now.parts in
    let ran = rw c.as_slice.ensures at c.in_ok-collect_run.ensures.steps in
    let start : Run = record { done = c.new.result; counts = c.new-2.result } in
    refused HasContents (contents_at at c.args.node.now) c.args.state.now _ c.from_residual-in_err-tail.result
    c.collect_value_opt.new.state c.from_residual-in_err-tail.ensures.1
    (last_refused at c.args.node.now start c.new.ensures c.new-2.ensures.empty c.args.state.now c.collect_run.new.run
    c.collect_run.new.state ran _ c.collect_value_opt.new.run c.collect_value_opt.new.state c.in_err-tail.ensures.steps)

pub returns : goal.returns
returns g c =
    let at = g.P.LowerParts.rctx c.args.lowerer.now.parts in
    let ran = rw c.as_slice.ensures at c.in_ok-collect_run.ensures.steps in
    let start : Run = record { done = c.new.result; counts = c.new-2.result } in
    let run = c.collect_value_opt.new.run in
    let tail = c.in_ok-tail.tail in
    let closes = rw c.as_slice-2.ensures at c.close_definitions.ensures in
    let value = c.in_ok-tail.ensures.placed in
    let placed = contents_placed c.args.state.now c.collect_run.new.state c.collect_value_opt.new.state c.close_definitions.new.state
    (definitions run.done) run.done tail closes c.in_ok-collect_run.ensures.placed.0 value.0 value.1 in (
      contents_closed at c.args.node.now start c.new.ensures c.new-2.ensures.empty c.args.state.now c.collect_run.new.run
          c.collect_run.new.state ran run c.collect_value_opt.new.state tail c.in_ok-tail.ensures.steps
          ∙ ap (λ b. (Ok (run.done, tail), b)) (sym closes),
      placed.0,
      placed.1,
    )

pub collect_run-requires-clause-done : goal.collect_run-requires-clause-done
collect_run-requires-clause-done g c = grind (arith, common_steps)
