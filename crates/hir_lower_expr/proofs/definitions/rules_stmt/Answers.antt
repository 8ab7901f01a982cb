use Rattle.std.proofs.Common.{◌≡◌, ap, subst, sym, None, Ok, Err}
use Rattle.hir_store.specs.declared.name.Name.TheVariants as name
use Rattle.hir_env.specs.Answering.{rules_named}
use Rattle.hir_lower_builder.specs.Lowering.{SomeEnd}
use Rattle.hir_lower_expr.specs.Runs.{StmtsBehind, lower_run}
use Rattle.hir_lower_expr.proofs.RunLemmas.{stmts_refused}
use Rattle.hir_lower_expr.proofs.StatementLemmas.{define_alone, rules_defined, rules_undefined, stmts_unplaced}
use Rattle.hir_lower_expr.proofs.definitions.rules_stmt.Goals as goal

pub returns-in_default-clause-steps : goal.returns-in_default-clause-steps
returns-in_default-clause-steps g c =
    let at = g.P.LowerParts.rctx c.args.lowerer.now.parts in
    let run = c.args.run.now in
    subst (λ n. StmtsBehind (rules_named at.answers at.place n) run c.args.state.now c.define.result
    (record run { done = c.define.new.done }) c.define.new.state) (sym c.in_default.is)
    (define_alone 0 None run c.define.new.done c.args.state.now c.define.new.state c.define.result c.define.ensures.steps)

pub returns-in_err-define-clause-steps : goal.returns-in_err-define-clause-steps
returns-in_err-define-clause-steps g c =
    let at = g.P.LowerParts.rctx c.args.lowerer.now.parts in
    let run = c.args.run.now in
    let e = c.in_err-define.field-0.0 in
    stmts_refused (rules_named at.answers at.place c.args.name.now) run (record run { done = c.define-2.new.done }) c.args.state.now e
    c.from_residual-in_err-define.result c.define-2.new.state c.from_residual-in_err-define.ensures.1
    (λ d h other.
    subst (λ n. (lower_run run.done (rules_named at.answers at.place n d).stmts c.args.state.now ≡ (Err e, c.define-2.new.state))
    × SomeEnd c.define-2.new.state) (sym c.in-Some.is)
    (rules_undefined at c.in-Some.name (name.Text c.in_ok-clone.field-0) (ap name.Text c.in_ok-clone.ensures.cases) run
    c.defined_before-before.result c.defined_before-before.ensures c.legacy_macro-def.result c.legacy_macro-def.ensures c.args.state.now
    c.define-2.new.state e c.define-2.new.done d c.in_err-define.ensures.steps h other))

pub returns-in_err-define-clause-placed : goal.returns-in_err-define-clause-placed
returns-in_err-define-clause-placed g c =
    stmts_unplaced c.args.state.now c.define-2.new.state c.define-2.new.done c.from_residual-in_err-define.result _
    c.from_residual-in_err-define.ensures.1

pub returns-clause-steps : goal.returns-clause-steps
returns-clause-steps g c =
    let at = g.P.LowerParts.rctx c.args.lowerer.now.parts in
    let run = c.args.run.now in
    let now = record run { done = c.define-2.new.done; counts = c.count_up.new.counts } in
    subst (λ n. StmtsBehind (rules_named at.answers at.place n) run c.args.state.now (Ok tt) now c.define-2.new.state) (sym c.in-Some.is)
    (rules_defined at c.in-Some.name (name.Text c.in_ok-clone.field-0) (ap name.Text c.in_ok-clone.ensures.cases) run
    c.defined_before-before.result c.defined_before-before.ensures c.legacy_macro-def.result c.legacy_macro-def.ensures c.args.state.now
    c.define-2.new.state now c.in_ok-define.ensures.steps c.in_ok-count_up.ensures)

pub returns-clause-placed : goal.returns-clause-placed
returns-clause-placed g c = c.in_ok-define.ensures.placed
