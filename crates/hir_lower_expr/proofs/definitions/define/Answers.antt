use Rattle.std.proofs.Common.{arith, Some}
use Rattle.hir_store.specs.declared.hir.Statement.TheVariants as statement
use Rattle.hir_lower_expr.proofs.DefinitionLemmas.{counted_low, define_item, define_macro, define_refused, opens_always}
use Rattle.hir_lower_expr.proofs.RunLemmas.{grows_on, still_has}
use Rattle.hir_lower_expr.proofs.StatementLemmas.{define_unmet, pushed_one, stmts_unplaced}
use Rattle.hir_lower_expr.proofs.definitions.define.Goals as goal

pub returns-in_err-count_def-clause-steps : goal.returns-in_err-count_def-clause-steps
returns-in_err-count_def-clause-steps g c =
    define_unmet c.args.before c.args.def c.args.done.now _ c.args.state.now _ c.from_residual.result c.count_def.new.self
    c.from_residual.ensures.1
    (λ other. let k = c.in_err-count_def.ensures other in
    (define_refused c.args.before c.args.def c.args.done.now c.args.state.now c.count_def.new.self _ k.0, k.1))

pub returns-in_err-count_def-clause-placed : goal.returns-in_err-count_def-clause-placed
returns-in_err-count_def-clause-placed g c =
    stmts_unplaced c.args.state.now c.count_def.new.self c.args.done.now c.from_residual.result _ c.from_residual.ensures.1

pub returns-in_err-open_macro-in-Some-clause-steps : goal.returns-in_err-open_macro-in-Some-clause-steps
returns-in_err-open_macro-in-Some-clause-steps g c =
    define_unmet c.args.before c.args.def c.args.done.now _ c.args.state.now _ c.from_residual-in_err-open_macro-in-Some.result
    c.open_macro.new.self c.from_residual-in_err-open_macro-in-Some.ensures.1
    (λ other. absurd (opens_always c.in-Some.def c.count_def.new.self c.open_macro.new.self _
    (c.in_err-open_macro-in-Some.ensures other).0))

pub returns-in_err-open_macro-in-Some-clause-placed : goal.returns-in_err-open_macro-in-Some-clause-placed
returns-in_err-open_macro-in-Some-clause-placed g c =
    stmts_unplaced c.args.state.now c.open_macro.new.self c.push_statement-in-Some.new.statements
    c.from_residual-in_err-open_macro-in-Some.result _ c.from_residual-in_err-open_macro-in-Some.ensures.1

pub returns-in_ok-push_statement-in-None-clause-steps : goal.returns-in_ok-push_statement-in-None-clause-steps
returns-in_ok-push_statement-in-None-clause-steps g c =
    rw c.in-None.is (define_item c.args.before c.args.done.now c.push_statement.new.statements c.args.state.now c.count_def.new.self
    c.in_ok-count_def.ensures.0 c.in_ok-push_statement-in-None.ensures.statements)

pub returns-in_ok-push_statement-in-None-clause-placed : goal.returns-in_ok-push_statement-in-None-clause-placed
returns-in_ok-push_statement-in-None-clause-placed g c =
    let counted = c.in_ok-count_def.ensures.1 in (
      counted,
      pushed_one c.count_def.new.self.stored c.args.done.now c.push_statement.new.statements (Some statement.Item)
          (still_has c.args.state.now.stored c.count_def.new.self.stored c.args.done.now counted c.requires)
          (omega arith, omega arith, omega arith, omega arith) c.in_ok-push_statement-in-None.ensures.past,
    )

pub returns-in_ok-push_statement-in-None-clause-counted : goal.returns-in_ok-push_statement-in-None-clause-counted
returns-in_ok-push_statement-in-None-clause-counted g c =
    counted_low c.args.before c.args.state.now c.count_def.new.self c.in_ok-count_def.ensures.0

pub returns-in_ok-open_macro-in-Some-clause-steps : goal.returns-in_ok-open_macro-in-Some-clause-steps
returns-in_ok-open_macro-in-Some-clause-steps g c =
    rw c.in-Some.is (define_macro c.args.before c.in-Some.def c.args.done.now c.push_statement-in-Some.new.statements c.args.state.now
    c.count_def.new.self c.open_macro.new.self c.in_ok-count_def.ensures.0 c.in_ok-push_statement-in-Some.ensures.statements
    c.in_ok-open_macro-in-Some.ensures.0)

pub returns-in_ok-open_macro-in-Some-clause-placed : goal.returns-in_ok-open_macro-in-Some-clause-placed
returns-in_ok-open_macro-in-Some-clause-placed g c =
    let counted = c.in_ok-count_def.ensures.1 in
    let opened = c.in_ok-open_macro-in-Some.ensures.1 in
    let grown = grows_on c.args.state.now.stored c.count_def.new.self.stored c.open_macro.new.self.stored counted opened in (
      grown,
      pushed_one c.open_macro.new.self.stored c.args.done.now c.push_statement-in-Some.new.statements
          (Some (statement.MacroDef c.in-Some.def))
          (still_has c.args.state.now.stored c.open_macro.new.self.stored c.args.done.now grown c.requires)
          (omega arith, omega arith, omega arith, omega arith) c.in_ok-push_statement-in-Some.ensures.past,
    )

pub returns-in_ok-open_macro-in-Some-clause-counted : goal.returns-in_ok-open_macro-in-Some-clause-counted
returns-in_ok-open_macro-in-Some-clause-counted g c =
    counted_low c.args.before c.args.state.now c.count_def.new.self c.in_ok-count_def.ensures.0
