use Rattle.std.proofs.lemmas.Grind.{common_steps}
use Rattle.std.proofs.Common.{arith}
use Rattle.json_nodes.specs.Macros.{of_macro}
use Rattle.json_nodes.proofs.macros.of_macro.Goals as goal

pub returns-in-MacroCall : goal.returns-in-MacroCall
unfolding of_macro
returns-in-MacroCall g c = λ e.
    let path = c.field-path.ensures e in
    (path.0, rw (c.in-MacroCall.is, c.id.ensures, c.range.ensures, path.1))

pub returns-in-MacroStmts : goal.returns-in-MacroStmts
unfolding of_macro
returns-in-MacroStmts g c = λ e.
    let expr = c.field-expr.ensures e in
    let stmts = c.field-stmts.ensures expr.0 in
    (stmts.0, rw (c.in-MacroStmts.is, c.id-in-MacroStmts.ensures, c.range-in-MacroStmts.ensures, stmts.1, expr.1))

pub field-path-requires : goal.field-path-requires
field-path-requires g c = c.requires

pub field-stmts-requires : goal.field-stmts-requires
field-stmts-requires g c = c.requires

pub field-expr-requires : goal.field-expr-requires
field-expr-requires g c = c.requires

pub returns-in_default : goal.returns-in_default
unfolding of_macro
returns-in_default g c = grind (arith, common_steps)
