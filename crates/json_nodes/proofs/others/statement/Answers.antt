use Rattle.std.proofs.lemmas.Grind.{common_steps}
use Rattle.std.proofs.Common.{refl, arith}
use Rattle.json_nodes.specs.Others.{statement}
use Rattle.json_nodes.proofs.others.statement.Goals as goal

pub returns-in-LetStmt : goal.returns-in-LetStmt
unfolding statement
returns-in-LetStmt g c = λ e.
    let else_ = c.field-else_.ensures e in
    let init = c.field-init.ensures else_.0 in
    let ty = c.field-ty.ensures init.0 in
    let pat = c.field-pat.ensures ty.0 in
    (pat.0, rw c.in-LetStmt.is (rw else_.1 (rw init.1 (rw ty.1 (rw pat.1 refl)))))

pub returns-in-ExprStmt : goal.returns-in-ExprStmt
unfolding statement
returns-in-ExprStmt g c = λ e.
    let expr = c.field-expr.ensures e in
    (expr.0, rw (c.in-ExprStmt.is, expr.1, c.flag-semi.ensures, c.value.ensures))

pub returns-in-MacroRules : goal.returns-in-MacroRules
unfolding statement
returns-in-MacroRules g c = λ e.
    let name = c.field-name.ensures e in
    (name.0, rw c.in-MacroRules.is (rw name.1 refl))

pub returns-in-MacroDef : goal.returns-in-MacroDef
unfolding statement
returns-in-MacroDef g c = λ e.
    let name = c.field-name-in-MacroDef.ensures e in
    (name.0, rw c.in-MacroDef.is (rw name.1 refl))

pub field-pat-requires : goal.field-pat-requires
field-pat-requires g c = c.requires

pub field-name-requires-in-MacroDef : goal.field-name-requires-in-MacroDef
field-name-requires-in-MacroDef g c = c.requires

pub field-ty-requires : goal.field-ty-requires
field-ty-requires g c = c.requires

pub field-expr-requires : goal.field-expr-requires
field-expr-requires g c = c.requires

pub returns-in-Item : goal.returns-in-Item
unfolding statement
returns-in-Item g c = grind (arith, common_steps)

pub field-init-requires : goal.field-init-requires
field-init-requires g c = c.requires

pub field-name-requires : goal.field-name-requires
field-name-requires g c = c.requires

pub field-else_-requires : goal.field-else_-requires
field-else_-requires g c = c.requires
