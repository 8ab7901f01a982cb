use Rattle.std.proofs.lemmas.Grind.{common_steps}
use Rattle.std.proofs.Common.{arith}
use Rattle.json_nodes.specs.Pats.{values}
use Rattle.json_nodes.proofs.pats.values.Goals as goal

pub returns-in-LiteralPat : goal.returns-in-LiteralPat
unfolding values
returns-in-LiteralPat g c = λ e.
    let made = c.whole.ensures e in
    let lit = c.field-lit.ensures made.0 in
    (lit.0, rw (c.in-LiteralPat.is, made.1, lit.1, c.flag-minus.ensures, c.value.ensures))

pub returns-in-RangePat : goal.returns-in-RangePat
unfolding values
returns-in-RangePat g c = λ e.
    let made = c.whole-in-RangePat.ensures e in
    let end = c.field-end.ensures made.0 in
    let start = c.field-start.ensures end.0 in
    (start.0, rw (c.in-RangePat.is, made.1, c.range_op-op.ensures, c.value-in-RangePat.ensures, start.1, end.1))

pub returns-in-MacroPat : goal.returns-in-MacroPat
unfolding values
returns-in-MacroPat g c = λ e.
    let made = c.whole-in-MacroPat.ensures e in
    let call = c.field-call.ensures made.0 in
    (call.0, rw (c.in-MacroPat.is, made.1, call.1))

pub field-end-requires : goal.field-end-requires
field-end-requires g c = c.requires

pub field-lit-requires : goal.field-lit-requires
field-lit-requires g c = c.requires

pub field-start-requires : goal.field-start-requires
field-start-requires g c = c.requires

pub returns-in_default : goal.returns-in_default
unfolding values
returns-in_default g c = grind (arith, common_steps)

pub field-call-requires : goal.field-call-requires
field-call-requires g c = c.requires
