use Rattle.std.proofs.lemmas.Grind.{common_steps}
use Rattle.std.proofs.Common.{rules, arith}
use Rattle.hir_lower_bind.proofs.sides.side_form.Goals as goal

pub returns-in-TupleStructPat : goal.returns-in-TupleStructPat
returns-in-TupleStructPat g c = search rules

pub returns-in-TupleStructPat-2 : goal.returns-in-TupleStructPat-2
returns-in-TupleStructPat-2 g c = search rules

pub returns-in-TupleStructPat-3 : goal.returns-in-TupleStructPat-3
returns-in-TupleStructPat-3 g c = search rules

pub returns-in-TupleStructPat-4 : goal.returns-in-TupleStructPat-4
returns-in-TupleStructPat-4 g c = search rules

pub returns-in-TupleStructPat-5 : goal.returns-in-TupleStructPat-5
returns-in-TupleStructPat-5 g c = search rules

pub returns-in-TupleStructPat-6 : goal.returns-in-TupleStructPat-6
returns-in-TupleStructPat-6 g c = search rules

pub returns-in-TupleStructPat-7 : goal.returns-in-TupleStructPat-7
returns-in-TupleStructPat-7 g c = search rules

pub returns-in-TupleStructPat-8 : goal.returns-in-TupleStructPat-8
returns-in-TupleStructPat-8 g c = search rules

pub returns-in-TupleStructPat-9 : goal.returns-in-TupleStructPat-9
returns-in-TupleStructPat-9 g c = search rules

pub returns-in-TupleStructPat-10 : goal.returns-in-TupleStructPat-10
returns-in-TupleStructPat-10 g c = search rules

pub returns-in-TupleStructPat-11 : goal.returns-in-TupleStructPat-11
returns-in-TupleStructPat-11 g c = search rules

pub returns-in-TupleStructPat-12 : goal.returns-in-TupleStructPat-12
returns-in-TupleStructPat-12 g c = search rules

pub returns-in-TupleStructPat-13 : goal.returns-in-TupleStructPat-13
returns-in-TupleStructPat-13 g c = search rules

pub returns-in-TupleStructPat-14 : goal.returns-in-TupleStructPat-14
returns-in-TupleStructPat-14 g c = search rules

pub returns-in-TupleStructPat-15 : goal.returns-in-TupleStructPat-15
returns-in-TupleStructPat-15 g c = search rules

pub returns-in-TupleStructPat-16 : goal.returns-in-TupleStructPat-16
returns-in-TupleStructPat-16 g c = grind (arith, common_steps)
