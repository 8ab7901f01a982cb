use Rattle.std.proofs.lemmas.Grind.{common_steps}
use Rattle.std.proofs.Common.{arith}
use Rattle.json_nodes.specs.Generics.{where_pred}
use Rattle.json_nodes.proofs.generics.where_pred.Goals as goal

pub returns-in-WherePred : goal.returns-in-WherePred
unfolding where_pred
returns-in-WherePred g c = λ e.
    let bounds = c.field-bounds.ensures e in
    let binder = c.binder-binder.ensures bounds.0 in
    let lifetime = c.field-lifetime.ensures binder.0 in
    let ty = c.field-ty.ensures lifetime.0 in
    (ty.0, rw (c.in-WherePred.is, c.id.ensures, c.range.ensures, ty.1, lifetime.1, binder.1, bounds.1))

pub field-ty-requires : goal.field-ty-requires
unfolding where_pred
field-ty-requires g c = grind (arith, common_steps)

pub field-lifetime-requires : goal.field-lifetime-requires
unfolding where_pred
field-lifetime-requires g c = grind (arith, common_steps)

pub binder-binder-requires : goal.binder-binder-requires
unfolding where_pred
binder-binder-requires g c = grind (arith, common_steps)

pub returns-in_default : goal.returns-in_default
unfolding where_pred
returns-in_default g c = grind (arith, common_steps)

pub field-bounds-requires : goal.field-bounds-requires
unfolding where_pred
field-bounds-requires g c = grind (arith, common_steps)
