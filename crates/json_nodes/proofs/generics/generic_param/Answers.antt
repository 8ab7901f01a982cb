use Rattle.std.proofs.lemmas.Grind.{common_steps}
use Rattle.std.proofs.Common.{arith}
use Rattle.json_nodes.specs.Generics.{generic_param}
use Rattle.json_nodes.proofs.generics.generic_param.Goals as goal

pub returns-in-TypeParam : goal.returns-in-TypeParam
unfolding generic_param
returns-in-TypeParam g c = λ e.
    let default = c.field-default.ensures e in
    let bounds = c.field-bounds.ensures default.0 in
    let name = c.field-name.ensures bounds.0 in
    (name.0, rw (c.in-TypeParam.is, c.id.ensures, c.range.ensures, name.1, bounds.1, default.1))

pub returns-in-ConstParam : goal.returns-in-ConstParam
unfolding generic_param
returns-in-ConstParam g c = λ e.
    let default = c.field-default-in-ConstParam.ensures e in
    let ty = c.field-ty.ensures default.0 in
    let name = c.field-name-in-ConstParam.ensures ty.0 in
    (name.0, rw (c.in-ConstParam.is, c.id-in-ConstParam.ensures, c.range-in-ConstParam.ensures, name.1, ty.1, default.1))

pub returns-in-LifetimeParam : goal.returns-in-LifetimeParam
unfolding generic_param
returns-in-LifetimeParam g c = λ e.
    let bounds = c.field-bounds-in-LifetimeParam.ensures e in
    let lifetime = c.field-lifetime.ensures bounds.0 in
    (lifetime.0, rw (c.in-LifetimeParam.is, c.id-in-LifetimeParam.ensures, c.range-in-LifetimeParam.ensures, lifetime.1, bounds.1))

pub field-ty-requires : goal.field-ty-requires
unfolding generic_param
field-ty-requires g c = grind (arith, common_steps)

pub returns-in_default : goal.returns-in_default
unfolding generic_param
returns-in_default g c = grind (arith, common_steps)

pub field-default-requires-in-ConstParam : goal.field-default-requires-in-ConstParam
unfolding generic_param
field-default-requires-in-ConstParam g c = grind (arith, common_steps)

pub field-name-requires : goal.field-name-requires
unfolding generic_param
field-name-requires g c = grind (arith, common_steps)

pub field-default-requires : goal.field-default-requires
unfolding generic_param
field-default-requires g c = grind (arith, common_steps)

pub field-bounds-requires-in-LifetimeParam : goal.field-bounds-requires-in-LifetimeParam
unfolding generic_param
field-bounds-requires-in-LifetimeParam g c = grind (arith, common_steps)

pub field-lifetime-requires : goal.field-lifetime-requires
unfolding generic_param
field-lifetime-requires g c = grind (arith, common_steps)

pub field-name-requires-in-ConstParam : goal.field-name-requires-in-ConstParam
unfolding generic_param
field-name-requires-in-ConstParam g c = grind (arith, common_steps)

pub field-bounds-requires : goal.field-bounds-requires
unfolding generic_param
field-bounds-requires g c = grind (arith, common_steps)
