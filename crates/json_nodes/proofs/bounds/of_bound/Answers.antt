use Rattle.std.proofs.lemmas.Grind.{common_steps}
use Rattle.std.proofs.Common.{refl, ap, arith}
use Rattle.std.specs.Prelude.{option_map}
use Rattle.json_nodes.specs.declared.type_parts.TypeOf.TheVariants as type_part
use Rattle.json_nodes.specs.Bounds.{of_bound}
use Rattle.json_nodes.proofs.bounds.of_bound.Goals as goal

pub returns-in-RetType : goal.returns-in-RetType
unfolding of_bound
returns-in-RetType g c = λ e.
    let ty = c.field-ty.ensures e in
    (ty.0, rw c.in-RetType.is (rw ty.1 refl))

pub returns-in_ok-bound-in-TypeBound : goal.returns-in_ok-bound-in-TypeBound
unfolding of_bound
returns-in_ok-bound-in-TypeBound g c = λ e.
    let made = c.in_ok-bound-in-TypeBound.ensures e in
    (made.0, rw c.in-TypeBound.is (ap (option_map type_part.Bound) made.1))

pub returns-in_err-bound-in-TypeBound : goal.returns-in_err-bound-in-TypeBound
returns-in_err-bound-in-TypeBound g c = λ e.
    let made = c.in_err-bound-in-TypeBound.ensures e in
    absurd (cc made.1)

pub returns-in-ForBinder : goal.returns-in-ForBinder
unfolding of_bound
returns-in-ForBinder g c = λ e.
    let params = c.field-params.ensures e in
    (params.0, rw (c.in-ForBinder.is, c.id.ensures, c.range.ensures, params.1))

pub field-ty-requires : goal.field-ty-requires
field-ty-requires g c = c.requires

pub bound-requires : goal.bound-requires
bound-requires g c = c.requires

pub returns-in_default : goal.returns-in_default
unfolding of_bound
returns-in_default g c = grind (arith, common_steps)

pub field-params-requires : goal.field-params-requires
field-params-requires g c = c.requires
