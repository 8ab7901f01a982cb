use Rattle.std.proofs.lemmas.Grind.{common_steps}
use Rattle.std.proofs.Common.{refl, arith}
use Rattle.json_nodes.specs.Types.{over_types}
use Rattle.json_nodes.proofs.types.over_types.Goals as goal

pub returns-in-ParenType : goal.returns-in-ParenType
unfolding over_types
returns-in-ParenType g c = λ e.
    let made = c.whole.ensures e in
    let ty = c.field-ty.ensures made.0 in
    (ty.0, rw c.in-ParenType.is (rw made.1 (rw ty.1 refl)))

pub returns-in-SliceType : goal.returns-in-SliceType
unfolding over_types
returns-in-SliceType g c = λ e.
    let made = c.whole-in-SliceType.ensures e in
    let ty = c.field-ty-in-SliceType.ensures made.0 in
    (ty.0, rw c.in-SliceType.is (rw made.1 (rw ty.1 refl)))

pub returns-in-TupleType : goal.returns-in-TupleType
unfolding over_types
returns-in-TupleType g c = λ e.
    let made = c.whole-in-TupleType.ensures e in
    let fields = c.field-fields.ensures made.0 in
    (fields.0, rw c.in-TupleType.is (rw made.1 (rw fields.1 refl)))

pub returns-in-PtrType : goal.returns-in-PtrType
unfolding over_types
returns-in-PtrType g c = λ e.
    let made = c.whole-in-PtrType.ensures e in
    let ty = c.field-ty-in-PtrType.ensures made.0 in
    (ty.0, rw (c.in-PtrType.is, made.1, c.flag-mut_.ensures, c.value.ensures, ty.1))

pub returns-in_default : goal.returns-in_default
unfolding over_types
returns-in_default g c = grind (arith, common_steps)

pub field-ty-requires-in-SliceType : goal.field-ty-requires-in-SliceType
field-ty-requires-in-SliceType g c = c.requires

pub field-ty-requires-in-PtrType : goal.field-ty-requires-in-PtrType
field-ty-requires-in-PtrType g c = c.requires

pub field-ty-requires : goal.field-ty-requires
field-ty-requires g c = c.requires

pub field-fields-requires : goal.field-fields-requires
field-fields-requires g c = c.requires
