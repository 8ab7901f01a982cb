use Rattle.std.proofs.lemmas.Grind.{common_steps}
use Rattle.std.proofs.Common.{refl, arith}
use Rattle.json_nodes.specs.Types.{bounded}
use Rattle.json_nodes.proofs.types.bounded.Goals as goal

pub returns-in-ImplTraitType : goal.returns-in-ImplTraitType
unfolding bounded
returns-in-ImplTraitType g c = λ e.
    let made = c.whole.ensures e in
    let bounds = c.field-bounds.ensures made.0 in
    (bounds.0, rw c.in-ImplTraitType.is (rw made.1 (rw bounds.1 refl)))

pub returns-in-DynTraitType : goal.returns-in-DynTraitType
unfolding bounded
returns-in-DynTraitType g c = λ e.
    let made = c.whole-in-DynTraitType.ensures e in
    let bounds = c.field-bounds-in-DynTraitType.ensures made.0 in
    (bounds.0, rw c.in-DynTraitType.is (rw made.1 (rw bounds.1 refl)))

pub returns-in-NeverType : goal.returns-in-NeverType
unfolding bounded
returns-in-NeverType g c = λ e.
    let made = c.whole-in-NeverType.ensures e in
    (made.0, rw c.in-NeverType.is (rw made.1 refl))

pub returns-in-InferType : goal.returns-in-InferType
unfolding bounded
returns-in-InferType g c = λ e.
    let made = c.whole-in-InferType.ensures e in
    (made.0, rw c.in-InferType.is (rw made.1 refl))

pub field-bounds-requires-in-DynTraitType : goal.field-bounds-requires-in-DynTraitType
field-bounds-requires-in-DynTraitType g c = c.requires

pub returns-in_default : goal.returns-in_default
unfolding bounded
returns-in_default g c = grind (arith, common_steps)

pub field-bounds-requires : goal.field-bounds-requires
field-bounds-requires g c = c.requires
