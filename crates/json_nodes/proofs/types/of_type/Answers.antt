use Rattle.std.proofs.Common.{◌∙◌, sym}
use Rattle.json_nodes.proofs.ByKind.{is_over_types, is_beside_types, is_bounded}
use Rattle.json_nodes.proofs.types.of_type.Goals as goal

pub returns-in-ParenType : goal.returns-in-ParenType
returns-in-ParenType g c = λ e. let it = c.over_types.ensures e in (it.0, it.1 ∙ sym (is_over_types _ _ c.in-ParenType.is))

pub returns-in-RefType : goal.returns-in-RefType
returns-in-RefType g c = λ e. let it = c.beside_types.ensures e in (it.0, it.1 ∙ sym (is_beside_types _ _ c.in-RefType.is))

pub returns-in-ImplTraitType : goal.returns-in-ImplTraitType
returns-in-ImplTraitType g c = λ e. let it = c.bounded.ensures e in (it.0, it.1 ∙ sym (is_bounded _ _ c.in-ImplTraitType.is))

pub beside_types-requires : goal.beside_types-requires
beside_types-requires g c = c.requires

pub over_types-requires : goal.over_types-requires
over_types-requires g c = c.requires

pub bounded-requires : goal.bounded-requires
bounded-requires g c = c.requires
