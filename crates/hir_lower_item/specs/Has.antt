-- What the steps answer exists.
use Rattle.std.specs.Prelude.{List, Option, Some, None}
use Rattle.hir_store.specs.Range.{HasBounds, HasConst, HasType, HasTypeOption, HasTypes}
use Rattle.hir_store.specs.Stored.{Stored}
use Rattle.hir_store.specs.declared.ids.TypeRefId.{TypeRefId}
use Rattle.hir_store.specs.declared.type_ref.ConstRef.{ConstRef}
use Rattle.hir_store.specs.declared.type_ref.TraitRef.{TraitRef}
use Rattle.hir_store.specs.declared.type_ref.TypeBound.{TypeBound}
use Rattle.hir_lower_item.specs.declared.function.Signature.{Signature}

abbrev pub HasSignature : Stored → Signature → Type 0
HasSignature s x = HasTypes s x.args × HasTypeOption s x.ret

abbrev pub HasTraitOption : Stored → Option TraitRef → Type 0
HasTraitOption s None = Unit {0}
HasTraitOption s (Some t) = HasType s t.path

abbrev pub HasImpl : Stored → TypeRefId × Option TraitRef → Type 0
HasImpl s x = HasType s x.0 × HasTraitOption s x.1

abbrev pub HasAlias : Stored → List TypeBound × Option TypeRefId → Type 0
HasAlias s x = HasBounds s x.0 × HasTypeOption s x.1

abbrev pub HasConstOption : Stored → Option ConstRef → Type 0
HasConstOption s None = Unit {0}
HasConstOption s (Some c) = HasConst s c
