-- Names that lowering an item makes up are of one binding or label at most, or of two bindings, of which one is a formal parameter.
use Rattle.std.specs.Prelude.{◌≡◌, Ok}
use Rattle.hir_lower_builder.specs.Builder.{Builder}
use Rattle.hir_lower_builder.specs.Lowering.{Lowering}
use Rattle.thm_logic.specs.Keeps.{MadeApart, Paired}
use Rattle.thm_item_result.specs.Items.{OfItems}

-- where those that were made up before stand apart, all do
abbrev pub KeepsApart : {A : Type 0} → Lowering A → Type 0
KeepsApart {A} p = (b c : Builder) (a : A) → Paired b.stored → p b ≡ (Ok a, c) → MadeApart b.names b.stored → MadeApart c.names c.stored

abbrev pub ItemsApart : Type 0
ItemsApart = OfItems (λ A xs p. KeepsApart p)
