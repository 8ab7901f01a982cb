-- The constants of an item are roots, in the order in which its parts are read.
use Rattle.std.specs.Prelude.{◌≡◌, ℕ, List, [], Ok}
use Rattle.hir_store.specs.Stored.{Stored, map_of, store_of}
use Rattle.hir_store.specs.StoreSink.{Extends}
use Rattle.hir_lower_builder.specs.Builder.{Builder, new_builder}
use Rattle.hir_lower_builder.specs.Lowering.{Lowering}
use Rattle.thm_logic.specs.Keeps.{Paired}
use Rattle.thm_type_result.specs.Roots.{RootsAre, RootsOf, lengths_of, no_lengths, recorded_bodies}
use Rattle.thm_item_result.specs.Items.{OfItems}
use Rattle.thm_item_result.specs.Parts.{Part}
use Rattle.thm_item_result.specs.Sizes.{parts_size}

-- From any builder on: outside of a root each constant is recorded as one, also where the path that it stands in is refused, or its
-- argument list or its `impl` is dropped, and runs as it is written, in each later store.
abbrev pub RootsInside : {A : Type 0} → List Part → Lowering A → Type 0
RootsInside {A} xs p = (b b' : Builder) (a : A) → Paired b.stored → p b ≡ (Ok a, b') → (later : Stored) → Extends b'.stored later
    → RootsOf b.scopes b.stored b'.stored later (recorded_bodies b.in_root (parts_size xs).inner)

abbrev pub ItemRoots : Type 0
ItemRoots = OfItems (λ A xs p. RootsInside xs p)

-- where the item is lowered first
abbrev pub FirstRoots : {A : Type 0} → List Part → Lowering A → Type 0
FirstRoots {A} xs p = (limit : ℕ) (new : Builder) (a : A) → p (new_builder limit) ≡ (Ok a, new) → let s = store_of new.stored in
    RootsAre s (map_of new.stored) [] no_lengths (lengths_of s) s.roots (parts_size xs).inner

abbrev pub FirstItemRoots : Type 0
FirstItemRoots = OfItems (λ A xs p. FirstRoots xs p)
