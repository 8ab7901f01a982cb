-- How much is stored where parts of an item are read, and how much there is no room for.
use Rattle.std.specs.Prelude.{ℕ, ◌+◌, ◌<◌, ◌≤◌, ◌^◌, ◌⊎◌, List, [], ◌∷◌, length, Some, None, is_some}
use Rattle.hir_lower_builder.specs.Builder.{Builder}
use Rattle.thm_logic.specs.PathSeen.{whole_read}
use Rattle.thm_body_result.specs.Room.{Short, bound_size, constant_size, type_size, whole_size}
use Rattle.thm_body_result.specs.Size.{Size, a_lifetime, a_param, a_type, if_so, nothing, ◌∪◌}
use Rattle.thm_item_result.specs.Exceeding.{Exceeds, FitsIn}
use Rattle.thm_item_result.specs.Parts as part
use Rattle.thm_item_result.specs.Parts.{Part}

abbrev pub part_size : Part → Size
part_size (part.type_read t) = type_size t
part_size (part.type_made shape) = a_type None
part_size (part.bound_read b) = bound_size b
part_size (part.trait_read at p) = whole_size p ∪ if_so (is_some (whole_read p)) (a_type (Some at))
part_size (part.constant_read c) = constant_size c
part_size (part.lifetime_read l) = a_lifetime (Some l.pointer)
part_size (part.lifetime_made l) = a_lifetime None
part_size (part.fault_emitted d) = nothing
part_size part.param_made = a_param
part_size part.lifetime_param_made = nothing

abbrev pub parts_size : List Part → Size
parts_size [] = nothing
parts_size (x ∷ xs) = part_size x ∪ parts_size xs

-- parameters that are lifetimes are counted apart
abbrev pub a_lifetime_param : Part → ℕ
a_lifetime_param part.lifetime_param_made = 1
a_lifetime_param x = 0

abbrev pub lifetime_params : List Part → ℕ
lifetime_params [] = 0
lifetime_params (x ∷ xs) = a_lifetime_param x + lifetime_params xs

-- Behind what a builder has there is no room for so much, or for so many lifetime parameters.
abbrev pub ItemShort : List Part → Builder → Type 0
ItemShort xs b = Short (parts_size xs) b ⊎ (2 ^ 32 ≤ length b.tracks.generics.lifetimes + lifetime_params xs)

-- of an item that is lowered first, in arenas of this limit
abbrev pub ItemTooLarge : ℕ → List Part → Type 0
ItemTooLarge limit xs = Exceeds limit (parts_size xs) ⊎ (2 ^ 32 ≤ lifetime_params xs)

-- and what there is room for
pub record ItemFitsIn (limit : ℕ) (xs : List Part) : Type 0 where
  pub parts : FitsIn limit (parts_size xs)
  pub lifetimes : lifetime_params xs < 2 ^ 32
