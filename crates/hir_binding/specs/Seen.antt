-- What a set of seen names says of one name.
use Rattle.std.specs.Prelude.{ℕ, Bool, false, Option, Some, None, if◌then◌else◌, nat_lt}
use Rattle.std.specs.BTreeMap.{get}
use Rattle.std.specs.Ordering.{nat_cmp}
use Rattle.hir_binding.specs.declared.binding.Mark.{Mark}
use Rattle.hir_binding.specs.declared.binding.Mark.TheVariants.{Unseen, Missing, Unmarked, Marked}
use Rattle.hir_binding.specs.declared.seen.SeenNames.{SeenNames}
use Rattle.hir_binding.specs.Steps.{Set}

-- of a name that was marked last at a place, where the alternative at hand begins at start and the one before at previous
abbrev pub mark_at : ℕ → ℕ → Option ℕ → Mark
mark_at previous start None = Unseen
mark_at previous start (Some place) =
    if nat_lt place previous then Missing else (if nat_lt place start then Unmarked else Marked)

abbrev pub mark_of : SeenNames → ℕ → Mark
mark_of s k = mark_at s.previous s.start (get nat_cmp s.last k)

abbrev pub set_of : SeenNames → ℕ → Set
set_of s k = record { mark = mark_of s k; later = s.later }

abbrev pub no_set : Set
no_set = record { mark = Unseen; later = false }

abbrev pub marked_if : Bool → Set → Set
marked_if b set = if b then record { mark = Marked; later = set.later } else set
