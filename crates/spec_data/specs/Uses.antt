-- Names of a top pattern: a name with its hygiene is one, and has the number of its first use, counted in the order of lowering.
use Rattle.std.specs.Prelude.{ℕ, suc, Bool, ◌&&◌, nat_eq, if◌then◌else◌, List, [], ◌∷◌}
use Rattle.hir_store.specs.Names.{same_name}
use Rattle.hir_store.specs.declared.ids.HygieneId.{HygieneId}
use Rattle.hir_store.specs.declared.name.Name.{Name}
use Rattle.hir_store.specs.declared.pat.Binding.{Binding}
use Rattle.hir_env.specs.ResolvedTree.{Use}

-- the first uses of the names so far, in their order
abbrev pub FirstUses : Type 0
FirstUses = List Use

-- a use of this name
abbrev pub is_of : Name → HygieneId → Use → Bool
is_of n h u = same_name n u.name && nat_eq h.0 u.hygiene.0

-- the first use of the name, which the use may be itself
abbrev pub first_use : FirstUses → Use → Use
first_use [] u = u
first_use (f ∷ fs) u = if is_of u.name u.hygiene f then f else first_use fs u

-- the number of the name: the place of its first use, or the next one where it has none
abbrev pub number_of : FirstUses → Use → ℕ
number_of [] u = 0
number_of (f ∷ fs) u = if is_of u.name u.hygiene f then 0 else suc (number_of fs u)

-- with the use, where it is the first of its name
abbrev pub with_use : FirstUses → Use → FirstUses
with_use [] u = u ∷ []
with_use (f ∷ fs) u = if is_of u.name u.hygiene f then f ∷ fs else f ∷ with_use fs u

-- the use that a binding was made for
abbrev pub use_of : Binding → Use
use_of b = record { name = b.name; hygiene = b.hygiene; mode = b.mode }
