-- Which lifetime parameters the type of an alias names.
use Rattle.std.specs.Prelude.{ℕ, ◌≡◌, Bool, not, if◌then◌else◌, List, [], ◌∷◌, ◌++◌, Option, Some, None}
use Rattle.std.specs.Prelude.{slice_get, ◌⊎◌}
use Rattle.hir_store.specs.Stored.{Store}
use Rattle.std.specs.List.{position_from}
use Rattle.hir_store.specs.Params.{is_called}
use Rattle.hir_store.specs.Parts.{Parts, no_parts, type_and, lifetime_and, args_and, parts, parts_found}
use Rattle.hir_store.specs.declared.generics.LifetimeParamData.{LifetimeParamData}
use Rattle.hir_store.specs.declared.ids.TypeRefId.{TypeRefId}
use Rattle.hir_store.specs.declared.ids.LifetimeRefId.{LifetimeRefId}
use Rattle.hir_store.specs.declared.name.Name.{Name}
use Rattle.hir_store.specs.declared.path.GenericArgs.{GenericArgs}
use Rattle.hir_store.specs.declared.path.AssociatedTypeBinding.TheViews.{out-GenericArgs}
use Rattle.hir_store.specs.declared.type_ref.TypeRef.{TypeRef}
use Rattle.hir_store.specs.declared.type_ref.LifetimeRef.{LifetimeRef}
use Rattle.hir_store.specs.declared.type_ref.LifetimeRef.TheVariants as lifetime

-- a part that the walk follows, which is a number of the same store
pub data Part : Type 0 where
  a_type : TypeRefId → Part
  a_lifetime : LifetimeRefId → Part

-- a part that stands in a list
abbrev pub Among : Part → List Part → Type 0
Among p [] = ⊥
Among p (q ∷ qs) = (p ≡ q) ⊎ Among p qs

-- arguments with `Self` aren't gone into
abbrev pub goes_into : GenericArgs → Bool
goes_into a = not (out-GenericArgs a).has_self_type

abbrev pub part_list : Parts → List Part
part_list no_parts = []
part_list (type_and t ps) = a_type t ∷ part_list ps
part_list (lifetime_and l ps) = a_lifetime l ∷ part_list ps
part_list (args_and a inside ps) = (if goes_into a then part_list inside else []) ++ part_list ps

abbrev pub alias_parts : TypeRef → List Part
alias_parts x = part_list (parts x)

-- of what stands there, where anything does
abbrev pub alias_parts_found : Option TypeRef → List Part
alias_parts_found x = part_list (parts_found x)

-- The types that are reached from one: itself, and each type among the parts of one that is reached and stands in the store.
pub data Reached (types : List TypeRef) (root : TypeRefId) : TypeRefId → Type 0 where
  at_root : Reached types root root
  below : {t u : TypeRefId} (x : TypeRef) → Reached types root t → slice_get types t.0 ≡ Some x → Among (a_type u) (alias_parts x)
      → Reached types root u

-- what a stored lifetime that is named stands for, by what its name does
abbrev pub place_by : (Name → Option ℕ) → Option LifetimeRef → Option ℕ
place_by find (Some (lifetime.Named n)) = find n
place_by find _ = None

abbrev pub named_place : List LifetimeRef → (Name → Option ℕ) → LifetimeRefId → Option ℕ
named_place lifetimes find l = place_by find (slice_get lifetimes l.0)

-- A type that is reached has a lifetime among its parts that names the parameter at this place.
pub record Named (types : List TypeRef) (lifetimes : List LifetimeRef) (find : Name → Option ℕ) (root : TypeRefId) (place : ℕ)
    : Type 0 where
  pub at : TypeRefId
  pub reached : Reached types root at
  pub form : TypeRef
  pub corresponds : slice_get types at.0 ≡ Some form
  pub lifetime : LifetimeRefId
  pub among : Among (a_lifetime lifetime) (alias_parts form)
  pub names_it : named_place lifetimes find lifetime ≡ Some place

-- the place of the first parameter of that name
abbrev pub place_of : List LifetimeParamData → Name → Option ℕ
place_of params n = position_from (is_called n) 0 params

-- an alias without type names none
abbrev pub Names : Store → List LifetimeParamData → Option TypeRefId → ℕ → Type 0
Names store params None place = ⊥
Names store params (Some root) place = Named store.types store.lifetimes (place_of params) root place
