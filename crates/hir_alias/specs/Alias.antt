-- What an alias is.
use Rattle.std.specs.Prelude.{ℕ, ◌≡◌, ◌↔◌, Bool, true, List, Option, Some, length, slice_get}
use Rattle.hir_store.specs.Stored.{Store}
use Rattle.hir_store.specs.declared.generics.GenericParams.{GenericParams}
use Rattle.hir_store.specs.declared.ids.TypeRefId.{TypeRefId}
use Rattle.hir_alias.specs.Reaching.{Names}

-- its type, where it has one, stands in its store, and `named` says of each of its lifetime parameters whether the type names it
pub record Alias : Type 0 where
  pub store : Store
  pub generic_params : GenericParams
  pub ty : Option TypeRefId
  pub named : List Bool

-- Flags for the lifetime parameters of an alias: as many as there are, each up where the type names the parameter at its place, and
-- nowhere else.
pub record Flags (store : Store) (generic_params : GenericParams) (ty : Option TypeRefId) (named : List Bool) : Type 0 where
  pub counted : length named ≡ length generic_params.lifetimes
  pub emitted : (place : ℕ) → (slice_get named place ≡ Some true) ↔ Names store generic_params.lifetimes ty place
