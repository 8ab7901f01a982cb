-- Generic parameters, found by name and counted.
use Rattle.std.specs.Prelude.{ℕ, zero, suc, Bool, false, nat_lt, if◌then◌else◌, List, [], ◌∷◌, Option, Some, None}
use Rattle.either.specs.declared.Either.{Either}
use Rattle.either.specs.declared.Either.TheVariants.{Left, Right}
use Rattle.hir_store.specs.Names.{same_name}
use Rattle.hir_store.specs.declared.ids.GenericDefId.{GenericDefId}
use Rattle.hir_store.specs.declared.ids.LifetimeParamId.{LifetimeParamId}
use Rattle.hir_store.specs.declared.ids.LifetimeRefId.{LifetimeRefId}
use Rattle.hir_store.specs.declared.ids.LocalTypeOrConstParamId.{LocalTypeOrConstParamId}
use Rattle.hir_store.specs.declared.ids.TypeParamId.{TypeParamId}
use Rattle.hir_store.specs.declared.ids.TypeRefId.{TypeRefId}
use Rattle.hir_store.specs.declared.name.Name.{Name}
use Rattle.hir_store.specs.declared.generics.TypeParamProvenance.{TypeParamProvenance}
use Rattle.hir_store.specs.declared.generics.TypeParamProvenance.TheVariants as from
use Rattle.hir_store.specs.declared.generics.TypeParamData.{TypeParamData}
use Rattle.hir_store.specs.declared.generics.ConstParamData.{ConstParamData}
use Rattle.hir_store.specs.declared.generics.TypeOrConstParamData.{TypeOrConstParamData}
use Rattle.hir_store.specs.declared.generics.TypeOrConstParamData.TheVariants as param
use Rattle.hir_store.specs.declared.generics.LifetimeBoundType.{LifetimeBoundType}
use Rattle.hir_store.specs.declared.generics.LifetimeBoundType.TheVariants as kind
use Rattle.hir_store.specs.declared.generics.LifetimeParamData.{LifetimeParamData}
use Rattle.hir_store.specs.declared.generics.WherePredicate.{WherePredicate}
use Rattle.hir_store.specs.declared.generics.WherePredicate.TheVariants as predicate

abbrev pub is_called : Name → LifetimeParamData → Bool
is_called n p = same_name p.name n

abbrev pub is_named : Name → Option Name → Bool
is_named n None = false
is_named n (Some m) = same_name m n

-- a constant parameter isn't a type parameter
abbrev pub is_type_called : Name → TypeOrConstParamData → Bool
is_type_called n (param.TypeParamData p) = is_named n p.name
is_type_called n (param.ConstParamData c) = false

abbrev pub name_of : TypeOrConstParamData → Option Name
name_of (param.TypeParamData p) = p.name
name_of (param.ConstParamData c) = Some c.name

abbrev pub type_of : TypeOrConstParamData → Option TypeParamData
type_of (param.TypeParamData p) = Some p
type_of (param.ConstParamData c) = None

abbrev pub const_of : TypeOrConstParamData → Option ConstParamData
const_of (param.TypeParamData p) = None
const_of (param.ConstParamData c) = Some c

-- the parameter at a place that was found; numbers end at 4294967295
abbrev pub type_found : GenericDefId → Option ℕ → Option TypeParamId
type_found parent None = None
type_found parent (Some k) =
    if nat_lt 4294967295 k then None else Some (record { parent = parent; local_id = record { 0 = k } })

abbrev pub lifetime_found : GenericDefId → Option ℕ → Option LifetimeParamId
lifetime_found parent None = None
lifetime_found parent (Some k) =
    if nat_lt 4294967295 k then None else Some (record { parent = parent; local_id = record { 0 = k } })

abbrev pub self_place : TypeParamProvenance → Option LocalTypeOrConstParamId
self_place from.TypeParamList = None
self_place from.TraitSelf = Some (record { 0 = 0 })
self_place from.ArgumentImplTrait = None

-- where the first parameter is a trait's `Self`
abbrev pub own_self : List TypeOrConstParamData → Option LocalTypeOrConstParamId
own_self [] = None
own_self (param.TypeParamData p ∷ ps) = self_place p.provenance
own_self (param.ConstParamData c ∷ ps) = None

abbrev pub one_early : LifetimeBoundType → ℕ → ℕ
one_early kind.EarlyBound n = suc n
one_early kind.LateBound n = n

-- how many are early bound
abbrev pub early_among : List LifetimeParamData → ℕ
early_among [] = zero
early_among (p ∷ ps) = one_early p.bound_type (early_among ps)

abbrev pub target_of : WherePredicate → Either TypeRefId LifetimeRefId
target_of (predicate.TypeBound lifetimes target bound) = Left target
target_of (predicate.Lifetime target bound) = Right target
