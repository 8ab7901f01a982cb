-- Whether a lifetime parameter is bound early or late, by the sets of all that names lifetimes in its function.
use Rattle.std.specs.Prelude.{Bool, true, false, not, ◌&&◌, ◌||◌, List}
use Rattle.std.specs.List.{list_any}
use Rattle.hir_store.specs.Names.{same_name}
use Rattle.hir_store.specs.declared.generics.LifetimeBoundType.{LifetimeBoundType}
use Rattle.hir_store.specs.declared.generics.LifetimeBoundType.TheVariants.{EarlyBound, LateBound}
use Rattle.hir_store.specs.declared.name.Name.{Name}
use Rattle.spec_data.specs.Tracking.{Tracking}

-- the names in bounds, in arguments and in what is returned; neither their order counts nor how often one is among them
pub record LifetimeSets : Type 0 where
  pub bounds : List Name
  pub input : List Name
  pub output : List Name

abbrev pub sets_of : Tracking → LifetimeSets
sets_of n = record { bounds = n.bounds; input = n.input; output = n.output }

abbrev pub among : Name → List Name → Bool
among n ns = list_any (same_name n) ns

-- where a bound names it, or what is returned names it and no argument constrains it
abbrev pub is_early : LifetimeSets → Name → Bool
is_early s n = among n s.bounds || (among n s.output && not (among n s.input))

abbrev pub kind_by : Bool → LifetimeBoundType
kind_by true = EarlyBound
kind_by false = LateBound

abbrev pub bound_kind : LifetimeSets → Name → LifetimeBoundType
bound_kind s n = kind_by (is_early s n)
