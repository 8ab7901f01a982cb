-- Worked functions, computed.
use Rattle.std.proofs.Common.{◌≡◌, refl}
use Rattle.hir_store.specs.Pointers.{Pointer}
use Rattle.hir_env.specs.declared.ctx.LifetimeScope.{LifetimeScope}
use Rattle.hir_env.specs.declared.ctx.LifetimeScope.TheVariants as scope
use Rattle.spec_data.specs.Tracking.{one_name}
use Rattle.spec_data.specs.Fold.{tracked_in_type}
use Rattle.spec_data.specs.SetsExample.{a, length_with}
use Rattle.spec_data.specs.SetsExample.{AliasConstrainsWhatItNames, BoundIsEarly, ConstrainedIsLate, ImplsTrack, InnerImplsFirst}
use Rattle.spec_data.specs.SetsExample.{NamelessCountNowhere, ProjectionConstrainsNothing, RefusedConstrainsByAll, ReturnedAloneIsEarly}

pub constrained_is_late : ConstrainedIsLate
constrained_is_late at = refl

pub returned_alone_is_early : ReturnedAloneIsEarly
returned_alone_is_early at = (refl, refl)

pub bound_is_early : BoundIsEarly
bound_is_early at = (refl, refl)

pub nameless_count_nowhere : NamelessCountNowhere
nameless_count_nowhere at s = (refl, refl, refl)

pub projection_constrains_nothing : ProjectionConstrainsNothing
projection_constrains_nothing at = refl

pub alias_constrains_what_it_names : AliasConstrainsWhatItNames
alias_constrains_what_it_names at = (refl, refl, refl, refl, refl)

pub refused_constrains_by_all : RefusedConstrainsByAll
refused_constrains_by_all at = (refl, refl, refl)

pub constants_count : (at : Pointer) (s : LifetimeScope) → tracked_in_type (length_with at s) ≡ one_name s a
constants_count at scope.Nowhere = refl
constants_count at scope.Bound = refl
constants_count at scope.Input = refl
constants_count at scope.Projection = refl
constants_count at scope.Output = refl

pub impls_track : ImplsTrack
impls_track at def = (refl, refl, refl, refl)

pub inner_impls_first : InnerImplsFirst
inner_impls_first at inside def = refl
