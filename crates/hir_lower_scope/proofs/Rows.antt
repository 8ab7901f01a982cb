-- What small lists of scopes have for a jump, computed.
use Rattle.std.proofs.Common.{refl}
use Rattle.hir_lower_scope.specs.Theorems.{ClimbsOut, StaysInside, TurnsInCircles, ClimbsTwice, RootStays, BehindBarriers, InnerHides}
use Rattle.hir_lower_scope.specs.Theorems.{InnermostTry}

pub climbs_out : ClimbsOut
climbs_out = refl

pub stays_inside : StaysInside
stays_inside = refl

pub turns_in_circles : TurnsInCircles
turns_in_circles = refl

pub climbs_twice : ClimbsTwice
climbs_twice = record { once = refl; twice = refl; again = refl }

pub root_stays : RootStays
root_stays = refl

pub behind_barriers : BehindBarriers
behind_barriers = record { there = refl; there_behind_two = refl; nowhere = refl; nowhere_behind_two = refl }

pub inner_hides : InnerHides
inner_hides = refl

pub innermost_try_found : InnermostTry
innermost_try_found = record { inner = refl; outer = refl; hidden = refl; passed = refl }
