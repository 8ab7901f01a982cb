-- Worked patterns, computed.
use Rattle.std.proofs.Common.{refl}
use Rattle.spec_data.specs.PatternRows.{ModesOfFirstUses, NamelessFieldsBind, RefusedBindsNothing, DotsHaveAPlace, DotsElsewhere}
use Rattle.spec_data.specs.PatternRows.{OneAlternative, SidesOfRanges, LimitsOfTypes, DataOfTargets, DataOfElements, ProblemsOfPatterns}

pub gives_the_first_mode : ModesOfFirstUses
gives_the_first_mode at a b = (refl, refl, refl)

pub counts_nameless_fields : NamelessFieldsBind
counts_nameless_fields at a b n by = refl

pub binds_nothing_where_refused : RefusedBindsNothing
binds_nothing_where_refused at a b n by = (refl, refl, refl, refl, refl)

pub places_two_dots : DotsHaveAPlace
places_two_dots at a b c = (refl, refl, refl)

pub keeps_other_dots : DotsElsewhere
keeps_other_dots at a b c = (refl, refl)

pub drops_the_or_of_one : OneAlternative
drops_the_or_of_one at a b = (refl, refl, refl)

pub reads_sides : SidesOfRanges
reads_sides at a b l = (refl, refl, refl, refl)

pub reads_limits_of_types : LimitsOfTypes
reads_limits_of_types at a b l i = (λ t. refl, λ t. refl, λ t. refl)

pub reads_targets : DataOfTargets
reads_targets at a b c e = (refl, refl, refl, refl, refl)

pub reads_elements : DataOfElements
reads_elements call at a e = (refl, refl, refl)

pub finds_problems : ProblemsOfPatterns
finds_problems at a b n = (refl, refl, refl, refl, refl, refl, refl)
