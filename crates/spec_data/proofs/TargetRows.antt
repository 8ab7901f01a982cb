-- Worked targets, computed.
use Rattle.std.proofs.Common.{refl}
use Rattle.spec_data.specs.TargetRows.{WholeCallsLead, ElementsComeFromCalls, LackingIsMissing, DisabledCalls, CallsOfDisabled}
use Rattle.spec_data.specs.TargetRows.{DotsInParentheses, DotsThroughCalls, CalleesThroughCalls}

pub leads_from_whole_calls : WholeCallsLead
leads_from_whole_calls found at s t c d = (refl, refl, refl, refl)

pub reads_elements_by_calls : ElementsComeFromCalls
reads_elements_by_calls found at s t a b x y = (refl, refl, refl, refl, refl, refl)

pub misses_lacking_calls : LackingIsMissing
misses_lacking_calls found at s t x = (refl, refl, refl, refl)

pub goes_through_disabled_calls : DisabledCalls
goes_through_disabled_calls found at s a x why = (refl, refl, refl, refl)

pub leads_to_disabled_places : CallsOfDisabled
leads_to_disabled_places found at s t a b x y why by = (refl, refl, refl, refl, refl, refl)

pub finds_dots_through_calls : DotsThroughCalls
finds_dots_through_calls found at s t a b d x y form = (refl, refl, refl, refl)

pub keeps_dots_in_parentheses : DotsInParentheses
keeps_dots_in_parentheses found s t d c form = (refl, refl, refl)

pub finds_callees_through_calls : CalleesThroughCalls
finds_callees_through_calls found at s t a b c d p h = (refl, refl, refl)
