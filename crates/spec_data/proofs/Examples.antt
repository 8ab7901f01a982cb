-- The rule, computed.
use Rattle.std.proofs.Common.{refl}
use Rattle.spec_data.specs.Examples.{SuperAfterSelf, KeywordsInside, CrateHidesSupers, DollarCrateIsARoot, SupersInside}
use Rattle.spec_data.specs.Examples.{SelfAlone, UseTreesStandInFront, AbsentIsMissing}
use Rattle.spec_data.specs.Examples.{TraitInPlace, TypeInFront, OutputIsBound, BinderOfFunctions, LengthsBySites}
use Rattle.spec_data.specs.Examples.{BoundsOfKinds, FirstOfLists, BindingsOfLists, WhatCallsStandFor}

pub counts_super_after_self : SuperAfterSelf
counts_super_after_self = refl

pub refuses_keywords_inside : KeywordsInside
refuses_keywords_inside = (refl, refl, refl)

pub hides_supers_by_crate : CrateHidesSupers
hides_supers_by_crate = (refl, refl)

pub reads_dollar_crate : DollarCrateIsARoot
reads_dollar_crate = (λ c. refl, refl)

pub counts_supers_inside : SupersInside
counts_supers_inside = refl

pub reads_self_alone : SelfAlone
reads_self_alone = (refl, refl)

pub reads_use_trees_in_front : UseTreesStandInFront
reads_use_trees_in_front = (refl, refl, refl)

pub names_what_is_absent : AbsentIsMissing
names_what_is_absent = (refl, refl, refl)

pub puts_traits_in_place : TraitInPlace
puts_traits_in_place t at = (refl, refl, refl)

pub reads_types_in_front : TypeInFront
reads_types_in_front t = refl

pub binds_output : OutputIsBound
binds_output a b = (refl, refl, refl)

pub hands_binders_on : BinderOfFunctions
hands_binders_on at within h b t = (refl, refl, refl)

pub reads_bounds : BoundsOfKinds
reads_bounds at n = (refl, refl, refl, refl)

pub takes_the_first_list : FirstOfLists
takes_the_first_list t b = (refl, refl, refl, refl)

pub reads_bindings : BindingsOfLists
reads_bindings t u n l = (refl, refl, refl)

pub names_lengths_by_sites : LengthsBySites
names_lengths_by_sites at here around t p h why c head fs s = (refl, refl, refl, refl, refl, refl, refl)

pub reads_calls : WhatCallsStandFor
reads_calls at c b t p = (refl, refl, refl, refl, refl)
