-- What small bodies with `try` do, computed.
use Rattle.std.proofs.Common.{refl}
use Rattle.spec_data.specs.Reading.{stored_path, stored_type, stored_pat, stored_option_type, readers}
use Rattle.spec_semantics.specs.Run.{ends, event, ◌>>=◌}
use Rattle.spec_semantics.specs.Catching.{loop, block}
use Rattle.spec_semantics.specs.Store.{takes, looks_up, run_store, run_to}
use Rattle.spec_semantics.specs.Tries.{LeavesTheTry, LacksItsConversionInside, LacksItsOutput, LeavesTheInnerTry, GoesOnToTheOutput}
use Rattle.spec_semantics.specs.Tries.{LeavesPastTheLoop, GoesThroughTheOutput, BindsToItsType, ConvertsAsForABody, JumpsPassTheTry}
use Rattle.spec_semantics.specs.Tries.{BarrierHidesTheTry}

pub leaves_the_try : LeavesTheTry
unfolding ends event ◌>>=◌ block run_store run_to stored_path stored_pat stored_option_type readers takes looks_up
leaves_the_try = record { written = record { events = refl; ends = refl }; stored = record { events = refl; ends = refl } }

pub lacks_its_conversion_inside : LacksItsConversionInside
unfolding ends event ◌>>=◌ block run_store run_to stored_path stored_pat stored_option_type readers takes looks_up
lacks_its_conversion_inside = record { written = record { events = refl; ends = refl }; stored = record { events = refl; ends = refl } }

pub lacks_its_output : LacksItsOutput
unfolding ends event ◌>>=◌ block run_store run_to stored_path stored_pat stored_option_type readers takes looks_up
lacks_its_output = (
  record { written = record { events = refl; ends = refl }; stored = record { events = refl; ends = refl } },
  record { written = record { events = refl; ends = refl }; stored = record { events = refl; ends = refl } },
)

pub leaves_the_inner_try : LeavesTheInnerTry
unfolding ends event ◌>>=◌ block run_store run_to stored_path stored_pat stored_option_type readers takes looks_up
leaves_the_inner_try = record { written = record { events = refl; ends = refl }; stored = record { events = refl; ends = refl } }

pub leaves_past_the_loop : LeavesPastTheLoop
unfolding ends event ◌>>=◌ loop block run_store run_to stored_path stored_pat stored_option_type readers takes looks_up
leaves_past_the_loop = record { written = record { events = refl; ends = refl }; stored = record { events = refl; ends = refl } }

pub goes_on_to_the_output : GoesOnToTheOutput
unfolding ends event ◌>>=◌ block run_store run_to stored_path stored_pat stored_option_type readers takes looks_up
goes_on_to_the_output = (
  record { written = record { events = refl; ends = refl }; stored = record { events = refl; ends = refl } },
  record { written = record { events = refl; ends = refl }; stored = record { events = refl; ends = refl } },
)

pub goes_through_the_output : GoesThroughTheOutput
unfolding ends event ◌>>=◌ block run_store run_to stored_path
goes_through_the_output = (
  record { written = record { events = refl; ends = refl }; stored = record { events = refl; ends = refl } },
  record { written = record { events = refl; ends = refl }; stored = record { events = refl; ends = refl } },
  record { written = record { events = refl; ends = refl }; stored = record { events = refl; ends = refl } },
  record { written = record { events = refl; ends = refl }; stored = record { events = refl; ends = refl } },
)

pub binds_to_its_type : BindsToItsType
unfolding ends event ◌>>=◌ block run_store run_to stored_path stored_pat stored_type stored_option_type readers takes looks_up
binds_to_its_type = record { written = record { events = refl; ends = refl }; stored = record { events = refl; ends = refl } }

pub converts_as_for_a_body : ConvertsAsForABody
unfolding ends event ◌>>=◌ block run_store run_to stored_path stored_pat stored_type stored_option_type readers takes looks_up
converts_as_for_a_body = record { written = record { events = refl; ends = refl }; stored = record { events = refl; ends = refl } }

pub jumps_pass_the_try : JumpsPassTheTry
unfolding ends event ◌>>=◌ loop block run_store run_to stored_path
jumps_pass_the_try = (
  record { written = record { events = refl; ends = refl }; stored = record { events = refl; ends = refl } },
  record { written = record { events = refl; ends = refl }; stored = record { events = refl; ends = refl } },
  record { written = record { events = refl; ends = refl }; stored = record { events = refl; ends = refl } },
)

pub barrier_hides_the_try : BarrierHidesTheTry
unfolding ends event ◌>>=◌
barrier_hides_the_try fuel typed = refl
