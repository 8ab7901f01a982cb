-- What small bodies of forms with patterns do, computed.
use Rattle.std.proofs.Common.{refl}
use Rattle.spec_data.specs.Reading.{stored_path, stored_pat, stored_option_type, readers}
use Rattle.spec_semantics.specs.Run.{ends, event, ◌>>=◌}
use Rattle.spec_semantics.specs.Catching.{loop, block}
use Rattle.spec_semantics.specs.Places.{places, places_to}
use Rattle.spec_semantics.specs.Store.{run_store, run_to}
use Rattle.spec_semantics.specs.Patterned.{AssignsInOrder, TestsThePattern, TriesTheArms, LeavesByElse, BindsNoValue, MakesRanges}
use Rattle.spec_semantics.specs.Patterned.{CallsForTheLast}

pub assigns_in_order : AssignsInOrder
unfolding ends event ◌>>=◌ loop block run_store run_to stored_path stored_pat stored_option_type readers places places_to
assigns_in_order e = record { written = record { events = refl; ends = refl }; stored = record { events = refl; ends = refl } }

pub tests_the_pattern : TestsThePattern
unfolding ends event ◌>>=◌ loop block run_store run_to stored_path stored_pat stored_option_type readers places places_to
tests_the_pattern = record { written = record { events = refl; ends = refl }; stored = record { events = refl; ends = refl } }

pub tries_the_arms : TriesTheArms
unfolding ends event ◌>>=◌ loop block run_store run_to stored_path stored_pat stored_option_type readers places places_to
tries_the_arms by = (
  record { written = record { events = refl; ends = refl }; stored = record { events = refl; ends = refl } },
  record { written = record { events = refl; ends = refl }; stored = record { events = refl; ends = refl } },
  record { written = record { events = refl; ends = refl }; stored = record { events = refl; ends = refl } },
  record { written = record { events = refl; ends = refl }; stored = record { events = refl; ends = refl } },
)

pub leaves_by_else : LeavesByElse
unfolding ends event ◌>>=◌ loop block run_store run_to stored_path stored_pat stored_option_type readers places places_to
leaves_by_else = (
  record { written = record { events = refl; ends = refl }; stored = record { events = refl; ends = refl } },
  record { written = record { events = refl; ends = refl }; stored = record { events = refl; ends = refl } },
)

pub binds_no_value : BindsNoValue
unfolding ends event ◌>>=◌ loop block run_store run_to stored_path stored_pat stored_option_type readers places places_to
binds_no_value by = record { written = record { events = refl; ends = refl }; stored = record { events = refl; ends = refl } }

pub makes_ranges : MakesRanges
unfolding ends event ◌>>=◌ loop block run_store run_to stored_path stored_pat stored_option_type readers places places_to
makes_ranges i = (
  record { written = record { events = refl; ends = refl }; stored = record { events = refl; ends = refl } },
  record { written = record { events = refl; ends = refl }; stored = record { events = refl; ends = refl } },
  record { written = record { events = refl; ends = refl }; stored = record { events = refl; ends = refl } },
  record { written = record { events = refl; ends = refl }; stored = record { events = refl; ends = refl } },
)

pub calls_for_the_last : CallsForTheLast
unfolding ends event ◌>>=◌ loop block run_store run_to stored_path stored_pat stored_option_type readers places places_to
calls_for_the_last i = (record { events = refl; ends = refl }, record { events = refl; ends = refl })
