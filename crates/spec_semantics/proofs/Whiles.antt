-- What small bodies with `while` do, computed.
use Rattle.std.proofs.Common.{refl}
use Rattle.spec_data.specs.Reading.{stored_path, stored_pat, stored_option_type, readers}
use Rattle.spec_semantics.specs.Run.{ends, event, ◌>>=◌}
use Rattle.spec_semantics.specs.Catching.{loop, block}
use Rattle.spec_semantics.specs.Store.{run_store, run_to, takes, looks_up}
use Rattle.spec_semantics.specs.Whiles.{WhileHasNoIteration, AsksAgain, ContinuesTheWhile, JumpsInItsCondition, LeavesByItsCondition}
use Rattle.spec_semantics.specs.Conditions.{ItemsAreSilent}
use Rattle.spec_semantics.specs.Whiles.{EndsItsTemporaries, KeepsItsTemporaries}

pub while_has_no_iteration : WhileHasNoIteration
unfolding ends event ◌>>=◌ loop block run_store run_to stored_path stored_pat stored_option_type readers takes looks_up
while_has_no_iteration = record { written = record { events = refl; ends = refl }; stored = record { events = refl; ends = refl } }

pub asks_again : AsksAgain
unfolding ends event ◌>>=◌ loop block run_store run_to stored_path stored_pat stored_option_type readers takes looks_up
asks_again = (
  record { written = record { events = refl; ends = refl }; stored = record { events = refl; ends = refl } },
  record { written = record { events = refl; ends = refl }; stored = record { events = refl; ends = refl } },
)

pub continues_the_while : ContinuesTheWhile
unfolding ends event ◌>>=◌ loop block run_store run_to stored_path stored_pat stored_option_type readers takes looks_up
continues_the_while = record { written = record { events = refl; ends = refl }; stored = record { events = refl; ends = refl } }

pub jumps_in_its_condition : JumpsInItsCondition
unfolding ends event ◌>>=◌ loop block run_store run_to stored_path stored_pat stored_option_type readers takes looks_up
jumps_in_its_condition = (
  record { written = record { events = refl; ends = refl }; stored = record { events = refl; ends = refl } },
  record { written = record { events = refl; ends = refl }; stored = record { events = refl; ends = refl } },
)

pub leaves_by_its_condition : LeavesByItsCondition
unfolding ends event ◌>>=◌ loop block run_store run_to stored_path stored_pat stored_option_type readers takes looks_up
leaves_by_its_condition = record { written = record { events = refl; ends = refl }; stored = record { events = refl; ends = refl } }

pub ends_its_temporaries : EndsItsTemporaries
unfolding ends event ◌>>=◌ loop block run_store run_to stored_path stored_pat stored_option_type readers takes looks_up
ends_its_temporaries = (
  record { written = record { events = refl; ends = refl }; stored = record { events = refl; ends = refl } },
  record { written = record { events = refl; ends = refl }; stored = record { events = refl; ends = refl } },
)

pub keeps_its_temporaries : KeepsItsTemporaries
unfolding ends event ◌>>=◌ loop block run_store run_to stored_path stored_pat stored_option_type readers takes looks_up
keeps_its_temporaries = (
  record { written = record { events = refl; ends = refl }; stored = record { events = refl; ends = refl } },
  record { written = record { events = refl; ends = refl }; stored = record { events = refl; ends = refl } },
)

pub items_are_silent : ItemsAreSilent
unfolding ends event ◌>>=◌ block run_store run_to stored_path
items_are_silent = record { written = record { events = refl; ends = refl }; stored = record { events = refl; ends = refl } }
