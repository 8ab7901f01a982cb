-- What small bodies with macro calls do, computed.
use Rattle.std.proofs.Common.{refl}
use Rattle.spec_data.specs.Reading.{stored_path}
use Rattle.spec_semantics.specs.Run.{ends, event, ◌>>=◌}
use Rattle.spec_semantics.specs.Catching.{loop, block}
use Rattle.spec_semantics.specs.Store.{run_store, run_to}
use Rattle.spec_semantics.specs.Macros.{RunsWhatItCorrespondsTo, CallsAreSilent, LeavesNoArgument, UnenteredIsMissing}
use Rattle.spec_semantics.specs.Macros.{SplicesItsTail, KeepsItsSemicolon, ReachesTheLabel, MissesTheLabel, EndsWithItsBlock}
use Rattle.spec_semantics.specs.Macros.{BeginsWhereItCorresponds, KeepsTheCallsSemicolon}

pub runs_what_it_corresponds_to : RunsWhatItCorrespondsTo
unfolding ends event ◌>>=◌ loop block run_store run_to stored_path
runs_what_it_corresponds_to = record { written = record { events = refl; ends = refl }; stored = record { events = refl; ends = refl } }

pub calls_are_silent : CallsAreSilent
calls_are_silent p c e = refl

pub leaves_no_argument : LeavesNoArgument
unfolding ends event ◌>>=◌ loop block run_store run_to stored_path
leaves_no_argument = record { written = record { events = refl; ends = refl }; stored = record { events = refl; ends = refl } }

pub unentered_is_missing : UnenteredIsMissing
unfolding ends event ◌>>=◌ loop block run_store run_to stored_path
unentered_is_missing = record { written = record { events = refl; ends = refl }; stored = record { events = refl; ends = refl } }

pub splices_its_tail : SplicesItsTail
unfolding ends event ◌>>=◌ loop block run_store run_to stored_path
splices_its_tail = record { written = record { events = refl; ends = refl }; stored = record { events = refl; ends = refl } }

pub keeps_its_semicolon : KeepsItsSemicolon
unfolding ends event ◌>>=◌ loop block run_store run_to stored_path
keeps_its_semicolon = record { written = record { events = refl; ends = refl }; stored = record { events = refl; ends = refl } }

pub keeps_the_calls_semicolon : KeepsTheCallsSemicolon
unfolding ends event ◌>>=◌ loop block run_store run_to stored_path
keeps_the_calls_semicolon = record { written = record { events = refl; ends = refl }; stored = record { events = refl; ends = refl } }

pub reaches_the_label : ReachesTheLabel
unfolding ends event ◌>>=◌ loop block run_store run_to stored_path
reaches_the_label = record { written = record { events = refl; ends = refl }; stored = record { events = refl; ends = refl } }

pub misses_the_label : MissesTheLabel
unfolding ends event ◌>>=◌ loop block run_store run_to stored_path
misses_the_label = record { written = record { events = refl; ends = refl }; stored = record { events = refl; ends = refl } }

pub ends_with_its_block : EndsWithItsBlock
unfolding ends event ◌>>=◌ loop block run_store run_to stored_path
ends_with_its_block = record { written = record { events = refl; ends = refl }; stored = record { events = refl; ends = refl } }

pub begins_where_it_corresponds : BeginsWhereItCorresponds
unfolding ends event ◌>>=◌ loop block run_store run_to stored_path
begins_where_it_corresponds = record { written = record { events = refl; ends = refl }; stored = record { events = refl; ends = refl } }
