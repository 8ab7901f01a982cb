-- What small bodies with `?` do, computed.
use Rattle.std.proofs.Common.{refl}
use Rattle.spec_data.specs.Reading.{stored_path, stored_pat, stored_option_type, readers}
use Rattle.spec_semantics.specs.Run.{ends, event, ◌>>=◌}
use Rattle.spec_semantics.specs.Catching.{block}
use Rattle.spec_semantics.specs.Store.{takes, looks_up, run_store, run_to}
use Rattle.spec_semantics.specs.Questions.{GoesOn, ReturnsTheResidual, IsOfNeitherKind, LacksItsConversion, ItemlessIsMissing}
use Rattle.spec_semantics.specs.Questions.{AsksOfTheAnswer, NamesKeepTheirValues}

pub goes_on : GoesOn
unfolding ends event ◌>>=◌ block run_store run_to stored_path stored_pat stored_option_type readers takes looks_up
goes_on = record { written = record { events = refl; ends = refl }; stored = record { events = refl; ends = refl } }

pub returns_the_residual : ReturnsTheResidual
unfolding ends event ◌>>=◌ block run_store run_to stored_path stored_pat stored_option_type readers takes looks_up
returns_the_residual = record { written = record { events = refl; ends = refl }; stored = record { events = refl; ends = refl } }

pub is_of_neither_kind : IsOfNeitherKind
unfolding ends event ◌>>=◌ block run_store run_to stored_path stored_pat stored_option_type readers takes looks_up
is_of_neither_kind = record { written = record { events = refl; ends = refl }; stored = record { events = refl; ends = refl } }

pub lacks_its_conversion : LacksItsConversion
unfolding ends event ◌>>=◌ block run_store run_to stored_path stored_pat stored_option_type readers takes looks_up
lacks_its_conversion = (
  record { written = record { events = refl; ends = refl }; stored = record { events = refl; ends = refl } },
  record { written = record { events = refl; ends = refl }; stored = record { events = refl; ends = refl } },
)

pub itemless_is_missing : ItemlessIsMissing
unfolding ends event ◌>>=◌ block run_store run_to stored_path stored_pat stored_option_type readers takes looks_up
itemless_is_missing = record { written = record { events = refl; ends = refl }; stored = record { events = refl; ends = refl } }

pub asks_of_the_answer : AsksOfTheAnswer
unfolding ends event ◌>>=◌ block run_store run_to stored_path stored_pat stored_option_type readers takes looks_up
asks_of_the_answer = (
  record { written = record { events = refl; ends = refl }; stored = record { events = refl; ends = refl } },
  record { written = record { events = refl; ends = refl }; stored = record { events = refl; ends = refl } },
)

pub names_keep_their_values : NamesKeepTheirValues
unfolding ends event ◌>>=◌ block run_store run_to stored_path stored_pat stored_option_type readers takes looks_up
names_keep_their_values = (
  record { events = refl; ends = refl },
  record { events = refl; ends = refl },
  record { events = refl; ends = refl },
)
