-- What small bodies with `for` do, computed.
use Rattle.std.proofs.Common.{refl}
use Rattle.spec_data.specs.Reading.{stored_path, stored_pat, stored_option_type, readers}
use Rattle.spec_semantics.specs.Run.{ends, event, ◌>>=◌}
use Rattle.spec_semantics.specs.Catching.{loop, block}
use Rattle.spec_semantics.specs.Store.{takes, looks_up, run_store, run_to}
use Rattle.spec_semantics.specs.Fors.{AsksForTheNext, HasItsFuel, IsNeitherNoneNorGiven, KeepsItsIterator, LeavesByItsBody}
use Rattle.spec_semantics.specs.Fors.{ContinuesTheFor}
use Rattle.spec_semantics.specs.Fors.{LeavesByItsHead, HeadAsWritten, ForItemlessIsMissing, RefersSilently}

pub asks_for_the_next : AsksForTheNext
unfolding ends event ◌>>=◌ loop block run_store run_to stored_path stored_pat stored_option_type readers takes looks_up
asks_for_the_next = record { written = record { events = refl; ends = refl }; stored = record { events = refl; ends = refl } }

pub has_its_fuel : HasItsFuel
unfolding ends event ◌>>=◌ loop block run_store run_to stored_path stored_pat stored_option_type readers takes looks_up
has_its_fuel = (
  record { written = record { events = refl; ends = refl }; stored = record { events = refl; ends = refl } },
  record { written = record { events = refl; ends = refl }; stored = record { events = refl; ends = refl } },
)

pub is_neither_none_nor_given : IsNeitherNoneNorGiven
unfolding ends event ◌>>=◌ loop block run_store run_to stored_path stored_pat stored_option_type readers takes looks_up
is_neither_none_nor_given = record { written = record { events = refl; ends = refl }; stored = record { events = refl; ends = refl } }

pub keeps_its_iterator : KeepsItsIterator
unfolding ends event ◌>>=◌ loop block run_store run_to stored_path stored_pat stored_option_type readers takes looks_up
keeps_its_iterator = record { written = record { events = refl; ends = refl }; stored = record { events = refl; ends = refl } }

pub leaves_by_its_body : LeavesByItsBody
unfolding ends event ◌>>=◌ loop block run_store run_to stored_path stored_pat stored_option_type readers takes looks_up
leaves_by_its_body = record { written = record { events = refl; ends = refl }; stored = record { events = refl; ends = refl } }

pub continues_the_for : ContinuesTheFor
unfolding ends event ◌>>=◌ loop block run_store run_to stored_path stored_pat stored_option_type readers takes looks_up
continues_the_for = record { written = record { events = refl; ends = refl }; stored = record { events = refl; ends = refl } }

pub leaves_by_its_head : LeavesByItsHead
unfolding ends event ◌>>=◌ loop block run_store run_to stored_path stored_pat stored_option_type readers takes looks_up
leaves_by_its_head = (
  record { written = record { events = refl; ends = refl }; stored = record { events = refl; ends = refl } },
  record { written = record { events = refl; ends = refl }; stored = record { events = refl; ends = refl } },
  record { written = record { events = refl; ends = refl }; stored = record { events = refl; ends = refl } },
)

pub head_as_written : HeadAsWritten
head_as_written n m why l o = (refl, refl, refl)

pub for_itemless_is_missing : ForItemlessIsMissing
unfolding ends event ◌>>=◌ loop block run_store run_to stored_path stored_pat stored_option_type readers takes looks_up
for_itemless_is_missing p h b = (
  record { written = record { events = refl; ends = refl }; stored = record { events = refl; ends = refl } },
  record { written = record { events = refl; ends = refl }; stored = record { events = refl; ends = refl } },
  record { written = record { events = refl; ends = refl }; stored = record { events = refl; ends = refl } },
  record { written = record { events = refl; ends = refl }; stored = record { events = refl; ends = refl } },
)

pub refers_silently : RefersSilently
unfolding ends event ◌>>=◌ loop block run_store run_to stored_path stored_pat stored_option_type readers takes looks_up
refers_silently = (
  record { written = record { events = refl; ends = refl }; stored = record { events = refl; ends = refl } },
  record { events = refl; ends = refl },
  record { events = refl; ends = refl },
  record { events = refl; ends = refl },
)
