-- What small bodies with coroutine blocks do, computed.
use Rattle.std.proofs.Common.{refl}
use Rattle.spec_data.specs.Reading.{stored_path, stored_pat, stored_option_type, readers}
use Rattle.spec_semantics.specs.Run.{ends, event, ◌>>=◌}
use Rattle.spec_semantics.specs.Catching.{loop, block}
use Rattle.spec_semantics.specs.Coroutines.{MakesACoroutine, EntersAtNoNode, KeepsItsYield, StraysFromItsCoroutine, ReturnsFromItsCoroutine}
use Rattle.spec_semantics.specs.Inner.{inners, inner_bodies}
use Rattle.spec_semantics.specs.Store.{takes, looks_up, run_store, run_to}

pub makes_a_coroutine : MakesACoroutine
unfolding ends event ◌>>=◌ block run_store run_to stored_option_type readers inner_bodies inners
makes_a_coroutine k = (
  record { written = record { events = refl; ends = refl }; stored = record { events = refl; ends = refl } },
  record { written = record { events = refl; ends = refl }; stored = record { events = refl; ends = refl } },
  record { listed = refl; stored = refl },
  record { written = record { events = refl; ends = refl }; stored = record { events = refl; ends = refl } },
)

pub enters_at_no_node : EntersAtNoNode
unfolding ends event ◌>>=◌ block run_store run_to stored_option_type readers inner_bodies inners
enters_at_no_node k = (
  record { written = record { events = refl; ends = refl }; stored = record { events = refl; ends = refl } },
  record { listed = refl; stored = refl },
  record { written = record { events = refl; ends = refl }; stored = record { events = refl; ends = refl } },
)

pub keeps_its_yield : KeepsItsYield
unfolding ends event ◌>>=◌ block run_store run_to stored_path stored_option_type readers inner_bodies inners
keeps_its_yield = (
  record { written = record { events = refl; ends = refl }; stored = record { events = refl; ends = refl } },
  record { listed = refl; stored = refl },
  record { written = record { events = refl; ends = refl }; stored = record { events = refl; ends = refl } },
  record { written = record { events = refl; ends = refl }; stored = record { events = refl; ends = refl } },
)

pub strays_from_its_coroutine : StraysFromItsCoroutine
unfolding ends event ◌>>=◌ loop block run_store run_to stored_option_type readers inner_bodies inners
strays_from_its_coroutine = (
  record { written = record { events = refl; ends = refl }; stored = record { events = refl; ends = refl } },
  record { listed = refl; stored = refl },
  record { written = record { events = refl; ends = refl }; stored = record { events = refl; ends = refl } },
  record { written = record { events = refl; ends = refl }; stored = record { events = refl; ends = refl } },
  record { listed = refl; stored = refl },
  record { written = record { events = refl; ends = refl }; stored = record { events = refl; ends = refl } },
)

pub returns_from_its_coroutine : ReturnsFromItsCoroutine
unfolding ends event ◌>>=◌ block run_store run_to stored_path stored_pat stored_option_type readers takes looks_up inner_bodies inners
returns_from_its_coroutine = (
  record { written = record { events = refl; ends = refl }; stored = record { events = refl; ends = refl } },
  record { written = record { events = refl; ends = refl }; stored = record { events = refl; ends = refl } },
  record { listed = refl; stored = refl },
  record { written = record { events = refl; ends = refl }; stored = record { events = refl; ends = refl } },
)
