-- What small bodies with closures do, computed.
use Rattle.std.proofs.Common.{refl}
use Rattle.spec_data.specs.Reading.{stored_path, stored_pat, stored_type, stored_option_type, readers}
use Rattle.spec_semantics.specs.Run.{ends, event, ◌>>=◌}
use Rattle.spec_semantics.specs.Catching.{loop, block}
use Rattle.spec_semantics.specs.Closures.{MakesAClosure, IsAnOldCoroutine, CountsNoYieldInside, StraysFromItsClosure}
use Rattle.spec_semantics.specs.Inner.{inners, inner_bodies}
use Rattle.spec_semantics.specs.Store.{run_store, run_to}

pub makes_a_closure : MakesAClosure
unfolding ends event ◌>>=◌ run_store run_to stored_path stored_pat stored_type stored_option_type readers inner_bodies inners
makes_a_closure by = (
  record { written = record { events = refl; ends = refl }; stored = record { events = refl; ends = refl } },
  record { listed = refl; stored = refl },
  record { written = record { events = refl; ends = refl }; stored = record { events = refl; ends = refl } },
)

pub is_an_old_coroutine : IsAnOldCoroutine
unfolding ends event ◌>>=◌ run_store run_to stored_option_type readers inner_bodies inners
is_an_old_coroutine = (
  record { written = record { events = refl; ends = refl }; stored = record { events = refl; ends = refl } },
  record { listed = refl; stored = refl },
  record { written = record { events = refl; ends = refl }; stored = record { events = refl; ends = refl } },
)

pub counts_no_yield_inside : CountsNoYieldInside
unfolding ends event ◌>>=◌ run_store run_to stored_option_type readers inner_bodies inners
counts_no_yield_inside = (
  record { written = record { events = refl; ends = refl }; stored = record { events = refl; ends = refl } },
  record { listed = refl; stored = refl },
  record { written = record { events = refl; ends = refl }; stored = record { events = refl; ends = refl } },
  record { written = record { events = refl; ends = refl }; stored = record { events = refl; ends = refl } },
  record { listed = refl; stored = refl },
)

pub strays_from_its_closure : StraysFromItsClosure
unfolding ends event ◌>>=◌ loop block run_store run_to stored_option_type readers inner_bodies inners
strays_from_its_closure = (
  record { written = record { events = refl; ends = refl }; stored = record { events = refl; ends = refl } },
  record { listed = refl; stored = refl },
  record { written = record { events = refl; ends = refl }; stored = record { events = refl; ends = refl } },
)
