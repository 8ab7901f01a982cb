-- What small bodies with repeat arrays and const blocks do, computed.
use Rattle.std.proofs.Common.{refl}
use Rattle.spec_data.specs.Reading.{stored_path, stored_pat, readers}
use Rattle.spec_semantics.specs.Run.{ends, event, ◌>>=◌}
use Rattle.spec_semantics.specs.Catching.{loop, block}
use Rattle.spec_semantics.specs.Constants.{RepeatsItsOperand, HasItsBlockInside, StraysFromItsLength, ReturnsFromItsLength}
use Rattle.spec_semantics.specs.Inner.{inners, inner_bodies}
use Rattle.spec_semantics.specs.Store.{takes, looks_up, run_store, run_to}

pub repeats_its_operand : RepeatsItsOperand
unfolding ends event ◌>>=◌ run_store run_to inner_bodies inners
repeats_its_operand = (
  record { written = record { events = refl; ends = refl }; stored = record { events = refl; ends = refl } },
  record { listed = refl; stored = refl },
  record { written = record { events = refl; ends = refl }; stored = record { events = refl; ends = refl } },
)

pub has_its_block_inside : HasItsBlockInside
unfolding ends event ◌>>=◌ block run_store run_to inner_bodies inners
has_its_block_inside = (
  record { written = record { events = refl; ends = refl }; stored = record { events = refl; ends = refl } },
  record { listed = refl; stored = refl },
  record { written = record { events = refl; ends = refl }; stored = record { events = refl; ends = refl } },
)

pub strays_from_its_length : StraysFromItsLength
unfolding ends event ◌>>=◌ loop block run_store run_to inner_bodies inners
strays_from_its_length = (
  record { written = record { events = refl; ends = refl }; stored = record { events = refl; ends = refl } },
  record { listed = refl; stored = refl },
  record { written = record { events = refl; ends = refl }; stored = record { events = refl; ends = refl } },
)

pub returns_from_its_length : ReturnsFromItsLength
unfolding ends event ◌>>=◌ block run_store run_to stored_path stored_pat readers takes looks_up inner_bodies inners
returns_from_its_length = (
  record { written = record { events = refl; ends = refl }; stored = record { events = refl; ends = refl } },
  record { listed = refl; stored = refl },
  record { written = record { events = refl; ends = refl }; stored = record { events = refl; ends = refl } },
)
