-- What small bodies with `async` and `gen` closures do, computed.
use Rattle.std.proofs.Common.{refl}
use Rattle.spec_data.specs.Reading.{stored_path, stored_pat, stored_option_type, readers}
use Rattle.spec_semantics.specs.Run.{ends, event, ◌>>=◌}
use Rattle.spec_semantics.specs.Catching.{loop, block}
use Rattle.spec_semantics.specs.CoroutineClosures.{HandsInByName, HandsInByItsName, HandsInByGeneratedNames, MissesItsBody}
use Rattle.spec_semantics.specs.CoroutineClosures.{StraysFromItsCoroutineClosure}
use Rattle.spec_semantics.specs.CoroutineFunctions.{HandsInInOrder, KeepsConstantsInItsCoroutine}
use Rattle.spec_semantics.specs.Inner.{inners, inner_bodies}
use Rattle.spec_semantics.specs.Store.{takes, looks_up, run_store, run_to}

pub hands_in_by_name : HandsInByName
unfolding ends event ◌>>=◌ block run_store run_to stored_path stored_pat stored_option_type readers takes looks_up inner_bodies inners
hands_in_by_name k h = (
  record {
    made_once = record { written = record { events = refl; ends = refl }; stored = record { events = refl; ends = refl } };
    bodies = record { listed = refl; stored = refl };
    making = record { written = record { events = refl; ends = refl }; stored = record { events = refl; ends = refl } };
    runs = record { written = record { events = refl; ends = refl }; stored = record { events = refl; ends = refl } };
  },
  record {
    made_once = record { written = record { events = refl; ends = refl }; stored = record { events = refl; ends = refl } };
    bodies = record { listed = refl; stored = refl };
    making = record { written = record { events = refl; ends = refl }; stored = record { events = refl; ends = refl } };
    runs = record { written = record { events = refl; ends = refl }; stored = record { events = refl; ends = refl } };
  },
  record {
    made_once = record { written = record { events = refl; ends = refl }; stored = record { events = refl; ends = refl } };
    bodies = record { listed = refl; stored = refl };
    making = record { written = record { events = refl; ends = refl }; stored = record { events = refl; ends = refl } };
    runs = record { written = record { events = refl; ends = refl }; stored = record { events = refl; ends = refl } };
  },
)

pub hands_in_by_its_name : HandsInByItsName
unfolding ends event ◌>>=◌ block run_store run_to stored_path stored_pat stored_option_type readers takes looks_up inner_bodies inners
hands_in_by_its_name k h = (
  record {
    made_once = record { written = record { events = refl; ends = refl }; stored = record { events = refl; ends = refl } };
    bodies = record { listed = refl; stored = refl };
    making = record { written = record { events = refl; ends = refl }; stored = record { events = refl; ends = refl } };
    runs = record { written = record { events = refl; ends = refl }; stored = record { events = refl; ends = refl } };
  },
  record {
    made_once = record { written = record { events = refl; ends = refl }; stored = record { events = refl; ends = refl } };
    bodies = record { listed = refl; stored = refl };
    making = record { written = record { events = refl; ends = refl }; stored = record { events = refl; ends = refl } };
    runs = record { written = record { events = refl; ends = refl }; stored = record { events = refl; ends = refl } };
  },
  record {
    made_once = record { written = record { events = refl; ends = refl }; stored = record { events = refl; ends = refl } };
    bodies = record { listed = refl; stored = refl };
    making = record { written = record { events = refl; ends = refl }; stored = record { events = refl; ends = refl } };
    runs = record { written = record { events = refl; ends = refl }; stored = record { events = refl; ends = refl } };
  },
)

pub hands_in_by_generated_names : HandsInByGeneratedNames
unfolding ends event ◌>>=◌ block run_store run_to stored_path stored_pat stored_option_type readers takes looks_up inner_bodies inners
hands_in_by_generated_names k by = record {
  made_once = record { written = record { events = refl; ends = refl }; stored = record { events = refl; ends = refl } };
  bodies = record { listed = refl; stored = refl };
  making = record { written = record { events = refl; ends = refl }; stored = record { events = refl; ends = refl } };
  runs = record { written = record { events = refl; ends = refl }; stored = record { events = refl; ends = refl } };
}

pub misses_its_body : MissesItsBody
unfolding ends event ◌>>=◌ block run_store run_to stored_path stored_pat stored_option_type readers takes looks_up inner_bodies inners
misses_its_body k = record {
  made_once = record { written = record { events = refl; ends = refl }; stored = record { events = refl; ends = refl } };
  bodies = record { listed = refl; stored = refl };
  making = record { written = record { events = refl; ends = refl }; stored = record { events = refl; ends = refl } };
  runs = record { written = record { events = refl; ends = refl }; stored = record { events = refl; ends = refl } };
}

pub strays_from_its_coroutine_closure : StraysFromItsCoroutineClosure
unfolding ends event ◌>>=◌ loop block run_store run_to stored_path stored_pat stored_option_type readers takes looks_up inner_bodies inners
strays_from_its_coroutine_closure k = (
  record { written = record { events = refl; ends = refl }; stored = record { events = refl; ends = refl } },
  record { listed = refl; stored = refl },
  record { written = record { events = refl; ends = refl }; stored = record { events = refl; ends = refl } },
  record { written = record { events = refl; ends = refl }; stored = record { events = refl; ends = refl } },
)

pub hands_in_in_order : HandsInInOrder
unfolding ends event ◌>>=◌ block run_store run_to stored_path stored_pat stored_option_type readers takes looks_up inner_bodies inners
hands_in_in_order k mode h = (
  record { written = record { events = refl; ends = refl }; stored = record { events = refl; ends = refl } },
  record { listed = refl; stored = refl },
  record { written = record { events = refl; ends = refl }; stored = record { events = refl; ends = refl } },
)

pub keeps_constants_in_its_coroutine : KeepsConstantsInItsCoroutine
unfolding inner_bodies inners
keeps_constants_in_its_coroutine k = (record { listed = refl; stored = refl }, record { listed = refl; stored = refl })
