-- What small bodies of operators, lists, `return` and unsafe blocks do, computed.
use Rattle.std.proofs.Common.{if◌then◌else◌, ◌∷◌, refl, ap}
use Rattle.hir_env.specs.ResolvedTree as tree
use Rattle.hir_env.specs.ResolvedTree.{Expr, Exprs}
use Rattle.spec_data.specs.Reading.{stored_path, stored_args}
use Rattle.spec_semantics.specs.Run.{ends, event, pure, ◌>>=◌}
use Rattle.spec_semantics.specs.Catching.{loop, block}
use Rattle.spec_semantics.specs.Left.{is_kept}
use Rattle.spec_semantics.specs.Syntax.{run_expr}
use Rattle.spec_semantics.specs.Store.{run_store, run_to}
use Rattle.spec_semantics.specs.Forms.{OperatesInOrder, DecidesByLeft, DecidesByRight, ReturnsFromInside, EmptyTupleIsSilent}
use Rattle.spec_semantics.specs.Forms.{MissesItsFront, LeavesOutTheSecond, ElementIsNothing, EntersTheUnsafe}
use Rattle.spec_semantics.specs.Forms.{MakesAPair, MakesARecord, MakesOfDefaults, CallsTheMethod, YieldsUnit, YeetsItsValue}

pub operates_in_order : OperatesInOrder
unfolding ends event ◌>>=◌ loop block run_store run_to stored_path
operates_in_order = record { written = record { events = refl; ends = refl }; stored = record { events = refl; ends = refl } }

pub decides_by_left : DecidesByLeft
unfolding ends event ◌>>=◌ loop block run_store run_to stored_path
decides_by_left = (
  record { written = record { events = refl; ends = refl }; stored = record { events = refl; ends = refl } },
  record { written = record { events = refl; ends = refl }; stored = record { events = refl; ends = refl } },
)

pub decides_by_right : DecidesByRight
unfolding ends event ◌>>=◌ loop block run_store run_to stored_path
decides_by_right = (
  record { written = record { events = refl; ends = refl }; stored = record { events = refl; ends = refl } },
  record { written = record { events = refl; ends = refl }; stored = record { events = refl; ends = refl } },
)

pub returns_from_inside : ReturnsFromInside
unfolding ends event ◌>>=◌ loop block run_store run_to stored_path
returns_from_inside = record { written = record { events = refl; ends = refl }; stored = record { events = refl; ends = refl } }

pub empty_tuple_is_silent : EmptyTupleIsSilent
unfolding ends event ◌>>=◌ loop block run_store run_to stored_path
empty_tuple_is_silent = record { written = record { events = refl; ends = refl }; stored = record { events = refl; ends = refl } }

pub misses_its_front : MissesItsFront
unfolding ends event ◌>>=◌ loop block run_store run_to stored_path
misses_its_front = record { written = record { events = refl; ends = refl }; stored = record { events = refl; ends = refl } }

pub leaves_out_the_second : LeavesOutTheSecond
unfolding ends event ◌>>=◌ loop block run_store run_to stored_path
leaves_out_the_second = record { written = record { events = refl; ends = refl }; stored = record { events = refl; ends = refl } }

pub element_is_nothing : ElementIsNothing
element_is_nothing fuel tree.no_exprs after why e ss = refl
element_is_nothing fuel (tree.more_exprs x xs) after why e ss = ap
    (λ m. if is_kept x then (run_expr fuel x ss >>= (λ v. m >>= (λ vs. pure (v ∷ vs)))) else m)
    (element_is_nothing fuel xs after why e ss)

pub enters_the_unsafe : EntersTheUnsafe
unfolding ends event ◌>>=◌ loop block run_store run_to stored_path
enters_the_unsafe = (
  record { written = record { events = refl; ends = refl }; stored = record { events = refl; ends = refl } },
  record { written = record { events = refl; ends = refl }; stored = record { events = refl; ends = refl } },
)

pub makes_a_pair : MakesAPair
unfolding ends event ◌>>=◌ loop block run_store run_to stored_path
makes_a_pair = record { written = record { events = refl; ends = refl }; stored = record { events = refl; ends = refl } }

pub calls_the_method : CallsTheMethod
unfolding ends event ◌>>=◌ loop block run_store run_to stored_path stored_args
calls_the_method = record { written = record { events = refl; ends = refl }; stored = record { events = refl; ends = refl } }

pub makes_a_record : MakesARecord
unfolding ends event ◌>>=◌ loop block run_store run_to stored_path
makes_a_record = record { written = record { events = refl; ends = refl }; stored = record { events = refl; ends = refl } }

pub makes_of_defaults : MakesOfDefaults
unfolding ends event ◌>>=◌ loop block run_store run_to stored_path
makes_of_defaults = record { written = record { events = refl; ends = refl }; stored = record { events = refl; ends = refl } }

pub yields_unit : YieldsUnit
unfolding ends event ◌>>=◌ loop block run_store run_to stored_path
yields_unit = record { written = record { events = refl; ends = refl }; stored = record { events = refl; ends = refl } }

pub yeets_its_value : YeetsItsValue
unfolding ends event ◌>>=◌ loop block run_store run_to stored_path
yeets_its_value = record { written = record { events = refl; ends = refl }; stored = record { events = refl; ends = refl } }
