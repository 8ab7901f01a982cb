-- Lowering a tree takes its size: as much as is told of it.
use Rattle.std.proofs.Common.{Bool, true, false, Option}
use Rattle.hir_store.specs.declared.hir.CoroutineKind.{CoroutineKind}
use Rattle.hir_env.specs.ResolvedTree.{Binder, Formals, OptionArgs, OptionExpr, OptionPath, OptionType, Segment, Segments, Type_}
use Rattle.hir_lower_builder.specs.declared.walk.PathWalk.{PathWalk}
use Rattle.hir_lower_builder.specs.Lower.{args_part, lower_part, lower_path, lower_type, read_each, read_segment, type_part}
use Rattle.hir_lower_builder.specs.Lowering.{Lowering, ◌>>=◌}
use Rattle.hir_lower_builder.specs.Paths.{proceed}
use Rattle.hir_lower_builder.specs.Walks as walks
use Rattle.thm_body_result.specs.Formals.{lower_body}
use Rattle.thm_logic.specs.PathSeen.{at_first, own_read, segment_read, segments_read, whole_read, yields}
use Rattle.thm_body_result.specs.PathRoom.{before}
use Rattle.thm_body_result.specs.Room.{args_size, body_size, segment_size, segments_size, size_part, type_part_size, type_size, whole_size}
use Rattle.thm_body_result.specs.Size.{Size, ◌∪◌}
use Rattle.thm_body_result.proofs.AsRooms.{given, rooms_bodies, rooms_graded}
use Rattle.thm_logic.proofs.Graded.{Emitted}
use Rattle.thm_body_result.proofs.GradedBodies.{body_graded}
use Rattle.thm_logic.proofs.GradedTree.{args_graded, expr_part_graded, part_graded, path_graded, segment_graded, segments_graded}
use Rattle.thm_logic.proofs.GradedTree.{type_graded}
use Rattle.thm_logic.proofs.PathAnswers.{Gives, GivesPath, Yields, walk_seen}
use Rattle.thm_body_result.proofs.Last.{IsLast}
use Rattle.thm_body_result.proofs.PathRooms.{proceed_emits}
use Rattle.thm_body_result.proofs.Rooms.{Takes, takes_as}
use Rattle.thm_body_result.proofs.SizesAgree.{args_are, body_is, expr_part_is, part_is, segment_is, segments_are, type_is, whole_is}
use Rattle.thm_body_result.proofs.Emissions.{Emits, emits_as, emits_then}
use Rattle.thm_body_result.proofs.Took.{Same}

emitted_as : {A : Type 0} {n k : Size} {P : A → Type 0} {p : Lowering A} → Same n k → Emitted rooms_graded n P p → Emits k P p
emitted_as h x = emits_as h (given x.claim x.known)

pub type_takes : (b : Option Binder) (t : Type_) → Takes (type_size t) (lower_type b t)
type_takes b t = takes_as (type_is b t) (type_graded rooms_graded b t)

pub type_part_takes : (b : Option Binder) (t : OptionType) → Takes (type_part_size t) (type_part b t)
type_part_takes b t = takes_as (part_is b t) (part_graded rooms_graded b t)

pub part_takes : (e : OptionExpr) → Takes (size_part e) (lower_part e)
part_takes e = takes_as (expr_part_is e) (expr_part_graded rooms_graded e).0

-- what it answers is the last one
pub part_last : (e : OptionExpr) → IsLast (lower_part e)
part_last e = (expr_part_graded rooms_graded e).1

pub body_takes : (kind : Option CoroutineKind) (skipped : Bool) (f : Formals) (e : OptionExpr)
    → Takes (body_size kind skipped f e) (lower_body kind skipped f e)
body_takes kind skipped f e = takes_as (body_is kind skipped f e) (body_graded rooms_graded rooms_bodies kind skipped f e)

-- paths and arguments, with what is known of their answers

segment_emits : (first : Bool) (s : Segment) (w : PathWalk)
    → Emits (segment_size first s (walk_seen w)) (Gives (segment_read first s (walk_seen w))) (read_segment first s w)
segment_emits first s w = emitted_as (segment_is first s (walk_seen w)) (segment_graded rooms_graded first s w)

pub each_emits : (ss : Segments) (w : PathWalk)
    → Emits (segments_size ss (walk_seen w)) (Gives (segments_read ss (walk_seen w))) (read_each ss w)
each_emits ss w = emitted_as (segments_are ss (walk_seen w)) (segments_graded rooms_graded ss w)

-- the first segment, with the `::` in front of it
first_emits : (leading : Bool) (s : Segment) (w : PathWalk)
    → Emits (segment_size true s (at_first leading (walk_seen w))) (Gives (segment_read true s (at_first leading (walk_seen w))))
    (read_segment true s (walks.at_first leading w))
first_emits true s w = segment_emits true s (walks.at_first true w)
first_emits false s w = segment_emits true s w

-- the segments of a path, without those of the use tree around it
pub own_emits : (leading : Bool) (first : Segment) (rest : Segments) (w : PathWalk)
    → Emits (segments_size rest (walk_seen w) ∪ before (segments_read rest (walk_seen w))
    (λ y. segment_size true first (at_first leading y)))
    (Gives (own_read leading first rest (walk_seen w)))
    (read_each rest w >>= (λ r. proceed r (λ v. read_segment true first (walks.at_first leading v))))
own_emits leading first rest w = emits_then (each_emits rest w) (λ r e.
    proceed_emits r (segments_read rest (walk_seen w)) (λ y. segment_size true first (at_first leading y))
    (λ y. segment_read true first (at_first leading y)) e (λ v. first_emits leading first v))

pub path_emits : (p : OptionPath) → Emits (whole_size p) (GivesPath (whole_read p)) (lower_path p)
path_emits p = emitted_as (whole_is p) (path_graded rooms_graded p)

pub args_emit : (as' : OptionArgs) → Emits (args_size as') (Yields (yields as')) (args_part as')
args_emit as' = emitted_as (args_are as') (args_graded rooms_graded as')
