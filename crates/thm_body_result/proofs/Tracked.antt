-- A `yield` is noted where one is told of.
use Rattle.std.proofs.Common.{◌≡◌, subst, ◌||◌, Bool, None, Ok}
use Rattle.hir_lower_builder.specs.Builder.{Builder}
use Rattle.hir_lower_builder.specs.Lowering.{Lowering}
use Rattle.thm_logic.specs.Keeps.{Paired}
use Rattle.thm_round_trip.proofs.AsYields.{SideOutput, yields_graded}
use Rattle.thm_logic.proofs.GradedTree.{expr_part_graded, part_graded, target_graded, top_graded}
use Rattle.thm_logic.proofs.Yields.{RaisedTo}
use Rattle.thm_body_result.specs.EmittedTheorems.{ExprsTrack, PatsTrack, TargetsTrack, TypesTrack}

-- what the answer and the builder behind it say
tracked : {A : Type 0} {y : Bool} {p : Lowering A} (b c : Builder) (a : A) → SideOutput y p → Paired b.stored → p b ≡ (Ok a, c)
    → c.yields ≡ (b.yields || y)
tracked {y = y} b c a h d is = (subst (λ r. RaisedTo y b r.0 r.1) is (h.1.at b d)).1

pub exprs_track : ExprsTrack
exprs_track e b i c d is = tracked b c i (expr_part_graded yields_graded e) d is

pub types_track : TypesTrack
types_track t b c i d is = tracked b c i (part_graded yields_graded None t) d is

pub pats_track : PatsTrack
pats_track p b c i d is = tracked b c i (top_graded yields_graded p) d is

pub targets_track : TargetsTrack
targets_track t b c i d is = tracked b c i (target_graded yields_graded t) d is
