use Rattle.std.proofs.Common.{◌≡◌}
use Rattle.hir_alias.specs.Tracking.{SoundIn}
use Rattle.hir_alias.proofs.Walked.{left}
use Rattle.hir_alias.proofs.visitor.Visitor.go_on.Given as goal

abbrev pub invariant-loop-id : goal.invariant-loop-id
invariant-loop-id l = let was = l.fn.self in record {
  same : l.self.lowered ≡ was.lowered;
  placed : l.self.places ≡ was.places;
  sound : SoundIn was.lowered.now.store was.lowered.now.generic_params.lifetimes l.fn.root l.self.tracks;
}

abbrev pub decreases-loop-id : goal.decreases-loop-id
decreases-loop-id l = left l.self.tracks
