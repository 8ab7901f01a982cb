use Rattle.thm_body_result.proofs.Tracked.{types_track as proved}
use Rattle.thm_body_result.proofs.emitted.types_track.Goals as goal

pub returns : goal.returns
returns c = proved
