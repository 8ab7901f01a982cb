use Rattle.thm_body_result.proofs.Tracked.{targets_track as proved}
use Rattle.thm_body_result.proofs.emitted.targets_track.Goals as goal

pub returns : goal.returns
returns c = proved
