use Rattle.thm_body_result.proofs.Tracked.{pats_track as proved}
use Rattle.thm_body_result.proofs.emitted.pats_track.Goals as goal

pub returns : goal.returns
returns c = proved
