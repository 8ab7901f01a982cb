use Rattle.thm_body_result.proofs.Tracked.{exprs_track as proved}
use Rattle.thm_body_result.proofs.emitted.exprs_track.Goals as goal

pub returns : goal.returns
returns c = proved
