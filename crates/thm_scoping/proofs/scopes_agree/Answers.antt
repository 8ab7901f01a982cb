use Rattle.thm_scoping.proofs.Agreement.{scopes_agree as proved}
use Rattle.thm_scoping.proofs.scopes_agree.Goals as goal

pub returns : goal.returns
returns c = proved
