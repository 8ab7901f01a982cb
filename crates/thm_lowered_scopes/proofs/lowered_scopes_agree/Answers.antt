use Rattle.thm_lowered_scopes.proofs.Lowered as proved
use Rattle.thm_lowered_scopes.proofs.lowered_scopes_agree.Goals as goal

pub returns-clause-bodies : goal.returns-clause-bodies
returns-clause-bodies c = proved.bodies

pub returns-clause-calls : goal.returns-clause-calls
returns-clause-calls c = proved.calls
