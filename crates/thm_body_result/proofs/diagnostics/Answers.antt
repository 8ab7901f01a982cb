use Rattle.thm_body_result.proofs.Around.{scopes_around}
use Rattle.thm_body_result.proofs.TreeFaults.{diagnostics_are}
use Rattle.thm_body_result.proofs.diagnostics.Goals as goal

pub returns-clause-are : goal.returns-clause-are
returns-clause-are c = diagnostics_are

pub returns-clause-scopes : goal.returns-clause-scopes
returns-clause-scopes c = scopes_around
