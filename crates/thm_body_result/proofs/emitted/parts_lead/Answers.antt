use Rattle.thm_body_result.proofs.AsMappings.{paths_lead, pats_lead, targets_lead, types_lead}
use Rattle.thm_body_result.proofs.emitted.parts_lead.Goals as goal

pub returns-clause-types : goal.returns-clause-types
returns-clause-types c = types_lead

pub returns-clause-targets : goal.returns-clause-targets
returns-clause-targets c = targets_lead

pub returns-clause-pats : goal.returns-clause-pats
returns-clause-pats c = pats_lead

pub returns-clause-paths : goal.returns-clause-paths
returns-clause-paths c = paths_lead
