use Rattle.thm_reading.proofs.Decided.{bare_names_decided, bare_pats_decided, elements_decided, sides_decided, type_pats_decided}
use Rattle.thm_reading.proofs.Ranges.{ranges_decided}
use Rattle.thm_reading.proofs.TakenItems.{for_items_decided, question_items_decided}
use Rattle.thm_reading.proofs.Targets.{targets_decided}
use Rattle.thm_reading.proofs.decided_by_rules.Goals as goal

pub returns-clause-sides : goal.returns-clause-sides
returns-clause-sides c = sides_decided

pub returns-clause-elements : goal.returns-clause-elements
returns-clause-elements c = elements_decided

pub returns-clause-type_pats : goal.returns-clause-type_pats
returns-clause-type_pats c = type_pats_decided

pub returns-clause-bare_pats : goal.returns-clause-bare_pats
returns-clause-bare_pats c = bare_pats_decided

pub returns-clause-ranges : goal.returns-clause-ranges
returns-clause-ranges c = ranges_decided

pub returns-clause-for_items : goal.returns-clause-for_items
returns-clause-for_items c = for_items_decided

pub returns-clause-question_items : goal.returns-clause-question_items
returns-clause-question_items c = question_items_decided

pub returns-clause-bare_names : goal.returns-clause-bare_names
returns-clause-bare_names c = bare_names_decided

pub returns-clause-targets : goal.returns-clause-targets
returns-clause-targets c = targets_decided
