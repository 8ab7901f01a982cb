use Rattle.thm_reading.proofs.OneDecided.{one_bare_pat, one_element, one_for_items, one_question_items, one_range, one_side, one_target}
use Rattle.thm_reading.proofs.OneDecided.{one_type_pat}
use Rattle.thm_reading.proofs.one_decided_by_rules.Goals as goal

pub returns-clause-sides : goal.returns-clause-sides
returns-clause-sides c = one_side

pub returns-clause-elements : goal.returns-clause-elements
returns-clause-elements c = one_element

pub returns-clause-type_pats : goal.returns-clause-type_pats
returns-clause-type_pats c = one_type_pat

pub returns-clause-bare_pats : goal.returns-clause-bare_pats
returns-clause-bare_pats c = one_bare_pat

pub returns-clause-ranges : goal.returns-clause-ranges
returns-clause-ranges c = one_range

pub returns-clause-for_items : goal.returns-clause-for_items
returns-clause-for_items c = one_for_items

pub returns-clause-question_items : goal.returns-clause-question_items
returns-clause-question_items c = one_question_items

pub returns-clause-targets : goal.returns-clause-targets
returns-clause-targets c = one_target
