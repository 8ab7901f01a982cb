use Rattle.std.proofs.Common.{arith, rules}
use Rattle.std.proofs.lemmas.Grind.{common_steps}
use Rattle.hir_lower_builder.specs.Pats.{or_form}
use Rattle.hir_lower_bind.proofs.alternatives.alternatives.Goals as goal

pub returns-in_err-enter_or : goal.returns-in_err-enter_or
unfolding or_form
returns-in_err-enter_or g c = search rules

pub returns-in_err-id : goal.returns-in_err-id
unfolding or_form
returns-in_err-id g c = search rules

pub returns-in_err-ids : goal.returns-in_err-ids
unfolding or_form
returns-in_err-ids g c = search rules

pub returns-in_err-leave_or : goal.returns-in_err-leave_or
unfolding or_form
returns-in_err-leave_or g c = search rules

pub returns : goal.returns
unfolding or_form
returns g c = search rules

pub returns-in_err-id-2 : goal.returns-in_err-id-2
unfolding or_form
returns-in_err-id-2 g c = search rules

pub lower_pat-requires-clause-part : goal.lower_pat-requires-clause-part
unfolding or_form
lower_pat-requires-clause-part g c = grind (arith, common_steps)

pub later-requires-clause-first : goal.later-requires-clause-first
unfolding or_form
later-requires-clause-first g c = grind (arith, common_steps)

pub leave_or-requires : goal.leave_or-requires
unfolding or_form
leave_or-requires g c = grind (arith, common_steps)

pub one_or_all-requires : goal.one_or_all-requires
unfolding or_form
one_or_all-requires g c = grind (arith, common_steps)

pub lower_pat-requires-clause-names : goal.lower_pat-requires-clause-names
unfolding or_form
lower_pat-requires-clause-names g c = grind (arith, common_steps)

pub later-requires-clause-parts : goal.later-requires-clause-parts
unfolding or_form
later-requires-clause-parts g c = grind (arith, common_steps)
