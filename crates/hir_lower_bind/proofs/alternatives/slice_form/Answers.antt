use Rattle.std.proofs.Common.{arith, rules}
use Rattle.std.proofs.lemmas.Grind.{common_steps}
use Rattle.hir_lower_builder.specs.Pats.{slice_pat_form}
use Rattle.hir_lower_bind.proofs.alternatives.slice_form.Goals as goal

pub returns-in_err-prefix : goal.returns-in_err-prefix
unfolding slice_pat_form
returns-in_err-prefix g c = search rules

pub returns-in_err-slice : goal.returns-in_err-slice
unfolding slice_pat_form
returns-in_err-slice g c = search rules

pub returns-in_err-suffix : goal.returns-in_err-suffix
unfolding slice_pat_form
returns-in_err-suffix g c = search rules

pub returns : goal.returns
unfolding slice_pat_form
returns g c = search rules

pub alloc_pat-requires : goal.alloc_pat-requires
unfolding slice_pat_form
alloc_pat-requires g c = grind (arith, common_steps)
