use Rattle.std.proofs.Common.{arith}
use Rattle.std.proofs.lemmas.Grind.{common_steps}
use Rattle.hir_lower_builder.specs.Paths.{segment_args_form}
use Rattle.hir_lower_path.proofs.args.segment_args.Goals as goal

pub returns : goal.returns
unfolding segment_args_form
returns g c = grind (arith, common_steps)

pub found_or_parens-requires-clause-parts : goal.found_or_parens-requires-clause-parts
unfolding segment_args_form
found_or_parens-requires-clause-parts g c = grind (arith, common_steps)

pub args_if_present-requires : goal.args_if_present-requires
unfolding segment_args_form
args_if_present-requires g c = grind (arith, common_steps)

pub returns-in_err-found : goal.returns-in_err-found
unfolding segment_args_form
returns-in_err-found g c = grind (arith, common_steps)
