use Rattle.std.proofs.Common.{arith}
use Rattle.std.proofs.lemmas.Grind.{common_steps}
use Rattle.hir_lower_path.proofs.path.segment_form.Goals as goal

pub returns-in-Some-Name : goal.returns-in-Some-Name
returns-in-Some-Name g c = grind (arith, common_steps)

pub returns-in-Some-Qualified : goal.returns-in-Some-Qualified
returns-in-Some-Qualified g c = grind (arith, common_steps)

pub name_form-requires-clause-parts : goal.name_form-requires-clause-parts
name_form-requires-clause-parts g c = grind (arith, common_steps)

pub qualified_form-requires-clause-parts : goal.qualified_form-requires-clause-parts
qualified_form-requires-clause-parts g c = grind (arith, common_steps)

pub returns-in_default : goal.returns-in_default
returns-in_default g c = grind (arith, common_steps)
