use Rattle.std.proofs.lemmas.Grind.{common_steps}
use Rattle.std.proofs.Common.{arith}
use Rattle.hir_store.proofs.Past.{type_options_push}
use Rattle.hir_store.proofs.lists.push_type_option.Goals as goal

pub returns-clause-past : goal.returns-clause-past
returns-clause-past c = grind (arith, common_steps, type_options_push)

pub returns-clause-items : goal.returns-clause-items
returns-clause-items c = grind (arith, common_steps, type_options_push)
