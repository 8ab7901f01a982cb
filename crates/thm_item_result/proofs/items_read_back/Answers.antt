use Rattle.thm_item_result.proofs.ResolvedTree.{aliases_read, functions_read, impls_read}
use Rattle.thm_item_result.proofs.items_read_back.Goals as goal

pub returns-clause-impls : goal.returns-clause-impls
returns-clause-impls c = impls_read

pub returns-clause-aliases : goal.returns-clause-aliases
returns-clause-aliases c = aliases_read

pub returns-clause-functions : goal.returns-clause-functions
returns-clause-functions c = functions_read
