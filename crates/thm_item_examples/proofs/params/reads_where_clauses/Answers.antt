use Rattle.thm_item_examples.proofs.ParamRows.{reads_where_clauses as proved}
use Rattle.thm_item_examples.proofs.params.reads_where_clauses.Goals as goal

pub returns : goal.returns
returns c = proved
