use Rattle.std.proofs.Common.{arith}
use Rattle.json_errors.proofs.Items.{count_items}
use Rattle.json_errors.proofs.Beside.{frame_nodes}
use Rattle.json_errors.proofs.document.checked_kinds.Goals as goal

pub returns-in_err-check_tree-clause-fault : goal.returns-in_err-check_tree-clause-fault
returns-in_err-check_tree-clause-fault c = grind (arith, count_items, frame_nodes)

pub nodes_found-requires : goal.nodes_found-requires
nodes_found-requires c = grind (arith, count_items, frame_nodes)

pub returns-clause-sound : goal.returns-clause-sound
returns-clause-sound c = grind (arith, count_items, frame_nodes)
