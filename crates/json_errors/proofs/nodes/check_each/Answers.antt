use Rattle.std.proofs.Common.{rules, ◌≡◌, ◌∙◌, ◌+◌, ◌++◌, Ok, ap, arith, drop, refl}
use Rattle.serde_json.specs.View.{items_view, view}
use Rattle.json_errors.specs.Members.{all_pairs, pairs, pairs_of}
use Rattle.json_errors.specs.Nodes as spec
use Rattle.json_errors.specs.Nodes.{node_in}
use Rattle.json_errors.proofs.Sides.{behind, enough, node_next, pairs_next}
use Rattle.std.proofs.lemmas.Grind.{common_steps}
use Rattle.json_errors.proofs.nodes.check_each.Goals as goal

pub loop-node-preserved : goal.loop-node-preserved
loop-node-preserved c =
    let l = c.loop-node in
    let members = c.args.members.now in
    let nodes = c.args.nodes.now in
    let node = c.node-item.result in
    let own = pairs_of (view node) in
    let more = all_pairs (items_view (drop (l.node-index + 1) nodes)) in
    let first : pairs (drop l.start members) ≡ own ++ more =
    l.invariant.beside ∙ pairs_next nodes l.node-index node c.loop-node-test.true c.node-item.is in
    let ok : spec.node (node_in c.args.kinds.now l.at (view node)) l.levels ≡ Ok c.check_one.new.levels = search rules in
    let within = enough own more members l.start l.invariant.start first in
    record {
      same = refl;
      kept = c.check_one.ensures.kept ∙ l.invariant.kept;
      place = ap (λ k. k + 1) l.invariant.place;
      same_members = refl;
      start = omega (arith, c.count-start.ensures, within);
      beside = ap (λ n. pairs (drop (l.start + n) members)) c.count-start.ensures ∙ behind own more members l.start first;
      so_far = l.invariant.so_far ∙ node_next c.args.kinds.now l.at nodes l.node-index node l.levels c.check_one.new.levels
          c.loop-node-test.true c.node-item.is ok;
    }

pub returns-clause-walks : goal.returns-clause-walks
returns-clause-walks c = grind (arith, common_steps)

pub returns-in_err-check_one-clause-walks : goal.returns-in_err-check_one-clause-walks
returns-in_err-check_one-clause-walks c = grind (arith, common_steps)

pub check_one-requires-clause-members : goal.check_one-requires-clause-members
check_one-requires-clause-members c = grind (arith, common_steps)

pub overflow_add-start : goal.overflow_add-start
overflow_add-start c = grind (arith, common_steps)
