use Rattle.std.proofs.Common.{◌≡◌, ◌∙◌, ◌++◌, ap, arith, subst, sym, take}
use Rattle.serde_json.proofs.Views.{view-Object}
use Rattle.serde_json.specs.View.{members_view, view}
use Rattle.json_errors.specs.Members.{pairs, pairs_in, pairs_of, said}
use Rattle.json_errors.specs.Nodes as spec
use Rattle.json_errors.specs.Nodes.{Walks, node_in}
use Rattle.json_errors.proofs.Sides.{enough_own, in_front}
use Rattle.json_errors.proofs.nodes.check_one.Goals as goal

pub split_at-requires : goal.split_at-requires
split_at-requires c =
    let more = c.requires.members.0 in
    let own = c.in-Object.own.entries in
    let first : pairs c.args.members.now ≡ pairs_in (members_view own) ++ more =
    c.requires.members.1 ∙ ap (λ d. pairs_of d ++ more) (ap view c.in-Object.is ∙ view-Object c.in-Object.own) in
    let enough = enough_own own c.args.members.now more first in
    omega (arith, c.len.ensures.len, enough)

pub returns-clause-walks : goal.returns-clause-walks
returns-clause-walks c =
    let more = c.requires.members.0 in
    let own = c.in-Object.own.entries in
    let members = c.args.members.now in
    let first : pairs members ≡ pairs_in (members_view own) ++ more =
    c.requires.members.1 ∙ ap (λ d. pairs_of d ++ more) (ap view c.in-Object.is ∙ view-Object c.in-Object.own) in
    let same : said c.split_at.result.0.now ≡ view c.args.node.now =
    ap said c.split_at.ensures.front ∙ ap (λ n. said (take n members)) c.len.ensures.len
    ∙ in_front own members more first ∙ sym (ap view c.in-Object.is ∙ view-Object c.in-Object.own) in
    subst (λ d. Walks (spec.node (node_in c.args.kinds.now c.args.at d) c.args.levels.now) c.check.result c.check.new.levels)
    same c.check.ensures.walks
