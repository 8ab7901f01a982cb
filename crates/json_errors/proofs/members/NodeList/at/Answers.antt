use Rattle.std.proofs.Common.{◌∙◌, ◌++◌, ap, arith, length}
use Rattle.std.proofs.Math.Bridge.{le_prop}
use Rattle.std.proofs.Math.Logic.{∥∥₁_elim, ∥∥₁_map}
use Rattle.serde_json.specs.View.{view}
use Rattle.json_errors.specs.Members.{pairs, pairs_of}
use Rattle.json_errors.proofs.Sides.{from_start, many_starts, start_among}
use Rattle.json_errors.proofs.Items.{found_at, past_items}
use Rattle.json_errors.proofs.members.NodeList.at.Goals as goal

pub bounds-self-at : goal.bounds-self-at
bounds-self-at c =
    let list = c.args.self.now in
    omega (arith, c.if-at-self.false, ap length list.begun, many_starts list.nodes.now 0)

pub split_at-requires : goal.split_at-requires
split_at-requires c =
    let list = c.args.self.now in
    ∥∥₁_elim list.beside le_prop (λ all.
    start_among list.nodes.now list.members.now list.starts.now c.args.at c.if-at-self.false all list.begun)

pub own_of-requires : goal.own_of-requires
own_of-requires c =
    let list = c.args.self.now in
    ∥∥₁_map list.beside (λ all.
    let found = from_start list.nodes.now list.members.now list.starts.now c.args.at c.index-self-at.result c.if-at-self.false
    c.index-self-at.is all list.begun in
    let same = ap (λ v. pairs_of (view v) ++ found.0) c.index-self-at.is in
    (found.0, ap pairs c.split_at.ensures.back ∙ found.1 ∙ same))

pub returns : goal.returns
returns c = grind (arith, found_at, past_items)
