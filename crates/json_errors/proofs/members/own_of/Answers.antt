use Rattle.std.proofs.Common.{◌∙◌, ap, arith, take}
use Rattle.std.proofs.Math.Bridge.{le_prop}
use Rattle.std.proofs.Math.Logic.{∥∥₁_elim, ∥∥₁_map}
use Rattle.json_errors.specs.Members.{pairs, pairs_of}
use Rattle.serde_json.specs.View.{view}
use Rattle.json_errors.proofs.Sides.{enough_left, front}
use Rattle.json_errors.proofs.members.own_of.Goals as goal

pub split_at-requires : goal.split_at-requires
split_at-requires c =
    ∥∥₁_elim c.requires le_prop (λ more.
    let enough = enough_left (pairs_of (view c.args.node.now)) more.0 c.args.rest.now more.1 in
    omega (arith, c.count.ensures, enough))

pub invariant_of-result : goal.invariant_of-result
invariant_of-result c = record {
  own = ∥∥₁_map c.requires (λ more.
      ap pairs c.split_at.ensures.front ∙ ap (λ n. pairs (take n c.args.rest.now)) c.count.ensures
      ∙ front (pairs_of (view c.args.node.now)) more.0 c.args.rest.now more.1);
}
