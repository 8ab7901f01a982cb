use Rattle.hir_lower_scope.proofs.DepthLemmas.{none_found, last_below, last_there, none_deeper}
use Rattle.hir_lower_scope.proofs.depths.deepest.Goals as goal

pub returns-in_err-depth : goal.returns-in_err-depth
returns-in_err-depth g c = rw c.from_residual.ensures
    (none_found g.K.Ord.cmp g.met.K.Ord.total c.args.key c.args.below c.args.depths.now c.range.result (c.range.ensures.in_range tt)
    c.in_err-depth.ensures.steps.0)

pub returns : goal.returns
returns g c =
    let range = c.range.ensures.in_range tt in
    let last = c.in_ok-depth.field-0.now in
    let front = c.next_back.new.self in
    let is = c.in_ok-depth.ensures.steps in (
      last_below g.K.Ord.cmp g.met.K.Ord.total c.args.key c.args.below c.args.depths.now c.range.result range last front is,
      last_there g.K.Ord.cmp g.met.K.Ord.total c.args.key c.args.below c.args.depths.now c.range.result range last front is,
      none_deeper g.K.Ord.cmp g.met.K.Ord.total c.args.key c.args.below c.args.depths.now c.range.result range last front is,
    )
