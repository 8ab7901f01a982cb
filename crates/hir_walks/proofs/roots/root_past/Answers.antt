use Rattle.std.proofs.Common.{rules, arith, ◌+◌, ◌-◌, ◌/◌}
use Rattle.hir_walks.specs.Roots.{end_of}
use Rattle.hir_walks.proofs.RootLemmas.{lower_half, no_root, root_is_none, root_is_some, upper_half}
use Rattle.hir_walks.proofs.roots.root_past.Goals as goal

pub loop-low-preserved-then-end_of-number : goal.loop-low-preserved-then-end_of-number
loop-low-preserved-then-end_of-number c = (
  search rules,
  (
    search rules,
    λ sorted. (
      lower_half (end_of c.args.kind) c.args.roots.now (c.loop-low.low + (c.loop-low.high - c.loop-low.low) / 2) c.args.number no_root
          sorted (search rules) (omega (arith, c.end_of.ensures, c.if-end_of-number.true)),
      (c.loop-low.invariant.1.1 sorted).1,
    ),
  ),
)

pub loop-low-preserved : goal.loop-low-preserved
loop-low-preserved c = (
  search rules,
  (
    search rules,
    λ sorted. (
      (c.loop-low.invariant.1.1 sorted).0,
      upper_half (end_of c.args.kind) c.args.roots.now (c.loop-low.low + (c.loop-low.high - c.loop-low.low) / 2) c.args.number no_root
          sorted (omega (arith, c.end_of.ensures, c.if-end_of-number.false)),
    ),
  ),
)

pub returns-in-Some : goal.returns-in-Some
returns-in-Some c sorted =
    let half = c.loop-low.invariant.1.1 sorted in
    root_is_some c.args.kind c.args.roots.now c.loop-low.low c.args.number half.0
    (λ k d less. half.1 k d (omega (arith, less, c.loop-low-test.false))) (search rules)
    c.in-Some.root.now (search rules) c.in-Some.ensures.lookup.1

pub returns-in-None : goal.returns-in-None
returns-in-None c sorted =
    let half = c.loop-low.invariant.1.1 sorted in
    root_is_none c.args.kind c.args.roots.now c.loop-low.low c.args.number half.0
    (λ k d less. half.1 k d (omega (arith, less, c.loop-low-test.false))) (search rules) (search rules)
