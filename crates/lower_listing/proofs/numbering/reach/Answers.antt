use Rattle.std.proofs.Common.{◌+◌, refl, arith}
use Rattle.lower_listing.proofs.Numbers.{reaches}
use Rattle.lower_listing.proofs.numbering.reach.Goals as goal

pub returns-clause-same : goal.returns-clause-same
returns-clause-same c =
    let old = c.args.places.now in
    let new = c.resize.new.self in
    reaches old.items new.items (c.args.item + 1) (omega (arith, c.in_ok-resize.ensures.len, new.ok.0))
    (omega (arith, c.if-at-len.false, c.len.ensures, old.ok.0))
    (λ k d within stood. c.in_ok-resize.ensures.by_index.0 k d within (omega (arith, stood, old.ok.0)))
    (λ k d past within. c.in_ok-resize.ensures.by_index.1 k d refl (omega (arith, past, old.ok.0)) within)
