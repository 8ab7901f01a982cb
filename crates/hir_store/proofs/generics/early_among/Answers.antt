use Rattle.std.proofs.Common.{arith, ◌≡◌, refl, ℕ, ◌+◌, ◌<◌, ◌≤◌, length, min, List, [], ◌∷◌}
use Rattle.hir_store.specs.declared.generics.LifetimeParamData.{LifetimeParamData}
use Rattle.hir_store.specs.Params.{early_among}
use Rattle.hir_store.proofs.generics.early_among.Goals as goal

none : (xs : List LifetimeParamData) → length xs < 1 → early_among xs ≡ 0
none [] h = refl
none (x ∷ xs) h = absurd (omega (arith, h))

all_counted : (n m k : ℕ) → m ≡ 0 → k ≤ 4294967295 → min n 4294967295 ≡ min (k + m) 4294967295 → k ≡ min n 4294967295
all_counted n m k zero few is = omega (arith, zero, few, is)

pub returns : goal.returns
returns c =
    let left = c.loop-left.left.now in
    let behind = none left c.in_default.len_below in
    let loop = c.loop-left in
    all_counted (early_among c.args.left.now) (early_among left) loop.count behind loop.invariant.few loop.invariant.so_far
