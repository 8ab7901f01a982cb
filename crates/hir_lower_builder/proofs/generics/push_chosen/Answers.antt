use Rattle.std.proofs.lemmas.Grind.{common_steps}
use Rattle.std.proofs.Common.{arith}
use Rattle.hir_lower_scope.specs.NameSets.{with_names}
use Rattle.hir_lower_builder.specs.Generics.{names_at, lifetime_names}
use Rattle.hir_lower_builder.proofs.Chosen.{all_chosen, next_chosen}
use Rattle.hir_lower_builder.proofs.generics.push_chosen.Goals as goal

pub returns : goal.returns
returns g c =
    let ls = (g.I.StoreSink.held c.args.store.now).lifetimes.entries in
    all_chosen c.loop-left.names (with_names c.args.names.now (names_at c.args.flags.now (lifetime_names ls c.args.left.now)))
    c.loop-left.flags.now ls c.loop-left.left.now c.in_default.len_below c.loop-left.invariant

pub loop-left-preserved-in_ok-push_first : goal.loop-left-preserved-in_ok-push_first
loop-left-preserved-in_ok-push_first g c = grind (arith, common_steps, next_chosen)

pub bounds-left-0 : goal.bounds-left-0
bounds-left-0 g c = grind (arith, common_steps, next_chosen)

pub slice_bounds-rest-count : goal.slice_bounds-rest-count
slice_bounds-rest-count g c = grind (arith, common_steps, next_chosen)

pub loop-left-smaller-in_ok-push_first : goal.loop-left-smaller-in_ok-push_first
loop-left-smaller-in_ok-push_first g c = grind (arith, common_steps, next_chosen)

pub loop-left-preserved : goal.loop-left-preserved
loop-left-preserved g c = grind (arith, common_steps, next_chosen)

pub loop-left-smaller : goal.loop-left-smaller
loop-left-smaller g c = grind (arith, common_steps, next_chosen)

pub slice_bounds-rest-start : goal.slice_bounds-rest-start
slice_bounds-rest-start g c = grind (arith, common_steps, next_chosen)
