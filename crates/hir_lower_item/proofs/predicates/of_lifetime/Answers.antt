use Rattle.std.specs.Prelude.{None}
use Rattle.hir_store.specs.Range.{HasLifetime, HasNone}
use Rattle.hir_env.specs.Paths.{lifetime_of}
use Rattle.hir_env.specs.Whole.{bounds_part}
use Rattle.hir_lower_builder.specs.Types.{lower_lifetime}
use Rattle.hir_lower_callbacks.specs.ResolveCtxs.{rctx_at}
use Rattle.hir_lower_item.specs.Answering.{at_place, in_bounds, in_target}
use Rattle.hir_lower_item.specs.Lower.{ask_each}
use Rattle.hir_lower_item.specs.declared.predicates.Bounded.TheVariants as bounded
use Rattle.hir_lower_item.proofs.Steps.{then_lowers}
use Rattle.hir_lower_item.proofs.predicates.of_lifetime.Goals as goal

pub returns : goal.returns
returns g c =
    let at = rctx_at (g.E.LowerEnv.answers c.args.env.now) c.args.place in
    let l = lifetime_of (in_target c.args.place) c.args.written.now in
    let bs = bounds_part (at_place (in_bounds c.args.def) at) c.args.bounds.now in
    then_lowers HasLifetime HasNone (lower_lifetime l) (λ id. ask_each None (bounded.Lifetime l.lifetime id) bs) c.args.state.now
    c.lifetime.new.state c.ask_each.new.state c.in_ok-id.id c.ask_each.result
    (rw c.in_target.ensures at c.in_ok-id.ensures)
    (rw (c.in_ok-lifetime_ref.ensures, c.in_bounds-inside.ensures, c.as_slice.ensures) at c.ask_each.ensures)
