use Rattle.std.specs.Prelude.{None, option_map}
use Rattle.hir_store.specs.Range.{HasNone, HasType}
use Rattle.hir_env.specs.Whole.{resolved_type, bounds_part}
use Rattle.hir_lower_builder.specs.Lower.{lower_type}
use Rattle.hir_lower_callbacks.specs.ResolveCtxs.{rctx_at}
use Rattle.hir_lower_item.specs.Answering.{at_place, in_bounds, in_target, where_binder}
use Rattle.hir_lower_item.specs.Lower.{ask_each}
use Rattle.hir_lower_item.specs.declared.predicates.Bounded.TheVariants as bounded
use Rattle.hir_lower_item.proofs.Steps.{then_lowers}
use Rattle.hir_lower_item.proofs.predicates.of_type.Goals as goal

pub returns : goal.returns
returns g c =
    let at = rctx_at (g.E.LowerEnv.answers c.args.env.now) c.args.place in
    let names = option_map where_binder c.args.binder.now in
    let bs = bounds_part (at_place (in_bounds c.args.def) at) c.args.bounds.now in
    then_lowers HasType HasNone (lower_type None (resolved_type (at_place in_target at) c.args.ty.now))
    (λ id. ask_each names (bounded.Type_ id) bs) c.args.state.now c.lower_type_node.new.state c.ask_each.new.state c.in_ok-id.id
    c.ask_each.result
    (rw c.in_target.ensures at c.in_ok-id.ensures)
    (rw (c.in_ok-names.ensures, c.in_bounds-inside.ensures, c.as_slice.ensures) at c.ask_each.ensures)
