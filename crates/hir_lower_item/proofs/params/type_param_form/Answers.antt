use Rattle.std.specs.Prelude.{None, Some}
use Rattle.hir_store.specs.Range.{HasNone, HasType}
use Rattle.hir_store.specs.declared.generics.TypeOrConstParamData.TheVariants as param
use Rattle.hir_env.specs.Whole.{bounds_part}
use Rattle.hir_lower_builder.specs.Lowering.{HasNumber, ◌>>=◌, add_param, alloc_type, param_type}
use Rattle.hir_lower_callbacks.specs.ResolveCtxs.{rctx_at}
use Rattle.hir_lower_item.specs.Lower.{ask_each}
use Rattle.hir_lower_item.specs.declared.predicates.Bounded.TheVariants as bounded
use Rattle.hir_lower_item.proofs.Steps.{then_lowers}
use Rattle.hir_lower_item.proofs.params.type_param_form.Goals as goal

pub returns : goal.returns
returns g c =
    let at = rctx_at (g.E.LowerEnv.answers c.args.env.now) c.args.place in
    let bs = bounds_part at c.args.bounds.now in
    then_lowers HasNumber HasNone
    (add_param (param.TypeParamData (record { name = Some c.args.name; default = c.args.default; provenance = c.args.provenance })))
    (λ k. alloc_type (param_type c.args.def k) None >>= (λ id. ask_each None (bounded.Type_ id) bs)) c.args.state.now c.add_param.new.self
    c.ask_each.new.state c.in_ok-number.number c.ask_each.result c.in_ok-number.ensures
    (then_lowers HasType HasNone (alloc_type (param_type c.args.def c.in_ok-number.number) None)
    (λ id. ask_each None (bounded.Type_ id) bs) c.add_param.new.self c.own_type.new.state c.ask_each.new.state
    c.in_ok-own_type.field-0 c.ask_each.result c.in_ok-own_type.ensures (rw c.as_slice.ensures at c.ask_each.ensures))
