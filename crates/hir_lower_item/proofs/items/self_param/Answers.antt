use Rattle.std.proofs.Common.{ap}
use Rattle.std.specs.Prelude.{None}
use Rattle.hir_store.specs.declared.generics.TypeParamProvenance.TheVariants.{TraitSelf}
use Rattle.hir_store.specs.declared.name.Name.TheVariants as name
use Rattle.hir_lower_item.specs.Lower.{self_text}
use Rattle.hir_lower_item.proofs.ItemHere.{form_here}
use Rattle.hir_lower_item.proofs.items.self_param.Goals as goal

pub returns : goal.returns
returns g c =
    form_here (g.E.LowerEnv.answers c.args.env.now) _ _ c.args.def _ self_text None TraitSelf c.args.bounds.now c.args.state.now
    c.type_param_form.new.state c.type_param_form.result c.in_self_bounds-inside.ensures (ap name.Text c.in_ok-new.ensures)
    c.type_param_form.ensures
