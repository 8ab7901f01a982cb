use Rattle.hir_env.proofs.PathLevels.{bound_is_level}
use Rattle.hir_lower_builder.specs.Methods.{at_place}
use Rattle.hir_lower_type.proofs.bounds.bound_node.Goals as goal

pub returns : goal.returns
returns g c =
    let at = at_place (g.P.LowerParts.rctx c.args.lowerer.now.parts) c.args.place in
    rw (bound_is_level at c.args.node.now) c.bound_form.ensures

pub bound_form-requires : goal.bound_form-requires
bound_form-requires g c = c.requires
