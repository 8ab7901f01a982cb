use Rattle.hir_env.proofs.PathLevels.{path_type_is_level}
use Rattle.hir_lower_builder.specs.Methods.{at_place}
use Rattle.hir_lower_type.proofs.bounds.path_bound.Goals as goal

pub returns : goal.returns
returns g c =
    let at = at_place (g.P.LowerParts.rctx c.args.lowerer.now.parts) c.args.place in
    rw (path_type_is_level at c.args.node.now) c.path_bound_form.ensures

pub path_bound_form-requires : goal.path_bound_form-requires
path_bound_form-requires g c = c.requires
