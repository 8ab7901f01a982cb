use Rattle.hir_env.proofs.PathLevels.{assoc_arg_is_level}
use Rattle.hir_lower_type.proofs.args.assoc_arg.Goals as goal

pub returns : goal.returns
returns g c = rw (assoc_arg_is_level (g.P.LowerParts.rctx c.args.lowerer.now.parts) c.args.node.now) c.assoc_form.ensures

pub assoc_form-requires : goal.assoc_form-requires
assoc_form-requires g c = c.requires
