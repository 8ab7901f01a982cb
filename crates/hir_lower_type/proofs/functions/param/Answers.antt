use Rattle.hir_env.proofs.PathLevels.{param_is_level}
use Rattle.hir_lower_type.proofs.functions.param.Goals as goal

pub returns : goal.returns
returns g c = rw (param_is_level (g.P.LowerParts.rctx c.args.lowerer.now.parts) c.args.node.now) c.param_form.ensures

pub param_form-requires : goal.param_form-requires
param_form-requires g c = c.requires
