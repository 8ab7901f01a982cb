use Rattle.std.proofs.lemmas.Grind.{common_steps}
use Rattle.std.proofs.Common.{ap, arith}
use Rattle.hir_env.proofs.PathLevels.{param_is_level}
use Rattle.hir_lower_expr.proofs.closures.param.Goals as goal

pub returns : goal.returns
returns g c =
    let is = param_is_level (g.P.LowerParts.rctx c.args.lowerer.now.parts) c.args.node.now in
    rw (ap (λ r. r.own) is) c.param_form.ensures

pub param_form-requires-clause-part : goal.param_form-requires-clause-part
param_form-requires-clause-part g c = grind (arith, common_steps)
