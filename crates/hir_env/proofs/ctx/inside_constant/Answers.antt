use Rattle.std.proofs.Common.{rules}
use Rattle.hir_env.proofs.ctx.inside_constant.Goals as goal

pub returns : goal.returns
returns c = search rules
