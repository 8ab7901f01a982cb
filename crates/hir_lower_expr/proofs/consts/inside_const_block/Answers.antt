use Rattle.std.proofs.Common.{rules}
use Rattle.hir_lower_expr.proofs.consts.inside_const_block.Goals as goal

pub returns : goal.returns
returns c = search rules
