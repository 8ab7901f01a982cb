use Rattle.std.proofs.lemmas.Grind.{common_steps}
use Rattle.std.proofs.Common.{arith}
use Rattle.hir_syntax.specs.declared.ast.PathSegment.{out-PathSegment}
use Rattle.hir_env.specs.Whole.{parens_part}
use Rattle.hir_lower_builder.specs.Lower as spec
use Rattle.hir_lower_path.proofs.Found.{parens_fail}
use Rattle.hir_lower_path.proofs.args.parens_or_dots.Goals as goal

pub returns-in-Err : goal.returns-in-Err
returns-in-Err g c =
    let rctx = g.P.LowerParts.rctx c.args.lowerer.now.parts in
    let level = out-PathSegment c.args.node.now in
    parens_fail (spec.parens_part (parens_part rctx level.parens level.ret)) level.rtn c.args.state.now c.parens.new.state c.in-Err.fault
    (rw c.in-Err.is at c.parens.ensures)

pub parens-requires : goal.parens-requires
parens-requires g c = grind (arith, common_steps)

pub returns-in-Ok : goal.returns-in-Ok
returns-in-Ok g c = grind (arith, common_steps)
