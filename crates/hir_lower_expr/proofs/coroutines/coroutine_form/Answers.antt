use Rattle.std.proofs.Common.{arith}
use Rattle.std.proofs.lemmas.Grind.{common_steps}
use Rattle.hir_store.specs.Range.{HasExpr}
use Rattle.hir_env.specs.Whole.{in_coroutine}
use Rattle.hir_lower_builder.specs.Forms as form
use Rattle.hir_lower_builder.specs.Lower.{lower_inside}
use Rattle.hir_lower_builder.specs.Lowering.{owning}
use Rattle.hir_lower_builder.specs.declared.parts.BlockRole.TheVariants as role
use Rattle.hir_lower_expr.proofs.Owning.{owning_refused}
use Rattle.hir_lower_expr.proofs.coroutines.coroutine_form.Goals as goal

pub returns : goal.returns
unfolding owning
returns g c = grind (arith, common_steps)

pub returns-in_err-id : goal.returns-in_err-id
returns-in_err-id g c =
    let inside = in_coroutine c.args.kind (g.P.LowerParts.rctx c.args.lowerer.now.parts) in
    let block = g.N.WrittenBlock.read inside c.args.node.now in
    owning_refused HasExpr (λ i. i) (form.coroutine_form (lower_inside (role.Coroutine c.args.kind c.args.moves) block))
    c.args.state.now c.bordered_coroutine.new.state c.in_err-id.field-0.0 c.from_residual.result c.from_residual.ensures.1
    c.in_err-id.ensures
