use Rattle.std.proofs.Common.{arith}
use Rattle.std.proofs.lemmas.Grind.{common_steps}
use Rattle.hir_store.specs.Range.{HasTypeOption}
use Rattle.hir_env.specs.Whole.{param_level}
use Rattle.hir_lower_type.specs.Params.{lower_param}
use Rattle.hir_lower_type.proofs.Here.{param_here}
use Rattle.hir_lower_type.proofs.Params.{handed_on}
use Rattle.hir_lower_type.proofs.functions.param_form.Goals as goal

pub type_or_error-requires : goal.type_or_error-requires
type_or_error-requires g c = grind (arith, common_steps)

pub returns-in_err-type_or_error : goal.returns-in_err-type_or_error
returns-in_err-type_or_error g c =
    let at = g.P.LowerParts.rctx c.args.lowerer.now.parts in
    let x = c.args.node.now in
    handed_on HasTypeOption (lower_param (param_level at x)) c.args.state.now _ c.from_residual.result c.type_or_error.new.state
    c.from_residual.ensures.1
    (λ other.
    let h = c.in_err-type_or_error.ensures other in
    (param_here at c.place-place.result x c.args.state.now c.type_or_error.new.state _ c.if-node.false c.place-place.ensures h.0, h.1))

pub returns-then-node : goal.returns-then-node
returns-then-node g c = grind (arith, common_steps)

pub returns : goal.returns
returns g c = grind (arith, common_steps)
