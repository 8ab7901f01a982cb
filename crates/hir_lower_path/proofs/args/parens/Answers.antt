use Rattle.std.proofs.Common.{arith, []}
use Rattle.std.proofs.lemmas.Grind.{common_steps}
use Rattle.hir_env.specs.Whole.{ret_part, type_args_part}
use Rattle.hir_lower_builder.specs.Lower as spec
use Rattle.hir_lower_builder.specs.Paths.{parens_form}
use Rattle.hir_lower_path.proofs.Sugar.{parens_lower, sugared_has}
use Rattle.hir_lower_path.proofs.args.parens.Goals as goal

pub returns-in_default : goal.returns-in_default
unfolding parens_form
returns-in_default g c = grind (arith, common_steps, sugared_has)

pub returns : goal.returns
unfolding parens_form
returns g c =
    let at = g.P.LowerParts.rctx c.args.lowerer.now.parts in
    rw (c.in-Some.is, c.in_ok-sugared_args.ensures)
    (parens_lower (spec.lower_parts [] (type_args_part at c.in-Some.parens)) (spec.output_part (ret_part at c.args.ret.now))
    c.args.state.now c.type_args.new.state c.alloc_type.new.self c.output.new.state c.in_ok-types.types c.in_ok-tuple.tuple
    c.in_ok-output.output
    (rw c.as_slice.ensures at c.in_ok-types.ensures) c.in_ok-tuple.ensures c.in_ok-output.ensures)

pub returns-in_err-tuple : goal.returns-in_err-tuple
unfolding parens_form
returns-in_err-tuple g c = grind (arith, common_steps, sugared_has)

pub type_args-requires : goal.type_args-requires
unfolding parens_form
type_args-requires g c = grind (arith, common_steps, sugared_has)

pub alloc_type-requires : goal.alloc_type-requires
unfolding parens_form
alloc_type-requires g c = grind (arith, common_steps, sugared_has)

pub returns-in_err-output : goal.returns-in_err-output
unfolding parens_form
returns-in_err-output g c = grind (arith, common_steps, sugared_has)

pub output-requires : goal.output-requires
unfolding parens_form
output-requires g c = grind (arith, common_steps, sugared_has)
