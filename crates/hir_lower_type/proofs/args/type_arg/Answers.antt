use Rattle.std.proofs.lemmas.Grind.{common_steps}
use Rattle.std.proofs.Common.{None, Err, subst, arith}
use Rattle.hir_store.specs.Range.{HasType}
use Rattle.hir_store.specs.declared.path.GenericArg.TheVariants as arg
use Rattle.hir_env.specs.Whole as of
use Rattle.hir_lower_builder.specs.Lower.{type_part}
use Rattle.hir_lower_builder.specs.Lowering.{Lowers, pure}
use Rattle.hir_lower_builder.specs.Methods.{at_place}
use Rattle.hir_lower_type.specs.Single.{HasOne}
use Rattle.hir_lower_type.specs.declared.one_arg.OneArg.TheVariants as one
use Rattle.hir_lower_type.proofs.Behind.{fails_on}
use Rattle.hir_lower_type.proofs.args.type_arg.Goals as goal

pub returns-in-Err : goal.returns-in-Err
returns-in-Err g c =
    let rctx = g.P.LowerParts.rctx c.args.lowerer.now.parts in
    let old = c.args.state.now in
    let new = c.type_or_error.new.state in
    let node = c.args.node.now in
    fails_on HasType HasOne (type_part None (of.type_part rctx node)) (λ id. pure (one.Arg (arg.Type_ id))) old new c.in-Err.fault
    (subst (λ q. Lowers HasType (type_part None (of.type_part (at_place rctx q) node)) old (Err c.in-Err.fault) new)
    c.place-place.ensures
    (subst (λ r. Lowers HasType (type_part None (of.type_part (at_place rctx c.place-place.result) node)) old r new) c.in-Err.is
    c.type_or_error.ensures))

pub returns-in-Ok : goal.returns-in-Ok
returns-in-Ok g c = grind (arith, common_steps)
