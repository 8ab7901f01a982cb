use Rattle.std.proofs.Common.{arith, Some, []}
use Rattle.std.proofs.lemmas.Grind.{common_steps}
use Rattle.hir_store.specs.Range.{HasPat}
use Rattle.hir_env.specs.ResolveCtx.{ResolveCtx}
use Rattle.hir_env.specs.Targets.{origin}
use Rattle.hir_lower_builder.specs.Lower.{lower_path, lower_target_fields}
use Rattle.hir_lower_builder.specs.Targets.{record_target_form, record_target_of}
use Rattle.hir_lower_pat.proofs.AssigneeFuel.{behind_first}
use Rattle.hir_lower_bind.proofs.target_records.record_form.Goals as goal

pub returns-in-Some : goal.returns-in-Some
unfolding record_target_form
returns-in-Some g c =
    let rctx : ResolveCtx = g.T.Here.rctx c.args.parts.now in
    let list = c.args.list.now in
    let fields = lower_target_fields [] (g.L.TargetRecord.fields rctx list) in
    let path = rw c.in-Some.is at c.in_ok-path.ensures in
    behind_first HasPat (lower_path (g.W.PathPart.read rctx c.args.path.now))
    (record_target_of (origin c.args.call c.args.at) (g.L.TargetRecord.has_dots list) (g.L.TargetRecord.spread rctx list) fields)
    (Some c.in-Some.path) c.args.state.now c.path.new.state _ _ path.0 path.1 c.record.ensures

pub returns-in-None : goal.returns-in-None
unfolding record_target_form
returns-in-None g c = grind (arith, common_steps)

pub record-requires-clause-path : goal.record-requires-clause-path
unfolding record_target_form
record-requires-clause-path g c = grind (arith, common_steps)
