use Rattle.hir_env.specs.Targets.{origin}
use Rattle.hir_lower_pat.specs.Assignees.{found_at}
use Rattle.hir_lower_pat.proofs.TargetLists.{array_lowers}
use Rattle.hir_lower_bind.proofs.target_arrays.array_form.Goals as goal

pub returns : goal.returns
returns g c =
    let rctx = g.T.Here.rctx c.args.parts.now in
    array_lowers (found_at rctx) (origin c.args.call c.args.at) (g.L.TargetsPart.read rctx c.args.elems.now) c.args.state.now _ _
    c.array_of.ensures
