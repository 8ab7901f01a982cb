use Rattle.hir_env.specs.Whole.{resolved_arg}
use Rattle.hir_env.proofs.PathLevels.{arg_is_level}
use Rattle.hir_lower_type.proofs.Behind.{found_behind}
use Rattle.hir_lower_type.proofs.args.with_arg.Goals as goal

pub returns : goal.returns
returns g c =
    let rctx = g.P.LowerParts.rctx c.args.lowerer.now.parts in
    found_behind c.args.lists (resolved_arg rctx c.args.node.now) c.arg_form.result c.behind_others.result c.args.state.now
    c.arg_form.new.state c.behind_others.ensures c.requires.lists (rw (arg_is_level rctx c.args.node.now) c.arg_form.ensures)
