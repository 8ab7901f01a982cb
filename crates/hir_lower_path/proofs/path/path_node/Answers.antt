use Rattle.std.proofs.lemmas.Grind.{common_steps}
use Rattle.std.proofs.Common.{arith, ap, subst, sym}
use Rattle.hir_env.specs.Whole.{path_level_as}
use Rattle.hir_lower_builder.specs.Methods.{ReadsPath}
use Rattle.hir_lower_path.proofs.path.path_node.Goals as goal

pub returns-then-alone : goal.returns-then-alone
returns-then-alone g c =
    let rctx = g.P.LowerParts.rctx c.args.lowerer.now.parts in
    subst (λ b. ReadsPath (path_level_as b rctx c.args.node.now) c.args.walk c.args.state.now c.path_alone.result c.path_alone.new.state)
    (sym c.if-alone.true) c.path_alone.ensures

pub returns-else-alone : goal.returns-else-alone
returns-else-alone g c =
    let rctx = g.P.LowerParts.rctx c.args.lowerer.now.parts in
    subst (λ b. ReadsPath (path_level_as b rctx c.args.node.now) c.args.walk c.args.state.now c.whole_path.result c.whole_path.new.state)
    (sym c.if-alone.false) (rw c.as_slice.ensures at c.whole_path.ensures)

pub path_alone-requires-clause-parts : goal.path_alone-requires-clause-parts
path_alone-requires-clause-parts g c = grind (arith, common_steps)

pub whole_path-requires-clause-parts : goal.whole_path-requires-clause-parts
whole_path-requires-clause-parts g c = grind (arith, common_steps)

pub whole_path-requires-clause-outer : goal.whole_path-requires-clause-outer
whole_path-requires-clause-outer g c = grind (arith, common_steps)
