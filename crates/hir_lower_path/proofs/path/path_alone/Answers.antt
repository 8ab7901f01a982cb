use Rattle.std.proofs.lemmas.Grind.{common_steps}
use Rattle.std.proofs.Common.{subst, sym, arith}
use Rattle.hir_syntax.specs.declared.ast.Path.{out-Path}
use Rattle.hir_env.specs.Whole.{first_part, rest_part}
use Rattle.hir_lower_builder.specs.Lower.{read_own}
use Rattle.hir_lower_builder.specs.Methods.{ReadsPath}
use Rattle.hir_lower_path.proofs.Rooted.{alone_lowers, reads_level, uncalled_level, used_level}
use Rattle.hir_lower_path.proofs.path.path_alone.Goals as goal

pub returns-else-node : goal.returns-else-node
returns-else-node g c =
    let rctx = g.P.LowerParts.rctx c.args.lowerer.now.parts in
    let o = out-Path c.args.node.now in
    let own = read_own o.leading (first_part rctx o.segs) (rest_part rctx o.segs) c.args.walk in
    reads_level rctx c.args.node.now c.args.walk c.args.state.now c.own_segments.result c.own_segments.new.state
    (subst (λ y. ReadsPath y c.args.walk c.args.state.now c.own_segments.result c.own_segments.new.state)
    (sym (uncalled_level rctx c.args.node.now c.if-node.false))
    (alone_lowers rctx o.use_ own c.args.state.now c.own_segments.result c.own_segments.new.state c.in-None.is
    (rw c.as_slice-all.ensures at c.own_segments.ensures)))

pub returns-in-Some : goal.returns-in-Some
returns-in-Some g c =
    let rctx = g.P.LowerParts.rctx c.args.lowerer.now.parts in
    reads_level rctx c.args.node.now c.args.walk c.args.state.now c.whole_path.result c.whole_path.new.state
    (subst (λ y. ReadsPath y c.args.walk c.args.state.now c.whole_path.result c.whole_path.new.state)
    (sym (used_level rctx c.args.node.now c.in-Some.field-0 c.in-Some.is))
    (rw c.as_slice-all.ensures at c.whole_path.ensures))

pub whole_path-requires-clause-parts : goal.whole_path-requires-clause-parts
whole_path-requires-clause-parts g c = grind (arith, common_steps)

pub returns-then-node : goal.returns-then-node
returns-then-node g c = grind (arith, common_steps)

pub called_path-requires-clause-parts : goal.called_path-requires-clause-parts
called_path-requires-clause-parts g c = grind (arith, common_steps)

pub own_segments-requires-clause-parts : goal.own_segments-requires-clause-parts
own_segments-requires-clause-parts g c = grind (arith, common_steps)

pub called_path-requires-clause-alone : goal.called_path-requires-clause-alone
called_path-requires-clause-alone g c = grind (arith, common_steps)

pub whole_path-requires-clause-outer : goal.whole_path-requires-clause-outer
whole_path-requires-clause-outer g c = grind (arith, common_steps)

pub called_path-requires-clause-called : goal.called_path-requires-clause-called
called_path-requires-clause-called g c = grind (arith, common_steps)
