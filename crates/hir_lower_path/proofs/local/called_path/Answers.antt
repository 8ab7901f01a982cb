use Rattle.std.proofs.Common.{arith, ◌≡◌, ◌≤◌, length, subst, sym, Some, [], ◌∷◌}
use Rattle.std.proofs.lemmas.Grind.{common_steps}
use Rattle.hir_syntax.specs.declared.ast.Path.{out-Path}
use Rattle.hir_env.specs.Whole.{first_part, rest_part}
use Rattle.hir_lower_builder.specs.Lower.{read_own}
use Rattle.hir_lower_builder.specs.Methods.{ReadsPath}
use Rattle.hir_lower_path.proofs.Rooted.{alone_lowers, more_level, one_level, reads_level}
use Rattle.hir_lower_path.proofs.local.called_path.Goals as goal

pub returns-then-is_some : goal.returns-then-is_some
returns-then-is_some g c =
    let n : 2 ≤ length (out-Path c.args.node.now).segs = grind (arith, common_steps) in
    let rctx = g.P.LowerParts.rctx c.args.lowerer.now.parts in
    let o = out-Path c.args.node.now in
    let own = read_own o.leading (first_part rctx o.segs) (rest_part rctx o.segs) c.args.walk in
    reads_level rctx c.args.node.now c.args.walk c.args.state.now c.own_segments.result c.own_segments.new.state
    (subst (λ y. ReadsPath y c.args.walk c.args.state.now c.own_segments.result c.own_segments.new.state)
    (sym (more_level rctx c.args.node.now c.requires.called n))
    (alone_lowers rctx o.use_ own c.args.state.now c.own_segments.result c.own_segments.new.state c.requires.alone
    (rw c.as_slice-all.ensures at c.own_segments.ensures)))

pub returns-in-Some-first : goal.returns-in-Some-first
returns-in-Some-first g c =
    let e : (out-Path c.args.node.now).segs ≡ Some c.in-Some-first.segment ∷ [] = grind (arith, common_steps) in
    let rctx = g.P.LowerParts.rctx c.args.lowerer.now.parts in
    reads_level rctx c.args.node.now c.args.walk c.args.state.now c.only_segment.result c.only_segment.new.state
    (subst (λ y. ReadsPath y c.args.walk c.args.state.now c.only_segment.result c.only_segment.new.state)
    (sym (one_level rctx c.args.node.now c.requires.called c.in-Some-first.segment c.requires.alone e)) c.only_segment.ensures)

pub returns-in_default : goal.returns-in_default
returns-in_default g c = grind (arith, common_steps)

pub own_segments-requires-clause-parts : goal.own_segments-requires-clause-parts
own_segments-requires-clause-parts g c = grind (arith, common_steps)

pub only_segment-requires-clause-parts : goal.only_segment-requires-clause-parts
only_segment-requires-clause-parts g c = grind (arith, common_steps)
