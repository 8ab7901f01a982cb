use Rattle.std.proofs.Common.{arith, ◌≡◌, [], subst, sym}
use Rattle.std.proofs.lemmas.Grind.{common_steps}
use Rattle.hir_env.specs.Whole.{first_part, rest_part}
use Rattle.hir_lower_builder.specs.Lower.{read_own}
use Rattle.hir_lower_builder.specs.Lowering.{Lowers}
use Rattle.hir_lower_builder.specs.Methods.{HasReading}
use Rattle.hir_lower_path.proofs.path.own_segments.Goals as goal

pub returns-in_default : goal.returns-in_default
returns-in_default g c =
    let none : c.args.all.now ≡ [] = grind (arith, common_steps) in
    let rctx = g.P.LowerParts.rctx c.args.lowerer.now.parts in
    subst (λ ss. Lowers HasReading (read_own c.args.leading (first_part rctx ss) (rest_part rctx ss) c.args.walk) c.args.state.now
    c.missing_first.result c.missing_first.new.state) (sym none) c.missing_first.ensures

pub segments-requires-clause-parts : goal.segments-requires-clause-parts
segments-requires-clause-parts g c = grind (arith, common_steps)

pub segment-requires-clause-parts : goal.segment-requires-clause-parts
segment-requires-clause-parts g c = grind (arith, common_steps)

pub segment-requires-clause-walk : goal.segment-requires-clause-walk
segment-requires-clause-walk g c = grind (arith, common_steps)

pub returns-in_default-segments : goal.returns-in_default-segments
returns-in_default-segments g c = grind (arith, common_steps)
