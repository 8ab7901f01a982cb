use Rattle.std.proofs.lemmas.Grind.{common_steps}
use Rattle.std.proofs.Common.{arith}
use Rattle.hir_lower_builder.specs.Methods.{at_place}
use Rattle.hir_lower_builder.proofs.Aliases.{path_lowers, reading_fails}
use Rattle.hir_lower_builder.proofs.parts.Lowerer.lower_path.Goals as goal

pub returns-in-Ok : goal.returns-in-Ok
returns-in-Ok g c =
    let at = at_place (g.P.LowerParts.rctx c.args.self.now.parts) c.args.place in
    path_lowers at c.args.node.now c.args.state.now c.read_path.new.state c.input_end-mark.result c.input_end-mark.ensures.0
    c.whole_path.new.state c.in-Ok.reading c.whole_path.result (rw (c.new-walk.ensures, c.in-Ok.is) at c.read_path.ensures)
    c.whole_path.ensures

pub returns-in-Err : goal.returns-in-Err
returns-in-Err g c =
    let at = at_place (g.P.LowerParts.rctx c.args.self.now.parts) c.args.place in
    reading_fails at c.args.node.now c.args.state.now c.read_path.new.state c.input_end-mark.result
    c.input_end-mark.ensures.0 c.in-Err.fault (rw (c.new-walk.ensures, c.in-Err.is) at c.read_path.ensures)

pub read_path-requires-clause-walk : goal.read_path-requires-clause-walk
read_path-requires-clause-walk g c = grind (arith, common_steps)

pub read_path-requires-clause-part : goal.read_path-requires-clause-part
read_path-requires-clause-part g c = grind (arith, common_steps)
