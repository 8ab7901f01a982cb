use Rattle.std.proofs.Common.{arith, ◌∙◌, sym}
use Rattle.hir_lower_builder.specs.Builder.{Builder}
use Rattle.hir_lower_builder.proofs.Ribs.{found_lowers, missed_lowers}
use Rattle.hir_lower_builder.proofs.builder.BodyBuilder.jump_target.Goals as goal

pub returns-in-Ok : goal.returns-in-Ok
returns-in-Ok g c =
    let b : Builder = record {
      stored = g.I.StoreSink.held c.self.inside.store;
      scopes = c.self.inside.scopes;
      names = c.self.inside.names;
      counted_out = c.self.inside.counted_out;
      in_root = c.self.inside.in_root;
      yields = c.self.inside.yields;
      tracks = c.self.inside.tracks;
    } in
    let env = (g.P.LowerParts.rctx c.args.parts.now).answers in
    let is = sym c.find_label.ensures ∙ c.in-Ok.is in
    let h = found_lowers b env c.args.source c.args.name c.args.hygiene c.in-Ok.label is c.self.invariant in
    rw (← c.self.view_is) (h.0, (omega arith, omega arith, omega arith, omega arith, omega arith, omega arith), h.1)

pub returns-in-Err : goal.returns-in-Err
returns-in-Err g c =
    let b : Builder = record {
      stored = g.I.StoreSink.held c.self.inside.store;
      scopes = c.self.inside.scopes;
      names = c.self.inside.names;
      counted_out = c.self.inside.counted_out;
      in_root = c.self.inside.in_root;
      yields = c.self.inside.yields;
      tracks = c.self.inside.tracks;
    } in
    let env = (g.P.LowerParts.rctx c.args.parts.now).answers in
    let is = sym c.find_label.ensures ∙ c.in-Err.is in
    let emitted = rw (← c.self.view_is) at c.no_target.ensures in
    rw (← c.self.view_is) (missed_lowers b env c.args.source c.args.name c.args.hygiene c.in-Err.cause is
    c.no_target.result c.no_target.new.self emitted)
