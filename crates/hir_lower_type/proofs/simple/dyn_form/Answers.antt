use Rattle.std.proofs.Common.{None}
use Rattle.hir_store.specs.Range.{HasType}
use Rattle.hir_env.specs.ResolveCtx.{ResolveCtx}
use Rattle.hir_env.specs.ResolvedTree as tree
use Rattle.hir_env.specs.ResolvedTree.{Bounds}
use Rattle.hir_lower_builder.specs.Lower.{lower_type}
use Rattle.hir_lower_type.proofs.Here.{dyn_here}
use Rattle.hir_lower_type.proofs.Params.{handed_on}
use Rattle.hir_lower_type.proofs.simple.dyn_form.Goals as goal

pub returns-in_err-read : goal.returns-in_err-read
returns-in_err-read g c =
    let at = g.P.LowerParts.rctx c.args.lowerer.now.parts in
    let read : ResolveCtx → Bounds = λ q. g.L.BoundsPart.read q c.args.written.now in
    handed_on HasType (lower_type None (tree.dyn_type c.args.at (read at))) c.args.state.now _ c.from_residual.result c.lower.new.state
    c.from_residual.ensures.1
    (λ other.
    let h = c.in_err-read.ensures other in
    (dyn_here at c.place.result c.args.at read c.args.state.now c.lower.new.state _ c.place.ensures h.0, h.1))
