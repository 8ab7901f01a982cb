use Rattle.std.proofs.Common.{Some}
use Rattle.hir_store.specs.Range.{HasPathOption, HasType}
use Rattle.hir_lower_builder.specs.Lower.{lower_path}
use Rattle.hir_lower_builder.specs.Lowering.{alloc_type}
use Rattle.hir_lower_builder.specs.Types.{path_or_error, path_type_form}
use Rattle.hir_lower_type.proofs.Behind.{fails_on, goes_on}
use Rattle.hir_lower_type.proofs.simple.path_form.Goals as goal

pub returns-in-Ok : goal.returns-in-Ok
unfolding path_type_form
returns-in-Ok g c =
    let read = g.W.PathPart.read (g.P.LowerParts.rctx c.args.lowerer.now.parts) c.args.path.now in
    goes_on HasPathOption HasType (lower_path read) (λ p. alloc_type (path_or_error p) (Some c.args.at)) c.args.state.now
    c.lower.new.state c.type_of_path.new.state c.in-Ok.path c.type_of_path.result (rw (c.place.ensures, c.in-Ok.is) at c.lower.ensures)
    c.type_of_path.ensures

pub returns-in-Err : goal.returns-in-Err
unfolding path_type_form
returns-in-Err g c =
    let read = g.W.PathPart.read (g.P.LowerParts.rctx c.args.lowerer.now.parts) c.args.path.now in
    fails_on HasPathOption HasType (lower_path read) (λ p. alloc_type (path_or_error p) (Some c.args.at)) c.args.state.now
    c.lower.new.state c.in-Err.fault (rw (c.place.ensures, c.in-Err.is) at c.lower.ensures)
