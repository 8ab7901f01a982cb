use Rattle.std.proofs.Common.{◌≡◌, length, [], None}
use Rattle.hir_store.specs.Range.{Grows, HasPats}
use Rattle.hir_env.specs.Whole.{exprs_part}
use Rattle.hir_lower_builder.specs.Nests.{Each}
use Rattle.hir_lower_pat.specs.Assignees.{found_at}
use Rattle.hir_lower_pat.specs.TargetLists.{array_read}
use Rattle.hir_lower_bind.proofs.target_elements.SeqAstExprTargetsPart.around_dots.Given as goal

abbrev pub invariant-loop-left : goal.invariant-loop-left
invariant-loop-left g l = let at = g.T.Here.rctx l.parts in record {
  so_far : array_read (found_at at) ([], None, []) (exprs_part at l.fn.self) l.fn.state
      ≡ array_read (found_at at) l.done (exprs_part at l.left) l.state;
  may : Each (g.T.TargetParts.can_target l.parts) l.left;
  placed : Grows l.fn.state.stored l.state.stored × HasPats l.state.stored l.done.0 × HasPats l.state.stored l.done.2;
}

abbrev pub decreases-loop-left : goal.decreases-loop-left
decreases-loop-left g l = length l.left
