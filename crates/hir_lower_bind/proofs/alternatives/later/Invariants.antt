use Rattle.std.proofs.Common.{◌≡◌, length, ◌∷◌, []}
use Rattle.hir_store.specs.Range.{Grows, HasPats}
use Rattle.hir_env.specs.Whole.{pats_part}
use Rattle.hir_lower_builder.specs.Lower.{lower_later}
use Rattle.hir_lower_builder.specs.Nests.{Each}
use Rattle.hir_lower_pat.specs.Bindings.{HasNames, SameDepth, table_of}
use Rattle.hir_lower_bind.proofs.alternatives.later.Given as goal

abbrev pub invariant-loop-left : goal.invariant-loop-left
invariant-loop-left g l = let at = g.S.Here.rctx l.parts in record {
  so_far : lower_later (pats_part at l.fn.left) (l.fn.first ∷ []) (table_of l.fn.bindings) l.fn.state
      ≡ lower_later (pats_part at l.left) l.done (table_of l.bindings) l.state;
  may : Each (g.S.PatParts.can_pat l.parts) l.left;
  placed : Grows l.fn.state.stored l.state.stored × HasPats l.state.stored l.done;
  named : HasNames l.state.stored l.bindings × SameDepth l.fn.bindings l.bindings;
}

abbrev pub decreases-loop-left : goal.decreases-loop-left
decreases-loop-left g l = length l.left
