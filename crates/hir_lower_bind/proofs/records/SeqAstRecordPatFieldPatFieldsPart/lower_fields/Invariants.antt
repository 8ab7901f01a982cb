use Rattle.std.proofs.Common.{◌≡◌, length, []}
use Rattle.hir_store.specs.Range.{Grows, HasPatFields}
use Rattle.hir_env.specs.Whole.{pat_fields_part}
use Rattle.hir_lower_builder.specs.Lower.{lower_pat_fields}
use Rattle.hir_lower_builder.specs.Nests.{KidsPatFields}
use Rattle.hir_lower_pat.specs.Bindings.{HasNames, SameDepth, table_of}
use Rattle.hir_lower_bind.proofs.records.SeqAstRecordPatFieldPatFieldsPart.lower_fields.Given as goal

abbrev pub invariant-loop-left : goal.invariant-loop-left
invariant-loop-left g l = let at = g.S.Here.rctx l.parts in record {
  so_far : lower_pat_fields [] (pat_fields_part at l.fn.self) (table_of l.fn.bindings) l.fn.state
      ≡ lower_pat_fields l.done (pat_fields_part at l.left) (table_of l.bindings) l.state;
  may : KidsPatFields (g.S.PatParts.can_pat l.parts) l.left;
  placed : Grows l.fn.state.stored l.state.stored × HasPatFields l.state.stored l.done;
  named : HasNames l.state.stored l.bindings × SameDepth l.fn.bindings l.bindings;
}

abbrev pub decreases-loop-left : goal.decreases-loop-left
decreases-loop-left g l = length l.left
