use Rattle.std.proofs.Common.{◌≡◌, length, []}
use Rattle.hir_store.specs.Range.{Grows, HasPatFields}
use Rattle.hir_env.specs.Targets as of
use Rattle.hir_env.specs.Whole.{fields_part}
use Rattle.hir_lower_builder.specs.Lower.{lower_target_fields}
use Rattle.hir_lower_pat.specs.Assignees.{KidsOfFields, found_at}
use Rattle.hir_lower_bind.proofs.target_records.fields.Given as goal

abbrev pub invariant-loop-left : goal.invariant-loop-left
invariant-loop-left g l =
    let at = g.T.Here.rctx l.parts in
    let read = of.target_fields (found_at at) in
    record {
      so_far : lower_target_fields [] (read (fields_part at l.fn.left)) l.fn.state
          ≡ lower_target_fields l.done (read (fields_part at l.left)) l.state;
      may : KidsOfFields (g.T.TargetParts.can_target l.parts) l.left;
      placed : Grows l.fn.state.stored l.state.stored × HasPatFields l.state.stored l.done;
    }

abbrev pub decreases-loop-left : goal.decreases-loop-left
decreases-loop-left g l = length l.left
