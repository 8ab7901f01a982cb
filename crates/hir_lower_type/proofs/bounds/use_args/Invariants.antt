use Rattle.std.proofs.Common.{◌≡◌, length, []}
use Rattle.std.specs.Prelude.{map}
use Rattle.hir_store.specs.Range.{Grows, HasUseArgs}
use Rattle.hir_env.specs.Paths.{use_of}
use Rattle.hir_lower_builder.specs.Types.{lower_uses}
use Rattle.hir_lower_type.proofs.bounds.use_args.Given as goal

abbrev pub invariant-loop-left : goal.invariant-loop-left
invariant-loop-left g l = record {
  so_far : lower_uses [] (map (use_of l.fn.place) l.fn.left) l.fn.state ≡ lower_uses l.done (map (use_of l.fn.place) l.left) l.state;
  placed : Grows l.fn.state.stored l.state.stored × HasUseArgs l.state.stored l.done;
}

abbrev pub decreases-loop-left : goal.decreases-loop-left
decreases-loop-left g l = length l.left
