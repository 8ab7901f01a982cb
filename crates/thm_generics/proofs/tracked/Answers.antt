use Rattle.thm_generics.proofs.Tree.{bounds_are_tracked, paths_tracked, types_tracked}
use Rattle.thm_generics.proofs.tracked.Goals as goal

pub returns-clause-types : goal.returns-clause-types
returns-clause-types c = types_tracked

pub returns-clause-paths : goal.returns-clause-paths
returns-clause-paths c = paths_tracked

pub returns-clause-bounds : goal.returns-clause-bounds
returns-clause-bounds c = bounds_are_tracked
