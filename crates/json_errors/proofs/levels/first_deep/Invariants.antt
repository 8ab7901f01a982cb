use Rattle.std.proofs.Common.{◌≡◌, drop}
use Rattle.json_errors.specs.Levels.{first_deep}
use Rattle.json_errors.proofs.levels.first_deep.Given as goal

abbrev pub invariant-loop-level : goal.invariant-loop-level
invariant-loop-level l = record {
  place : l.at ≡ l.level-index;
  so_far : first_deep 0 l.levels ≡ first_deep l.at (drop l.level-index l.levels);
}
