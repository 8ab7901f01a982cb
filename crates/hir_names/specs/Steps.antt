-- The steps of a walk from one scope to another one.
use Rattle.std.specs.Prelude.{◌≡◌, Some}
use Rattle.hir_names.specs.declared.places.Ends.{Ends}
use Rattle.hir_names.specs.declared.places.Step.{Step}
use Rattle.hir_names.specs.declared.places.Step.TheVariants as step

-- It goes out of the scope that it says.
abbrev pub IsStep : Ends → Step → Type 0
IsStep e (step.Out s) = e.here ≡ Some s
IsStep e (step.OnWay s) = e.there ≡ Some s
