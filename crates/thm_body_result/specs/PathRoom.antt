-- How much the parts of a path become, where the reading goes on.
use Rattle.std.specs.Prelude.{List, [], ◌∷◌, Option, Some, None}
use Rattle.hir_env.specs.ResolvedTree as tree
use Rattle.hir_env.specs.ResolvedTree.{Lifetime, UseRead}
use Rattle.thm_logic.specs.PathSeen.{Seen, Read, goes_on}
use Rattle.thm_body_result.specs.Size.{Size, nothing, a_lifetime, ◌∪◌}

-- what stands before is read where the reading goes on
abbrev pub before : Read → (Seen → Size) → Size
before (goes_on x) f = f x
before read f = nothing

abbrev pub lifetime_size : Option Lifetime → Size
lifetime_size None = nothing
lifetime_size (Some l) = a_lifetime (Some l.pointer)

abbrev pub use_size : UseRead → Size
use_size (tree.used_name n) = nothing
use_size (tree.used_lifetime l) = a_lifetime (Some l.pointer)

abbrev pub uses_size : List UseRead → Size
uses_size [] = nothing
uses_size (u ∷ us) = use_size u ∪ uses_size us
