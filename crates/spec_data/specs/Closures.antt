-- What a closure is and what its parameters are, as it is written.
use Rattle.std.specs.Prelude.{Bool, true, false, if◌then◌else◌, List, [], ◌∷◌}
use Rattle.hir_store.specs.declared.hir.CaptureBy.{CaptureBy}
use Rattle.hir_store.specs.declared.hir.CaptureBy.TheVariants as capture
use Rattle.hir_store.specs.declared.hir.ClosureKind.{ClosureKind}
use Rattle.hir_store.specs.declared.hir.ClosureKind.TheVariants as kind
use Rattle.hir_store.specs.declared.hir.Movability.{Movability}
use Rattle.hir_store.specs.declared.hir.Movability.TheVariants as movability
use Rattle.hir_env.specs.ResolvedTree as tree
use Rattle.hir_env.specs.ResolvedTree.{OptionExpr, OptionType, Params}
use Rattle.spec_data.specs.Yields.{yields_in}

abbrev pub movability_of : Bool → Movability
movability_of true = movability.Static
movability_of false = movability.Movable

-- one in whose body a `yield` stands is an old coroutine
abbrev pub kind_of : Bool → OptionExpr → ClosureKind
kind_of is_static e = if yields_in e then kind.OldCoroutine (movability_of is_static) else kind.Closure

abbrev pub capture_of : Bool → CaptureBy
capture_of true = capture.Value
capture_of false = capture.Ref

-- the types of the parameters that are kept
abbrev pub params_types : Params → List OptionType
params_types tree.no_params = []
params_types (tree.more_params (tree.disabled_param at by x) ps) = params_types ps
params_types (tree.more_params (tree.param p t) ps) = t ∷ params_types ps
