-- A bound by a trait whose path is read.
use Rattle.std.specs.Prelude.{Bool}
use Rattle.hir_store.specs.Range.{HasBound}
use Rattle.hir_store.specs.declared.type_ref.TypeBound.{TypeBound}
use Rattle.hir_env.specs.ResolvedTree.{Binder}
use Rattle.hir_env.specs.TypeLayers.{PathTypeReading}
use Rattle.hir_lower_builder.specs.Builder.{Builder}
use Rattle.hir_lower_builder.specs.Lowering.{Checked, Lowers}
use Rattle.hir_lower_builder.specs.Lower.{lower_path}
use Rattle.hir_lower_builder.specs.Types.{path_bound_form}

abbrev pub LowersPathBound : PathTypeReading → Bool → Binder → Builder → Checked TypeBound → Builder → Type 0
LowersPathBound t maybe binder old result new = Lowers HasBound (path_bound_form t.pointer maybe binder (lower_path t.path)) old result new
