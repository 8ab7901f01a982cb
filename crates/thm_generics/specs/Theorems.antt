-- What lowering notes is what is read off the tree.
use Rattle.std.specs.Prelude.{◌≡◌, Option, Ok}
use Rattle.hir_store.specs.declared.ids.ExprId.{ExprId}
use Rattle.hir_store.specs.declared.ids.TypeRefId.{TypeRefId}
use Rattle.hir_store.specs.declared.path.Path.{Path as HirPath}
use Rattle.hir_store.specs.declared.type_ref.ConstRef.{ConstRef}
use Rattle.hir_store.specs.declared.type_ref.TypeBound.{TypeBound}
use Rattle.hir_env.specs.ResolvedTree.{Binder, Bound, Constant, OptionExpr, OptionPath, OptionType}
use Rattle.hir_lower_builder.specs.Builder.{Builder}
use Rattle.hir_lower_builder.specs.Lower.{lower_bound, lower_constant, lower_part, lower_path, type_part}
use Rattle.thm_logic.specs.Keeps.{Paired}
use Rattle.spec_data.specs.Fold.{tracked_in_bound, tracked_in_constant, tracked_in_part, tracked_in_type_part, tracked_in_whole}
use Rattle.thm_generics.specs.Lists.{Tracked}

-- from any builder on in which each entry has its source

abbrev pub TypesTracked : Type 0
TypesTracked =
    (binder : Option Binder) (t : OptionType) (b c : Builder) (i : TypeRefId) → Paired b.stored → type_part binder t b ≡ (Ok i, c)
    → Tracked (tracked_in_type_part t) b c

abbrev pub PathsTracked : Type 0
PathsTracked = (p : OptionPath) (b c : Builder) (r : Option HirPath) → Paired b.stored → lower_path p b ≡ (Ok r, c)
    → Tracked (tracked_in_whole p) b c

abbrev pub BoundsTracked : Type 0
BoundsTracked =
    (x : Bound) (b c : Builder) (r : TypeBound) → Paired b.stored → lower_bound x b ≡ (Ok r, c) → Tracked (tracked_in_bound x) b c

abbrev pub ConstantsTracked : Type 0
ConstantsTracked = (x : Constant) (b c : Builder) (r : ConstRef) → Paired b.stored → lower_constant x b ≡ (Ok r, c)
    → Tracked (tracked_in_constant x) b c

-- of what stands in constants too
abbrev pub ExprsTracked : Type 0
ExprsTracked =
    (e : OptionExpr) (b c : Builder) (i : ExprId) → Paired b.stored → lower_part e b ≡ (Ok i, c) → Tracked (tracked_in_part e) b c
