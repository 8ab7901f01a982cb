-- What is stored of types and lifetimes reads back as is told of a tree, in each later store.
use Rattle.std.specs.Prelude.{◌≡◌, ℕ, Bool, Option, None, Ok}
use Rattle.hir_store.specs.Stored.{map_of, store_of}
use Rattle.hir_store.specs.declared.hir.CoroutineKind.{CoroutineKind}
use Rattle.hir_store.specs.declared.ids.ExprId.{ExprId}
use Rattle.hir_store.specs.declared.ids.PatId.{PatId}
use Rattle.hir_store.specs.declared.ids.TypeRefId.{TypeRefId}
use Rattle.hir_store.specs.declared.path.Path.{Path as HirPath}
use Rattle.hir_env.specs.ResolvedTree.{Binder, Formals, OptionExpr, OptionPat, OptionPath, OptionType}
use Rattle.hir_lower_builder.specs.Builder.{Builder, new_builder}
use Rattle.hir_lower_builder.specs.Lower.{lower_path, lower_top, type_part}
use Rattle.thm_logic.specs.Keeps.{Paired}
use Rattle.thm_body_result.specs.Diagnostics.{Faults}
use Rattle.thm_body_result.specs.Formals.{Given, lower_body}
use Rattle.thm_body_result.specs.Theorems.{WhereLowered}
use Rattle.thm_body_result.specs.OneResult.{fresh_owing, in_root_of, with_root}
use Rattle.thm_body_result.specs.Bodies.{grade_body}
use Rattle.thm_logic.specs.Grades.{grade_expr_part, grade_part, grade_part_in, grade_top, grade_whole}
use Rattle.thm_body_result.specs.EmittedTheorems.{WhereBodyLowered}
use Rattle.thm_body_result.specs.StoredData.{DataAdded, ReadsAs, bodies_stored, stored_data}

abbrev pub ExprsStore : Type 0
ExprsStore = WhereLowered (λ e old id new. DataAdded (grade_expr_part stored_data e) old.stored new.stored)

abbrev pub TypesStore : Type 0
TypesStore = (binder : Option Binder) (t : OptionType) (old new : Builder) (i : TypeRefId) → Paired old.stored
    → type_part binder t old ≡ (Ok i, new) → DataAdded (grade_part_in stored_data binder t) old.stored new.stored

abbrev pub PathsStore : Type 0
PathsStore = (p : OptionPath) (old new : Builder) (r : Option HirPath) → Paired old.stored → lower_path p old ≡ (Ok r, new)
    → DataAdded (grade_whole stored_data p) old.stored new.stored

abbrev pub PatsStore : Type 0
PatsStore = (p : OptionPat) (old new : Builder) (i : PatId) → Paired old.stored → lower_top p old ≡ (Ok i, new)
    → DataAdded (grade_top stored_data p) old.stored new.stored

abbrev pub BodiesStore : Type 0
BodiesStore = WhereBodyLowered (λ kind skipped f e old new.
    DataAdded (grade_body stored_data bodies_stored kind skipped f e) old.stored new.stored)

-- where a type is lowered first, and where a body is and is the root

abbrev pub WholeTypesStore : Type 0
WholeTypesStore = (limit : ℕ) (t : OptionType) (i : TypeRefId) (new : Builder) → type_part None t (new_builder limit) ≡ (Ok i, new)
    → ReadsAs (grade_part stored_data t) (store_of new.stored) (map_of new.stored)

abbrev pub WholeBodiesStore : Type 0
WholeBodiesStore = (limit : ℕ) (owed : Faults) (kind : Option CoroutineKind) (skipped : Bool) (f : Formals) (e : OptionExpr) (given : Given)
    (id : ExprId) (new : Builder) → lower_body kind skipped f e (in_root_of (fresh_owing limit owed)) ≡ (Ok (given, id), new)
    → let s = with_root id new.stored in ReadsAs (grade_body stored_data bodies_stored kind skipped f e) (store_of s) (map_of s)
