-- The data of all types and lifetimes that lowering a tree stores, in the order of lowering: also of those that nothing reaches, as the
-- types and the trait of a refused path, or what stands in an `impl` that isn't allowed.
use Rattle.std.specs.Prelude.{Bool, Option}
use Rattle.hir_store.specs.declared.hir.CoroutineKind.{CoroutineKind}
use Rattle.hir_env.specs.ResolvedTree.{Formals, OptionExpr, OptionPath, OptionType}
use Rattle.thm_body_result.specs.Bodies.{grade_body}
use Rattle.thm_logic.specs.Grades.{grade_expr_part, grade_part, grade_whole}
use Rattle.thm_body_result.specs.StoredData.{StoredData, bodies_stored, stored_data}

abbrev pub data_in : OptionExpr → StoredData
data_in e = grade_expr_part stored_data e

abbrev pub data_in_path : OptionPath → StoredData
data_in_path p = grade_whole stored_data p

abbrev pub data_in_type : OptionType → StoredData
data_in_type t = grade_part stored_data t

abbrev pub data_in_body : Option CoroutineKind → Bool → Formals → OptionExpr → StoredData
data_in_body kind skipped f e = grade_body stored_data bodies_stored kind skipped f e
