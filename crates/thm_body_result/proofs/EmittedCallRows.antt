-- Small trees with macro calls, worked out.
use Rattle.std.proofs.Common.{refl, ◌≡◌, [], ◌∷◌, Option, Some, None, true}
use Rattle.hir_base.specs.declared.node.HirFileId.{HirFileId}
use Rattle.hir_store.specs.Pointers.{Pointer}
use Rattle.hir_store.specs.declared.ids.MacroDefId.{MacroDefId}
use Rattle.hir_env.specs.ResolvedTree as tree
use Rattle.thm_body_result.specs.Expanded.{expansions}
use Rattle.thm_logic.specs.Grades.{grade_stmts}
use Rattle.thm_body_result.specs.EmittedExample.{SmallCalls}
use Rattle.thm_body_result.specs.ExampleData.{AllSmallData}
use Rattle.thm_body_result.specs.ExampleOrders.{AllSmallOrders, call_alone, expr_call, call_record}
use Rattle.thm_body_result.specs.ExampleTargets.{AllSmallTargets}

pub small_calls : SmallCalls
small_calls = record {
  eager_first = λ at file early early_file. refl;
  outer_first = λ at inner c d. refl;
  unknown = λ at path. refl;
  unentered = λ at. refl;
  gone = λ c condition e. refl;
}

order_behind : (a b : Pointer) (f g : HirFileId) (d : Option MacroDefId) → grade_stmts expansions
    (tree.more_stmts (tree.call_stmt (call_alone a f)) (tree.more_stmts (tree.macro_stmt 0 d)
    (tree.more_stmts (tree.expr_stmt (tree.some_expr (expr_call b g)) true) tree.no_stmts))) []
    ≡ call_record a f ∷ call_record b g ∷ []
order_behind a b f g None = refl
order_behind a b f g (Some d) = refl

pub small_orders : AllSmallOrders
small_orders a b f g = record {
  types = refl;
  patterns = refl;
  lengths = λ at. refl;
  paths = λ n k is also. refl;
  dots = λ at. refl;
  statements = order_behind a b f g;
  bodies = refl;
  coroutines = λ kind. refl;
  skipped = refl;
}

pub small_data : AllSmallData
small_data at a n k is also l = record { bounds = refl; lifetimes = refl; arguments = refl }

pub small_targets : AllSmallTargets
small_targets is_found at a b c p q f g = record {
  elements = λ ss. refl;
  missing = refl;
  unled = refl;
  callee = λ ss. refl;
  callees = λ h. refl;
  dots = λ ss. refl;
  entered_dots = λ form. refl;
  whole = refl;
  source = refl;
  node = refl;
  outermost_dots = λ form. refl;
  lacking = refl;
  place = refl;
}
