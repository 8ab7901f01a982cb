-- Ranges, which are made of lang items, and patterns in types.
use Rattle.std.specs.Prelude.{codes, List, [], ◌∷◌, ◌++◌, Option, Some, None}
use Rattle.hir_base.specs.declared.op.RangeOp.TheVariants as op
use Rattle.hir_store.specs.Pointers.{Pointer}
use Rattle.hir_store.specs.declared.hir.Expr.{Expr as HirExpr}
use Rattle.hir_store.specs.declared.hir.Expr.TheVariants as hir
use Rattle.hir_store.specs.declared.hir.RecordLitField.{RecordLitField}
use Rattle.hir_store.specs.declared.hir.RecordSpread.TheVariants as spread
use Rattle.hir_store.specs.declared.ids.ExprId.{ExprId}
use Rattle.hir_store.specs.declared.ids.LangItemId.{LangItemId}
use Rattle.hir_store.specs.declared.ids.PatId.{PatId}
use Rattle.hir_store.specs.declared.name.Name.{Name}
use Rattle.hir_store.specs.declared.name.Name.TheVariants as name
use Rattle.hir_store.specs.declared.pat.Pat.TheVariants as pat
use Rattle.hir_store.specs.declared.path.Path.{Path as HirPath}
use Rattle.hir_store.specs.declared.path.Path.TheVariants.{LangItem}
use Rattle.hir_env.specs.ResolvedTree as tree
use Rattle.hir_env.specs.ResolvedTree.{RangeForm, Signed}
use Rattle.hir_lower_builder.specs.Lowering.{Lowering, ◌>>=◌, ◌>>◌, pure, alloc_expr, alloc_pat, close_barrier, enter_root}
use Rattle.hir_lower_builder.specs.Lowering.{leave_root, open_barrier}
use Rattle.hir_lower_builder.specs.Forms.{ExprSteps, root_hygiene}
use Rattle.hir_lower_builder.specs.Pats.{name_path, signed_literal}

-- ranges

-- an item that isn't there is missing
abbrev pub item_expr : Option LangItemId → HirExpr
item_expr None = hir.Missing
item_expr (Some item) = hir.Path (LangItem item) root_hygiene

abbrev pub start_name : Name
start_name = name.Text (codes "start")

-- the field of an end that is there
abbrev pub end_field : Name → Option ExprId → List RecordLitField
end_field n None = []
end_field n (Some e) = record { name = n; expr = e } ∷ []

abbrev pub range_fields : Name → Option ExprId → Option ExprId → List RecordLitField
range_fields end_name low high = end_field start_name low ++ end_field end_name high

abbrev pub end_operand : Option ExprId → List ExprId
end_operand None = []
end_operand (Some e) = e ∷ []

-- What is called comes from no node. Without an item for its record a range is missing.
abbrev pub made_range : Pointer → RangeForm → Option ExprId → Option ExprId → ExprSteps
made_range at (tree.record_range item end_name) low high =
    alloc_expr (hir.RecordLit (LangItem item) (range_fields end_name low high) spread.None) (Some at)
made_range at (tree.call_range item) low high = do
  f ← alloc_expr (item_expr item) None
  alloc_expr (hir.Call f (end_operand low ++ end_operand high)) (Some at)
made_range at tree.itemless_range low high = alloc_expr hir.Missing (Some at)

unfoldable pub range_form : Pointer → RangeForm → Lowering (Option ExprId) → Lowering (Option ExprId) → ExprSteps
range_form at form low high = do
  s ← low
  e ← high
  made_range at form s e

-- ends of ranges in types

-- No jump in it reaches what is open around it, and it is recorded where no other root is being lowered.
unfoldable pub inner_form : ExprSteps → ExprSteps
inner_form contents = do
  outside ← open_barrier
  outer ← enter_root
  id ← contents
  close_barrier outside
  leave_root outer id
  pure id

-- the item that stands for an absent end
unfoldable pub item_form : Option LangItemId → ExprSteps
item_form item = alloc_expr (item_expr item) None

-- a call of the item with the side, from no node
unfoldable pub before_form : Option LangItemId → ExprSteps → ExprSteps
before_form item side = do
  e ← side
  f ← alloc_expr (item_expr item) None
  alloc_expr (hir.Call f (e ∷ [])) None

unfoldable pub literal_limit_form : Pointer → Signed → ExprSteps
literal_limit_form at s = alloc_expr (hir.Literal (signed_literal s)) (Some at)

unfoldable pub name_limit_form : Pointer → Name → ExprSteps
name_limit_form at n = alloc_expr (hir.Path (name_path n) root_hygiene) (Some at)

-- a path that is absent or refused is missing
abbrev pub path_limit_of : Option HirPath → HirExpr
path_limit_of None = hir.Missing
path_limit_of (Some p) = hir.Path p root_hygiene

unfoldable pub path_limit_form : Pointer → Lowering (Option HirPath) → ExprSteps
path_limit_form at path = do
  p ← path
  alloc_expr (path_limit_of p) (Some at)

-- patterns in types

-- both ends are part of the range
unfoldable pub limits_form : Pointer → ExprSteps → ExprSteps → Lowering PatId
limits_form at low high = do
  s ← low
  e ← high
  alloc_pat (pat.Range op.Inclusive (Some s) (Some e)) (Some at)

-- with one alternative it stays
unfoldable pub type_alternatives_form : Pointer → Lowering (List PatId) → Lowering PatId
type_alternatives_form at alternatives = do
  ps ← alternatives
  alloc_pat (pat.Or ps) (Some at)
