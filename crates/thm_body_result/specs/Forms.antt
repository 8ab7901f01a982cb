-- The stored form of each member of a family, over what its parts became.
use Rattle.std.specs.Prelude.{codes, ℕ, if◌then◌else◌, List, [], ◌∷◌, ◌++◌, Option, Some, None}
use Rattle.hir_base.specs.declared.op.LogicOp.{LogicOp}
use Rattle.hir_base.specs.declared.op.BinaryOp.TheVariants as operator
use Rattle.hir_binding.specs.declared.binding.BindingAnnotation.{BindingAnnotation}
use Rattle.hir_store.specs.declared.hir.Expr.{Expr as HirExpr}
use Rattle.hir_store.specs.declared.hir.Expr.TheVariants as hir
use Rattle.hir_store.specs.declared.hir.RecordLitField.{RecordLitField}
use Rattle.hir_store.specs.declared.ids.ExprId.{ExprId}
use Rattle.hir_store.specs.declared.ids.HygieneId.{HygieneId}
use Rattle.hir_store.specs.declared.ids.LabelId.{LabelId}
use Rattle.hir_store.specs.declared.ids.LangItemId.{LangItemId}
use Rattle.hir_store.specs.declared.ids.PatId.{PatId}
use Rattle.hir_store.specs.declared.name.Name.{Name}
use Rattle.hir_store.specs.declared.name.Name.TheVariants as name
use Rattle.hir_store.specs.declared.pat.Binding.{Binding}
use Rattle.hir_store.specs.declared.pat.Pat.{Pat as HirPat}
use Rattle.hir_store.specs.declared.pat.Pat.TheVariants as pat
use Rattle.hir_store.specs.declared.path.Path.{Path}
use Rattle.hir_store.specs.declared.path.Path.TheVariants.{BarePath, LangItem}
use Rattle.hir_store.specs.declared.path.PathKind.TheVariants as kind
use Rattle.hir_env.specs.ResolvedTree as tree
use Rattle.hir_env.specs.ResolvedTree.{Leaf, Unary, Binary, Leaving, PatUnary, QuestionItems}
use Rattle.hir_lower_scope.specs.ScopeRibs.{Try}

-- for what is left out stands a missing expression
abbrev pub leaf_form : Leaf → HirExpr
leaf_form tree.underscore = hir.Underscore
leaf_form tree.include_bytes = hir.IncludeBytes
leaf_form tree.left_out = hir.Missing

abbrev pub unary_form : Unary → ExprId → HirExpr
unary_form (tree.field_of name) e = hir.Field e name
unary_form (tree.prefix_of op) e = hir.UnaryOp op e
unary_form (tree.reference_to rawness mutability) e = hir.Ref rawness mutability e

-- the left side first
abbrev pub binary_form : Binary → ExprId → ExprId → HirExpr
binary_form (tree.operator op) left right = hir.BinaryOp op left right
binary_form tree.index_of base index = hir.Index base index

abbrev pub lazy_form : LogicOp → ExprId → ExprId → HirExpr
lazy_form op left right = hir.BinaryOp (Some (operator.LogicOp op)) left right

abbrev pub leaving_form : Leaving → Option ExprId → HirExpr
leaving_form tree.returning value = hir.Return value
leaving_form tree.yeeting value = hir.Yeet value

abbrev pub pat_unary_form : PatUnary → PatId → HirPat
pat_unary_form (tree.ref_to mutability) p = pat.Ref mutability p
pat_unary_form tree.box_of p = pat.Box p
pat_unary_form tree.deref_of p = pat.Deref p

-- what isn't a name alone in an expression is looked up as what no macro made
abbrev pub no_macro : HygieneId
no_macro = record { 0 = 0 }

abbrev pub path_of_name : Name → Path
path_of_name n = BarePath (record { kind = kind.Plain; segments = n ∷ [] })

-- an item that the language lacks is missing
abbrev pub item_or_missing : Option LangItemId → HirExpr
item_or_missing None = hir.Missing
item_or_missing (Some i) = hir.Path (LangItem i) no_macro

-- the field of an end that is there
abbrev pub end_field : Name → Option ExprId → List RecordLitField
end_field n None = []
end_field n (Some e) = record { name = n; expr = e } ∷ []

-- the ends of a range, as fields and as arguments
abbrev pub range_fields : Name → Option ExprId → Option ExprId → List RecordLitField
range_fields last low high = end_field (name.Text (codes "start")) low ++ end_field last high

-- the name of this number, which lowering makes up, where it is looked up and where it is bound

abbrev pub generated_name : ℕ → HirExpr
generated_name n = hir.Path (path_of_name (name.Generated n)) no_macro

abbrev pub generated_binding : BindingAnnotation → ℕ → Binding
generated_binding mode n = record { name = name.Generated n; mode = mode; hygiene = no_macro; problems = None }

-- the item that makes of a residual what leaves: for a `try` without a written type there is one of its own
abbrev pub conversion : {A : Type 0} → QuestionItems → Option (Try A) → Option LangItemId
conversion items None = items.from_residual
conversion items (Some t) = if t.typed then items.from_residual else items.into_try_type

-- it leaves for the innermost `try`, or returns where there is none
abbrev pub leaving_node : Option (Try LabelId) → ExprId → HirExpr
leaving_node None e = hir.Return (Some e)
leaving_node (Some t) e = hir.Break (Some t.place) (Some e)
