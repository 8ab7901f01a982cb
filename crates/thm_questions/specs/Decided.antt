-- What is asked for what is decided on the resolved tree: for ranges, `?`, `for`, the patterns of types, and the assignee expression.
use Rattle.std.specs.Prelude.{Bool, true, false, List, [], ◌∷◌, ◌++◌, map, Option, Some, None, if◌then◌else◌}
use Rattle.hir_base.specs.declared.op.RangeOp.{RangeOp}
use Rattle.hir_base.specs.declared.op.RangeOp.TheVariants as op
use Rattle.hir_store.specs.declared.ids.ModuleId.{ModuleId}
use Rattle.hir_store.specs.declared.path.ModPath.{ModPath}
use Rattle.hir_env.specs.ResolvedTree as tree
use Rattle.hir_env.specs.ResolvedTree.{Expr, Exprs, Field, Fields, OptionExpr, OptionPat, OptionPath, Pat, Pats, Side}
use Rattle.hir_env.specs.PathNames.{mod_path_of}
use Rattle.hir_env.specs.Ranges.{is_inclusive}
use Rattle.hir_env.specs.Targets.{comes_to_dots, is_dots}
use Rattle.hir_env.specs.declared.resolved.BuiltinShadowMode.TheVariants as shadow
use Rattle.thm_frame.specs.Items.{LangItem}
use Rattle.thm_frame.specs.Items as item
use Rattle.thm_frame.specs.Questions.{Question, of_lang_item, of_new_range, of_resolve}

abbrev pub of_items : List LangItem → List Question
of_items is = map of_lang_item is

-- `?` and `for`

abbrev pub question_items : List Question
question_items = of_items (item.try_trait_branch ∷ item.control_flow_continue ∷ item.control_flow_break ∷ item.residual_into_try_type
    ∷ item.try_trait_from_residual ∷ [])

abbrev pub for_items : List Question
for_items = of_items (item.into_iter_into_iter ∷ item.iterator_next ∷ item.option_some ∷ item.option_none ∷ [])

-- ranges, with the newer items or the older ones

abbrev pub from_item : Bool → LangItem
from_item true = item.range_from_copy
from_item false = item.range_from

abbrev pub to_item : Bool → Bool → LangItem
to_item is_new false = item.range_to
to_item true true = item.range_to_inclusive_copy
to_item false true = item.range_to_inclusive

abbrev pub between_item : Bool → Bool → LangItem
between_item true false = item.range_copy
between_item false false = item.range
between_item true true = item.range_inclusive_copy
between_item false true = item.range_inclusive_new

-- whether the newer ones are used in the module, the operator, and whether there is a start and an end
abbrev pub of_range : ModuleId → Bool → Option RangeOp → Bool → Bool → List Question
of_range m is_new o false false = of_lang_item item.range_full ∷ []
of_range m is_new o true false = of_new_range m ∷ of_lang_item (from_item is_new) ∷ []
of_range m is_new o false true = of_new_range m ∷ of_lang_item (to_item is_new (is_inclusive o)) ∷ []
of_range m is_new o true true = of_new_range m ∷ of_lang_item (between_item is_new (is_inclusive o)) ∷ []

-- patterns of types: the limits that they lack, and what an end without `=` is less than

abbrev pub of_start : Side → List Question
of_start tree.no_side = of_lang_item item.range_min ∷ []
of_start s = []

abbrev pub of_end_at : Option RangeOp → List Question
of_end_at (Some op.Exclusive) = of_lang_item item.range_sub ∷ []
of_end_at _ = []

abbrev pub of_end : Option RangeOp → Side → List Question
of_end o tree.no_side = of_lang_item item.range_max ∷ []
of_end o s = of_end_at o

abbrev mutual
  pub of_type_pat : Pat → List Question
  of_type_pat (tree.or_pat at ps) = of_type_pats ps
  of_type_pat (tree.range_pat at o a b) = of_start a ++ of_end o b
  of_type_pat (tree.macro_pat at called (tree.some_pat p)) = of_type_pat p
  of_type_pat p = []

  pub of_type_pats : Pats → List Question
  of_type_pats tree.no_pats = []
  of_type_pats (tree.more_pats p ps) = of_type_pat p ++ of_type_pats ps
  of_type_pats (tree.tracked_pats called ps) = of_type_pats ps

abbrev pub of_type_pat_part : OptionPat → List Question
of_type_pat_part tree.no_pat = []
of_type_pat_part (tree.some_pat p) = of_type_pat p

-- the assignee expression, in a module: each path that may be no place

module _ (m : ModuleId) where
  abbrev pub of_names : Option ModPath → List Question
  of_names None = []
  of_names (Some x) = of_resolve m x shadow.Local ∷ []

  abbrev pub of_target_path : OptionPath → List Question
  of_target_path tree.no_path = []
  of_target_path (tree.some_path x) = of_names (mod_path_of (tree.some_path x))

  abbrev mutual
    pub of_target : Expr → List Question
    of_target (tree.paren_expr at (tree.some_expr e)) = if is_dots e then [] else of_target e
    of_target (tree.macro_expr s c e) = of_target_part e
    of_target (tree.list_expr at (tree.tuple_of comma) es) = of_elements es
    of_target (tree.list_expr at tree.array_of es) = of_elements_before es ++ of_elements_behind es
    of_target (tree.call_expr at f has_list es) = of_elements es
    of_target (tree.path_expr at x h) = of_target_path x
    of_target (tree.record_expr at x head fs s) = of_target_fields fs
    of_target _ = []

    pub of_target_part : OptionExpr → List Question
    of_target_part tree.no_expr = []
    of_target_part (tree.some_expr e) = of_target e

    -- an element, or what is asked of it where it is no call
    pub of_element : List Question → Expr → List Question
    of_element other (tree.disabled_expr why e) = of_element other e
    of_element other (tree.macro_expr s c e) = of_element_part e
    of_element other _ = other

    pub of_element_part : OptionExpr → List Question
    of_element_part tree.no_expr = []
    of_element_part (tree.some_expr e) = of_element (of_target e) e

    pub of_elements : Exprs → List Question
    of_elements tree.no_exprs = []
    of_elements (tree.more_exprs e es) =
        if comes_to_dots e then of_elements es else of_element (of_target e) e ++ of_elements es

    pub of_elements_before : Exprs → List Question
    of_elements_before tree.no_exprs = []
    of_elements_before (tree.more_exprs e es) =
        if comes_to_dots e then [] else of_element (of_target e) e ++ of_elements_before es

    pub of_elements_behind : Exprs → List Question
    of_elements_behind tree.no_exprs = []
    of_elements_behind (tree.more_exprs e es) = if comes_to_dots e then of_each_element es else of_elements_behind es

    pub of_each_element : Exprs → List Question
    of_each_element tree.no_exprs = []
    of_each_element (tree.more_exprs e es) = of_target e ++ of_each_element es

    pub of_target_fields : Fields → List Question
    of_target_fields tree.no_fields = []
    of_target_fields (tree.more_fields f fs) = of_target_field f ++ of_target_fields fs

    pub of_target_field : Field → List Question
    of_target_field (tree.disabled_field at by f) = []
    of_target_field (tree.nameless_field at e) = of_target_part e
    of_target_field (tree.named_field at n e) = of_target_part e
