-- Small targets with macro calls: what is wrong about them, which are entered, and where their patterns come from, in what order.
use Rattle.std.specs.Prelude.{◌≡◌, Bool, true, false, List, [], ◌∷◌, Some, None}
use Rattle.hir_base.specs.declared.node.HirFileId.{HirFileId}
use Rattle.hir_store.specs.Pointers.{Pointer}
use Rattle.hir_store.specs.declared.diagnostics.ExpressionStoreDiagnostics.{ExpressionStoreDiagnostics}
use Rattle.hir_store.specs.declared.diagnostics.ExpressionStoreDiagnostics.TheVariants.{UnresolvedMacroCall}
use Rattle.hir_store.specs.declared.ids.HygieneId.{HygieneId}
use Rattle.hir_store.specs.declared.path.ModPath.{ModPath}
use Rattle.hir_env.specs.ResolvedTree as tree
use Rattle.hir_env.specs.ResolvedTree.{Expr, OptionPath, Path, RangeForm, Target}
use Rattle.hir_env.specs.Targets.{target_or}
use Rattle.hir_lower_scope.specs.Scopes.{Scope}
use Rattle.thm_logic.specs.Calls.{Expansions}
use Rattle.thm_body_result.specs.Size.{assigned_at, stored_from}
use Rattle.thm_body_result.specs.Expanded.{expansions}
use Rattle.thm_logic.specs.Grades.{grade_target}
use Rattle.thm_body_result.specs.Lists.{faults}
use Rattle.thm_body_result.specs.Sizes.{sizes}
use Rattle.thm_body_result.specs.ExampleOrders.{call_alone, expr_call, call_record}

-- a macro call that isn't found
abbrev pub unknown_call : Pointer → ModPath → Expr
unknown_call at path = tree.macro_expr at (tree.unresolved at path) tree.no_expr

-- one that is entered and stands for this
abbrev pub call_of : Pointer → HirFileId → Expr → Expr
call_of at file e = tree.macro_expr at (tree.entered (call_alone at file)) (tree.some_expr e)

abbrev pub dots_expr : Pointer → RangeForm → Expr
dots_expr at form = tree.range_expr at form tree.no_expr tree.no_expr

-- `Self`
abbrev pub own_type : OptionPath
own_type = tree.some_path (tree.path None false tree.self_type_segment tree.no_segments tree.no_path)

-- two elements of a tuple, and two arguments of a call
abbrev pub pair_of : Pointer → Expr → Expr → Expr
pair_of at d e = tree.list_expr at (tree.tuple_of false) (tree.more_exprs d (tree.more_exprs e tree.no_exprs))

abbrev pub one_of : Pointer → Expr → Expr
one_of at e = tree.list_expr at (tree.tuple_of false) (tree.more_exprs e tree.no_exprs)

abbrev pub array_of_one : Pointer → Expr → Expr
array_of_one at e = tree.list_expr at tree.array_of (tree.more_exprs e tree.no_exprs)

abbrev pub called_with : Pointer → Expr → Expr → Expr
called_with at callee e = tree.call_expr at (tree.some_expr callee) true (tree.more_exprs e tree.no_exprs)

module _ (is_found : Path → Bool) (at a b c : Pointer) (p q : ModPath) (f g : HirFileId) where
  -- an expression as the assignee expression, where it may be this place
  abbrev pub assignee : Expr → Target
  assignee e = target_or is_found None (tree.place_target at e) e

  abbrev both_unknown : (List Scope → List ExpressionStoreDiagnostics) → Type 0
  both_unknown D = (ss : List Scope) → D ss ≡ UnresolvedMacroCall a p ∷ UnresolvedMacroCall b q ∷ []

  abbrev first_then : Expansions → Type 0
  first_then es = es ≡ call_record a f ∷ call_record b g ∷ []

  pub record SmallTargets : Type 0 where
    -- elements that aren't found are told in their order, and are missing at their calls, to which no node leads
    pub elements : both_unknown (grade_target faults (assignee (pair_of at (unknown_call a p) (unknown_call b q))))
    pub missing : (grade_target sizes (assignee (pair_of at (unknown_call a p) (unknown_call b q)))).pats ≡ Some a ∷ Some b ∷ Some at ∷ []
    pub unled : (grade_target sizes (assignee (one_of at (unknown_call a p)))).pat_leads
        ≡ stored_from None ∷ stored_from None ∷ assigned_at at ∷ []
    -- a call of a callee that isn't found is a place, in which the callee is told before the arguments
    pub callee : both_unknown (grade_target faults (assignee (called_with at (unknown_call a p) (unknown_call b q))))
    -- one that leads to a path is told before the elements
    pub callees : (h : HygieneId)
        → first_then (grade_target expansions (assignee (called_with at (call_of a f (tree.path_expr c own_type h)) (expr_call b g))))
    -- so is one in front of the two dots that it stands for
    pub dots : both_unknown (grade_target faults (tree.tuple_target (record { node = at; call = None })
        (tree.tracked_targets (tree.unresolved a p) (tree.dots_targets
        (tree.more_targets (tree.macro_target None (tree.unresolved b q) (tree.absent_target (Some b))) tree.no_targets)))))
    pub entered_dots : (form : RangeForm)
        → first_then (grade_target expansions (assignee (pair_of at (call_of a f (dots_expr c form)) (expr_call b g))))
    -- the node of a whole call leads to what the call stands for, behind the node of that
    pub whole : (grade_target sizes (assignee (call_of a f (call_of b g (tree.leaf_expr c tree.underscore))))).pat_leads
        ≡ stored_from None ∷ assigned_at c ∷ assigned_at b ∷ assigned_at a ∷ []
    -- what an element that is a call stands for comes from the outermost call, to which no node leads
    pub source : (grade_target sizes (assignee (one_of at (call_of a f (call_of b g (tree.leaf_expr c tree.underscore)))))).pats
        ≡ Some a ∷ Some at ∷ []
    pub node : (grade_target sizes (assignee (one_of at (call_of a f (call_of b g (tree.leaf_expr c tree.underscore)))))).pat_leads
        ≡ stored_from None ∷ assigned_at c ∷ stored_from None ∷ assigned_at at ∷ []
    -- the node of the outermost call leads to the two dots of an array that come out of calls, and the other calls lead nowhere
    pub outermost_dots : (form : RangeForm)
        → (grade_target sizes (assignee (array_of_one at (call_of a f (call_of b g (dots_expr c form)))))).pat_leads
        ≡ stored_from None ∷ assigned_at a ∷ stored_from None ∷ assigned_at at ∷ []
    -- the node of a call that the text lacks leads to what is missing, also as an element
    pub lacking : (grade_target sizes (assignee (one_of at (tree.macro_expr a tree.callless tree.no_expr)))).pat_leads
        ≡ stored_from None ∷ assigned_at a ∷ stored_from None ∷ assigned_at at ∷ []
    -- a place comes from its node, which doesn't lead to it
    pub place : (grade_target sizes (assignee (call_of a f (tree.leaf_expr c tree.left_out)))).pat_leads
        ≡ stored_from None ∷ assigned_at a ∷ []

abbrev pub AllSmallTargets : Type 0
AllSmallTargets = (is_found : Path → Bool) (at a b c : Pointer) (p q : ModPath) (f g : HirFileId) → SmallTargets is_found at a b c p q f g
