-- Small types, paths, patterns, statements and bodies with macro calls: in what order the calls are entered.
use Rattle.std.specs.Prelude.{◌≡◌, true, false, [], ◌∷◌, Option, Some, None}
use Rattle.hir_base.specs.declared.node.HirFileId.{HirFileId}
use Rattle.hir_store.specs.Names.{IsWritten}
use Rattle.hir_store.specs.Pointers.{Pointer}
use Rattle.hir_store.specs.declared.expansions.ExpandedCall.{ExpandedCall}
use Rattle.hir_store.specs.declared.hir.CoroutineKind.{CoroutineKind}
use Rattle.hir_store.specs.declared.ids.MacroDefId.{MacroDefId}
use Rattle.hir_store.specs.declared.name.Name.{Name}
use Rattle.hir_env.specs.ResolvedTree as tree
use Rattle.hir_env.specs.ResolvedTree.{Entered, Expr, Formals, Pat, Segment, Type_}
use Rattle.hir_env.specs.ResolveCtx.{site_of}
use Rattle.thm_logic.specs.Calls.{Expansions}
use Rattle.thm_body_result.specs.Bodies.{grade_body}
use Rattle.thm_body_result.specs.Expanded.{bodies_expanded, expansions}
use Rattle.thm_logic.specs.Grades.{grade_pat, grade_stmts, grade_type, grade_whole}

-- a call at this node that is entered, for which nothing else was expanded, and what is recorded of it
abbrev pub call_alone : Pointer → HirFileId → Entered
call_alone at file = record { call = at; file = file; eager = [] }

abbrev pub call_record : Pointer → HirFileId → ExpandedCall
call_record at file = record { call = site_of at; range = Some at.value.range; file = file }

-- one that stands for nothing, as a type, as a pattern and as an expression
abbrev pub type_call : Pointer → HirFileId → Type_
type_call at file = tree.macro_type at (tree.entered (call_alone at file)) tree.no_type

abbrev pub pat_call : Pointer → HirFileId → Pat
pat_call at file = tree.macro_pat at (tree.entered (call_alone at file)) tree.no_pat

abbrev pub expr_call : Pointer → HirFileId → Expr
expr_call at file = tree.macro_expr at (tree.entered (call_alone at file)) tree.no_expr

-- a segment with such a call in `<..>`
abbrev pub segment_of : (n : Name) → IsWritten n → Pointer → HirFileId → Segment
segment_of n is at file = tree.name_segment n is (tree.segment_args
    (tree.some_arg_list (tree.more_args (tree.type_arg (tree.some_type (type_call at file))) tree.no_args)) tree.no_parens false)

-- a parameter with such a call as its pattern
abbrev pub formals_of : Pointer → HirFileId → Formals
formals_of at file = record { receiver = tree.no_self; formals = tree.formal (tree.some_pat (pat_call at file)) ∷ [] }

module _ (a b : Pointer) (f g : HirFileId) where
  abbrev first_then : Expansions → Type 0
  first_then es = es ≡ call_record a f ∷ call_record b g ∷ []

  pub record SmallOrders : Type 0 where
    -- a call before those in what it stands for
    pub types : first_then (grade_type expansions (tree.macro_type a (tree.entered (call_alone a f)) (tree.some_type (type_call b g))))
    pub patterns : first_then (grade_pat expansions
        (tree.macro_pat a (tree.entered (call_alone a f)) (tree.some_pat (pat_call b g))) [])
    -- of an array its length before its elements
    pub lengths : (at : Pointer) → first_then (grade_type expansions
        (tree.array_type at (tree.constant (tree.some_expr (expr_call a f))) (tree.some_type (type_call b g))))
    -- of a path the last segment first
    pub paths : (n k : Name) (is : IsWritten n) (also : IsWritten k) → first_then (grade_whole expansions
        (tree.some_path
        (tree.path None false (segment_of n is b g) (tree.more_segments (segment_of k also a f) tree.no_segments) tree.no_path)))
    -- a call that stands for two dots in front of the parts behind them
    pub dots : (at : Pointer) → first_then (grade_pat expansions (tree.tuple_pat at false (tree.tracked_pats (tree.entered (call_alone a f))
        (tree.more_pats (tree.leaf_pat a tree.rest_leaf) (tree.more_pats (pat_call b g) tree.no_pats)))) [])
    -- a call that stands for statements in front of what follows; the definition of a macro is no call
    pub statements : (d : Option MacroDefId) → first_then (grade_stmts expansions
        (tree.more_stmts (tree.call_stmt (call_alone a f)) (tree.more_stmts (tree.macro_stmt 0 d)
        (tree.more_stmts (tree.expr_stmt (tree.some_expr (expr_call b g)) true) tree.no_stmts))) [])
    -- of a body its parameters first, also where it is a coroutine
    pub bodies : first_then (grade_body expansions bodies_expanded None false (formals_of a f) (tree.some_expr (expr_call b g)))
    pub coroutines : (kind : CoroutineKind)
        → first_then (grade_body expansions bodies_expanded (Some kind) false (formals_of a f) (tree.some_expr (expr_call b g)))
    -- where the body is skipped nothing of a parameter is read
    pub skipped : grade_body expansions bodies_expanded None true (formals_of a f) tree.no_expr ≡ []

abbrev pub AllSmallOrders : Type 0
AllSmallOrders = (a b : Pointer) (f g : HirFileId) → SmallOrders a b f g
