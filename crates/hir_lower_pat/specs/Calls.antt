-- A macro call as a pattern, and as the assignee expression, as the code reads it.
use Rattle.std.specs.Prelude.{Option, Some, None}
use denote.Ref.{Bor}
use Rattle.hir_syntax.specs.declared.ast.Expr.{Expr as AstExpr}
use Rattle.hir_syntax.specs.declared.macros.Fragment.{Fragment as AstFragment}
use Rattle.hir_syntax.specs.declared.macros.Fragment.TheVariants as fragment
use Rattle.hir_syntax.specs.declared.macros.MacroCall.{MacroCall as AstMacroCall}
use Rattle.hir_syntax.specs.declared.pats.Pat.{Pat as AstPat}
use Rattle.hir_store.specs.Pointers.{Pointer}
use Rattle.hir_store.specs.declared.ids.PatId.{PatId}
use Rattle.hir_env.specs.ResolvedTree.{Expr, Pat}
use Rattle.hir_env.specs.Calls.{entered_expr, entered_pat}
use Rattle.hir_env.specs.ResolveCtx.{ResolveCtx}
use Rattle.hir_env.specs.Targets.{outermost}
use Rattle.hir_env.specs.TypePats.{type_pat_of}
use Rattle.hir_env.specs.Whole.{resolved_expr, resolved_pat, into, own_pointer}
use Rattle.hir_env.specs.declared.ctx.LowerCtx.{LowerCtx}
use Rattle.hir_lower_builder.specs.Calls.{Found}
use Rattle.hir_lower_builder.specs.Forms.{some}
use Rattle.hir_lower_builder.specs.Lower.{lower_pat, lower_type_pat}
use Rattle.hir_lower_builder.specs.Lowering.{Lowering, ◌>>=◌, ◌>>◌, point_pat, pure}
use Rattle.hir_lower_builder.specs.Methods.{at_place}
use Rattle.hir_lower_builder.specs.Pats.{Table, alone, missing_pat}
use Rattle.hir_lower_builder.specs.Targets.{missing_target}
use Rattle.hir_lower_pat.specs.Assignees.{assignee_of, called_assignee, element_found, found_at, uncalled_assignee}
use Rattle.hir_lower_pat.specs.Methods.{element_steps}
use Rattle.hir_lower_pat.specs.declared.assignees.Assignee.{Assignee}

abbrev pub written_call : ResolveCtx → Pointer → AstMacroCall → Pat
written_call at s c = entered_pat at.answers (into at) c at.place s

-- the pattern that is found, and where it is read
abbrev pub There : Type 0
There = Option (LowerCtx × AstPat)

abbrev pub pat_in : LowerCtx → Option AstFragment → There
pat_in q (Some (fragment.Pat x)) = Some (q, x)
pat_in q _ = None

abbrev pub pat_there : Found → There
pat_there None = None
pat_there (Some x) = pat_in x.0 x.1

-- the same as it is lent
abbrev pub pat_lent : Option (LowerCtx × Bor AstPat) → There
pat_lent None = None
pat_lent (Some x) = Some (x.0, x.1.now)

-- what the code does with it, which is missing where there is none

abbrev pub lower_there : ResolveCtx → There → Table → Lowering (PatId × Table)
lower_there at None t = alone missing_pat t
lower_there at (Some x) t = lower_pat (resolved_pat (at_place at x.0) x.1) t

abbrev pub element_there : ResolveCtx → There → Table → Lowering (Option PatId × Table)
element_there at None t = missing_pat >>= (λ i. pure (Some i, t))
element_there at (Some x) t = element_steps (resolved_pat (at_place at x.0) x.1) t

abbrev pub type_pat_there : ResolveCtx → There → Lowering PatId
type_pat_there at None = missing_pat
type_pat_there at (Some x) =
    let here = at_place at x.0 in lower_type_pat (type_pat_of here.answers.lang_items (resolved_pat here x.1))

-- the node leads to what is missing
abbrev pub missing_led : Pointer → Lowering PatId
missing_led s = missing_pat >>= (λ i. point_pat s i >> pure i)

-- the node leads there
abbrev pub point_named : Pointer → PatId × Table → Lowering (PatId × Table)
point_named s r = point_pat s r.0 >> pure r

abbrev pub point_lone : Pointer → PatId → Lowering PatId
point_lone s i = point_pat s i >> pure i

-- as the assignee expression

abbrev pub written_expr : ResolveCtx → Pointer → AstMacroCall → Expr
written_expr at s c = entered_expr at.answers (into at) c at.place s

-- the expression that is found, and where it is read
abbrev pub ExprThere : Type 0
ExprThere = Option (LowerCtx × AstExpr)

abbrev pub expr_in : LowerCtx → Option AstFragment → ExprThere
expr_in q (Some (fragment.Expr x)) = Some (q, x)
expr_in q _ = None

abbrev pub expr_there : Found → ExprThere
expr_there None = None
expr_there (Some x) = expr_in x.0 x.1

-- the same as it is lent
abbrev pub expr_lent : Option (LowerCtx × Bor AstExpr) → ExprThere
expr_lent None = None
expr_lent (Some x) = Some (x.0, x.1.now)

-- what the code does with it, with the outermost call, where it is an element that comes out of calls
abbrev pub assignee_there : ResolveCtx → Option Pointer → Pointer → ExprThere → Lowering Assignee
assignee_there at call s None = uncalled_assignee call s
assignee_there at call s (Some x) = do
  let here = at_place at x.0
  a ← assignee_of (found_at here) call (resolved_expr here x.1)
  called_assignee s (outermost call (own_pointer here x.1)) a

-- as an element at this outermost call
abbrev pub target_element_there : ResolveCtx → Pointer → ExprThere → Lowering (Option PatId)
target_element_there at call None = some (missing_target (Some call))
target_element_there at call (Some x) = let here = at_place at x.0 in element_found (found_at here) (Some call) (resolved_expr here x.1)
