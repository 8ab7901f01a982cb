-- What comes of the parts of tuples, calls and arrays that are assigned to.
use Rattle.std.specs.Prelude.{ℕ, Bool, zero, suc, List, [], ◌∷◌, ◌++◌, Option, Some, None}
use Rattle.hir_syntax.specs.declared.macros.MacroCall.{MacroCall as AstMacroCall}
use Rattle.hir_store.specs.Pointers.{Pointer}
use Rattle.hir_store.specs.Stored.{Stored}
use Rattle.hir_store.specs.Range.{HasPats}
use Rattle.hir_store.specs.declared.ids.PatId.{PatId}
use Rattle.hir_store.specs.declared.pat.Pat.TheVariants as pat
use Rattle.hir_store.specs.declared.path.Path.{Path as HirPath}
use Rattle.hir_env.specs.Answers.{Answers}
use Rattle.hir_env.specs.Calls.{asked_call}
use Rattle.hir_env.specs.ResolveCtx.{ResolveCtx}
use Rattle.hir_env.specs.declared.expand.FragmentKind.TheVariants as kind
use Rattle.hir_env.specs.declared.ctx.LowerCtx.{LowerCtx}
use Rattle.hir_env.specs.ResolvedTree as tree
use Rattle.hir_env.specs.ResolvedTree.{Expr, Exprs, OptionPath, Origin, Path}
use Rattle.hir_env.specs.Targets.{callee_path, pointer_of, target_of}
use Rattle.hir_env.specs.Whole.{resolved_expr}
use Rattle.hir_lower_builder.specs.Calls.{Found, entered_at, found_in}
use Rattle.hir_lower_builder.specs.Lowering.{Lowering, ◌>>=◌, ◌>>◌, pure}
use Rattle.hir_lower_builder.specs.Lower.{lower_path, lower_target}
use Rattle.hir_lower_builder.specs.Methods.{at_place}
use Rattle.hir_lower_builder.specs.Pats.{Elements}
use Rattle.hir_lower_builder.specs.Targets.{alloc_target, call_target_of, rest_target}
use Rattle.hir_lower_pat.specs.Assignees.{element_found, track_calls}
use Rattle.hir_lower_pat.specs.Calls.{ExprThere, expr_there, target_element_there}
use Rattle.hir_lower_pat.specs.Methods.{add_element}
use Rattle.hir_lower_pat.specs.declared.assignees.Assignee.{Assignee}
use Rattle.hir_lower_pat.specs.declared.assignees.Assignee.TheVariants as assignee

-- tuples and calls

-- one part more behind those that are lowered; two dots are none
abbrev pub part_behind : Elements → Lowering (Option PatId) → Lowering Elements
part_behind done part = do
  o ← part
  pure (add_element done o)

-- a call as an element, with the outermost one: it is told, and then what it stands for is the element
abbrev pub element_call : ResolveCtx → Pointer → AstMacroCall → Lowering (Option PatId)
element_call at outer c = do
  f ← entered_at at kind.Expr c
  target_element_there at outer (expr_there f)

-- arrays

-- the parts in front of the first two dots, the node of the dots, and the parts behind them
abbrev pub ArrayParts : Type 0
ArrayParts = List PatId × Option Pointer × List PatId

abbrev pub HasArrayParts : Stored → ArrayParts → Type 0
HasArrayParts s r = HasPats s r.0 × HasPats s r.2

-- one part more in front of the dots, or the dots, by their node
abbrev pub array_front : List PatId → Pointer → List PatId → Option PatId → ArrayParts
array_front before at behind None = (before, Some at, behind)
array_front before at behind (Some i) = (before ++ i ∷ [], None, behind)

module _ (is_found : Path → Bool) where
  abbrev pub front_steps : List PatId → List PatId → Expr → Lowering ArrayParts
  front_steps before behind e = do
    o ← element_found is_found None e
    pure (array_front before (pointer_of e) behind o)

  -- two dots behind the first are a part
  abbrev pub back_steps : List PatId → Pointer → List PatId → Expr → Lowering ArrayParts
  back_steps before at behind e = do
    i ← lower_target (target_of is_found (tree.some_expr e))
    pure (before, Some at, behind ++ i ∷ [])

  abbrev pub part_steps : List PatId → Option Pointer → List PatId → Expr → Lowering ArrayParts
  part_steps before None behind e = front_steps before behind e
  part_steps before (Some at) behind e = back_steps before at behind e

  abbrev pub array_steps : ArrayParts → Expr → Lowering ArrayParts
  array_steps done e = part_steps done.0 done.1 done.2 e

  -- one part after another

  abbrev pub elements_read : Elements → Exprs → Lowering Elements
  elements_read done tree.no_exprs = pure done
  elements_read done (tree.more_exprs e es) = do
    d ← part_behind done (element_found is_found None e)
    elements_read d es

  abbrev pub array_read : ArrayParts → Exprs → Lowering ArrayParts
  array_read done tree.no_exprs = pure done
  array_read done (tree.more_exprs e es) = do
    d ← array_steps done e
    array_read d es

-- what is made of the parts of an array
abbrev pub array_of : Origin → ArrayParts → Lowering PatId
array_of at r = do
  m ← rest_target r.1
  alloc_target (pat.Slice r.0 m r.2) at

abbrev pub array_made : (Path → Bool) → Origin → Exprs → Lowering PatId
array_made is_found at es = do
  r ← array_read is_found ([], None, []) es
  array_of at r

-- callees

abbrev pub callee_read : Option OptionPath → Lowering (Option HirPath)
callee_read None = pure None
callee_read (Some p) = lower_path p

-- the calls that a callee comes out of are told, and then its path is read
abbrev pub callee_steps : Expr → Lowering (Option HirPath)
callee_steps e = track_calls e >> callee_read (callee_path e)

-- a call of it
abbrev pub call_steps : Origin → Expr → Lowering Elements → Lowering PatId
call_steps at f parts = do
  p ← callee_steps f
  call_target_of at parts p

abbrev pub called_steps : Origin → Expr → Lowering Elements → Lowering Assignee
called_steps at f parts = do
  i ← call_steps at f parts
  pure (assignee.Pat i)

-- what a call stands for as an expression, where it is entered, of which nothing is told
abbrev pub behind_left : Answers → AstMacroCall → ℕ → LowerCtx → Found
behind_left env c zero p = None
behind_left env c (suc n) p = found_in n p (asked_call env kind.Expr c p)

abbrev pub expr_behind : ResolveCtx → AstMacroCall → ExprThere
expr_behind at c = expr_there (behind_left at.answers c at.place.left at.place)

-- the path that it is as a callee
abbrev pub path_there : ResolveCtx → ExprThere → Option OptionPath
path_there at None = None
path_there at (Some x) = callee_path (resolved_expr (at_place at x.0) x.1)

-- a call as a callee: it is told, and then what it stands for is the callee
abbrev pub callee_there : ResolveCtx → ExprThere → Lowering (Option HirPath)
callee_there at None = pure None
callee_there at (Some x) = callee_steps (resolved_expr (at_place at x.0) x.1)

abbrev pub callee_call : ResolveCtx → AstMacroCall → Lowering (Option HirPath)
callee_call at c = do
  f ← entered_at at kind.Expr c
  callee_there at (expr_there f)
