-- Which shapes of written trees the rules tell apart, and what they say around the tree that a call stands for.
use Rattle.std.specs.Prelude.{◌≡◌, List, [], ◌∷◌, Bool, true, false, Option, Some, None}
use Rattle.hir_base.specs.declared.op.BinaryOp.{BinaryOp}
use Rattle.hir_base.specs.declared.op.BinaryOp.TheVariants as op
use Rattle.hir_syntax.specs.declared.ast.ElseBranch.TheOpen.{ExprKind-F}
use Rattle.hir_syntax.specs.declared.ast.Path.{Path as AstPath}
use Rattle.hir_syntax.specs.declared.ast.PathSegment.{PathSegment as AstPathSegment, out-PathSegment}
use Rattle.hir_syntax.specs.declared.macros.Fragment.{Fragment}
use Rattle.hir_syntax.specs.declared.macros.Fragment.TheVariants as fragment
use Rattle.hir_syntax.specs.declared.types.Param.{Param as AstParam, out-Param}
use Rattle.hir_store.specs.Pointers.{Pointer}
use Rattle.hir_store.specs.declared.ids.CtxId.{CtxId}
use Rattle.hir_env.specs.ResolvedTree as tree
use Rattle.hir_env.specs.ResolvedTree.{Called, Entered, Expr, Gone, OptionExpr, OptionPath, Path, Pats}
use Rattle.hir_env.specs.Answers.{Answers}
use Rattle.hir_env.specs.Calls.{gone_in}
use Rattle.hir_env.specs.Layers.{ExprKindLayer, written}
use Rattle.hir_env.specs.LocalPaths.{is_bare}
use Rattle.hir_env.specs.PathNames.{mod_path_of}
use Rattle.hir_env.specs.Pats.{element_in}
use Rattle.hir_env.specs.declared.ctx.LowerCtx.{LowerCtx}

-- where a path begins that may stand directly in a macro call
pub data Start : Type 0 where
  as_written : Start
  -- one segment, which the text lacks
  lacking : Start
  -- one segment alone: at the root of the crate of its macro, if that is local to it
  by_its_macro : AstPathSegment → Start

abbrev pub start_of : Bool → List (Option AstPathSegment) → Option AstPath → Bool → Start
start_of true [] None false = lacking
start_of true (None ∷ []) None false = lacking
start_of true (Some s ∷ []) None leading = by_its_macro s
start_of in_macro segs use_ leading = as_written

-- whether the last of the parameters is variadic
abbrev pub ends_variadic : Bool → List AstParam → Bool
ends_variadic so_far [] = so_far
ends_variadic so_far (x ∷ xs) = ends_variadic (out-Param x).variadic xs

module _ (env : Answers) where
  -- the root of the crate of its macro, where that is local and the path is one name that begins nowhere
  abbrev pub root_if : CtxId → Bool → Bool → OptionPath
  root_if c true true = tree.some_path (tree.path None false (tree.dollar_crate_segment (env.crate_root c)) tree.no_segments tree.no_path)
  root_if c _ _ = tree.no_path

  abbrev pub at_root : LowerCtx → AstPathSegment → Path → OptionPath
  at_root p s y = let c = env.context (record { file_id = p.file_id; value = (out-PathSegment s).id }) in
      root_if c (env.local_inner c) (is_bare (mod_path_of (tree.some_path y)))

-- The expression at a call, around what it stands for. One that stands for something that is gone is gone, too.
abbrev pub entered_too : Called → List Entered → List Entered
entered_too (tree.entered c) cs = c ∷ cs
entered_too _ cs = cs

pub data AroundAs (s : Pointer) (y : Called) : OptionExpr → Expr → Type 0 where
  around_nothing : AroundAs s y tree.no_expr (tree.macro_expr s y tree.no_expr)
  around_expr : {e : Expr} → gone_in e ≡ None → AroundAs s y (tree.some_expr e) (tree.macro_expr s y (tree.some_expr e))
  around_gone : {e : Expr} {why : Gone} → gone_in e ≡ Some why → AroundAs s y (tree.some_expr e) (tree.disabled_expr
      (record { entered = entered_too y why.entered; condition = why.condition }) (tree.macro_expr s y (tree.some_expr e)))

-- what stands behind spliced statements, at the call
pub data LastAs (s : Pointer) : OptionExpr → OptionExpr → Type 0 where
  no_last : LastAs s tree.no_expr tree.no_expr
  some_last : {e x : Expr} → AroundAs s tree.spliced (tree.some_expr e) x → LastAs s (tree.some_expr e) (tree.some_expr x)

abbrev pub is_call : ExprKindLayer written → Bool
is_call (ExprKind-F.MacroExpr c) = true
is_call _ = false

abbrev pub is_operator : Option BinaryOp → Bool
is_operator (Some (op.LogicOp o)) = false
is_operator (Some op.Assign) = false
is_operator _ = true

abbrev pub are_stmts : Option Fragment → Bool
are_stmts (Some (fragment.Stmts ms)) = true
are_stmts _ = false

-- the elements of a tuple or a call, whose `..` are taken out of the calls that stand for them
abbrev pub as_elements : Pats → Pats
as_elements tree.no_pats = tree.no_pats
as_elements (tree.more_pats y ys) = element_in y (as_elements ys)
as_elements (tree.tracked_pats c ys) = tree.tracked_pats c (as_elements ys)
