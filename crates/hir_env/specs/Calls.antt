-- What a macro call stands for. Where no call may be entered nothing is asked.
use Rattle.std.specs.Prelude.{ℕ, suc, if◌then◌else◌, List, [], ◌∷◌, Option, Some, None}
use Rattle.hir_base.specs.declared.node.HirFileId.{HirFileId}
use Rattle.hir_syntax.specs.declared.macros.MacroCall.{MacroCall as AstMacroCall, out-MacroCall}
use Rattle.hir_syntax.specs.declared.macros.Fragment.TheVariants as fragment
use Rattle.hir_store.specs.Pointers.{Pointer}
use Rattle.hir_store.specs.Names.{same_name}
use Rattle.hir_store.specs.declared.name.Name.{Name}
use Rattle.hir_env.specs.declared.ctx.LowerCtx.{LowerCtx}
use Rattle.hir_env.specs.declared.expand.FragmentKind.{FragmentKind}
use Rattle.hir_env.specs.declared.expand.FragmentKind.TheVariants as kind
use Rattle.hir_env.specs.Answers.{Answers, Expanding, unresolved, no_expansion, expanded}
use Rattle.hir_env.specs.ResolveCtx.{in_file, ptr, site_of}
use Rattle.hir_env.specs.Layers.{Defined, Entering, Spliced, StmtReading}
use Rattle.hir_env.specs.ResolvedTree as tree
use Rattle.hir_env.specs.ResolvedTree.{Called, Entered, Expr, Gone, OptionExpr, OptionPat, OptionType, Pat, Stmts, Type_}

-- inside of an expansion
abbrev pub inside_file : HirFileId → ℕ → LowerCtx → LowerCtx
inside_file f n p = record p { file_id = f; left = n }

abbrev pub call_pointer : LowerCtx → AstMacroCall → Pointer
call_pointer p c = in_file p (ptr (out-MacroCall c).id (out-MacroCall c).range)

abbrev pub asked_call : Answers → FragmentKind → AstMacroCall → LowerCtx → Expanding
asked_call env k c p = env.expand (site_of (call_pointer p c)) c p.module_id k

abbrev pub called : Pointer → Expanding → Called
called c (unresolved x) = tree.unresolved c x
called c no_expansion = tree.unentered
called c (expanded f x es) = tree.entered (record { call = c; file = f; eager = es })

-- what nothing is left of

abbrev pub gone_in : Expr → Option Gone
gone_in (tree.disabled_expr why e) = Some why
gone_in _ = None

abbrev pub through : Called → Gone → Gone
through (tree.entered c) why = record why { entered = c ∷ why.entered }
through _ why = why

abbrev pub around_if : Option Gone → Pointer → Called → OptionExpr → Expr
around_if None s c e = tree.macro_expr s c e
around_if (Some why) s c e = tree.disabled_expr (through c why) (tree.macro_expr s c e)

-- A call that stands for something that is gone is gone, too.
abbrev pub around : Pointer → Called → OptionExpr → Expr
around s c tree.no_expr = tree.macro_expr s c tree.no_expr
around s c (tree.some_expr e) = around_if (gone_in e) s c (tree.some_expr e)

-- that the text lacks
abbrev pub lacking_call : Pointer → Expr
lacking_call s = tree.disabled_expr (record { entered = []; condition = None }) (tree.macro_expr s tree.callless tree.no_expr)

-- expressions, patterns and types

abbrev pub expr_in : Entering → LowerCtx → Expanding → OptionExpr
expr_in into p (expanded f (Some (fragment.Expr e)) es) = tree.some_expr (into.expr e (inside_file f into.left p))
expr_in into p _ = tree.no_expr

abbrev pub entered_expr : Answers → Option Entering → AstMacroCall → LowerCtx → Pointer → Expr
entered_expr env None c p s = tree.macro_expr s tree.unentered tree.no_expr
entered_expr env (Some into) c p s = let x = asked_call env kind.Expr c p in
    around s (called (call_pointer p c) x) (expr_in into p x)

abbrev pub pat_in : Entering → LowerCtx → Expanding → OptionPat
pat_in into p (expanded f (Some (fragment.Pat x)) es) = tree.some_pat (into.pat x (inside_file f into.left p))
pat_in into p _ = tree.no_pat

abbrev pub entered_pat : Answers → Option Entering → AstMacroCall → LowerCtx → Pointer → Pat
entered_pat env None c p s = tree.macro_pat s tree.unentered tree.no_pat
entered_pat env (Some into) c p s = let x = asked_call env kind.Pat c p in
    tree.macro_pat s (called (call_pointer p c) x) (pat_in into p x)

abbrev pub type_in : Entering → LowerCtx → Expanding → OptionType
type_in into p (expanded f (Some (fragment.Type_ t)) es) = tree.some_type (into.type_ t (inside_file f into.left p))
type_in into p _ = tree.no_type

abbrev pub entered_type : Answers → Option Entering → AstMacroCall → LowerCtx → Pointer → Type_
entered_type env None c p s = tree.macro_type s tree.unentered tree.no_type
entered_type env (Some into) c p s = let x = asked_call env kind.Type_ c p in
    tree.macro_type s (called (call_pointer p c) x) (type_in into p x)

-- statements

abbrev pub append : Stmts → Stmts → Stmts
append tree.no_stmts rest = rest
append (tree.more_stmts s ss) rest = tree.more_stmts s (append ss rest)

abbrev pub nothing : Defined → Spliced
nothing d = record { stmts = tree.no_stmts; last = tree.no_expr; defined = d }

module _ {A B : Type 0} (stmt : A → LowerCtx → Defined → StmtReading) (value : B → LowerCtx → Defined → Spliced) where
  abbrev pub stmts_of : List A → LowerCtx → Defined → StmtReading
  stmts_of [] p d = record { stmts = tree.no_stmts; defined = d }
  stmts_of (s ∷ ss) p d =
      let r = stmt s p d in
      let rest = stmts_of ss p r.defined in
      record { stmts = append r.stmts rest.stmts; defined = rest.defined }

  abbrev pub value_or_none : Option B → LowerCtx → Defined → Spliced
  value_or_none None p d = nothing d
  value_or_none (Some e) p d = value e p d

  -- the statements, and what stands behind them, read where the last of them leaves off
  abbrev pub splice_of : List A → Option B → LowerCtx → Defined → Spliced
  splice_of ss e p d =
      let r = stmts_of ss p d in
      let t = value_or_none e p r.defined in
      record { stmts = append r.stmts t.stmts; last = t.last; defined = t.defined }

-- what stands behind the statements is found at the call, too
abbrev pub spliced_last : Pointer → OptionExpr → OptionExpr
spliced_last s tree.no_expr = tree.no_expr
spliced_last s (tree.some_expr e) = tree.some_expr (around s tree.spliced (tree.some_expr e))

abbrev pub spliced_in : Pointer → Entered → Spliced → Spliced
spliced_in s c r = record {
  stmts = tree.more_stmts (tree.call_stmt c) r.stmts;
  last = spliced_last s r.last;
  defined = r.defined;
}

abbrev pub splice_in : Entering → LowerCtx → Pointer → Pointer → Expanding → Defined → Spliced
splice_in into p s c (expanded f (Some (fragment.Stmts ms)) es) d =
    spliced_in s (record { call = c; file = f; eager = es })
    (splice_of into.stmt into.value ms.stmts ms.expr (inside_file f into.left p) d)
splice_in into p s c (expanded f _ es) d = spliced_in s (record { call = c; file = f; eager = es }) (nothing d)
splice_in into p s c _ d = nothing d

abbrev pub entered_splice : Answers → Option Entering → AstMacroCall → LowerCtx → Pointer → Defined → Spliced
entered_splice env None c p s d = nothing d
entered_splice env (Some into) c p s d = splice_in into p s (call_pointer p c) (asked_call env kind.Stmts c p) d

-- how many of the name are defined
abbrev pub times : Name → Defined → ℕ
times n [] = 0
times n (m ∷ ms) = if same_name m n then suc (times n ms) else times n ms
