-- Whether the condition of a `while` holds a `let`: by the kind of what is written, and through the macro calls in it.
use Rattle.std.proofs.Common.{◌≡◌, ◌∙◌, ap, refl, sym, ℕ, zero, suc, ◌+◌, ◌≤◌, arith, Bool, true, false, ◌&&◌, ◌||◌, Option, Some, None}
use Rattle.std.proofs.Common.{Err}
use Rattle.hir_base.specs.declared.op.BinaryOp.{BinaryOp}
use Rattle.hir_base.specs.declared.op.BinaryOp.TheVariants as op
use Rattle.hir_base.specs.declared.op.LogicOp.TheVariants as logic
use Rattle.hir_syntax.specs.declared.ast.BlockExpr.{out-BlockExpr}
use Rattle.hir_syntax.specs.declared.ast.ElseBranch.TheOpen.{ExprKind-F}
use Rattle.hir_syntax.specs.declared.ast.Expr.{Expr as AstExpr}
use Rattle.hir_syntax.specs.declared.ast.ExprKind.{out-ExprKind, roll-ExprKind, roll-out-ExprKind}
use Rattle.hir_syntax.specs.declared.ast.ExprKind.TheVariants as ast_kind
use Rattle.hir_syntax.specs.declared.macros.Fragment.TheVariants as fragment
use Rattle.hir_syntax.specs.declared.macros.MacroCall.{MacroCall as AstMacroCall}
use Rattle.hir_syntax.specs.declared.pats.Pat.{Pat as AstPat}
use Rattle.hir_store.specs.Pointers.{Pointer}
use Rattle.hir_store.specs.declared.ids.CfgId.{CfgId}
use Rattle.hir_env.specs.Answers.{Expanding, unresolved, no_expansion, expanded}
use Rattle.hir_env.specs.ResolvedTree as tree
use Rattle.hir_env.specs.ResolvedTree.{Called, Expr, OptionExpr}
use Rattle.hir_env.specs.Answering.{asked, coroutine_kind, for_items, question_items}
use Rattle.hir_env.specs.Calls.{around, around_if, asked_call, call_pointer, called, entered_expr, expr_in, gone_in, inside_file}
use Rattle.hir_env.specs.Conditions.{holds_let, is_with_let}
use Rattle.hir_env.specs.Count.{count_expr, count_option_expr}
use Rattle.hir_env.specs.Layers.{ExprKindLayer}
use Rattle.hir_env.specs.ResolveCtx.{ResolveCtx, site_of}
use Rattle.hir_env.specs.Whole.{resolved_expr, entering, expr_part, kept_expr, pointer_at, written}
use Rattle.hir_env.specs.declared.expand.FragmentKind.TheVariants as kind
use Rattle.hir_env.proofs.Levels.{block_is_level, expr_is_level}
use Rattle.hir_lower_builder.specs.Calls.{found_in}
use Rattle.hir_lower_builder.specs.Methods.{at_place}
use Rattle.hir_lower_pat.specs.Calls.{expr_there, written_expr}
use Rattle.hir_lower_pat.specs.TargetLists.{behind_left, expr_behind}
use Rattle.hir_lower_pat.proofs.AssigneeLemmas.{kept_below, level}
use Rattle.hir_lower_pat.proofs.CallLemmas.{fresh}
use Rattle.hir_lower_pat.proofs.OfKinds.{of_closure, of_for, of_own, of_question}
use Rattle.hir_lower_pat.proofs.TargetCalls.{expr_call_is, lacking_expr_is}
use Rattle.hir_lower_expr.specs.Conditions.{is_and, let_there}

-- a call holds what it stands for does

around_holds : (s : Pointer) (c : Called) (x : OptionExpr) → is_with_let (around s c x) ≡ holds_let x
around_holds s c tree.no_expr = refl
around_holds s c (tree.some_expr e) = by e
  where
    by : (e : Expr) → is_with_let (around_if (gone_in e) s c (tree.some_expr e)) ≡ is_with_let e
    by (tree.disabled_expr why e) = refl
    by _ = refl

call_by : (at : ResolveCtx) (s c : Pointer) (n : ℕ) (x : Expanding)
    → is_with_let (around s (called c x) (expr_in (fresh at.answers n) at.place x)) ≡ let_there at (expr_there (found_in n at.place x))
call_by at s c n (unresolved y) = refl
call_by at s c n no_expansion = refl
call_by at s c n (expanded f None es) = refl
call_by at s c n (expanded f (Some (fragment.Expr e)) es) =
    around_holds s (tree.entered (record { call = c; file = f; eager = es }))
    (tree.some_expr (resolved_expr (at_place at (inside_file f n at.place)) e))
call_by at s c n (expanded f (Some (fragment.Stmts e)) es) = refl
call_by at s c n (expanded f (Some (fragment.Pat e)) es) = refl
call_by at s c n (expanded f (Some (fragment.Type_ e)) es) = refl

call_on : (at : ResolveCtx) (s : Pointer) (c : AstMacroCall) → is_with_let (written_expr at s c) ≡ let_there at (expr_behind at c)
call_on at s c = by at.place.left
  where
    by : (l : ℕ) → is_with_let (entered_expr at.answers (entering at.answers l) c at.place s)
        ≡ let_there at (expr_there (behind_left at.answers c l at.place))
    by zero = refl
    by (suc n) = call_by at s (call_pointer at.place c) n (asked_call at.answers kind.Expr c at.place)

-- what is no `let`, no operator, and stands in no parentheses and for no call

abbrev IsOther : ExprKindLayer written → Type 0
IsOther (ExprKind-F.LetExpr x e) = ⊥
IsOther (ExprKind-F.ParenExpr e) = ⊥
IsOther (ExprKind-F.BinExpr o a b) = ⊥
IsOther (ExprKind-F.MacroExpr c) = ⊥
IsOther _ = Unit {0}

other_at : (at : ResolveCtx) (k : ExprKindLayer written) (s : Pointer) → IsOther k → is_with_let (level at k s) ≡ false
other_at at (ExprKind-F.BlockExpr b) s h =
    ap is_with_let (block_is_level at b)
    ∙ of_own is_with_let false (λ x. refl) (λ t item y number ss e. refl) (λ t c. refl) (λ t mapping moves number ss e. refl)
    at (out-BlockExpr b).mod_ b
other_at at (ExprKind-F.TryExpr e) s h = of_question is_with_let false s _ (λ items. refl) refl (question_items at.answers.lang_items)
other_at at (ExprKind-F.RangeExpr o a b) s h = refl
other_at at (ExprKind-F.IfExpr c t e) s h = refl
other_at at (ExprKind-F.LoopExpr l b) s h = refl
other_at at (ExprKind-F.WhileExpr l c b) s h = refl
other_at at (ExprKind-F.ForExpr l q e b) s h =
    of_for is_with_let false (λ t items x w p h y. refl) (λ t. refl) (for_items at.answers.lang_items) s _ _ _ _ _
other_at at (ExprKind-F.CallExpr f es) s h = refl
other_at at (ExprKind-F.PathExpr x) s h = refl
other_at at (ExprKind-F.ContinueExpr l) s h = refl
other_at at (ExprKind-F.BreakExpr l e) s h = refl
other_at at (ExprKind-F.ParenExpr e) s h = absurd h
other_at at (ExprKind-F.MacroExpr c) s h = absurd h
other_at at (ExprKind-F.Literal l) s h = refl
other_at at (ExprKind-F.MethodCallExpr e n as' es) s h = refl
other_at at (ExprKind-F.FieldExpr e n) s h = refl
other_at at (ExprKind-F.PrefixExpr None e) s h = refl
other_at at (ExprKind-F.PrefixExpr (Some o) e) s h = refl
other_at at (ExprKind-F.BinExpr o a b) s h = absurd h
other_at at (ExprKind-F.IndexExpr a b) s h = refl
other_at at (ExprKind-F.RefExpr r m e) s h = refl
other_at at (ExprKind-F.TupleExpr comma es) s h = refl
other_at at (ExprKind-F.ArrayExpr es) s h = refl
other_at at (ExprKind-F.RepeatExpr e n) s h = refl
other_at at (ExprKind-F.ClosureExpr ps r e is_async is_gen moves is_static) s h =
    of_closure is_with_let false (λ t m st xs y b. refl) (λ t mapping m xs y b. refl) (coroutine_kind is_async is_gen) s moves
    is_static _ _ _
other_at at (ExprKind-F.ReturnExpr e) s h = refl
other_at at (ExprKind-F.BecomeExpr e) s h = refl
other_at at (ExprKind-F.YieldExpr e) s h = refl
other_at at (ExprKind-F.YeetExpr e) s h = refl
other_at at (ExprKind-F.AwaitExpr e) s h = refl
other_at at (ExprKind-F.CastExpr e t) s h = refl
other_at at (ExprKind-F.RecordExpr x l) s h = refl
other_at at (ExprKind-F.OffsetOfExpr t ns) s h = refl
other_at at (ExprKind-F.CfgPredExpr pred) s h = refl
other_at at (ExprKind-F.LetExpr x e) s h = absurd h
other_at at (ExprKind-F.MatchExpr e as') s h = refl
other_at at ExprKind-F.UnderscoreExpr s h = refl
other_at at ExprKind-F.IncludeBytesExpr s h = refl
other_at at ExprKind-F.AsmExpr s h = refl
other_at at ExprKind-F.FormatArgsExpr s h = refl

-- operators

and_at : (at : ResolveCtx) (o : Option BinaryOp) (a b : Option AstExpr) (s : Pointer)
    → is_with_let (level at (ExprKind-F.BinExpr o a b) s) ≡ (is_and o && (holds_let (expr_part at a) || holds_let (expr_part at b)))
and_at at None a b s = refl
and_at at (Some (op.LogicOp logic.And)) a b s = refl
and_at at (Some (op.LogicOp logic.Or)) a b s = refl
and_at at (Some (op.ArithOp o)) a b s = refl
and_at at (Some (op.CmpOp o)) a b s = refl
and_at at (Some (op.Assignment o)) a b s = refl
and_at at (Some op.Assign) a b s = refl

operands_at : (at : ResolveCtx) (o : Option BinaryOp) (a b : Option AstExpr) (s : Pointer)
    → count_expr (level at (ExprKind-F.BinExpr o a b) s) ≡ suc (count_option_expr (expr_part at a) + count_option_expr (expr_part at b))
operands_at at None a b s = refl
operands_at at (Some (op.LogicOp o)) a b s = refl
operands_at at (Some (op.ArithOp o)) a b s = refl
operands_at at (Some (op.CmpOp o)) a b s = refl
operands_at at (Some (op.Assignment o)) a b s = refl
operands_at at (Some op.Assign) a b s = refl

-- what comes of `&&` and its operands
pub by_left : (o a b r : Bool) → true ≡ o → true ≡ a → r ≡ true → r ≡ (o && (a || b))
by_left o a b r h k e = e ∙ (λ i. h i && (k i || b))

pub by_right : (o a b r : Bool) → true ≡ o → false ≡ a → r ≡ b → r ≡ (o && (a || b))
by_right o a b r h k e = e ∙ (λ i. h i && (k i || b))

pub by_none : (o a b r : Bool) → false ≡ o → r ≡ false → r ≡ (o && (a || b))
by_none o a b r h e = e ∙ (λ i. h i && (a || b))

-- one that is disabled, and an operand

pub disabled_holds : (at : ResolveCtx) (e : AstExpr) (by : CfgId) → at.answers.cfg (site_of (pointer_at at e.id e.range)) ≡ Err by
    → is_with_let (resolved_expr at e) ≡ false
disabled_holds at e by h =
    let s = pointer_at at e.id e.range in ap is_with_let (expr_is_level at e ∙ ap (λ r. asked s r (kept_expr at e)) h)

-- one that is there
module _ (at : ResolveCtx) (part : Option AstExpr) (x y : AstExpr) (there : part ≡ Some x) (got : y ≡ x) where
  pub part_holds : is_with_let (resolved_expr at y) ≡ holds_let (expr_part at part)
  part_holds = ap (λ e. is_with_let (resolved_expr at e)) got ∙ ap (λ o. holds_let (expr_part at o)) (sym there)

  pub part_size : count_expr (resolved_expr at y) ≡ count_option_expr (expr_part at part)
  part_size = ap (λ e. count_expr (resolved_expr at e)) got ∙ ap (λ o. count_option_expr (expr_part at o)) (sym there)

pub absent_holds : (at : ResolveCtx) (part : Option AstExpr) → part ≡ None → holds_let (expr_part at part) ≡ false
absent_holds at part h = ap (λ o. holds_let (expr_part at o)) h

-- by its kind, whatever disables it

module _ (at : ResolveCtx) (e : AstExpr) where
  abbrev node : Pointer
  node = pointer_at at e.id e.range

  as_level : (k : ExprKindLayer written) → out-ExprKind e.kind ≡ k → kept_expr at e ≡ level at k node
  as_level k h = ap (λ l. level at l node) h

  pub let_holds : (x : Option AstPat) (v : Option AstExpr) → out-ExprKind e.kind ≡ ExprKind-F.LetExpr x v
      → is_with_let (kept_expr at e) ≡ true
  let_holds x v h = ap is_with_let (as_level (ExprKind-F.LetExpr x v) h)

  pub paren_holds : (v : Option AstExpr) → out-ExprKind e.kind ≡ ExprKind-F.ParenExpr v
      → is_with_let (kept_expr at e) ≡ holds_let (expr_part at v)
  paren_holds v h = ap is_with_let (as_level (ExprKind-F.ParenExpr v) h)

  pub and_holds : (o : Option BinaryOp) (a b : Option AstExpr) → out-ExprKind e.kind ≡ ExprKind-F.BinExpr o a b
      → is_with_let (kept_expr at e) ≡ (is_and o && (holds_let (expr_part at a) || holds_let (expr_part at b)))
  and_holds o a b h = ap is_with_let (as_level (ExprKind-F.BinExpr o a b) h) ∙ and_at at o a b node

  pub call_holds : (c : AstMacroCall) → out-ExprKind e.kind ≡ ExprKind-F.MacroExpr (Some c)
      → is_with_let (kept_expr at e) ≡ let_there at (expr_behind at c)
  call_holds c h = ap is_with_let (expr_call_is at e c h) ∙ call_on at node c

  pub lacking_holds : out-ExprKind e.kind ≡ ExprKind-F.MacroExpr None → is_with_let (kept_expr at e) ≡ false
  lacking_holds h = ap is_with_let (lacking_expr_is at e h)

  made : (l : ExprKindLayer written) → out-ExprKind e.kind ≡ l → e.kind ≡ roll-ExprKind l
  made l h = sym (roll-out-ExprKind e.kind) ∙ ap roll-ExprKind h

  pub other_holds : ((x : Option AstPat) (v : Option AstExpr) → e.kind ≡ ast_kind.LetExpr x v → ⊥)
      → ((v : Option AstExpr) → e.kind ≡ ast_kind.ParenExpr v → ⊥)
      → ((o : Option BinaryOp) (a b : Option AstExpr) → e.kind ≡ ast_kind.BinExpr o a b → ⊥)
      → ((c : Option AstMacroCall) → e.kind ≡ ast_kind.MacroExpr c → ⊥) → is_with_let (kept_expr at e) ≡ false
  other_holds no_let no_paren no_operator no_call = other_at at (out-ExprKind e.kind) node (by (out-ExprKind e.kind) refl)
    where
      by : (l : ExprKindLayer written) → out-ExprKind e.kind ≡ l → IsOther l
      by (ExprKind-F.LetExpr x v) h = no_let x v (made _ h ∙ ast_kind.rolls-LetExpr x v)
      by (ExprKind-F.ParenExpr v) h = no_paren v (made _ h ∙ ast_kind.rolls-ParenExpr v)
      by (ExprKind-F.BinExpr o a b) h = no_operator o a b (made _ h ∙ ast_kind.rolls-BinExpr o a b)
      by (ExprKind-F.MacroExpr c) h = no_call c (made _ h ∙ ast_kind.rolls-MacroExpr c)
      by _ h = tt

  -- how much they count

  pub paren_size : (v : Option AstExpr) → out-ExprKind e.kind ≡ ExprKind-F.ParenExpr v
      → suc (count_option_expr (expr_part at v)) ≤ count_expr (resolved_expr at e)
  paren_size v h =
      let same : count_expr (kept_expr at e) ≡ suc (count_option_expr (expr_part at v))
      = ap count_expr (as_level (ExprKind-F.ParenExpr v) h) in
      let kept = kept_below at e in
      omega (arith, same, kept)

  pub and_size : (o : Option BinaryOp) (a b : Option AstExpr) → out-ExprKind e.kind ≡ ExprKind-F.BinExpr o a b
      → suc (count_option_expr (expr_part at a) + count_option_expr (expr_part at b)) ≤ count_expr (resolved_expr at e)
  and_size o a b h =
      let same : count_expr (kept_expr at e) ≡ suc (count_option_expr (expr_part at a) + count_option_expr (expr_part at b))
      = ap count_expr (as_level (ExprKind-F.BinExpr o a b) h) ∙ operands_at at o a b node in
      let kept = kept_below at e in
      omega (arith, same, kept)
