-- What comes of targets: what their resolved tree say of their kinds.
use Rattle.std.proofs.Common.{◌≡◌, ◌∙◌, ap, refl, subst, sym, Bool, true, false, List, Option, Some, None, Result, Ok, Err}
use Rattle.std.proofs.Common.{arith, ◌≤◌}
use Rattle.std.specs.Prelude.{if◌then◌else◌}
use Rattle.hir_base.specs.declared.op.BinaryOp.TheVariants as op
use Rattle.hir_syntax.specs.declared.ast.BlockExpr.{out-BlockExpr}
use Rattle.hir_syntax.specs.declared.ast.ElseBranch.TheOpen.{ExprKind-F}
use Rattle.hir_syntax.specs.declared.ast.Expr.{Expr as AstExpr}
use Rattle.hir_syntax.specs.declared.ast.ExprKind.{ExprKind as AstExprKind, out-ExprKind, out-roll-ExprKind, roll-ExprKind}
use Rattle.hir_syntax.specs.declared.ast.ExprKind.{roll-out-ExprKind}
use Rattle.hir_syntax.specs.declared.ast.ExprKind.TheVariants as kind
use Rattle.hir_syntax.specs.declared.ast.Path.{Path as AstPath}
use Rattle.hir_syntax.specs.declared.ast.RecordExprFieldList.{RecordExprFieldList as AstFieldList}
use Rattle.hir_syntax.specs.declared.macros.MacroCall.{MacroCall as AstMacroCall}
use Rattle.hir_store.specs.Pointers.{Pointer}
use Rattle.hir_store.specs.declared.ids.CfgId.{CfgId}
use Rattle.hir_store.specs.declared.ids.ExprId.{ExprId}
use Rattle.hir_store.specs.declared.ids.HygieneId.{HygieneId}
use Rattle.hir_store.specs.declared.ids.PatId.{PatId}
use Rattle.hir_store.specs.declared.path.Path.{Path as HirPath}
use Rattle.hir_env.specs.Answers.{Answers}
use Rattle.hir_env.specs.Calls.{around, asked_call, call_pointer, called, entered_expr, expr_in}
use Rattle.hir_env.specs.ResolveCtx.{ResolveCtx, site_of}
use Rattle.hir_env.specs.ResolvedTree as tree
use Rattle.hir_env.specs.ResolvedTree.{Called, Expr, OptionExpr, OptionPath, Origin, Path, Target, Targets}
use Rattle.hir_env.specs.Answering.{asked, coroutine_kind, expr_at, for_items, question_items}
use Rattle.hir_env.specs.Count.{count_expr}
use Rattle.hir_env.specs.Layers.{Entering, ExprKindLayer}
use Rattle.hir_env.specs.PathNames.{mod_path_of}
use Rattle.hir_env.specs.Targets.{around_callee, call_or, called_or, callee_path, elements, is_dots, names_target, origin, outermost}
use Rattle.hir_env.specs.Targets.{gone_or, path_or, place_of, pointer_of, target_in, target_or}
use Rattle.hir_env.specs.Whole.{resolved_expr, into, kept_expr, pointer_at, reader, written}
use Rattle.hir_env.specs.declared.expand.FragmentKind.TheVariants as fragment
use Rattle.hir_env.specs.declared.ctx.LowerCtx.{LowerCtx}
use Rattle.hir_env.proofs.Levels.{block_is_level, expr_is_level}
use Rattle.hir_lower_builder.specs.Builder.{Builder}
use Rattle.hir_lower_builder.specs.Families.{IsNoCall}
use Rattle.hir_lower_builder.specs.Forms.{missing, paren_form, path_form, path_or_missing}
use Rattle.hir_lower_builder.specs.Lowering.{Checked, Lowering, ◌>>=◌, ◌>>◌, go_on, pure, alloc_expr, point}
use Rattle.hir_lower_builder.specs.Lower.{lower_kept, lower_path, lower_target}
use Rattle.hir_lower_builder.specs.Methods.{or_missing}
use Rattle.hir_lower_builder.specs.Targets.{alloc_target, path_target_form, path_target_of, place_form}
use Rattle.hir_lower_builder.proofs.Kept.{lower_on}
use Rattle.hir_lower_builder.specs.Walks.{names_read}
use Rattle.hir_lower_builder.proofs.PathNames.{lowered_names}
use Rattle.hir_lower_pat.specs.Assignees.{Assignees, IsPlace, assignee_of, target_or_place, dots_kind, dots_tuple, found_at}
use Rattle.hir_lower_pat.specs.Assignees.{pat_of_assignee, path_assignee}
use Rattle.hir_lower_pat.specs.Assignees.{path_aimed, target_assignee, place_left, place_pat, place_assignee, through, through_place}
use Rattle.hir_lower_pat.specs.declared.assignees.Assignee.{Assignee}
use Rattle.hir_lower_pat.specs.declared.assignees.Assignee.TheVariants as assignee
use Rattle.hir_lower_pat.proofs.OfKinds.{of_called, of_closure, of_for, of_own, of_question, through_asked}

abbrev pub level : ResolveCtx → ExprKindLayer written → Pointer → Expr
level at k s = expr_at at.answers (reader at.answers (into at)) k at.place s

-- conditions

pub enabled_is : (at : ResolveCtx) (e : AstExpr) → at.answers.cfg (site_of (pointer_at at e.id e.range)) ≡ Ok tt
    → resolved_expr at e ≡ kept_expr at e
enabled_is at e h = expr_is_level at e ∙ ap (λ r. asked (pointer_at at e.id e.range) r (kept_expr at e)) h

pub opened : {k : AstExprKind} {l : ExprKindLayer written} → roll-ExprKind l ≡ k → out-ExprKind k ≡ l
opened {k} {l} h = ap out-ExprKind (sym h) ∙ out-roll-ExprKind l

-- one of this kind, at this node
pub assignees_as : (at : ResolveCtx) (call : Option Pointer) (e : AstExpr) (k : ExprKindLayer written) (s : Pointer) (old : Builder)
    (r : Checked Assignee) (new : Builder) → s ≡ pointer_at at e.id e.range → resolved_expr at e ≡ kept_expr at e → out-ExprKind e.kind ≡ k
    → Assignees at call (level at k s) old r new → Assignees at call (resolved_expr at e) old r new
assignees_as at call e k s old r new here is h =
    let same : level at k s ≡ resolved_expr at e =
    ap (λ t. level at k t) here ∙ (ap (λ l. level at l (pointer_at at e.id e.range)) (sym h) ∙ sym is) in
    subst (λ x. Assignees at call x old r new) same

-- what is left of a target that is a place

abbrev nowhere : Target
nowhere = tree.absent_target None

-- whatever is disabled, it is no call for something that is disabled

gone_around : (call : Option Pointer) (s : Pointer) (c : Called) (e : OptionExpr) → gone_or call nowhere (around s c e) ≡ nowhere
gone_around call s c tree.no_expr = refl
gone_around call s c (tree.some_expr (tree.disabled_expr why e)) = refl
gone_around call s c (tree.some_expr e) = refl

gone_called : (call : Option Pointer) (env : Answers) (o : Option Entering) (c : AstMacroCall) (p : LowerCtx) (s : Pointer)
    → gone_or call nowhere (entered_expr env o c p s) ≡ nowhere
gone_called call env None c p s = refl
gone_called call env (Some i) c p s =
    let x = asked_call env fragment.Expr c p in gone_around call s (called (call_pointer p c) x) (expr_in i p x)

gone_at : (call : Option Pointer) (at : ResolveCtx) (k : ExprKindLayer written) (s : Pointer)
    → gone_or call nowhere (level at k s) ≡ nowhere
gone_at call at (ExprKind-F.MacroExpr None) s = refl
gone_at call at (ExprKind-F.MacroExpr (Some c)) s = gone_called call at.answers (into at) c at.place s
gone_at call at (ExprKind-F.BlockExpr b) s =
    ap (gone_or call nowhere) (block_is_level at b)
    ∙ of_own (gone_or call nowhere) nowhere (λ x. refl) (λ t item y number ss e. refl) (λ t c. refl) (λ t mapping moves number ss e. refl)
    at (out-BlockExpr b).mod_ b
gone_at call at (ExprKind-F.TryExpr e) s =
    of_question (gone_or call nowhere) nowhere s _ (λ items. refl) refl (question_items at.answers.lang_items)
gone_at call at (ExprKind-F.ForExpr l q e b) s =
    of_for (gone_or call nowhere) nowhere (λ t items x w p j y. refl) (λ t. refl) (for_items at.answers.lang_items) s _ _ _ _ _
gone_at call at (ExprKind-F.ClosureExpr ps r e is_async is_gen moves is_static) s =
    of_closure (gone_or call nowhere) nowhere (λ t m st xs y b. refl) (λ t mapping m xs y b. refl) (coroutine_kind is_async is_gen) s moves
    is_static _ _ _
gone_at call at (ExprKind-F.PrefixExpr None e) s = refl
gone_at call at (ExprKind-F.PrefixExpr (Some o) e) s = refl
gone_at call at (ExprKind-F.BinExpr None a b) s = refl
gone_at call at (ExprKind-F.BinExpr (Some (op.LogicOp o)) a b) s = refl
gone_at call at (ExprKind-F.BinExpr (Some (op.ArithOp o)) a b) s = refl
gone_at call at (ExprKind-F.BinExpr (Some (op.CmpOp o)) a b) s = refl
gone_at call at (ExprKind-F.BinExpr (Some (op.Assignment o)) a b) s = refl
gone_at call at (ExprKind-F.BinExpr (Some op.Assign) a b) s = refl
gone_at call at _ s = refl

-- one that a condition disables is a place
pub disabled_is : (at : ResolveCtx) (call : Option Pointer) (e : AstExpr) (by : CfgId)
    → at.answers.cfg (site_of (pointer_at at e.id e.range)) ≡ Err by
    → assignee_of (found_at at) call (resolved_expr at e) ≡ place_assignee (resolved_expr at e)
disabled_is at call e by h =
    let s = pointer_at at e.id e.range in
    let is : resolved_expr at e ≡ asked s (Err by) (kept_expr at e) = expr_is_level at e ∙ ap (λ r. asked s r (kept_expr at e)) h in
    ap (assignee_of (found_at at) call) is
    ∙ (ap (λ t. target_or_place t (asked s (Err by) (kept_expr at e))) (gone_at call at (out-ExprKind e.kind) s)
    ∙ sym (ap place_assignee is))

-- two dots

dots_at : (at : ResolveCtx) (k : ExprKindLayer written) (s : Pointer) → is_dots (level at k s) ≡ dots_kind k
dots_at at (ExprKind-F.BlockExpr b) s =
    ap is_dots (block_is_level at b)
    ∙ of_own is_dots false (λ x. refl) (λ t item y number ss e. refl) (λ t c. refl) (λ t mapping moves number ss e. refl)
    at (out-BlockExpr b).mod_ b
dots_at at (ExprKind-F.TryExpr e) s = of_question is_dots false s _ (λ items. refl) refl (question_items at.answers.lang_items)
dots_at at (ExprKind-F.RangeExpr o None None) s = refl
dots_at at (ExprKind-F.RangeExpr o None (Some e)) s = refl
dots_at at (ExprKind-F.RangeExpr o (Some e) b) s = refl
dots_at at (ExprKind-F.IfExpr c t e) s = refl
dots_at at (ExprKind-F.LoopExpr l b) s = refl
dots_at at (ExprKind-F.WhileExpr l c b) s = refl
dots_at at (ExprKind-F.ForExpr l q e b) s =
    of_for is_dots false (λ t items x w p h y. refl) (λ t. refl) (for_items at.answers.lang_items) s _ _ _ _ _
dots_at at (ExprKind-F.CallExpr f es) s = refl
dots_at at (ExprKind-F.PathExpr x) s = refl
dots_at at (ExprKind-F.ContinueExpr l) s = refl
dots_at at (ExprKind-F.BreakExpr l e) s = refl
dots_at at (ExprKind-F.ParenExpr e) s = refl
dots_at at (ExprKind-F.MacroExpr None) s = refl
dots_at at (ExprKind-F.MacroExpr (Some c)) s =
    of_called is_dots false (λ t x e. refl) (λ why t x e. refl) at.answers (into at) c at.place s
dots_at at (ExprKind-F.Literal l) s = refl
dots_at at (ExprKind-F.MethodCallExpr e n as' es) s = refl
dots_at at (ExprKind-F.FieldExpr e n) s = refl
dots_at at (ExprKind-F.PrefixExpr None e) s = refl
dots_at at (ExprKind-F.PrefixExpr (Some o) e) s = refl
dots_at at (ExprKind-F.BinExpr None a b) s = refl
dots_at at (ExprKind-F.BinExpr (Some (op.LogicOp o)) a b) s = refl
dots_at at (ExprKind-F.BinExpr (Some (op.ArithOp o)) a b) s = refl
dots_at at (ExprKind-F.BinExpr (Some (op.CmpOp o)) a b) s = refl
dots_at at (ExprKind-F.BinExpr (Some (op.Assignment o)) a b) s = refl
dots_at at (ExprKind-F.BinExpr (Some op.Assign) a b) s = refl
dots_at at (ExprKind-F.IndexExpr a b) s = refl
dots_at at (ExprKind-F.RefExpr r m e) s = refl
dots_at at (ExprKind-F.TupleExpr comma es) s = refl
dots_at at (ExprKind-F.ArrayExpr es) s = refl
dots_at at (ExprKind-F.RepeatExpr e n) s = refl
dots_at at (ExprKind-F.ClosureExpr ps r e is_async is_gen moves is_static) s =
    of_closure is_dots false (λ t m st xs y b. refl) (λ t mapping m xs y b. refl) (coroutine_kind is_async is_gen) s moves is_static _ _ _
dots_at at (ExprKind-F.ReturnExpr e) s = refl
dots_at at (ExprKind-F.BecomeExpr e) s = refl
dots_at at (ExprKind-F.YieldExpr e) s = refl
dots_at at (ExprKind-F.YeetExpr e) s = refl
dots_at at (ExprKind-F.AwaitExpr e) s = refl
dots_at at (ExprKind-F.CastExpr e t) s = refl
dots_at at (ExprKind-F.RecordExpr x l) s = refl
dots_at at (ExprKind-F.OffsetOfExpr t ns) s = refl
dots_at at (ExprKind-F.CfgPredExpr pred) s = refl
dots_at at (ExprKind-F.LetExpr x e) s = refl
dots_at at (ExprKind-F.MatchExpr e as') s = refl
dots_at at ExprKind-F.UnderscoreExpr s = refl
dots_at at ExprKind-F.IncludeBytesExpr s = refl
dots_at at ExprKind-F.AsmExpr s = refl
dots_at at ExprKind-F.FormatArgsExpr s = refl

pub dots_are : (at : ResolveCtx) (e : AstExpr) → is_dots (resolved_expr at e) ≡ dots_kind (out-ExprKind e.kind)
dots_are at e =
    let s = pointer_at at e.id e.range in
    ap is_dots (expr_is_level at e)
    ∙ (through_asked is_dots (λ why x. refl) s (at.answers.cfg (site_of s)) (kept_expr at e) ∙ dots_at at (out-ExprKind e.kind) s)

-- any other kind

abbrev IsPlaced : (Path → Bool) → Option Pointer → Expr → Type 0
IsPlaced f call e = target_or f call nowhere e ≡ nowhere

other_at : (f : Path → Bool) (call : Option Pointer) (at : ResolveCtx) (k : ExprKindLayer written) (s : Pointer) → IsPlace k
    → IsPlaced f call (level at k s)
other_at f call at (ExprKind-F.BlockExpr b) s h =
    ap (target_or f call nowhere) (block_is_level at b)
    ∙ of_own (target_or f call nowhere) nowhere (λ x. refl) (λ t item y number ss e. refl) (λ t c. refl)
    (λ t mapping moves number ss e. refl) at (out-BlockExpr b).mod_ b
other_at f call at (ExprKind-F.TryExpr e) s h =
    of_question (target_or f call nowhere) nowhere s _ (λ items. refl) refl (question_items at.answers.lang_items)
other_at f call at (ExprKind-F.RangeExpr o a b) s h = refl
other_at f call at (ExprKind-F.IfExpr c t e) s h = refl
other_at f call at (ExprKind-F.LoopExpr l b) s h = refl
other_at f call at (ExprKind-F.WhileExpr l c b) s h = refl
other_at f call at (ExprKind-F.ForExpr l q e b) s h =
    of_for (target_or f call nowhere) nowhere (λ t items x w p j y. refl) (λ t. refl)
    (for_items at.answers.lang_items) s _ _ _ _ _
other_at f call at (ExprKind-F.ContinueExpr l) s h = refl
other_at f call at (ExprKind-F.BreakExpr l e) s h = refl
other_at f call at (ExprKind-F.MacroExpr c) s h = absurd h
other_at f call at (ExprKind-F.Literal l) s h = refl
other_at f call at (ExprKind-F.MethodCallExpr e n as' es) s h = refl
other_at f call at (ExprKind-F.FieldExpr e n) s h = refl
other_at f call at (ExprKind-F.PrefixExpr None e) s h = refl
other_at f call at (ExprKind-F.PrefixExpr (Some o) e) s h = refl
other_at f call at (ExprKind-F.BinExpr None a b) s h = refl
other_at f call at (ExprKind-F.BinExpr (Some (op.LogicOp o)) a b) s h = refl
other_at f call at (ExprKind-F.BinExpr (Some (op.ArithOp o)) a b) s h = refl
other_at f call at (ExprKind-F.BinExpr (Some (op.CmpOp o)) a b) s h = refl
other_at f call at (ExprKind-F.BinExpr (Some (op.Assignment o)) a b) s h = refl
other_at f call at (ExprKind-F.BinExpr (Some op.Assign) a b) s h = refl
other_at f call at (ExprKind-F.IndexExpr a b) s h = refl
other_at f call at (ExprKind-F.RefExpr r m e) s h = refl
other_at f call at (ExprKind-F.RepeatExpr e n) s h = refl
other_at f call at (ExprKind-F.ClosureExpr ps r e is_async is_gen moves is_static) s h =
    of_closure (target_or f call nowhere) nowhere (λ t m st xs y b. refl) (λ t mapping m xs y b. refl)
    (coroutine_kind is_async is_gen) s moves is_static _ _ _
other_at f call at (ExprKind-F.ReturnExpr e) s h = refl
other_at f call at (ExprKind-F.BecomeExpr e) s h = refl
other_at f call at (ExprKind-F.YieldExpr e) s h = refl
other_at f call at (ExprKind-F.YeetExpr e) s h = refl
other_at f call at (ExprKind-F.AwaitExpr e) s h = refl
other_at f call at (ExprKind-F.CastExpr e t) s h = refl
other_at f call at (ExprKind-F.OffsetOfExpr t ns) s h = refl
other_at f call at (ExprKind-F.CfgPredExpr pred) s h = refl
other_at f call at (ExprKind-F.LetExpr x e) s h = refl
other_at f call at (ExprKind-F.MatchExpr e as') s h = refl
other_at f call at ExprKind-F.IncludeBytesExpr s h = refl
other_at f call at ExprKind-F.AsmExpr s h = refl
other_at f call at ExprKind-F.FormatArgsExpr s h = refl
other_at f call at ExprKind-F.UnderscoreExpr s h = absurd h
other_at f call at (ExprKind-F.PathExpr x) s h = absurd h
other_at f call at (ExprKind-F.ParenExpr e) s h = absurd h
other_at f call at (ExprKind-F.TupleExpr comma es) s h = absurd h
other_at f call at (ExprKind-F.ArrayExpr es) s h = absurd h
other_at f call at (ExprKind-F.CallExpr g es) s h = absurd h
other_at f call at (ExprKind-F.RecordExpr x l) s h = absurd h

asked_placed : (f : Path → Bool) (call : Option Pointer) (s : Pointer) (r : Result (Unit {0}) CfgId) (e : Expr) → IsPlaced f call e
    → gone_or call nowhere e ≡ nowhere → IsPlaced f call (asked s r e)
asked_placed f call s (Ok _) e h g = h
asked_placed f call s (Err by) e h g = g

pub other_is : (at : ResolveCtx) (call : Option Pointer) (e : AstExpr) → IsPlace (out-ExprKind e.kind)
    → assignee_of (found_at at) call (resolved_expr at e) ≡ place_assignee (resolved_expr at e)
other_is at call e h =
    let s = pointer_at at e.id e.range in
    let f = found_at at in
    let is : IsPlaced f call (resolved_expr at e) = subst (IsPlaced f call) (sym (expr_is_level at e))
    (asked_placed f call s (at.answers.cfg (site_of s)) (kept_expr at e) (other_at f call at (out-ExprKind e.kind) s h)
    (gone_at call at (out-ExprKind e.kind) s)) in
    ap (λ t. target_or_place t (resolved_expr at e)) is

-- no kind that isn't always a place is left where each was taken
made : (k : AstExprKind) (l : ExprKindLayer written) → out-ExprKind k ≡ l → k ≡ roll-ExprKind l
made k l h = sym (roll-out-ExprKind k) ∙ ap roll-ExprKind h

pub only_places : (k : AstExprKind)
    → (k ≡ kind.UnderscoreExpr → ⊥)
    → ((x : Option AstPath) → k ≡ kind.PathExpr x → ⊥)
    → ((e : Option AstExpr) → k ≡ kind.ParenExpr e → ⊥)
    → ((comma : Bool) (es : List AstExpr) → k ≡ kind.TupleExpr comma es → ⊥)
    → ((es : List AstExpr) → k ≡ kind.ArrayExpr es → ⊥)
    → ((f : Option AstExpr) (es : Option (List AstExpr)) → k ≡ kind.CallExpr f es → ⊥)
    → ((x : Option AstPath) (l : Option AstFieldList) → k ≡ kind.RecordExpr x l → ⊥)
    → ((c : Option AstMacroCall) → k ≡ kind.MacroExpr c → ⊥) → IsPlace (out-ExprKind k)
only_places k no_underscore no_path no_paren no_tuple no_array no_call no_record no_macro = by (out-ExprKind k) refl
  where
    by : (l : ExprKindLayer written) → out-ExprKind k ≡ l → IsPlace l
    by ExprKind-F.UnderscoreExpr h = no_underscore (made k _ h ∙ kind.rolls-UnderscoreExpr)
    by (ExprKind-F.PathExpr x) h = no_path x (made k _ h ∙ kind.rolls-PathExpr x)
    by (ExprKind-F.ParenExpr e) h = no_paren e (made k _ h ∙ kind.rolls-ParenExpr e)
    by (ExprKind-F.TupleExpr comma es) h = no_tuple comma es (made k _ h ∙ kind.rolls-TupleExpr comma es)
    by (ExprKind-F.ArrayExpr es) h = no_array es (made k _ h ∙ kind.rolls-ArrayExpr es)
    by (ExprKind-F.CallExpr f es) h = no_call f es (made k _ h ∙ kind.rolls-CallExpr f es)
    by (ExprKind-F.RecordExpr x l) h = no_record x l (made k _ h ∙ kind.rolls-RecordExpr x l)
    by (ExprKind-F.MacroExpr c) h = no_macro c (made k _ h ∙ kind.rolls-MacroExpr c)
    by _ h = tt

-- a call was taken before
pub no_call_left : (k : AstExprKind) → ((c : Option AstMacroCall) → k ≡ kind.MacroExpr c → ⊥) → IsNoCall (out-ExprKind k)
no_call_left k no_call = by (out-ExprKind k) refl
  where
    by : (l : ExprKindLayer written) → out-ExprKind k ≡ l → IsNoCall l
    by (ExprKind-F.MacroExpr c) h = no_call c (made k _ h ∙ kind.rolls-MacroExpr c)
    by _ h = tt

-- what comes of a target

then_pat : (t : Target) (at : Pointer) (o : Checked PatId) (b : Builder)
    → (o, b) ≡ go_on (go_on o b (λ i. pure (assignee.Pat i))).0 (go_on o b (λ i. pure (assignee.Pat i))).1 (pat_of_assignee at)
then_pat t at (Ok i) b = refl
then_pat t at (Err x) b = refl

-- by what is left of its expression
then_place : (at : Pointer) (o : Checked (Option ExprId)) (b : Builder)
    → go_on (go_on o b or_missing).0 (go_on o b or_missing).1 (place_pat at)
    ≡ go_on (go_on o b (λ x. pure (place_left x))).0 (go_on o b (λ x. pure (place_left x))).1 (pat_of_assignee at)
then_place at (Ok None) b = refl
then_place at (Ok (Some i)) b = refl
then_place at (Err x) b = refl

-- what a place stands for, where it is one
abbrev pub put : Target → Target → Target
put place (tree.absent_target call) = place
put place t = t

put_around : (place : Target) (e : Expr) (t : Target) → t ≡ put place t → around_callee e t ≡ put place (around_callee e t)
put_around place (tree.disabled_expr why e) t h = put_around place e t h
put_around place (tree.macro_expr s c (tree.some_expr e)) t h = refl
put_around place _ t h = h

put_callee : (place : Target) (at : Origin) (e : Expr) (o : Option OptionPath) (ts : Targets)
    → call_or place at e o ts ≡ put place (call_or nowhere at e o ts)
put_callee place at e None ts = refl
put_callee place at e (Some p) ts = put_around place e (tree.call_target at p ts) refl

put_call : (place : Target) (at : Origin) (o : OptionExpr) (has_list : Bool) (ts : Targets)
    → called_or place at o has_list ts ≡ put place (called_or nowhere at o has_list ts)
put_call place at tree.no_expr true ts = refl
put_call place at tree.no_expr false ts = refl
put_call place at (tree.some_expr e) true ts = put_callee place at e (callee_path e) ts
put_call place at (tree.some_expr e) false ts = refl

module _ (f : Path → Bool) (call : Option Pointer) where
  put_path : (place : Target) (at : Origin) (o : OptionPath) (h : HygieneId)
      → path_or f place at o h ≡ put place (path_or f nowhere at o h)
  put_path place at tree.no_path h = refl
  put_path place at (tree.some_path p) h = by (f p)
    where
      by : (b : Bool) → (if b then tree.path_target at p h else place)
          ≡ put place (if b then tree.path_target at p h else nowhere)
      by true = refl
      by false = refl

  put_if : (place : Target) (b : Bool) (t : Target) (x : Target) (y : Target) → t ≡ put place t → x ≡ put place y
      → (if b then t else x) ≡ put place (if b then t else y)
  put_if place true t x y h k = h
  put_if place false t x y h k = k

  put_gone : (place : Target) (e : Expr) → gone_or call place e ≡ put place (gone_or call nowhere e)
  put_gone place (tree.macro_expr s c tree.no_expr) = refl
  put_gone place (tree.macro_expr s c (tree.some_expr (tree.disabled_expr why e))) = refl
  put_gone place (tree.macro_expr s c (tree.some_expr e)) = refl
  put_gone place _ = refl

  pub put_is : (place : Target) (e : Expr) → target_or f call place e ≡ put place (target_or f call nowhere e)
  put_is place (tree.leaf_expr at tree.underscore) = refl
  put_is place (tree.leaf_expr at tree.include_bytes) = refl
  put_is place (tree.leaf_expr at tree.left_out) = refl
  put_is place (tree.paren_expr at tree.no_expr) = refl
  put_is place (tree.paren_expr at (tree.some_expr e)) =
      put_if place (is_dots e) (dots_tuple (origin call at)) (target_or f call place e) (target_or f call nowhere e) refl (put_is place e)
  put_is place (tree.list_expr at (tree.tuple_of comma) es) = refl
  put_is place (tree.list_expr at tree.array_of es) = refl
  put_is place (tree.call_expr at g has_list es) = put_call place (origin call at) g has_list (elements f es)
  put_is place (tree.path_expr at p h) = put_path place (origin call at) p h
  put_is place (tree.record_expr at p head fs s) = put_if place head.has_list _ place nowhere refl refl
  put_is place (tree.macro_expr at called e) = refl
  put_is place (tree.disabled_expr why e) = put_gone place e
  put_is place (tree.if_expr at c t e) = refl
  put_is place (tree.block_expr b) = refl
  put_is place (tree.loop_expr at label _ b) = refl
  put_is place (tree.while_expr at label _ c b) = refl
  put_is place (tree.for_expr at items label _ p h b) = refl
  put_is place (tree.question_expr at items e) = refl
  put_is place (tree.itemless_expr at) = refl
  put_is place (tree.try_expr at item t number ss e) = refl
  put_is place (tree.coroutine_expr at mapping moves number ss e) = refl
  put_is place (tree.continue_expr at jump) = refl
  put_is place (tree.break_expr at jump e) = refl
  put_is place (tree.literal_expr at l) = refl
  put_is place (tree.unary_expr at form e) = refl
  put_is place (tree.binary_expr at form a b) = refl
  put_is place (tree.lazy_expr at o a b) = refl
  put_is place (tree.repeat_expr at e c) = refl
  put_is place (tree.const_expr at c) = refl
  put_is place (tree.closure_expr at moves is_static ps r e) = refl
  put_is place (tree.coroutine_closure_expr at mapping moves ps r e) = refl
  put_is place (tree.method_call_expr at e name es as') = refl
  put_is place (tree.leaving_expr at form e) = refl
  put_is place (tree.become_expr at e) = refl
  put_is place (tree.yield_expr at e) = refl
  put_is place (tree.await_expr at location e) = refl
  put_is place (tree.cast_expr at e t) = refl
  put_is place (tree.offset_of_expr at t names) = refl
  put_is place (tree.nameless_expr at e) = refl
  put_is place (tree.let_expr at p e) = refl
  put_is place (tree.match_expr at e arms) = refl
  put_is place (tree.range_expr at form a b) = refl
  put_is place (tree.assign_expr at e t v) = refl

  abbrev Lands : Target → Expr → Pointer → Builder → Type 0
  Lands t e at b =
      lower_target (put (tree.place_target at e) t) b ≡ go_on (target_or_place t e b).0 (target_or_place t e b).1 (pat_of_assignee at)

  put_lands : (t : Target) (e : Expr) (at : Pointer) (b : Builder) → Lands t e at b
  unfolding place_form
  put_lands (tree.absent_target s) e at b =
      ap (λ r. go_on r.0 r.1 (place_pat at)) (lower_on e b) ∙ then_place at (lower_kept e b).0 (lower_kept e b).1
  put_lands (tree.place_target s x) e at b = then_pat (tree.place_target s x) at _ _
  put_lands (tree.macro_target s c t) e at b = then_pat (tree.macro_target s c t) at _ _
  put_lands (tree.wild_target s) e at b = then_pat (tree.wild_target s) at _ _
  put_lands (tree.path_target s p h) e at b = then_pat (tree.path_target s p h) at _ _
  put_lands (tree.tuple_target s ts) e at b = then_pat (tree.tuple_target s ts) at _ _
  put_lands (tree.call_target s p ts) e at b = then_pat (tree.call_target s p ts) at _ _
  put_lands (tree.array_target s ts dots us) e at b = then_pat (tree.array_target s ts dots us) at _ _
  put_lands (tree.record_target s p fs dots spread) e at b = then_pat (tree.record_target s p fs dots spread) at _ _

  pub lands : (e : Expr) (b : Builder)
      → lower_target (target_in f call (tree.some_expr e)) b
      ≡ go_on (assignee_of f call e b).0 (assignee_of f call e b).1 (pat_of_assignee (outermost call (pointer_of e)))
  lands e b =
      ap (λ t. lower_target t b) (put_is (place_of call e) e)
      ∙ put_lands (target_or f call nowhere e) e (outermost call (pointer_of e)) b

  -- parentheses

  abbrev lead : Pointer → ExprId → Lowering ExprId
  lead at i = point at i >> pure i

  -- what is left of it, as a place
  abbrev as_place : Checked ExprId × Builder → Checked Assignee × Builder
  as_place r = let kept = go_on r.0 r.1 (λ i. pure (Some i)) in go_on kept.0 kept.1 (λ o. pure (place_left o))

  pointed : (i : ExprId) (o : Checked (Unit {0})) (b : Builder)
      → as_place (go_on o b (λ _. pure i)) ≡ go_on o b (λ _. pure (assignee.Place i))
  pointed i (Ok u) b = refl
  pointed i (Err x) b = refl

  leads : (at : Pointer) (o : Checked ExprId) (b : Builder) → as_place (go_on o b (lead at)) ≡ go_on o b (through_place at)
  leads at (Ok i) b = pointed i (point at i b).0 (point at i b).1
  leads at (Err x) b = refl

  goes_as_place : (at : Pointer) (o : Checked (Option ExprId)) (b : Builder)
      → as_place (go_on (go_on o b or_missing).0 (go_on o b or_missing).1 (lead at))
      ≡ go_on (go_on o b (λ x. pure (place_left x))).0 (go_on o b (λ x. pure (place_left x))).1 (through at)
  goes_as_place at (Ok None) b = leads at (missing b).0 (missing b).1
  goes_as_place at (Ok (Some i)) b = leads at (Ok i) b
  goes_as_place at (Err x) b = refl

  through_pat : (at : Pointer) (o : Checked PatId) (b : Builder)
      → go_on o b (λ i. pure (assignee.Pat i))
      ≡ go_on (go_on o b (λ i. pure (assignee.Pat i))).0 (go_on o b (λ i. pure (assignee.Pat i))).1 (through at)
  through_pat at (Ok i) b = refl
  through_pat at (Err x) b = refl

  abbrev Through : Pointer → Expr → Target → Builder → Type 0
  Through at e t b =
      target_or_place t (tree.paren_expr at (tree.some_expr e)) b ≡ go_on (target_or_place t e b).0 (target_or_place t e b).1 (through at)

  goes_through : (at : Pointer) (e : Expr) (t : Target) (b : Builder) → Through at e t b
  unfolding paren_form
  goes_through at e (tree.absent_target s) b =
      ap (λ r. as_place (go_on r.0 r.1 (lead at))) (lower_on e b) ∙ goes_as_place at (lower_kept e b).0 (lower_kept e b).1
  goes_through at e (tree.place_target s x) b = through_pat at _ _
  goes_through at e (tree.macro_target s c t) b = through_pat at _ _
  goes_through at e (tree.wild_target s) b = through_pat at _ _
  goes_through at e (tree.path_target s p h) b = through_pat at _ _
  goes_through at e (tree.tuple_target s ts) b = through_pat at _ _
  goes_through at e (tree.call_target s p ts) b = through_pat at _ _
  goes_through at e (tree.array_target s ts dots us) b = through_pat at _ _
  goes_through at e (tree.record_target s p fs dots spread) b = through_pat at _ _

  pub paren_dots : (at : Pointer) (e : Expr) → is_dots e ≡ true
      → assignee_of f call (tree.paren_expr at (tree.some_expr e)) ≡ target_assignee (dots_tuple (origin call at))
  paren_dots at e h =
      ap (λ c. target_or_place (if c then dots_tuple (origin call at) else target_or f call nowhere e)
      (tree.paren_expr at (tree.some_expr e))) h

  pub paren_assignees : (at : Pointer) (e : Expr) (b : Builder) → is_dots e ≡ false
      → assignee_of f call (tree.paren_expr at (tree.some_expr e)) b
      ≡ go_on (assignee_of f call e b).0 (assignee_of f call e b).1 (through at)
  paren_assignees at e b h =
      ap (λ c. target_or_place (if c then dots_tuple (origin call at) else target_or f call nowhere e)
      (tree.paren_expr at (tree.some_expr e)) b) h
      ∙ goes_through at e (target_or f call nowhere e) b

-- paths

kept_goes : (o : Checked ExprId) (b : Builder)
    → go_on (go_on o b (λ i. pure (Some i))).0 (go_on o b (λ i. pure (Some i))).1 (λ x. pure (place_left x))
    ≡ go_on o b (λ i. pure (assignee.Place i))
kept_goes (Ok i) b = refl
kept_goes (Err x) b = refl

module _ (rctx : ResolveCtx) (call : Option Pointer) (at : Pointer) (h : HygieneId) where
  abbrev reading : Option HirPath → Lowering Assignee
  reading = path_assignee rctx (origin call at) h

  -- as a place, whether it is read or not
  abbrev stored_path : Option HirPath → Lowering ExprId
  stored_path r = alloc_expr (path_or_missing h r) (Some at)

  abbrev as_path : Option HirPath → Lowering Assignee
  as_path r = stored_path r >>= (λ i. pure (assignee.Place i))

  abbrev as_pat : Option HirPath → Lowering Assignee
  as_pat r = alloc_target (path_target_of h r) (origin call at) >>= (λ i. pure (assignee.Pat i))

  placed_goes : (o : Checked (Option HirPath)) (b : Builder)
      → let kept = go_on (go_on o b stored_path).0 (go_on o b stored_path).1 (λ i. pure (Some i)) in
      go_on kept.0 kept.1 (λ x. pure (place_left x)) ≡ go_on o b as_path
  placed_goes (Ok r) b = kept_goes (stored_path r b).0 (stored_path r b).1
  placed_goes (Err x) b = refl

  pat_goes : (o : Checked (Option HirPath)) (b : Builder)
      → let stored = go_on o b (λ r. alloc_target (path_target_of h r) (origin call at)) in
      go_on stored.0 stored.1 (λ i. pure (assignee.Pat i)) ≡ go_on o b as_pat
  pat_goes (Ok r) b = refl
  pat_goes (Err x) b = refl

  -- by what is found, it is one of both
  abbrev by_found : Bool → Option HirPath → Lowering Assignee
  by_found true r = as_pat r
  by_found false r = as_path r

  read_goes : (c : Bool) (r : Option HirPath) (b : Builder) → c ≡ names_target rctx.answers rctx.place (names_read r)
      → by_found c r b ≡ path_assignee rctx (origin call at) h r b
  read_goes true None b e = cc
  read_goes false None b e = refl
  read_goes true (Some p) b e = ap (λ c. path_aimed c (origin call at) h p b) e
  read_goes false (Some p) b e = ap (λ c. path_aimed c (origin call at) h p b) e

  all_go : (p : OptionPath) (c : Bool) (b : Builder) → c ≡ names_target rctx.answers rctx.place (mod_path_of p)
      → go_on (lower_path p b).0 (lower_path p b).1 (by_found c) ≡ go_on (lower_path p b).0 (lower_path p b).1 reading
  all_go p c b e = by (lower_path p b).0 (lower_path p b).1 refl
    where
      by : (o : Checked (Option HirPath)) (d : Builder) → lower_path p b ≡ (o, d)
          → go_on o d (by_found c) ≡ go_on o d reading
      by (Ok r) d is =
          let names : names_read r ≡ mod_path_of p = lowered_names p b d r is in
          read_goes c r d (e ∙ ap (names_target rctx.answers rctx.place) (sym names))
      by (Err x) d is = refl

  pub path_assignees : (p : OptionPath) (b : Builder)
      → assignee_of (found_at rctx) call (tree.path_expr at p h) b ≡ go_on (lower_path p b).0 (lower_path p b).1 reading
  unfolding path_form path_target_form
  path_assignees tree.no_path b = kept_goes (stored_path None b).0 (stored_path None b).1
  path_assignees (tree.some_path p) b = by (found_at rctx p) refl
    where
      by : (c : Bool) → c ≡ found_at rctx p
          → target_or_place (if c then tree.path_target (origin call at) p h else nowhere) (tree.path_expr at (tree.some_path p) h) b
          ≡ go_on (lower_path (tree.some_path p) b).0 (lower_path (tree.some_path p) b).1 reading
      by true e = pat_goes _ _ ∙ all_go (tree.some_path p) true b e
      by false e = placed_goes _ _ ∙ all_go (tree.some_path p) false b e

-- the level of a resolved expression is no larger than the expression
pub kept_below : (at : ResolveCtx) (e : AstExpr) → count_expr (kept_expr at e) ≤ count_expr (resolved_expr at e)
kept_below at e = below (at.answers.cfg (site_of (pointer_at at e.id e.range))) (ap count_expr (expr_is_level at e))
  where
    below : (r : Result (Unit {0}) CfgId)
        → count_expr (resolved_expr at e) ≡ count_expr (asked (pointer_at at e.id e.range) r (kept_expr at e))
        → count_expr (kept_expr at e) ≤ count_expr (resolved_expr at e)
    below (Ok _) h = omega (arith, h)
    below (Err by) h = omega (arith, h)
