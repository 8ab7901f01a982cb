-- What some forms ask, and nothing else: a literal, a path, a macro call, a block with a number, `for`, `?` and an assignment.
use Rattle.std.specs.Prelude.{◌≡◌, ℕ, suc, Bool, true, false, bytes_eq, codes, List, [], ◌∷◌, ◌++◌, Option, Some, None}
use Rattle.hir_base.specs.declared.node.HirFileId.{HirFileId}
use Rattle.hir_base.specs.declared.op.BinaryOp.TheVariants as op
use Rattle.hir_syntax.specs.declared.ast.BlockExpr.{BlockExpr as AstBlockExpr, out-BlockExpr}
use Rattle.hir_syntax.specs.declared.ast.ElseBranch.TheOpen.{ExprKind-F}
use Rattle.hir_syntax.specs.declared.ast.Expr.{Expr as AstExpr}
use Rattle.hir_syntax.specs.declared.ast.ExprKind.{out-ExprKind}
use Rattle.hir_syntax.specs.declared.ast.Literal.{Literal as AstLiteral}
use Rattle.hir_syntax.specs.declared.ast.Name.{Name as AstName}
use Rattle.hir_syntax.specs.declared.ast.Path.{Path as AstPath, out-Path}
use Rattle.hir_syntax.specs.declared.ast.PathSegment.{PathSegment as AstPathSegment, out-PathSegment}
use Rattle.hir_syntax.specs.declared.ast.SegmentKind.TheVariants as segment
use Rattle.hir_syntax.specs.declared.macros.Fragment.TheVariants as fragment
use Rattle.hir_syntax.specs.declared.macros.MacroCall.{MacroCall as AstMacroCall}
use Rattle.hir_syntax.specs.declared.pats.Pat.{Pat as AstPat}
use Rattle.hir_store.specs.declared.path.ModPath.{ModPath}
use Rattle.hir_env.specs.Answering.{inside}
use Rattle.hir_env.specs.Answers.{Answers, Eager, expanded, unresolved}
use Rattle.hir_env.specs.Calls.{asked_call, call_pointer, inside_file}
use Rattle.hir_env.specs.ResolveCtx.{ResolveCtx, site_of}
use Rattle.hir_env.specs.Whole.{resolved_expr, resolved_path}
use Rattle.hir_env.specs.declared.expand.FragmentKind.TheVariants as kind
use Rattle.hir_env.specs.declared.ctx.LoweringMode.TheVariants as mode
use Rattle.hir_env.specs.declared.ctx.LowerCtx.{LowerCtx}
use Rattle.thm_frame.specs.Theorems.{rctx}
use Rattle.thm_frame.specs.Questions.{Question, of_block, of_context, of_expand, of_hygiene}
use Rattle.spec_fold.specs.Folds.{fold_block, fold_expr, fold_path, fold_stmt}
use Rattle.thm_questions.specs.Asked.{asking, asking_steps, behind, left_off, of_alias_at, of_local_root, of_root, of_stmts, own_cfg}
use Rattle.thm_questions.specs.Asked.{own_site}
use Rattle.thm_questions.specs.Decided.{for_items, of_target, question_items}
use Rattle.thm_questions.specs.Lists.{entered_calls, pat_questions, path_questions, questions, segment_questions}
use Rattle.thm_questions.specs.Parts.{of_option, of_present}

-- what the statements of a block ask, and its tail where they leave off
abbrev pub contents_questions : ResolveCtx → AstBlockExpr → List Question
contents_questions at b =
    let n = at.place.left in
    let steps = asking_steps at.answers n (entered_calls at.answers n) in
    let ss = (out-BlockExpr b).stmts in
    of_stmts at.answers (fold_stmt asking steps) (behind at.answers n) ss at.place []
    ++ of_option (λ e. (fold_expr asking steps e).value at.place (left_off at.answers (behind at.answers n) ss at.place []))
    (out-BlockExpr b).tail

-- what the block of a `for` asks
abbrev pub body_block_questions : ResolveCtx → AstBlockExpr → List Question
body_block_questions at b = let n = at.place.left in
    (fold_block asking (asking_steps at.answers n (entered_calls at.answers n)) b).asked at.place

abbrev pub LiteralAsks : Type 0
LiteralAsks = (a : Answers) (p : LowerCtx) (e : AstExpr) (l : AstLiteral) → out-ExprKind e.kind ≡ ExprKind-F.Literal l
    → questions (rctx p a) e ≡ own_cfg p e.id ∷ []

abbrev pub PathAsks : Type 0
PathAsks = (a : Answers) (p : LowerCtx) (e : AstExpr) (x : AstPath) → out-ExprKind e.kind ≡ ExprKind-F.PathExpr (Some x)
    → questions (rctx p a) e ≡ own_cfg p e.id ∷ (path_questions (rctx p a) x ++ (of_hygiene (own_site p e.id) ∷ []))

-- the paths of the use trees around one, of which no alias is looked for
abbrev pub use_tree_questions : ResolveCtx → AstPath → List Question
use_tree_questions at x = let n = at.place.left in
    (fold_path asking (asking_steps at.answers n (entered_calls at.answers n)) x).use_tree at.place

-- one segment that stands directly in a macro call: the root of the crate of its macro, if that is local to it
abbrev pub local_questions : Answers → Bool → List (Option AstPathSegment) → Option AstPath → LowerCtx → List Question
local_questions a true (Some s ∷ []) None p = let at = own_site p (out-PathSegment s).id in of_context at ∷ of_local_root a (a.context at)
local_questions a in_macro ss u p = []

-- its segments, the use trees around it, and its alias, which is looked for in an argument alone
abbrev pub PathAloneAsks : Type 0
PathAloneAsks = (a : Answers) (p : LowerCtx) (x : AstPath) → (let y = out-Path x in path_questions (rctx p a) x
    ≡ ((of_present (segment_questions (rctx p a)) y.segs ++ of_option (use_tree_questions (rctx p a)) y.use_)
    ++ local_questions a y.in_macro y.segs y.use_ p) ++ of_alias_at a p (resolved_path (rctx p a) x))

abbrev pub PlainNameAsks : Type 0
PlainNameAsks = (a : Answers) (p : LowerCtx) (s : AstPathSegment) (n : AstName) → (let y = out-PathSegment s in y.seg ≡ Some segment.Name
    → y.name ≡ Some n → bytes_eq n.t (codes "$crate") ≡ false → y.generics ≡ None → y.parens ≡ None
    → segment_questions (rctx p a) s ≡ [])

abbrev pub DollarCrateAsks : Type 0
DollarCrateAsks = (a : Answers) (p : LowerCtx) (s : AstPathSegment) (n : AstName) → (let y = out-PathSegment s in y.seg ≡ Some segment.Name
    → y.name ≡ Some n → bytes_eq n.t (codes "$crate") ≡ true → segment_questions (rctx p a) s ≡ of_root a p n.id)

-- where no call may be entered, nothing is asked of one
abbrev pub LimitedCallAsks : Type 0
LimitedCallAsks = (a : Answers) (p : LowerCtx) (e : AstExpr) (c : AstMacroCall) → out-ExprKind e.kind ≡ ExprKind-F.MacroExpr (Some c)
    → questions (rctx (record p { left = 0 }) a) e ≡ own_cfg p e.id ∷ []

abbrev pub of_call : LowerCtx → AstMacroCall → Question
of_call p c = of_expand (site_of (call_pointer p c)) c p.module_id kind.Expr

abbrev pub UnresolvedCallAsks : Type 0
UnresolvedCallAsks = (a : Answers) (p : LowerCtx) (n : ℕ) (e : AstExpr) (c : AstMacroCall) (x : ModPath)
    → out-ExprKind e.kind ≡ ExprKind-F.MacroExpr (Some c) → asked_call a kind.Expr c p ≡ unresolved x
    → questions (rctx (record p { left = suc n }) a) e ≡ own_cfg p e.id ∷ of_call p c ∷ []

-- what it stands for is asked in the file of the expansion, where one call less may be entered
abbrev pub EnteredCallAsks : Type 0
EnteredCallAsks = (a : Answers) (p : LowerCtx) (n : ℕ) (e : AstExpr) (c : AstMacroCall) (f : HirFileId) (x : AstExpr) (es : List Eager)
    → out-ExprKind e.kind ≡ ExprKind-F.MacroExpr (Some c) → asked_call a kind.Expr c p ≡ expanded f (Some (fragment.Expr x)) es
    → questions (rctx (record p { left = suc n }) a) e
    ≡ own_cfg p e.id ∷ of_call p c ∷ questions (rctx (inside_file f n p) a) x

-- what is in a block is asked in the module that the number answers
abbrev pub BlockAsks : Type 0
BlockAsks = (a : Answers) (p : LowerCtx) (e : AstExpr) (b : AstBlockExpr) → out-ExprKind e.kind ≡ ExprKind-F.BlockExpr b
    → (out-BlockExpr b).mod_ ≡ None → (out-BlockExpr b).label ≡ None
    → let q = record p { mode = mode.Analysis } in let at = own_site p (out-BlockExpr b).id in
    questions (rctx q a) e
    ≡ own_cfg p e.id ∷ of_block at p.module_id ∷ contents_questions (rctx (inside (a.block at p.module_id) q) a) b

abbrev pub ForAsks : Type 0
ForAsks = (a : Answers) (p : LowerCtx) (e : AstExpr) (x : Option AstPat) (h : Option AstExpr) (b : Option AstBlockExpr)
    → out-ExprKind e.kind ≡ ExprKind-F.ForExpr None x h b
    → questions (rctx p a) e ≡ own_cfg p e.id ∷ (for_items ++ (of_option (pat_questions (rctx p a)) x
    ++ (of_option (questions (rctx p a)) h ++ of_option (body_block_questions (rctx p a)) b)))

abbrev pub QuestionAsks : Type 0
QuestionAsks = (a : Answers) (p : LowerCtx) (e : AstExpr) (x : Option AstExpr) → out-ExprKind e.kind ≡ ExprKind-F.TryExpr x
    → questions (rctx p a) e ≡ own_cfg p e.id ∷ (question_items ++ of_option (questions (rctx p a)) x)

-- what is on the left is asked of as an expression and as the assignee expression
abbrev pub AssignmentAsks : Type 0
AssignmentAsks = (a : Answers) (p : LowerCtx) (e x y : AstExpr)
    → out-ExprKind e.kind ≡ ExprKind-F.BinExpr (Some op.Assign) (Some x) (Some y)
    → questions (rctx p a) e ≡ own_cfg p e.id
    ∷ ((questions (rctx p a) x ++ of_target p.module_id (resolved_expr (rctx p a) x)) ++ questions (rctx p a) y)
