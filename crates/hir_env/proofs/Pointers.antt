-- The node of a resolved expression is its own.
use Rattle.std.proofs.Common.{◌≡◌, ◌∙◌, refl, ap, true, false, Option, Some, None, Result, Ok, Err, option_map}
use Rattle.hir_base.specs.declared.op.BinaryOp.TheVariants as op
use Rattle.hir_syntax.specs.declared.ast.BlockModifier.{BlockModifier}
use Rattle.hir_syntax.specs.declared.ast.BlockModifier.TheVariants as modifier
use Rattle.hir_syntax.specs.declared.ast.BlockExpr.{BlockExpr as AstBlockExpr, out-BlockExpr}
use Rattle.hir_syntax.specs.declared.ast.ExprKind.{out-ExprKind}
use Rattle.hir_syntax.specs.declared.ast.Expr.{Expr as AstExpr}
use Rattle.hir_syntax.specs.declared.ast.ElseBranch.TheOpen.{ExprKind-F}
use Rattle.hir_store.specs.Pointers.{Pointer}
use Rattle.hir_store.specs.declared.ids.CfgId.{CfgId}
use Rattle.hir_env.specs.ResolveCtx.{ResolveCtx, site_of}
use Rattle.hir_env.specs.Layers.{ExprKindLayer}
use Rattle.hir_env.specs.Answering.{asked, expr_at, expr_or_none, for_items, for_of, label_of, label_written, asked_or_none}
use Rattle.hir_env.specs.Answering.{question_items, question_of}
use Rattle.hir_env.specs.ResolvedTree.{Expr, ForItems, IsWrittenLabel, Label, OptionExpr, OptionPat, QuestionItems}
use Rattle.hir_env.specs.Paths.{pat_or_none}
use Rattle.hir_env.specs.Answers.{Answers}
use Rattle.hir_env.specs.Calls.{around, around_if, asked_call, call_pointer, called, entered_expr, expr_in, gone_in}
use Rattle.hir_env.specs.ResolvedTree as tree
use Rattle.hir_env.specs.ResolvedTree.{Called, Gone}
use Rattle.hir_env.specs.declared.expand.FragmentKind.TheVariants as kind
use Rattle.hir_env.specs.Layers.{Entering}
use Rattle.hir_env.specs.declared.ctx.LowerCtx.{LowerCtx}
use Rattle.hir_syntax.specs.declared.macros.MacroCall.{MacroCall as AstMacroCall}
use Rattle.hir_env.specs.Whole.{into}
use Rattle.hir_env.specs.Targets.{pointer_of}
use Rattle.hir_env.specs.Whole.{read_expr, own_level, written, reader, resolved_expr, kept_expr, kind_pointer, own_pointer, pointer_at}
use Rattle.hir_env.proofs.Levels.{expr_is_level, block_is_level}

asked_pointer : (s : Pointer) (r : Result (Unit {0}) CfgId) (e : Expr) → pointer_of (asked s r e) ≡ pointer_of e
asked_pointer s (Ok _) e = refl
asked_pointer s (Err by) e = refl

around_if_pointer : (o : Option Gone) (s : Pointer) (c : Called) (e : OptionExpr) → pointer_of (around_if o s c e) ≡ s
around_if_pointer None s c e = refl
around_if_pointer (Some why) s c e = refl

around_pointer : (s : Pointer) (c : Called) (e : OptionExpr) → pointer_of (around s c e) ≡ s
around_pointer s c tree.no_expr = refl
around_pointer s c (tree.some_expr e) = around_if_pointer (gone_in e) s c (tree.some_expr e)

-- that of a block as an expression is the block's, whatever its modifier
own_block_pointer : (at : ResolveCtx) (m : Option BlockModifier) (b : AstBlockExpr)
    → pointer_of (own_level at m b) ≡ pointer_at at (out-BlockExpr b).id (out-BlockExpr b).range
own_block_pointer at None b = refl
own_block_pointer at (Some modifier.Unsafe) b = refl
own_block_pointer at (Some modifier.Try) b = refl
own_block_pointer at (Some modifier.Const) b = refl
own_block_pointer at (Some modifier.Async) b = refl
own_block_pointer at (Some modifier.Gen) b = refl
own_block_pointer at (Some modifier.AsyncGen) b = refl

question_pointer : (items : Option QuestionItems) (s : Pointer) (e : OptionExpr) → pointer_of (question_of items s e) ≡ s
question_pointer None s e = refl
question_pointer (Some items) s e = refl

for_pointer : (items : Option ForItems) (s : Pointer) (label : Option Label) (w : IsWrittenLabel label) (p : OptionPat) (h b : OptionExpr)
    → pointer_of (for_of items s label w p h b) ≡ s
for_pointer None s label w p h b = refl
for_pointer (Some items) s label w p h b = refl

macro_pointer : (env : Answers) (into : Option Entering) (c : AstMacroCall) (p : LowerCtx) (s : Pointer)
    → pointer_of (entered_expr env into c p s) ≡ s
macro_pointer env None c p s = refl
macro_pointer env (Some i) c p s = let x = asked_call env kind.Expr c p in around_pointer s (called (call_pointer p c) x) (expr_in i p x)

kept_pointer : (at : ResolveCtx) (k : ExprKindLayer written) (s : Pointer)
    → pointer_of (expr_at at.answers (reader at.answers (into at)) k at.place s) ≡ kind_pointer at.place k s
kept_pointer at (ExprKind-F.BlockExpr b) s = ap pointer_of (block_is_level at b) ∙ own_block_pointer at (out-BlockExpr b).mod_ b
kept_pointer at (ExprKind-F.IfExpr c t e) s = refl
kept_pointer at (ExprKind-F.LoopExpr l b) s = refl
kept_pointer at (ExprKind-F.WhileExpr l c b) s = refl
kept_pointer at (ExprKind-F.ForExpr l x h b) s = for_pointer (for_items at.answers.lang_items) s
    (option_map (label_of at.answers at.place) l) (label_written at.answers at.place l)
    (pat_or_none (reader at.answers (into at)).pat x at.place) (expr_or_none (reader at.answers (into at)).expr h at.place)
    (asked_or_none (reader at.answers (into at)).block_expr b at.place)
kept_pointer at (ExprKind-F.TryExpr e) s =
    question_pointer (question_items at.answers.lang_items) s (expr_or_none (read_expr at.answers (into at)) e at.place)
kept_pointer at (ExprKind-F.CallExpr f es) s = refl
kept_pointer at (ExprKind-F.PathExpr x) s = refl
kept_pointer at (ExprKind-F.ContinueExpr l) s = refl
kept_pointer at (ExprKind-F.BreakExpr l e) s = refl
kept_pointer at (ExprKind-F.ParenExpr e) s = refl
kept_pointer at (ExprKind-F.Literal l) s = refl
kept_pointer at (ExprKind-F.MethodCallExpr e n as' es) s = refl
kept_pointer at (ExprKind-F.FieldExpr e n) s = refl
kept_pointer at (ExprKind-F.PrefixExpr None e) s = refl
kept_pointer at (ExprKind-F.PrefixExpr (Some o) e) s = refl
kept_pointer at (ExprKind-F.BinExpr None a b) s = refl
kept_pointer at (ExprKind-F.BinExpr (Some (op.LogicOp o)) a b) s = refl
kept_pointer at (ExprKind-F.BinExpr (Some (op.ArithOp o)) a b) s = refl
kept_pointer at (ExprKind-F.BinExpr (Some (op.CmpOp o)) a b) s = refl
kept_pointer at (ExprKind-F.BinExpr (Some (op.Assignment o)) a b) s = refl
kept_pointer at (ExprKind-F.BinExpr (Some op.Assign) a b) s = refl
kept_pointer at (ExprKind-F.IndexExpr a b) s = refl
kept_pointer at (ExprKind-F.RefExpr r m e) s = refl
kept_pointer at (ExprKind-F.TupleExpr comma es) s = refl
kept_pointer at (ExprKind-F.ArrayExpr es) s = refl
kept_pointer at (ExprKind-F.RepeatExpr e n) s = refl
kept_pointer at (ExprKind-F.ClosureExpr ps r e false false moves is_static) s = refl
kept_pointer at (ExprKind-F.ClosureExpr ps r e true false moves is_static) s = refl
kept_pointer at (ExprKind-F.ClosureExpr ps r e false true moves is_static) s = refl
kept_pointer at (ExprKind-F.ClosureExpr ps r e true true moves is_static) s = refl
kept_pointer at (ExprKind-F.ReturnExpr e) s = refl
kept_pointer at (ExprKind-F.BecomeExpr e) s = refl
kept_pointer at (ExprKind-F.YieldExpr e) s = refl
kept_pointer at (ExprKind-F.YeetExpr e) s = refl
kept_pointer at (ExprKind-F.AwaitExpr e) s = refl
kept_pointer at (ExprKind-F.CastExpr e t) s = refl
kept_pointer at (ExprKind-F.RecordExpr x l) s = refl
kept_pointer at (ExprKind-F.OffsetOfExpr t ns) s = refl
kept_pointer at (ExprKind-F.CfgPredExpr pred) s = refl
kept_pointer at (ExprKind-F.LetExpr x e) s = refl
kept_pointer at (ExprKind-F.MatchExpr e arms) s = refl
kept_pointer at (ExprKind-F.RangeExpr o a b) s = refl
kept_pointer at (ExprKind-F.MacroExpr None) s = refl
kept_pointer at (ExprKind-F.MacroExpr (Some c)) s = macro_pointer at.answers (into at) c at.place s
kept_pointer at ExprKind-F.UnderscoreExpr s = refl
kept_pointer at ExprKind-F.IncludeBytesExpr s = refl
kept_pointer at ExprKind-F.AsmExpr s = refl
kept_pointer at ExprKind-F.FormatArgsExpr s = refl

pub pointer_is_own : (at : ResolveCtx) (e : AstExpr) → pointer_of (resolved_expr at e) ≡ own_pointer at e
pointer_is_own at e = let s = pointer_at at e.id e.range in
    ap pointer_of (expr_is_level at e)
    ∙ (asked_pointer s (at.answers.cfg (site_of s)) (kept_expr at e) ∙ kept_pointer at (out-ExprKind e.kind) s)
