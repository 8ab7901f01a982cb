-- An expression that no condition disables is kept, where it isn't a macro call.
use Rattle.std.proofs.Common.{◌≡◌, Bool, Option, Some, None, Ok, Err, refl, subst, sym}
use Rattle.hir_base.specs.declared.op.BinaryOp.TheVariants as operator
use Rattle.hir_syntax.specs.declared.ast.BlockExpr.{BlockExpr as AstBlockExpr, out-BlockExpr}
use Rattle.hir_syntax.specs.declared.ast.BlockModifier.{BlockModifier}
use Rattle.hir_syntax.specs.declared.ast.BlockModifier.TheVariants as modifier
use Rattle.hir_syntax.specs.declared.ast.ElseBranch.TheOpen.{ExprKind-F}
use Rattle.hir_store.specs.Pointers.{Pointer}
use Rattle.hir_store.specs.declared.hir.CoroutineKind.{CoroutineKind}
use Rattle.hir_env.specs.ResolveCtx.{ResolveCtx}
use Rattle.hir_env.specs.ResolvedTree as tree
use Rattle.hir_env.specs.ResolvedTree.{Expr, ForItems, IsWrittenLabel, Label, OptionExpr, OptionPat, OptionType, Params, QuestionItems}
use Rattle.hir_env.specs.Answering.{closure_of, coroutine_kind, expr_at, for_items, for_of, label_written, question_items, question_of}
use Rattle.hir_env.specs.Layers.{ExprKindLayer}
use Rattle.hir_env.specs.Whole.{written, reader, answer_part, body_part, closure_params_or_none_part, expr_part, in_closure, label_part}
use Rattle.hir_env.specs.Whole.{into, own_level, pat_part}
use Rattle.hir_env.proofs.Levels.{block_is_level}
use Rattle.hir_store.specs.declared.ids.ExprId.{ExprId}
use Rattle.hir_lower_builder.specs.Builder.{Builder}
use Rattle.hir_lower_builder.specs.Families.{IsNoCall}
use Rattle.hir_lower_builder.specs.Lowering.{Checked, Lowering, go_on, pure}
use Rattle.hir_lower_builder.specs.Lower.{lower_kept, lower, missing, some}
use Rattle.hir_lower_builder.specs.Methods.{or_missing}

abbrev level : ResolveCtx → ExprKindLayer written → Pointer → Expr
level at k s = expr_at at.answers (reader at.answers (into at)) k at.place s

abbrev IsKept : Expr → Type 0
IsKept e = lower_kept e ≡ some (lower e)

own_is_kept : (at : ResolveCtx) (m : Option BlockModifier) (b : AstBlockExpr) → IsKept (own_level at m b)
own_is_kept at None b = refl
own_is_kept at (Some modifier.Unsafe) b = refl
own_is_kept at (Some modifier.Try) b = refl
own_is_kept at (Some modifier.Const) b = refl
own_is_kept at (Some modifier.Async) b = refl
own_is_kept at (Some modifier.Gen) b = refl
own_is_kept at (Some modifier.AsyncGen) b = refl

question_is_kept : (items : Option QuestionItems) (s : Pointer) (e : OptionExpr) → IsKept (question_of items s e)
question_is_kept None s e = refl
question_is_kept (Some items) s e = refl

for_is_kept : (items : Option ForItems) (s : Pointer) (label : Option Label) (w : IsWrittenLabel label) (p : OptionPat) (h b : OptionExpr)
    → IsKept (for_of items s label w p h b)
for_is_kept None s label w p h b = refl
for_is_kept (Some items) s label w p h b = refl

closure_is_kept : (kind : Option CoroutineKind) (s : Pointer) (moves is_static : Bool) (ps : Params) (r : OptionType) (e : OptionExpr)
    → IsKept (closure_of kind s moves is_static ps r e)
closure_is_kept None s moves is_static ps r e = refl
closure_is_kept (Some kind) s moves is_static ps r e = refl

is_kept : (at : ResolveCtx) (k : ExprKindLayer written) (s : Pointer) → IsNoCall k → IsKept (level at k s)
is_kept at (ExprKind-F.IfExpr c t e) s no_call = refl
is_kept at (ExprKind-F.BlockExpr b) s no_call = subst IsKept (sym (block_is_level at b)) (own_is_kept at (out-BlockExpr b).mod_ b)
is_kept at (ExprKind-F.LoopExpr l b) s no_call = refl
is_kept at (ExprKind-F.WhileExpr l c b) s no_call = refl
is_kept at (ExprKind-F.ForExpr l p h b) s no_call = for_is_kept (for_items at.answers.lang_items) s (label_part at l)
    (label_written at.answers at.place l) (pat_part at p) (expr_part at h) (body_part at b)
is_kept at (ExprKind-F.TryExpr e) s no_call = question_is_kept (question_items at.answers.lang_items) s (expr_part at e)
is_kept at (ExprKind-F.CallExpr f es) s no_call = refl
is_kept at (ExprKind-F.PathExpr x) s no_call = refl
is_kept at (ExprKind-F.ContinueExpr l) s no_call = refl
is_kept at (ExprKind-F.BreakExpr l e) s no_call = refl
is_kept at (ExprKind-F.ParenExpr e) s no_call = refl
is_kept at (ExprKind-F.Literal l) s no_call = refl
is_kept at (ExprKind-F.MethodCallExpr e n as' es) s no_call = refl
is_kept at (ExprKind-F.FieldExpr e n) s no_call = refl
is_kept at (ExprKind-F.PrefixExpr None e) s no_call = refl
is_kept at (ExprKind-F.PrefixExpr (Some o) e) s no_call = refl
is_kept at (ExprKind-F.BinExpr None a b) s no_call = refl
is_kept at (ExprKind-F.BinExpr (Some (operator.LogicOp o)) a b) s no_call = refl
is_kept at (ExprKind-F.BinExpr (Some (operator.ArithOp o)) a b) s no_call = refl
is_kept at (ExprKind-F.BinExpr (Some (operator.CmpOp o)) a b) s no_call = refl
is_kept at (ExprKind-F.BinExpr (Some (operator.Assignment o)) a b) s no_call = refl
is_kept at (ExprKind-F.BinExpr (Some operator.Assign) a b) s no_call = refl
is_kept at (ExprKind-F.IndexExpr a b) s no_call = refl
is_kept at (ExprKind-F.RefExpr r m e) s no_call = refl
is_kept at (ExprKind-F.TupleExpr comma es) s no_call = refl
is_kept at (ExprKind-F.ArrayExpr es) s no_call = refl
is_kept at (ExprKind-F.RepeatExpr e n) s no_call = refl
is_kept at (ExprKind-F.ClosureExpr ps r e is_async is_gen moves is_static) s no_call =
    closure_is_kept (coroutine_kind is_async is_gen) s moves is_static (closure_params_or_none_part at ps) (answer_part at r)
    (expr_part (in_closure is_async at) e)
is_kept at (ExprKind-F.ReturnExpr e) s no_call = refl
is_kept at (ExprKind-F.BecomeExpr e) s no_call = refl
is_kept at (ExprKind-F.YieldExpr e) s no_call = refl
is_kept at (ExprKind-F.YeetExpr e) s no_call = refl
is_kept at (ExprKind-F.AwaitExpr e) s no_call = refl
is_kept at (ExprKind-F.CastExpr e t) s no_call = refl
is_kept at (ExprKind-F.RecordExpr x l) s no_call = refl
is_kept at (ExprKind-F.OffsetOfExpr t ns) s no_call = refl
is_kept at (ExprKind-F.CfgPredExpr pred) s no_call = refl
is_kept at (ExprKind-F.LetExpr p e) s no_call = refl
is_kept at (ExprKind-F.MatchExpr e arms) s no_call = refl
is_kept at (ExprKind-F.RangeExpr o a b) s no_call = refl
is_kept at (ExprKind-F.MacroExpr c) s no_call = absurd no_call
is_kept at ExprKind-F.UnderscoreExpr s no_call = refl
is_kept at ExprKind-F.IncludeBytesExpr s no_call = refl
is_kept at ExprKind-F.AsmExpr s no_call = refl
is_kept at ExprKind-F.FormatArgsExpr s no_call = refl

pub kept_is_some : (at : ResolveCtx) (k : ExprKindLayer written) (s : Pointer) → IsNoCall k
    → lower_kept (expr_at at.answers (reader at.answers (into at)) k at.place s)
    ≡ some (lower (expr_at at.answers (reader at.answers (into at)) k at.place s))
kept_is_some at k s no_call = is_kept at k s no_call

-- else it is missing

abbrev none_left : {A : Type 0} → A → Lowering (Option ExprId)
none_left _ = pure None

after_none : {A : Type 0} (o : Checked A) (b : Builder)
    → go_on o b (λ _. missing) ≡ go_on (go_on o b none_left).0 (go_on o b none_left).1 or_missing
after_none (Ok a) b = refl
after_none (Err e) b = refl

after_some : (o : Checked ExprId) (b : Builder)
    → (o, b) ≡ go_on (go_on o b (λ id. pure (Some id))).0 (go_on o b (λ id. pure (Some id))).1 or_missing
after_some (Ok id) b = refl
after_some (Err e) b = refl

pub lower_on : (e : Expr) (b : Builder) → lower e b ≡ go_on (lower_kept e b).0 (lower_kept e b).1 or_missing
lower_on (tree.disabled_expr why e) b = after_none _ _
lower_on (tree.if_expr at c t e) b = after_some _ _
lower_on (tree.block_expr x) b = after_some _ _
lower_on (tree.loop_expr at l _ x) b = after_some _ _
lower_on (tree.while_expr at l _ c x) b = after_some _ _
lower_on (tree.for_expr at items l _ p h x) b = after_some _ _
lower_on (tree.question_expr at items e) b = after_some _ _
lower_on (tree.itemless_expr at) b = after_some _ _
lower_on (tree.try_expr at item t number ss e) b = after_some _ _
lower_on (tree.coroutine_expr at kind moves number ss e) b = after_some _ _
lower_on (tree.call_expr at f has_list es) b = after_some _ _
lower_on (tree.path_expr at x h) b = after_some _ _
lower_on (tree.continue_expr at j) b = after_some _ _
lower_on (tree.break_expr at j e) b = after_some _ _
lower_on (tree.paren_expr at e) b = after_some _ _
lower_on (tree.literal_expr at l) b = after_some _ _
lower_on (tree.leaf_expr at form) b = after_some _ _
lower_on (tree.unary_expr at form e) b = after_some _ _
lower_on (tree.binary_expr at form x y) b = after_some _ _
lower_on (tree.lazy_expr at op x y) b = after_some _ _
lower_on (tree.list_expr at form es) b = after_some _ _
lower_on (tree.repeat_expr at e c) b = after_some _ _
lower_on (tree.const_expr at c) b = after_some _ _
lower_on (tree.closure_expr at moves is_static ps r e) b = after_some _ _
lower_on (tree.coroutine_closure_expr at kind moves ps r e) b = after_some _ _
lower_on (tree.method_call_expr at e name es as') b = after_some _ _
lower_on (tree.leaving_expr at form e) b = after_some _ _
lower_on (tree.become_expr at e) b = after_some _ _
lower_on (tree.yield_expr at e) b = after_some _ _
lower_on (tree.await_expr at location e) b = after_some _ _
lower_on (tree.cast_expr at e t) b = after_some _ _
lower_on (tree.record_expr at p head fs s) b = after_some _ _
lower_on (tree.offset_of_expr at t ns) b = after_some _ _
lower_on (tree.nameless_expr at e) b = after_some _ _
lower_on (tree.let_expr at p e) b = after_some _ _
lower_on (tree.match_expr at e arms) b = after_some _ _
lower_on (tree.range_expr at form x y) b = after_some _ _
lower_on (tree.macro_expr at called e) b = after_some _ _
lower_on (tree.assign_expr at own target e) b = after_some _ _
