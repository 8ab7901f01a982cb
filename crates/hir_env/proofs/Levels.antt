-- A resolved tree is one level of it around its answered parts.
use Rattle.std.proofs.Common.{◌≡◌, ◌∙◌, refl, Bool, true, false, Option, Some, None, List, [], ◌∷◌}
use Rattle.std.specs.Prelude.{option_map}
use Rattle.hir_base.specs.declared.node.AstPtr.{AstPtr}
use Rattle.hir_syntax.specs.declared.ast.ElseBranch.{ElseBranch as AstElseBranch, out-ElseBranch}
use Rattle.hir_syntax.specs.declared.ast.ExprKind.{ExprKind as AstExprKind, out-ExprKind}
use Rattle.hir_syntax.specs.declared.ast.StmtKind.{out-StmtKind}
use Rattle.hir_syntax.specs.declared.ast.BlockModifier.{BlockModifier}
use Rattle.hir_syntax.specs.declared.ast.BlockModifier.TheVariants as modifier
use Rattle.hir_syntax.specs.declared.ast.BlockExpr.{BlockExpr as AstBlockExpr, out-BlockExpr}
use Rattle.hir_syntax.specs.declared.ast.Expr.{Expr as AstExpr}
use Rattle.hir_syntax.specs.declared.ast.RecordExprField.{RecordExprField as AstRecordExprField, out-RecordExprField}
use Rattle.hir_syntax.specs.declared.ast.RecordExprFieldList.{RecordExprFieldList as AstRecordExprFieldList, out-RecordExprFieldList}
use Rattle.hir_syntax.specs.declared.ast.Stmt.{Stmt as AstStmt}
use Rattle.hir_syntax.specs.declared.branches.MatchArm.{MatchArm as AstMatchArm, out-MatchArm}
use Rattle.hir_syntax.specs.declared.ast.ElseBranch.TheOpen.{ElseBranch-F, ExprKind-F, StmtKind-F}
use Rattle.hir_store.specs.declared.hir.CoroutineKind.{CoroutineKind}
use Rattle.hir_store.specs.declared.hir.CoroutineKind.TheVariants as coroutine
use Rattle.hir_store.specs.Pointers.{Pointer}
use Rattle.hir_env.specs.declared.ctx.LowerCtx.{LowerCtx}
use Rattle.hir_env.specs.Answers.{Answers}
use Rattle.hir_env.specs.Wrapped.{AstConstArg, AstGuard, AstLetElse}
use Rattle.hir_env.specs.ResolveCtx.{ResolveCtx}
use Rattle.hir_env.specs.Layers.{BlockReading, StmtReading, RecordReading, Reader, ElseBranchLayer, ExprKindLayer, StmtKindLayer}
use Rattle.hir_env.specs.Layers.{BlockExprLayer, RecordExprFieldLayer, RecordExprFieldListLayer}
use Rattle.hir_env.specs.Layers.{MatchArmLayer, itself}
use Rattle.hir_env.specs.Answering as of
use Rattle.hir_env.specs.Calls as of_calls
use Rattle.hir_env.specs.Calls.{append}
use Rattle.hir_env.specs.Answering.{BlockHead}
use Rattle.hir_env.specs.Folds.{written, reader, read_else_branch, read_expr_kind, read_block}
use Rattle.hir_env.specs.Folds.{read_expr, read_field, read_record, read_stmt, read_arm}
use Rattle.hir_env.specs.ResolvedTree as tree
use Rattle.hir_env.specs.ResolvedTree.{Expr, OptionExpr, Field, OptionBlock, Arm}
use Rattle.hir_env.specs.Paths.{inside_closure, inside_const_block, inside_constant, inside_coroutine}
use Rattle.hir_env.specs.Targets.{resolves}
use Rattle.hir_env.specs.Whole.{resolved_expr, resolved_plain, resolved_block, resolved_else, resolved_constant, resolved_field}
use Rattle.hir_env.specs.Whole.{resolved_record, pointer_at, asked_expr}
use Rattle.hir_env.specs.Whole.{resolved_body, body_level, own_level}
use Rattle.hir_env.specs.Whole.{block_level, stmt_level, else_level, constant_level, field_level, record_level, guard_level}
use Rattle.hir_env.specs.Whole.{let_else_level, arm_level, resolved_guard, resolved_let_else, resolved_arm}
use Rattle.hir_env.proofs.Mapped.{beside, optional, map_list, mapped_else, mapped_kind, mapped_stmt_kind, mapped_block}
use Rattle.hir_env.proofs.Mapped.{mapped_field, mapped_record, mapped_arm}
use Rattle.hir_env.proofs.Opened.{opened_else_branch, opened_expr_kind, opened_stmt_kind, opened_block}
use Rattle.hir_env.proofs.Opened.{opened_expr, opened_field, opened_record, opened_stmt, opened_arm}
use Rattle.hir_env.proofs.PathLevels.{answer_is, closure_params_are, type_is, path_is, pat_is, arg_list_is}
use Rattle.hir_env.specs.Layers.{Defined, Entering, ExprReading}
use Rattle.hir_env.specs.Whole.{into, resolved_value, value_level}
use Rattle.hir_env.specs.Folds.{read_value}
use Rattle.hir_env.specs.Folds.{fold_arm, fold_block, fold_else_branch, fold_expr, fold_field, fold_generic_arg, fold_param, fold_pat}
use Rattle.hir_env.specs.Folds.{fold_path, fold_record, fold_stmt, fold_type}

-- parts that may be absent, and lists

else_part_is : {A : Type 0} (h : A → LowerCtx → Expr) (x : Option A) (p : LowerCtx)
    → of.expr_or_none (λ y. y.1) (optional (beside h) x) p ≡ of.expr_or_none h x p
else_part_is h None p = refl
else_part_is h (Some x) p = refl

expr_is : {A : Type 0} (h : A → ExprReading) (x : Option A) (p : LowerCtx)
    → of.expr_or_none (λ y. y.1.expr) (optional (beside h) x) p ≡ of.expr_or_none (λ y. (h y).expr) x p
expr_is h None p = refl
expr_is h (Some x) p = refl

plain_is : {A : Type 0} (h : A → BlockReading) (x : Option A) (p : LowerCtx)
    → of.plain_or_none (λ y. y.1) (optional (beside h) x) p ≡ of.plain_or_none h x p
plain_is h None p = refl
plain_is h (Some x) p = refl

asked_is : {A : Type 0} (h : A → BlockReading) (x : Option A) (p : LowerCtx)
    → of.asked_or_none (λ y. y.1) (optional (beside h) x) p ≡ of.asked_or_none h x p
asked_is h None p = refl
asked_is h (Some x) p = refl

exprs_is : {A : Type 0} (h : A → ExprReading) (xs : List A) (p : LowerCtx)
    → of.exprs_of (λ y. y.1.expr) (map_list (beside h) xs) p ≡ of.exprs_of (λ y. (h y).expr) xs p
exprs_is h [] p = refl
exprs_is h (x ∷ xs) p = λ i. tree.more_exprs ((h x).expr p) (exprs_is h xs p i)

fields_is : {A : Type 0} (h : A → LowerCtx → Field) (xs : List A) (p : LowerCtx) → of.fields_of (λ y. y.1) (map_list (beside h) xs) p
    ≡ of.fields_of h xs p
fields_is h [] p = refl
fields_is h (x ∷ xs) p = λ j. tree.more_fields (h x p) (fields_is h xs p j)

spread_is : {A : Type 0} (h : A → ExprReading) (x : Option A) (dots : Bool) (p : LowerCtx)
    → of.spread_or_none (λ y. y.1.expr) (optional (beside h) x) dots p ≡ of.spread_or_none (λ y. (h y).expr) x dots p
spread_is h (Some x) dots p = refl
spread_is h None true p = refl
spread_is h None false p = refl

record_is : {A : Type 0} (h : A → LowerCtx → RecordReading) (x : Option A) (p : LowerCtx)
    → of.record_or_empty (λ y. y.1) (optional (beside h) x) p ≡ of.record_or_empty h x p
record_is h None p = refl
record_is h (Some x) p = refl

arms_is : {A : Type 0} (h : A → LowerCtx → Arm) (xs : List A) (p : LowerCtx)
    → of.arms_of (λ y. y.1) (map_list (beside h) xs) p ≡ of.arms_of h xs p
arms_is h [] p = refl
arms_is h (x ∷ xs) p = λ j. tree.more_arms (h x p) (arms_is h xs p j)

guard_is : {A : Type 0} (h : A → ExprReading) (x : Option (Option A)) (p : LowerCtx)
    → of.guard_or_none (of.expr_or_none (λ y. y.1.expr)) (optional (optional (beside h)) x) p
    ≡ of.guard_or_none (of.expr_or_none (λ y. (h y).expr)) x p
guard_is h None p = refl
guard_is h (Some None) p = refl
guard_is h (Some (Some x)) p = refl

let_else_is : {A : Type 0} (h : A → BlockReading) (x : Option (Option A)) (p : LowerCtx)
    → of.let_else_or_none (of.plain_or_none (λ y. y.1)) (optional (optional (beside h)) x) p ≡ of.let_else_or_none (of.plain_or_none h) x p
let_else_is h None p = refl
let_else_is h (Some None) p = refl
let_else_is h (Some (Some x)) p = refl

stmts_is : {A B : Type 0} (h : A → LowerCtx → Defined → StmtReading) (v : B → ExprReading) (xs : List A) (p : LowerCtx) (d : Defined)
    → of_calls.stmts_of {A = A × (LowerCtx → Defined → StmtReading)} {B = B × ExprReading} (λ y. y.1) (λ y. y.1.value)
    (map_list (beside h) xs)
    p d
    ≡ of_calls.stmts_of h (λ y. (v y).value) xs p d
stmts_is h v [] p d = refl
stmts_is h v (x ∷ xs) p d = λ j.
    let r = h x p d in
    let rest = stmts_is h v xs p r.defined j in
    record { stmts = append r.stmts rest.stmts; defined = rest.defined }

value_is : {A B : Type 0} (h : A → LowerCtx → Defined → StmtReading) (v : B → ExprReading) (x : Option B) (p : LowerCtx) (d : Defined)
    → of_calls.value_or_none {A = A × (LowerCtx → Defined → StmtReading)} {B = B × ExprReading} (λ y. y.1) (λ y. y.1.value)
    (optional (beside v) x) p d
    ≡ of_calls.value_or_none h (λ y. (v y).value) x p d
value_is h v None p d = refl
value_is h v (Some x) p d = refl

contents_is : {A B : Type 0} (h : A → LowerCtx → Defined → StmtReading) (v : B → ExprReading) (xs : List A) (x : Option B) (p : LowerCtx)
    → of.contents_of {A = A × (LowerCtx → Defined → StmtReading)} {B = B × ExprReading} (λ y. y.1) (λ y. y.1.value) (map_list (beside h) xs)
    (optional (beside v) x) p ≡ of.contents_of h (λ y. (v y).value) xs x p
contents_is h v xs x p = λ j.
    let r = stmts_is h v xs p [] j in
    let t = value_is h v x p r.defined j in
    (append r.stmts t.stmts, t.last)

module _ (env : Answers) (into : Option Entering) where
  abbrev rd : Reader written
  rd = reader env into

  expr_at_is : (k : ExprKindLayer written) (p : LowerCtx) (s : Pointer)
      → of.expr_at env (itself into) (mapped_kind env into k) p s ≡ of.expr_at env rd k p s
  expr_at_is (ExprKind-F.IfExpr c t e) p s = λ j.
      tree.if_expr s (expr_is (fold_expr env into) c p j) (plain_is (fold_block env into) t p j)
      (else_part_is (fold_else_branch env into) e p j)
  expr_at_is (ExprKind-F.BlockExpr b) p s = refl
  expr_at_is (ExprKind-F.LoopExpr l b) p s = λ j.
      tree.loop_expr s (option_map (of.label_of env p) l) (of.label_written env p l) (plain_is (fold_block env into) b p j)
  expr_at_is (ExprKind-F.WhileExpr l c b) p s = λ j.
      tree.while_expr s (option_map (of.label_of env p) l) (of.label_written env p l) (expr_is (fold_expr env into) c p j)
      (plain_is (fold_block env into) b p j)
  expr_at_is (ExprKind-F.ForExpr l x e b) p s = λ j.
      of.for_of (of.for_items env.lang_items) s (option_map (of.label_of env p) l) (of.label_written env p l)
      (pat_is (fold_pat env into) x p j)
      (expr_is (fold_expr env into) e p j) (asked_is (fold_block env into) b p j)
  expr_at_is (ExprKind-F.TryExpr e) p s = λ j. of.question_of (of.question_items env.lang_items) s (expr_is (fold_expr env into) e p j)
  expr_at_is (ExprKind-F.CallExpr f None) p s = λ j. tree.call_expr s (expr_is (fold_expr env into) f p j) false tree.no_exprs
  expr_at_is (ExprKind-F.CallExpr f (Some es)) p s = λ j. tree.call_expr s (expr_is (fold_expr env into) f p j) true
      (exprs_is (fold_expr env into) es p j)
  expr_at_is (ExprKind-F.PathExpr x) p s = λ j. tree.path_expr s (path_is (fold_path env into) x p j) (env.hygiene (of.site_of s))
  expr_at_is (ExprKind-F.ContinueExpr l) p s = refl
  expr_at_is (ExprKind-F.BreakExpr l e) p s = λ j. tree.break_expr s (option_map (of.jump_of env p) l) (expr_is (fold_expr env into) e p j)
  expr_at_is (ExprKind-F.ParenExpr e) p s = λ j. tree.paren_expr s (expr_is (fold_expr env into) e p j)
  expr_at_is (ExprKind-F.Literal l) p s = refl
  expr_at_is (ExprKind-F.MethodCallExpr e n as' None) p s = λ j.
      tree.method_call_expr s (expr_is (fold_expr env into) e p j) (of.name_or_missing n) tree.no_exprs
      (arg_list_is (fold_generic_arg env into) as' p j)
  expr_at_is (ExprKind-F.MethodCallExpr e n as' (Some es)) p s = λ j.
      tree.method_call_expr s (expr_is (fold_expr env into) e p j) (of.name_or_missing n) (exprs_is (fold_expr env into) es p j)
      (arg_list_is (fold_generic_arg env into) as' p j)
  expr_at_is (ExprKind-F.FieldExpr e n) p s = λ j. tree.unary_expr s (tree.field_of (of.name_or_missing n))
      (expr_is (fold_expr env into) e p j)
  expr_at_is (ExprKind-F.PrefixExpr o e) p s = λ j. of.prefix_expr s o (expr_is (fold_expr env into) e p j)
  expr_at_is (ExprKind-F.BinExpr o a b) p s = λ j.
      of.bin_expr (resolves env p) s o (expr_is (fold_expr env into) a p j) (expr_is (fold_expr env into) b p j)
  expr_at_is (ExprKind-F.IndexExpr a b) p s = λ j. tree.binary_expr s tree.index_of (expr_is (fold_expr env into) a p j)
      (expr_is (fold_expr env into) b p j)
  expr_at_is (ExprKind-F.RefExpr r m e) p s = λ j.
      tree.unary_expr s (tree.reference_to (of.rawness r) (of.mutability m)) (expr_is (fold_expr env into) e p j)
  expr_at_is (ExprKind-F.TupleExpr comma es) p s = λ j. tree.list_expr s (tree.tuple_of comma) (exprs_is (fold_expr env into) es p j)
  expr_at_is (ExprKind-F.ArrayExpr es) p s = λ j. tree.list_expr s tree.array_of (exprs_is (fold_expr env into) es p j)
  expr_at_is (ExprKind-F.RepeatExpr e n) p s = λ j.
      tree.repeat_expr s (expr_is (fold_expr env into) e p j) (tree.constant (expr_is (fold_expr env into) n (inside_constant p) j))
  expr_at_is (ExprKind-F.ClosureExpr ps r e is_async is_gen moves is_static) p s = λ j.
      of.closure_of (of.coroutine_kind is_async is_gen) s moves is_static (closure_params_are (fold_param env into) ps p j)
      (answer_is (fold_type env into) r p j) (expr_is (fold_expr env into) e (inside_closure is_async p) j)
  expr_at_is (ExprKind-F.ReturnExpr e) p s = λ j. tree.leaving_expr s tree.returning (expr_is (fold_expr env into) e p j)
  expr_at_is (ExprKind-F.BecomeExpr e) p s = λ j. tree.become_expr s (expr_is (fold_expr env into) e p j)
  expr_at_is (ExprKind-F.YieldExpr e) p s = λ j. tree.yield_expr s (expr_is (fold_expr env into) e p j)
  expr_at_is (ExprKind-F.YeetExpr e) p s = λ j. tree.leaving_expr s tree.yeeting (expr_is (fold_expr env into) e p j)
  expr_at_is (ExprKind-F.AwaitExpr e) p s = λ j. tree.await_expr s p.await_location (expr_is (fold_expr env into) e p j)
  expr_at_is (ExprKind-F.CastExpr e t) p s = λ j. tree.cast_expr s (expr_is (fold_expr env into) e p j) (type_is (fold_type env into) t p j)
  expr_at_is (ExprKind-F.RecordExpr x l) p s = λ j. let r = record_is (fold_record env into) l p j in
      tree.record_expr s (path_is (fold_path env into) x p j) r.head r.fields r.spread
  expr_at_is (ExprKind-F.OffsetOfExpr t ns) p s = λ j. tree.offset_of_expr s (type_is (fold_type env into) t p j) (of.names_of ns)
  expr_at_is (ExprKind-F.CfgPredExpr pred) p s = refl
  expr_at_is (ExprKind-F.LetExpr x e) p s = λ j. tree.let_expr s (pat_is (fold_pat env into) x p j) (expr_is (fold_expr env into) e p j)
  expr_at_is (ExprKind-F.MatchExpr e None) p s = λ j. tree.match_expr s (expr_is (fold_expr env into) e p j) tree.no_arms
  expr_at_is (ExprKind-F.MatchExpr e (Some xs)) p s = λ j. tree.match_expr s (expr_is (fold_expr env into) e p j)
      (arms_is (fold_arm env into) xs p j)
  expr_at_is (ExprKind-F.RangeExpr o None None) p s = refl
  expr_at_is (ExprKind-F.RangeExpr o None (Some b)) p s = refl
  expr_at_is (ExprKind-F.RangeExpr o (Some a) None) p s = refl
  expr_at_is (ExprKind-F.RangeExpr o (Some a) (Some b)) p s = refl
  expr_at_is (ExprKind-F.MacroExpr None) p s = refl
  expr_at_is (ExprKind-F.MacroExpr (Some c)) p s = refl
  expr_at_is ExprKind-F.UnderscoreExpr p s = refl
  expr_at_is ExprKind-F.IncludeBytesExpr p s = refl
  expr_at_is ExprKind-F.AsmExpr p s = refl
  expr_at_is ExprKind-F.FormatArgsExpr p s = refl

  expr_kind_is : (k : ExprKindLayer written) (n : AstPtr) (p : LowerCtx)
      → of.expr_kind env (itself into) (mapped_kind env into k) n p ≡ of.expr_kind env rd k n p
  expr_kind_is k n p = λ j. let s = of.in_file p n in of.asked s (env.cfg (of.site_of s)) (expr_at_is k p s j)

  value_kind_is : (k : ExprKindLayer written) (n : AstPtr) (p : LowerCtx) (d : Defined)
      → of.value_kind env (itself into) (mapped_kind env into k) n p d ≡ of.value_kind env rd k n p d
  value_kind_is (ExprKind-F.MacroExpr None) n p d = refl
  value_kind_is (ExprKind-F.MacroExpr (Some c)) n p d = refl
  value_kind_is (ExprKind-F.IfExpr a b c) n p d = λ j. of.whole_value (expr_kind_is (ExprKind-F.IfExpr a b c) n p j) d
  value_kind_is (ExprKind-F.BlockExpr a) n p d = λ j. of.whole_value (expr_kind_is (ExprKind-F.BlockExpr a) n p j) d
  value_kind_is (ExprKind-F.LoopExpr a b) n p d = λ j. of.whole_value (expr_kind_is (ExprKind-F.LoopExpr a b) n p j) d
  value_kind_is (ExprKind-F.WhileExpr a b c) n p d = λ j. of.whole_value (expr_kind_is (ExprKind-F.WhileExpr a b c) n p j) d
  value_kind_is (ExprKind-F.ForExpr a b c e) n p d = λ j. of.whole_value (expr_kind_is (ExprKind-F.ForExpr a b c e) n p j) d
  value_kind_is (ExprKind-F.TryExpr a) n p d = λ j. of.whole_value (expr_kind_is (ExprKind-F.TryExpr a) n p j) d
  value_kind_is (ExprKind-F.CallExpr a b) n p d = λ j. of.whole_value (expr_kind_is (ExprKind-F.CallExpr a b) n p j) d
  value_kind_is (ExprKind-F.PathExpr a) n p d = λ j. of.whole_value (expr_kind_is (ExprKind-F.PathExpr a) n p j) d
  value_kind_is (ExprKind-F.ContinueExpr a) n p d = λ j. of.whole_value (expr_kind_is (ExprKind-F.ContinueExpr a) n p j) d
  value_kind_is (ExprKind-F.BreakExpr a b) n p d = λ j. of.whole_value (expr_kind_is (ExprKind-F.BreakExpr a b) n p j) d
  value_kind_is (ExprKind-F.ParenExpr a) n p d = λ j. of.whole_value (expr_kind_is (ExprKind-F.ParenExpr a) n p j) d
  value_kind_is (ExprKind-F.Literal a) n p d = λ j. of.whole_value (expr_kind_is (ExprKind-F.Literal a) n p j) d
  value_kind_is (ExprKind-F.MethodCallExpr a b c e) n p d = λ j. of.whole_value (expr_kind_is (ExprKind-F.MethodCallExpr a b c e) n p j) d
  value_kind_is (ExprKind-F.FieldExpr a b) n p d = λ j. of.whole_value (expr_kind_is (ExprKind-F.FieldExpr a b) n p j) d
  value_kind_is (ExprKind-F.PrefixExpr a b) n p d = λ j. of.whole_value (expr_kind_is (ExprKind-F.PrefixExpr a b) n p j) d
  value_kind_is (ExprKind-F.BinExpr a b c) n p d = λ j. of.whole_value (expr_kind_is (ExprKind-F.BinExpr a b c) n p j) d
  value_kind_is (ExprKind-F.IndexExpr a b) n p d = λ j. of.whole_value (expr_kind_is (ExprKind-F.IndexExpr a b) n p j) d
  value_kind_is (ExprKind-F.RefExpr a b c) n p d = λ j. of.whole_value (expr_kind_is (ExprKind-F.RefExpr a b c) n p j) d
  value_kind_is (ExprKind-F.TupleExpr a b) n p d = λ j. of.whole_value (expr_kind_is (ExprKind-F.TupleExpr a b) n p j) d
  value_kind_is (ExprKind-F.ArrayExpr a) n p d = λ j. of.whole_value (expr_kind_is (ExprKind-F.ArrayExpr a) n p j) d
  value_kind_is (ExprKind-F.RepeatExpr a b) n p d = λ j. of.whole_value (expr_kind_is (ExprKind-F.RepeatExpr a b) n p j) d
  value_kind_is (ExprKind-F.ClosureExpr a b c e f g h) n p d = λ j. of.whole_value
      (expr_kind_is (ExprKind-F.ClosureExpr a b c e f g h) n p j) d
  value_kind_is (ExprKind-F.ReturnExpr a) n p d = λ j. of.whole_value (expr_kind_is (ExprKind-F.ReturnExpr a) n p j) d
  value_kind_is (ExprKind-F.BecomeExpr a) n p d = λ j. of.whole_value (expr_kind_is (ExprKind-F.BecomeExpr a) n p j) d
  value_kind_is (ExprKind-F.YieldExpr a) n p d = λ j. of.whole_value (expr_kind_is (ExprKind-F.YieldExpr a) n p j) d
  value_kind_is (ExprKind-F.YeetExpr a) n p d = λ j. of.whole_value (expr_kind_is (ExprKind-F.YeetExpr a) n p j) d
  value_kind_is (ExprKind-F.AwaitExpr a) n p d = λ j. of.whole_value (expr_kind_is (ExprKind-F.AwaitExpr a) n p j) d
  value_kind_is (ExprKind-F.CastExpr a b) n p d = λ j. of.whole_value (expr_kind_is (ExprKind-F.CastExpr a b) n p j) d
  value_kind_is (ExprKind-F.RecordExpr a b) n p d = λ j. of.whole_value (expr_kind_is (ExprKind-F.RecordExpr a b) n p j) d
  value_kind_is (ExprKind-F.OffsetOfExpr a b) n p d = λ j. of.whole_value (expr_kind_is (ExprKind-F.OffsetOfExpr a b) n p j) d
  value_kind_is (ExprKind-F.CfgPredExpr a) n p d = λ j. of.whole_value (expr_kind_is (ExprKind-F.CfgPredExpr a) n p j) d
  value_kind_is (ExprKind-F.LetExpr a b) n p d = λ j. of.whole_value (expr_kind_is (ExprKind-F.LetExpr a b) n p j) d
  value_kind_is (ExprKind-F.MatchExpr a b) n p d = λ j. of.whole_value (expr_kind_is (ExprKind-F.MatchExpr a b) n p j) d
  value_kind_is (ExprKind-F.RangeExpr a b c) n p d = λ j. of.whole_value (expr_kind_is (ExprKind-F.RangeExpr a b c) n p j) d
  value_kind_is ExprKind-F.UnderscoreExpr n p d = λ j. of.whole_value (expr_kind_is ExprKind-F.UnderscoreExpr n p j) d
  value_kind_is ExprKind-F.IncludeBytesExpr n p d = λ j. of.whole_value (expr_kind_is ExprKind-F.IncludeBytesExpr n p j) d
  value_kind_is ExprKind-F.AsmExpr n p d = λ j. of.whole_value (expr_kind_is ExprKind-F.AsmExpr n p j) d
  value_kind_is ExprKind-F.FormatArgsExpr n p d = λ j. of.whole_value (expr_kind_is ExprKind-F.FormatArgsExpr n p j) d

  field_step_is : (x : RecordExprFieldLayer written) (p : LowerCtx)
      → of.field_step env (itself into) (mapped_field env into x) p ≡ of.field_step env rd x p
  field_step_is x p = λ j. let s = of.in_file p (of.ptr x.id x.range) in
      of.asked_field s (env.cfg (of.site_of s)) (of.field_of s x.name (expr_is (fold_expr env into) x.expr p j))

  record_step_is : (x : RecordExprFieldListLayer written) (p : LowerCtx)
      → of.record_step env (itself into) (mapped_record env into x) p ≡ of.record_step env rd x p
  record_step_is x p = λ j. record {
    head = of.list_with x.dotdot;
    fields = fields_is (fold_field env into) x.fields p j;
    spread = spread_is (fold_expr env into) x.spread x.dotdot p j;
  }

  arm_step_is : (x : MatchArmLayer written) (p : LowerCtx)
      → of.arm_step env (itself into) (mapped_arm env into x) p ≡ of.arm_step env rd x p
  arm_step_is x p = λ j. let s = of.in_file p (of.ptr x.id x.range) in of.asked_arm s (env.cfg (of.site_of s))
      (tree.arm (pat_is (fold_pat env into) x.pat p j) (expr_is (fold_expr env into) x.expr p j)
      (guard_is (fold_expr env into) x.guard p j))

  held_at_is : (b : BlockExprLayer written) (p : LowerCtx)
      → of.held_at env (itself into) (mapped_block env into b) p ≡ of.held_at env rd b p
  held_at_is b p = λ j.
      let number = of.numbered env p b.id in
      let c = contents_is (fold_stmt env into) (fold_expr env into) b.stmts b.tail (of.inside number p) j in
      record { number = option_map (λ n. n.0) number; stmts = c.0; last = c.1 }

  block_at_is : (b : BlockExprLayer written) (head : BlockHead) (p : LowerCtx)
      → of.block_at env (itself into) (mapped_block env into b) head p ≡ of.block_at env rd b head p
  block_at_is b head p = λ j. of.block_holding (of.in_file p (of.ptr b.id b.range)) head (held_at_is b p j)

  try_at_is : (b : BlockExprLayer written) (p : LowerCtx) → of.try_at env (itself into) (mapped_block env into b) p ≡ of.try_at env rd b p
  try_at_is b p = λ j.
      of.try_holding (of.in_file p (of.ptr b.id b.range)) env.lang_items.try_trait_from_output (type_is (fold_type env into) b.ty p j)
      (held_at_is b p j)

  coroutine_at_is : (kind : CoroutineKind) (b : BlockExprLayer written) (p : LowerCtx)
      → of.coroutine_at env (itself into) kind (mapped_block env into b) p ≡ of.coroutine_at env rd kind b p
  coroutine_at_is kind b p = λ j. of.coroutine_holding (of.in_file p (of.ptr b.id b.range)) kind b.move_ (held_at_is b p j)

  own_block_is : (m : Option BlockModifier) (b : BlockExprLayer written) (p : LowerCtx)
      → of.own_block env (itself into) m (mapped_block env into b) p ≡ of.own_block env rd m b p
  own_block_is None b p = λ j.
      tree.block_expr (block_at_is b (of.labelled_head (option_map (of.label_of env p) b.label) (of.label_written env p b.label)) p j)
  own_block_is (Some modifier.Unsafe) b p = λ j. tree.block_expr (block_at_is b of.unsafe_head p j)
  own_block_is (Some modifier.Try) b p = try_at_is b p
  own_block_is (Some modifier.Const) b p = λ j.
      of.const_of (of.in_file p (of.ptr b.id b.range)) (block_at_is b of.plain_head (inside_const_block p) j)
  own_block_is (Some modifier.Async) b p = coroutine_at_is coroutine.Async b (inside_coroutine coroutine.Async p)
  own_block_is (Some modifier.Gen) b p = coroutine_at_is coroutine.Gen b (inside_coroutine coroutine.Gen p)
  own_block_is (Some modifier.AsyncGen) b p = coroutine_at_is coroutine.AsyncGen b (inside_coroutine coroutine.AsyncGen p)

  stmt_at_is : (k : StmtKindLayer written) (p : LowerCtx) (s : Pointer) (d : Defined)
      → of.stmt_at env (itself into) (mapped_stmt_kind env into k) p s d ≡ of.stmt_at env rd k p s d
  stmt_at_is (StmtKind-F.LetStmt x t e b) p s d = λ j. of.alone (of.asked_stmt s (env.cfg (of.site_of s))
      (tree.let_stmt (pat_is (fold_pat env into) x p j) (type_is (fold_type env into) t p j) (expr_is (fold_expr env into) e p j)
      (let_else_is (fold_block env into) b p j))) d
  stmt_at_is (StmtKind-F.ExprStmt e semi) p s d = λ j. of.ended semi (value_is (fold_stmt env into) (fold_expr env into) e p d j)
  stmt_at_is (StmtKind-F.MacroRules x) p s d = refl
  stmt_at_is (StmtKind-F.MacroDef x) p s d = refl
  stmt_at_is StmtKind-F.Item p s d = refl

  stmt_kind_is : (k : StmtKindLayer written) (n : AstPtr) (p : LowerCtx) (d : Defined)
      → of.stmt_kind env (itself into) (mapped_stmt_kind env into k) n p d ≡ of.stmt_kind env rd k n p d
  stmt_kind_is k n p d = stmt_at_is k p (of.in_file p n) d

  else_is : (k : ElseBranchLayer written) (p : LowerCtx) → of.else_branch env (itself into) (mapped_else env into k) p
      ≡ of.else_branch env rd k p
  else_is (ElseBranch-F.ElseBlock b) p = refl
  else_is (ElseBranch-F.ElseIf e) p = refl

  read_expr_kind_is : (k : AstExprKind) (n : AstPtr) (p : LowerCtx)
      → read_expr_kind env into k n p ≡ of.expr_kind env rd (out-ExprKind k) n p
  read_expr_kind_is k n p = (λ j. (opened_expr_kind env into k j).expr n p) ∙ expr_kind_is (out-ExprKind k) n p

  read_expr_is : (e : AstExpr) (p : LowerCtx) → read_expr env into e p ≡ of.expr_kind env rd (out-ExprKind e.kind) (of.ptr e.id e.range) p
  read_expr_is e p = (λ j. (opened_expr env into e j).expr p) ∙ read_expr_kind_is e.kind (of.ptr e.id e.range) p

  pub read_value_is : (e : AstExpr) (p : LowerCtx) (d : Defined)
      → read_value env into e p d ≡ of.value_kind env rd (out-ExprKind e.kind) (of.ptr e.id e.range) p d
  read_value_is e p d = (λ j. (opened_expr env into e j).value p d)
      ∙ ((λ j. (opened_expr_kind env into e.kind j).value (of.ptr e.id e.range) p d)
      ∙ value_kind_is (out-ExprKind e.kind) (of.ptr e.id e.range) p d)

  read_plain_is : (b : AstBlockExpr) (p : LowerCtx) → (read_block env into b).plain p ≡ of.block_at env rd (out-BlockExpr b) of.plain_head p
  read_plain_is b p = (λ j. (opened_block env into b j).plain p) ∙ block_at_is (out-BlockExpr b) of.plain_head p

  read_own_is : (b : AstBlockExpr) (p : LowerCtx) → (read_block env into b).own p
      ≡ of.own_block env rd (out-BlockExpr b).mod_ (out-BlockExpr b) p
  read_own_is b p = (λ j. (opened_block env into b j).own p) ∙ own_block_is (out-BlockExpr b).mod_ (out-BlockExpr b) p

  read_asked_is : (b : AstBlockExpr) (p : LowerCtx) → (read_block env into b).asked p
      ≡ (let level = out-BlockExpr b in let s = of.in_file p (of.ptr level.id level.range) in
      of.asked s (env.cfg (of.site_of s)) (of.own_block env rd level.mod_ level p))
  read_asked_is b p = (λ j. (opened_block env into b j).asked p)
      ∙ (λ j. let level = out-BlockExpr b in let s = of.in_file p (of.ptr level.id level.range) in
      of.asked s (env.cfg (of.site_of s)) (own_block_is level.mod_ level p j))

  read_stmt_is : (s : AstStmt) (p : LowerCtx) (d : Defined)
      → read_stmt env into s p d ≡ of.stmt_kind env rd (out-StmtKind s.kind) (of.ptr s.id s.range) p d
  read_stmt_is s p d = (λ j. opened_stmt env into s j p d)
      ∙ ((λ j. opened_stmt_kind env into s.kind j (of.ptr s.id s.range) p d)
      ∙ stmt_kind_is (out-StmtKind s.kind) (of.ptr s.id s.range) p d)

  read_arm_is : (x : AstMatchArm) (p : LowerCtx) → read_arm env into x p ≡ of.arm_step env rd (out-MatchArm x) p
  read_arm_is x p = (λ j. opened_arm env into x j p) ∙ arm_step_is (out-MatchArm x) p

  read_else_is : (e : AstElseBranch) (p : LowerCtx) → read_else_branch env into e p ≡ of.else_branch env rd (out-ElseBranch e) p
  read_else_is e p = (λ j. opened_else_branch env into e j p) ∙ else_is (out-ElseBranch e) p

  read_field_is : (x : AstRecordExprField) (p : LowerCtx) → read_field env into x p ≡ of.field_step env rd (out-RecordExprField x) p
  read_field_is x p = (λ j. opened_field env into x j p) ∙ field_step_is (out-RecordExprField x) p

  read_record_is : (x : AstRecordExprFieldList) (p : LowerCtx)
      → read_record env into x p ≡ of.record_step env rd (out-RecordExprFieldList x) p
  read_record_is x p = (λ j. opened_record env into x j p) ∙ record_step_is (out-RecordExprFieldList x) p

own_block_level : (at : ResolveCtx) (m : Option BlockModifier) (b : AstBlockExpr)
    → of.own_block at.answers (reader at.answers (into at)) m (out-BlockExpr b) at.place ≡ own_level at m b
own_block_level at None b = refl
own_block_level at (Some modifier.Unsafe) b = refl
own_block_level at (Some modifier.Try) b = refl
own_block_level at (Some modifier.Const) b = refl
own_block_level at (Some modifier.Async) b = refl
own_block_level at (Some modifier.Gen) b = refl
own_block_level at (Some modifier.AsyncGen) b = refl

pub expr_is_level : (at : ResolveCtx) (e : AstExpr) → resolved_expr at e ≡ asked_expr at e
expr_is_level at e = read_expr_is at.answers (into at) e at.place

pub plain_is_level : (at : ResolveCtx) (b : AstBlockExpr) → resolved_plain at b ≡ block_level at of.plain_head b
plain_is_level at b = read_plain_is at.answers (into at) b at.place

pub block_is_level : (at : ResolveCtx) (b : AstBlockExpr) → resolved_block at b ≡ own_level at (out-BlockExpr b).mod_ b
block_is_level at b = read_own_is at.answers (into at) b at.place ∙ own_block_level at (out-BlockExpr b).mod_ b

pub body_is_level : (at : ResolveCtx) (b : AstBlockExpr) → resolved_body at b ≡ body_level at b
body_is_level at b = read_asked_is at.answers (into at) b at.place
    ∙ (λ j. let level = out-BlockExpr b in let s = pointer_at at level.id level.range in
    of.asked s (at.answers.cfg (of.site_of s)) (own_block_level at level.mod_ b j))

pub else_is_level : (at : ResolveCtx) (e : AstElseBranch) → resolved_else at e ≡ else_level at e
else_is_level at e = read_else_is at.answers (into at) e at.place

pub field_is_level : (at : ResolveCtx) (x : AstRecordExprField) → resolved_field at x ≡ field_level at x
field_is_level at x = read_field_is at.answers (into at) x at.place

pub record_is_level : (at : ResolveCtx) (x : AstRecordExprFieldList) → resolved_record at x ≡ record_level at x
record_is_level at x = read_record_is at.answers (into at) x at.place

pub arm_is_level : (at : ResolveCtx) (x : AstMatchArm) → resolved_arm at x ≡ arm_level at x
arm_is_level at x = read_arm_is at.answers (into at) x at.place

pub value_is_level : (at : ResolveCtx) (d : Defined) (e : AstExpr) → resolved_value at d e ≡ value_level at d e
value_is_level at d e = read_value_is at.answers (into at) e at.place d

pub stmt_is_level : (at : ResolveCtx) (d : Defined) (s : AstStmt) → read_stmt at.answers (into at) s at.place d ≡ stmt_level at d s
stmt_is_level at d s = read_stmt_is at.answers (into at) s at.place d
