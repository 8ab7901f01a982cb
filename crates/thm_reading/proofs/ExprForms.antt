-- One level of an expression, a block or a statement is what the rules allow where its parts are.
use Rattle.std.proofs.Common.{◌≡◌, refl, sym, subst, ℕ, true, false, [], Option, Some, None, Result, Ok, Err, option_map}
use Rattle.hir_base.specs.declared.node.AstPtr.{AstPtr}
use Rattle.hir_base.specs.declared.op.BinaryOp.{BinaryOp}
use Rattle.hir_base.specs.declared.op.BinaryOp.TheVariants as op
use Rattle.hir_syntax.specs.declared.ast.BlockModifier.{BlockModifier}
use Rattle.hir_syntax.specs.declared.ast.BlockModifier.TheVariants as modifier
use Rattle.hir_syntax.specs.declared.ast.ElseBranch.TheOpen.{ElseBranch-F, ExprKind-F, StmtKind-F}
use Rattle.hir_syntax.specs.declared.ast.Expr.{Expr as AstExpr}
use Rattle.hir_syntax.specs.declared.ast.Label.{Label as AstLabel}
use Rattle.hir_syntax.specs.declared.ast.Name.{Name as AstName}
use Rattle.hir_syntax.specs.declared.ast.RecordExprFieldList.{RecordExprFieldList as AstRecordExprFieldList}
use Rattle.hir_base.specs.declared.op.UnaryOp.{UnaryOp}
use Rattle.hir_syntax.specs.declared.ast.BlockExpr.{BlockExpr as AstBlockExpr}
use Rattle.hir_syntax.specs.declared.ast.Path.{Path as AstPath}
use Rattle.hir_syntax.specs.declared.ast.Stmt.{Stmt as AstStmt}
use Rattle.hir_syntax.specs.declared.macros.MacroCall.{MacroCall as AstMacroCall}
use Rattle.hir_syntax.specs.declared.pats.Pat.{Pat as AstPat}
use Rattle.hir_syntax.specs.declared.types.Type_.{Type_ as AstType_}
use Rattle.hir_env.specs.Wrapped.{AstGuard, AstLetElse}
use Rattle.hir_env.specs.ResolvedTree.{Guard}
use Rattle.hir_store.specs.Pointers.{Pointer}
use Rattle.hir_store.specs.declared.ids.BlockId.{BlockId}
use Rattle.hir_store.specs.declared.ids.CfgId.{CfgId}
use Rattle.hir_store.specs.declared.ids.ModuleId.{ModuleId}
use Rattle.hir_store.specs.declared.hir.CoroutineKind.TheVariants as coroutine
use Rattle.hir_env.specs.ResolvedTree as tree
use Rattle.hir_env.specs.ResolvedTree.{Arm, Expr, Field, ForItems, OptionBlock, OptionExpr, OptionPat, OptionType, Params, QuestionItems}
use Rattle.hir_env.specs.ResolvedTree.{RecordHead, Fields, Spread}
use Rattle.hir_env.specs.Answering as of
use Rattle.hir_env.specs.Answers.{Answers}
use Rattle.hir_env.specs.Calls.{entered_splice, nothing}
use Rattle.hir_env.specs.Folds.{entering, fold_expr, fold_path, fold_record, fold_stmt}
use Rattle.hir_env.specs.Layers.{BlockExprLayer, Defined, ElseBranchLayer, ExprKindLayer, ExprReading, MatchArmLayer, RecordExprFieldLayer}
use Rattle.hir_env.specs.Layers.{StmtKindLayer, StmtReading, itself, written}
use Rattle.hir_env.specs.Paths as of_types
use Rattle.hir_env.specs.ResolveCtx.{in_file}
use Rattle.hir_env.specs.Targets.{resolves}
use Rattle.hir_env.specs.declared.ctx.LowerCtx.{LowerCtx}
use Rattle.hir_env.proofs.Mapped.{beside, map_list, optional, mapped_arm, mapped_block, mapped_else, mapped_field, mapped_kind}
use Rattle.hir_env.proofs.Mapped.{mapped_stmt_kind}
use Rattle.thm_reading.specs.Rules as rule
use Rattle.thm_reading.specs.Rules.{ArmAs, ContentsAs, ElseKindAs, ExprAs, ExprKindAs, FieldAs, FieldPartAs, ForBodyAs, GuardAs, InBlockAs}
use Rattle.thm_reading.specs.Rules.{LetElseAs, OptExprAs}
use Rattle.thm_reading.specs.Rules.{OptPatAs, OptTypeAs, OptPathAs, OwnAs, PlainAs, StmtAs, ValueAs, SpliceAs, AnswerAs, ParamsAs, FieldsAs}
use Rattle.thm_reading.specs.Rules.{SpreadAs}
use Rattle.thm_reading.specs.LowerCtx.{def_here, in_constant, node, number_here, site}
use Rattle.thm_reading.proofs.Bare.{bare_arm, bare_block, bare_else, bare_field, bare_kind, bare_stmt_kind}
use Rattle.thm_reading.proofs.Called.{expr_called, splice_called}
use Rattle.thm_reading.proofs.Motives.{Below, OfPath, OfRecord, at, claimed}
use Rattle.thm_reading.proofs.Parts.{answer_part, arg_list_part, arms_part, body_part, closure_part, contents_part, else_part, expr_part}
use Rattle.thm_reading.proofs.Parts.{exprs_part}
use Rattle.thm_reading.proofs.Parts.{guard_part, let_else_part, pat_part, path_part, plain_part, tail_part, type_part}
use Rattle.thm_reading.proofs.Same.{def_same, label_same, number_same}
use Rattle.thm_reading.proofs.Targets.{opt_target_as}

module _ (a : Answers) (n : ℕ) (below : Below a n) where
  -- blocks

  numbered_as : (y : BlockExprLayer (claimed a n)) (p : LowerCtx) (number : Option (BlockId × ModuleId))
      → number_here a (at n p) y.id ≡ number
      → (let c = of.contents_of {A = AstStmt × (LowerCtx → Defined → StmtReading)} {B = AstExpr × ExprReading} (λ y. y.1) (λ y. y.1.value)
      (map_list (beside (fold_stmt a (entering a n))) (map_list (λ e. e.0) y.stmts))
      (optional (beside (fold_expr a (entering a n))) (optional (λ e. e.0) y.tail)) (of.inside number (at n p)) in
      InBlockAs a (at n p) (bare_block a n y) (option_map (λ n. n.0) number) c.0 c.1)
  numbered_as y p None is = rule.in_block is (contents_part a n y.stmts y.tail p [])
  numbered_as y p (Some k) is = rule.in_numbered is (contents_part a n y.stmts y.tail (record p { module_id = k.1 }) [])

  in_block : (y : BlockExprLayer (claimed a n)) (p : LowerCtx)
      → (let number = of.numbered a (at n p) y.id in
      let c = of.contents_of {A = AstStmt × (LowerCtx → Defined → StmtReading)} {B = AstExpr × ExprReading} (λ y. y.1) (λ y. y.1.value)
      (map_list (beside (fold_stmt a (entering a n))) (map_list (λ e. e.0) y.stmts))
      (optional (beside (fold_expr a (entering a n))) (optional (λ e. e.0) y.tail)) (of.inside number (at n p)) in
      InBlockAs a (at n p) (bare_block a n y) (option_map (λ n. n.0) number) c.0 c.1)
  in_block y p = numbered_as y p (of.numbered a (at n p) y.id) (sym (number_same a (at n p) y.id))

  own_by : (m : Option BlockModifier) (y : BlockExprLayer (claimed a n)) (p : LowerCtx)
      → OwnAs a (at n p) m (bare_block a n y) (of.own_block a (itself (entering a n)) m (mapped_block a (entering a n) (bare_block a n y))
      (at n p))
  own_by None y p = rule.labelled (label_same a (at n p) y.label) (in_block y p)
  own_by (Some modifier.Unsafe) y p = rule.unsafe_block (in_block y p)
  own_by (Some modifier.Try) y p = rule.try_block (type_part a n y.ty p) (in_block y p)
  own_by (Some modifier.Const) y p = rule.const_block (rule.plain_block (in_block y (of_types.inside_const_block p)))
  own_by (Some modifier.Async) y p = rule.async_block (in_block y (of_types.inside_coroutine coroutine.Async p))
  own_by (Some modifier.Gen) y p = rule.gen_block (in_block y (of_types.inside_coroutine coroutine.Gen p))
  own_by (Some modifier.AsyncGen) y p = rule.async_gen_block (in_block y (of_types.inside_coroutine coroutine.AsyncGen p))

  pub plain_level : (y : BlockExprLayer (claimed a n)) (p : LowerCtx)
      → PlainAs a (at n p) (bare_block a n y) ((of.block_step a (itself (entering a n))
      (mapped_block a (entering a n) (bare_block a n y))).plain (at n p))
  plain_level y p = rule.plain_block (in_block y p)

  pub own_level : (y : BlockExprLayer (claimed a n)) (p : LowerCtx) → OwnAs a (at n p) y.mod_ (bare_block a n y)
      ((of.block_step a (itself (entering a n)) (mapped_block a (entering a n) (bare_block a n y))).own (at n p))
  own_level y p = own_by y.mod_ y p

  -- operators

  bin_by : (o : Option BinaryOp) {x y : Option AstExpr} {u v : OptionExpr} (p : LowerCtx) (s : Pointer) → OptExprAs a (at n p) x u
      → OptExprAs a (at n p) y v
      → ExprKindAs a (at n p) s (ExprKind-F.BinExpr o x y) (of.bin_expr (resolves a (at n p)) s o u v)
  bin_by (Some (op.LogicOp o)) p s h k = rule.logic_expr h k
  bin_by (Some op.Assign) {u = u} p s h k = rule.assign_expr h (opt_target_as a (at n p) None u) k
  bin_by (Some (op.ArithOp o)) p s h k = rule.operator_expr refl h k
  bin_by (Some (op.CmpOp o)) p s h k = rule.operator_expr refl h k
  bin_by (Some (op.Assignment o)) p s h k = rule.operator_expr refl h k
  bin_by None p s h k = rule.operator_expr refl h k

  prefix_by : (o : Option UnaryOp) {x : Option AstExpr} {u : OptionExpr} (p : LowerCtx) (s : Pointer) → OptExprAs a (at n p) x u
      → ExprKindAs a (at n p) s (ExprKind-F.PrefixExpr o x) (of.prefix_expr s o u)
  prefix_by None p s h = rule.nameless_expr h
  prefix_by (Some o) p s h = rule.prefix_expr h

  question_by : (is : Option QuestionItems) {x : Option AstExpr} {u : OptionExpr} (p : LowerCtx) (s : Pointer)
      → of.question_items a.lang_items ≡ is
      → OptExprAs a (at n p) x u → ExprKindAs a (at n p) s (ExprKind-F.TryExpr x) (of.question_of is s u)
  question_by None p s e h = rule.itemless_question e
  question_by (Some is) p s e h = rule.question_expr e h

  for_by : (is : Option ForItems) (l : Option AstLabel) {q : Option AstPat} {h : Option AstExpr} {b : Option AstBlockExpr}
      {x : OptionPat} {y z : OptionExpr} (p : LowerCtx) (s : Pointer) → of.for_items a.lang_items ≡ is
      → OptPatAs a (at n p) q x → OptExprAs a (at n p) h y → ForBodyAs a (at n p) b z
      → ExprKindAs a (at n p) s (ExprKind-F.ForExpr l q h b)
      (of.for_of is s (option_map (of.label_of a (at n p)) l) (of.label_written a (at n p) l) x y z)
  for_by None l p s e hx hy hz = rule.itemless_for e
  for_by (Some is) l p s e hx hy hz = rule.for_expr e (label_same a (at n p) l) hx hy hz

  record_of : (x : Option ((y : AstPath) × OfPath a n y)) (l : (y : AstRecordExprFieldList) × OfRecord a n y) (p : LowerCtx) (s : Pointer)
      → (let r = fold_record a (entering a n) l.0 (at n p) in
      ExprKindAs a (at n p) s (ExprKind-F.RecordExpr (optional (λ e. e.0) x) (Some l.0)) (tree.record_expr s
      (of_types.path_or_none (λ y. y.1.alone) (optional (beside (fold_path a (entering a n))) (optional (λ e. e.0) x)) (at n p)) r.head
      r.fields r.spread))
  record_of x l p s = let r = fold_record a (entering a n) l.0 (at n p) in
      subst (λ h. ExprKindAs a (at n p) s (ExprKind-F.RecordExpr (optional (λ e. e.0) x) (Some l.0)) (tree.record_expr s
      (of_types.path_or_none (λ y. y.1.alone) (optional (beside (fold_path a (entering a n))) (optional (λ e. e.0) x)) (at n p)) h r.fields
      r.spread))
      (sym (l.1 p).head) (rule.record_expr (path_part a n x p) (l.1 p).fields (l.1 p).spread)

  -- expressions

  pub kind_at : (y : ExprKindLayer (claimed a n)) (p : LowerCtx) (s : Pointer)
      → ExprKindAs a (at n p) s (bare_kind a n y) (of.expr_at a (itself (entering a n)) (mapped_kind a (entering a n) (bare_kind a n y))
      (at n p) s)
  kind_at (ExprKind-F.IfExpr c t e) p s = rule.if_expr (expr_part a n c p) (plain_part a n t p) (else_part a n e p)
  kind_at (ExprKind-F.BlockExpr x) p s = rule.block_expr (x.1.own p)
  kind_at (ExprKind-F.LoopExpr l x) p s = rule.loop_expr (label_same a (at n p) l) (plain_part a n x p)
  kind_at (ExprKind-F.WhileExpr l c x) p s = rule.while_expr (label_same a (at n p) l) (expr_part a n c p) (plain_part a n x p)
  kind_at (ExprKind-F.ForExpr l q e x) p s =
      for_by (of.for_items a.lang_items) l p s refl (pat_part a n q p) (expr_part a n e p) (body_part a n x p)
  kind_at (ExprKind-F.TryExpr e) p s = question_by (of.question_items a.lang_items) p s refl (expr_part a n e p)
  kind_at (ExprKind-F.CallExpr f None) p s = rule.call_expr (expr_part a n f p) rule.without_exprs
  kind_at (ExprKind-F.CallExpr f (Some es)) p s = rule.call_expr (expr_part a n f p) (rule.with_exprs (exprs_part a n es p))
  kind_at (ExprKind-F.PathExpr x) p s = rule.path_expr (path_part a n x p)
  kind_at (ExprKind-F.ContinueExpr l) p s = rule.continue_expr
  kind_at (ExprKind-F.BreakExpr l e) p s = rule.break_expr (expr_part a n e p)
  kind_at (ExprKind-F.ParenExpr e) p s = rule.paren_expr (expr_part a n e p)
  kind_at (ExprKind-F.Literal l) p s = rule.literal_expr
  kind_at (ExprKind-F.MethodCallExpr e m g None) p s = rule.method_call_expr (expr_part a n e p) rule.without_exprs (arg_list_part a n g p)
  kind_at (ExprKind-F.MethodCallExpr e m g (Some es)) p s =
      rule.method_call_expr (expr_part a n e p) (rule.with_exprs (exprs_part a n es p)) (arg_list_part a n g p)
  kind_at (ExprKind-F.FieldExpr e m) p s = rule.field_expr (expr_part a n e p)
  kind_at (ExprKind-F.PrefixExpr o e) p s = prefix_by o p s (expr_part a n e p)
  kind_at (ExprKind-F.BinExpr o x y) p s = bin_by o p s (expr_part a n x p) (expr_part a n y p)
  kind_at (ExprKind-F.IndexExpr x y) p s = rule.index_expr (expr_part a n x p) (expr_part a n y p)
  kind_at (ExprKind-F.RefExpr r m e) p s = rule.ref_expr (expr_part a n e p)
  kind_at (ExprKind-F.TupleExpr c es) p s = rule.tuple_expr (exprs_part a n es p)
  kind_at (ExprKind-F.ArrayExpr es) p s = rule.array_expr (exprs_part a n es p)
  kind_at (ExprKind-F.RepeatExpr e m) p s = rule.repeat_expr (expr_part a n e p) (expr_part a n m (in_constant p))
  kind_at (ExprKind-F.ClosureExpr ps r e false false m t) p s =
      rule.closure_expr (closure_part a n ps p) (answer_part a n r p) (expr_part a n e (of_types.inside_closure false p))
  kind_at (ExprKind-F.ClosureExpr ps r e false true m t) p s =
      rule.gen_closure (closure_part a n ps p) (answer_part a n r p) (expr_part a n e (of_types.inside_closure false p))
  kind_at (ExprKind-F.ClosureExpr ps r e true false m t) p s =
      rule.async_closure (closure_part a n ps p) (answer_part a n r p) (expr_part a n e (of_types.inside_closure true p))
  kind_at (ExprKind-F.ClosureExpr ps r e true true m t) p s =
      rule.async_gen_closure (closure_part a n ps p) (answer_part a n r p) (expr_part a n e (of_types.inside_closure true p))
  kind_at (ExprKind-F.ReturnExpr e) p s = rule.return_expr (expr_part a n e p)
  kind_at (ExprKind-F.BecomeExpr e) p s = rule.become_expr (expr_part a n e p)
  kind_at (ExprKind-F.YieldExpr e) p s = rule.yield_expr (expr_part a n e p)
  kind_at (ExprKind-F.YeetExpr e) p s = rule.yeet_expr (expr_part a n e p)
  kind_at (ExprKind-F.AwaitExpr e) p s = rule.await_expr (expr_part a n e p)
  kind_at (ExprKind-F.CastExpr e t) p s = rule.cast_expr (expr_part a n e p) (type_part a n t p)
  kind_at (ExprKind-F.RecordExpr x None) p s = rule.record_without_list (path_part a n x p)
  kind_at (ExprKind-F.RecordExpr x (Some l)) p s = record_of x l p s
  kind_at (ExprKind-F.OffsetOfExpr t ns) p s = rule.offset_of_expr (type_part a n t p)
  kind_at (ExprKind-F.CfgPredExpr c) p s = rule.cfg_expr
  kind_at (ExprKind-F.LetExpr q e) p s = rule.let_expr (pat_part a n q p) (expr_part a n e p)
  kind_at (ExprKind-F.MatchExpr e None) p s = rule.match_without_arms (expr_part a n e p)
  kind_at (ExprKind-F.MatchExpr e (Some xs)) p s = rule.match_expr (expr_part a n e p) (arms_part a n xs p)
  kind_at (ExprKind-F.RangeExpr o None None) p s = rule.range_expr rule.no_expr rule.no_expr
  kind_at (ExprKind-F.RangeExpr o None (Some y)) p s = rule.range_expr rule.no_expr (expr_part a n (Some y) p)
  kind_at (ExprKind-F.RangeExpr o (Some x) None) p s = rule.range_expr (expr_part a n (Some x) p) rule.no_expr
  kind_at (ExprKind-F.RangeExpr o (Some x) (Some y)) p s = rule.range_expr (expr_part a n (Some x) p) (expr_part a n (Some y) p)
  kind_at (ExprKind-F.MacroExpr None) p s = rule.callless_expr
  kind_at (ExprKind-F.MacroExpr (Some c)) p s = expr_called a n below c.0 p s
  kind_at ExprKind-F.UnderscoreExpr p s = rule.underscore_expr
  kind_at ExprKind-F.IncludeBytesExpr p s = rule.include_bytes_expr
  kind_at ExprKind-F.AsmExpr p s = rule.asm_expr
  kind_at ExprKind-F.FormatArgsExpr p s = rule.format_args_expr

  asked_by : {k : ExprKindLayer written} {x : Expr} (p : LowerCtx) (s : Pointer) (r : Result (Unit {0}) CfgId) → a.cfg (site s) ≡ r
      → ExprKindAs a (at n p) s k x → ExprAs a (at n p) s k (of.asked s r x)
  asked_by p s (Ok u) is h = rule.enabled is h
  asked_by p s (Err by) is h = rule.disabled is h

  pub kind_level : (y : ExprKindLayer (claimed a n)) (s : AstPtr) (p : LowerCtx) → ExprAs a (at n p) (in_file (at n p) s) (bare_kind a n y)
      (of.expr_kind a (itself (entering a n)) (mapped_kind a (entering a n) (bare_kind a n y)) s (at n p))
  kind_level y s p = asked_by p (in_file p s) (a.cfg (site (in_file p s))) refl (kind_at y p (in_file p s))

  callless_by : (p : LowerCtx) (s : Pointer) (d : Defined) (r : Result (Unit {0}) CfgId) → a.cfg (site s) ≡ r
      → (let z = of.asked_splice s r (nothing d) d in ValueAs a (at n p) s (ExprKind-F.MacroExpr None) d z.stmts z.last z.defined)
  callless_by p s d (Ok u) is = rule.callless_value is
  callless_by p s d (Err by) is = rule.disabled_value refl is

  called_by : (c : AstMacroCall) (p : LowerCtx) (s : Pointer) (d : Defined) (r : Result (Unit {0}) CfgId) → a.cfg (site s) ≡ r
      → (let z = of.asked_splice s r (entered_splice a (entering a n) c (at n p) s d) d in
      ValueAs a (at n p) s (ExprKind-F.MacroExpr (Some c)) d z.stmts z.last z.defined)
  called_by c p s d (Ok u) is = rule.called_value is (splice_called a n below c p s d)
  called_by c p s d (Err by) is = rule.disabled_value refl is

  pub value_level : (y : ExprKindLayer (claimed a n)) (s : AstPtr) (p : LowerCtx) (d : Defined)
      → (let r = of.value_kind a (itself (entering a n)) (mapped_kind a (entering a n) (bare_kind a n y)) s (at n p) d in
      ValueAs a (at n p) (in_file (at n p) s) (bare_kind a n y) d r.stmts r.last r.defined)
  value_level (ExprKind-F.MacroExpr None) s p d = callless_by p (in_file p s) d (a.cfg (site (in_file p s))) refl
  value_level (ExprKind-F.MacroExpr (Some c)) s p d = called_by c.0 p (in_file p s) d (a.cfg (site (in_file p s))) refl
  value_level y s p d = rule.whole_value refl (kind_level y s p)

  pub else_level : (y : ElseBranchLayer (claimed a n)) (p : LowerCtx) → ElseKindAs a (at n p) (bare_else a n y)
      (of.else_branch a (itself (entering a n)) (mapped_else a (entering a n) (bare_else a n y)) (at n p))
  else_level (ElseBranch-F.ElseBlock x) p = rule.else_block (x.1.plain p)
  else_level (ElseBranch-F.ElseIf e) p = rule.else_if (e.1.expr p)

  -- fields and arms

  part_by : (m : Option AstName) {e : Option AstExpr} {x : OptionExpr} (p : LowerCtx) (s : Pointer) → OptExprAs a (at n p) e x
      → FieldPartAs a (at n p) s m e (of.field_of s m x)
  part_by None p s h = rule.nameless_field h
  part_by (Some m) p s h = rule.named_field h

  field_by : {m : Option AstName} {e : Option AstExpr} {x : Field} (p : LowerCtx) (s : Pointer) (r : Result (Unit {0}) CfgId)
      → a.cfg (site s) ≡ r
      → FieldPartAs a (at n p) s m e x → FieldAs a (at n p) s m e (of.asked_field s r x)
  field_by p s (Ok u) is h = rule.enabled_field is h
  field_by p s (Err by) is h = rule.disabled_field is h

  pub field_level : (y : RecordExprFieldLayer (claimed a n)) (p : LowerCtx)
      → (let f = bare_field a n y in FieldAs a (at n p) (node (at n p) f.id f.range) f.name f.expr
      (of.field_step a (itself (entering a n)) (mapped_field a (entering a n) f) (at n p)))
  field_level y p = let s = node p y.id y.range in field_by p s (a.cfg (site s)) refl (part_by y.name p s (expr_part a n y.expr p))

  arm_by : {q : Option AstPat} {g : Option AstGuard} {e : Option AstExpr} {x : OptionPat} {y : Guard} {z : OptionExpr} (p : LowerCtx)
      (s : Pointer)
      (r : Result (Unit {0}) CfgId) → a.cfg (site s) ≡ r → OptPatAs a (at n p) q x → GuardAs a (at n p) g y → OptExprAs a (at n p) e z
      → ArmAs a (at n p) s q g e (of.asked_arm s r (tree.arm x z y))
  arm_by p s (Ok u) is hx hy hz = rule.enabled_arm is hx hy hz
  arm_by p s (Err by) is hx hy hz = rule.disabled_arm is hx hy hz

  pub arm_level : (y : MatchArmLayer (claimed a n)) (p : LowerCtx)
      → (let m = bare_arm a n y in ArmAs a (at n p) (node (at n p) m.id m.range) m.pat m.guard m.expr
      (of.arm_step a (itself (entering a n)) (mapped_arm a (entering a n) m) (at n p)))
  arm_level y p = let s = node p y.id y.range in
      arm_by p s (a.cfg (site s)) refl (pat_part a n y.pat p) (guard_part a n y.guard p) (expr_part a n y.expr p)

  -- statements

  let_by : {q : Option AstPat} {t : Option AstType_} {e : Option AstExpr} {b : Option AstLetElse} {x : OptionPat} {y : OptionType}
      {z : OptionExpr} {v : OptionBlock} (p : LowerCtx) (s : Pointer) (d : Defined) (r : Result (Unit {0}) CfgId) → a.cfg (site s) ≡ r
      → OptPatAs a (at n p) q x → OptTypeAs a (at n p) t y → OptExprAs a (at n p) e z → LetElseAs a (at n p) b v
      → (let w = of.alone (of.asked_stmt s r (tree.let_stmt x y z v)) d in StmtAs a (at n p) s (StmtKind-F.LetStmt q t e b) d w.stmts
      w.defined)
  let_by p s d (Ok u) is hx hy hz hv = rule.enabled_let is hx hy hz hv
  let_by p s d (Err by) is hx hy hz hv = rule.disabled_let is hx hy hz hv

  rules_by : (m : Option AstName) (p : LowerCtx) (s : Pointer) (d : Defined) (r : Result (Unit {0}) CfgId) → a.cfg (site s) ≡ r
      → (let w = of.asked_rules s r (of.rules_named a (at n p) m d) d in StmtAs a (at n p) s (StmtKind-F.MacroRules m) d w.stmts w.defined)
  rules_by None p s d (Ok u) is = rule.nameless_rules is
  rules_by (Some m) p s d (Ok u) is = rule.enabled_rules is
  rules_by None p s d (Err by) is = rule.disabled_rules is
  rules_by (Some m) p s d (Err by) is = rule.disabled_rules is

  def_by : (m : Option AstName) (p : LowerCtx) (s : Pointer) (d : Defined) (r : Result (Unit {0}) CfgId) → a.cfg (site s) ≡ r
      → (let w = of.alone (of.asked_stmt s r (tree.macro_stmt 0 (def_here a (at n p) m))) d in
      StmtAs a (at n p) s (StmtKind-F.MacroDef m) d w.stmts w.defined)
  def_by m p s d (Ok u) is = rule.enabled_def is
  def_by m p s d (Err by) is = rule.disabled_def is

  pub stmt_level : (y : StmtKindLayer (claimed a n)) (s : AstPtr) (p : LowerCtx) (d : Defined)
      → (let r = of.stmt_kind a (itself (entering a n)) (mapped_stmt_kind a (entering a n) (bare_stmt_kind a n y)) s (at n p) d in
      StmtAs a (at n p) (in_file (at n p) s) (bare_stmt_kind a n y) d r.stmts r.defined)
  stmt_level (StmtKind-F.LetStmt q t e b) s p d = let_by p (in_file p s) d (a.cfg (site (in_file p s))) refl
      (pat_part a n q p) (type_part a n t p) (expr_part a n e p) (let_else_part a n b p)
  stmt_level (StmtKind-F.ExprStmt e semi) s p d = rule.expr_stmt (tail_part a n e p d)
  stmt_level (StmtKind-F.MacroRules m) s p d = rules_by m p (in_file p s) d (a.cfg (site (in_file p s))) refl
  stmt_level (StmtKind-F.MacroDef m) s p d = subst
      (λ x. let w = of.alone (of.asked_stmt (in_file p s) (a.cfg (site (in_file p s))) (tree.macro_stmt 0 x)) d in
      StmtAs a (at n p) (in_file p s) (StmtKind-F.MacroDef m) d w.stmts w.defined)
      (sym (def_same a (at n p) m)) (def_by m p (in_file p s) d (a.cfg (site (in_file p s))) refl)
  stmt_level StmtKind-F.Item s p d = rule.item_stmt
