-- One level of an expression, a statement or what stands in one is framed where its parts are.
use Rattle.std.proofs.Common.{◌≡◌, refl, ℕ, true, false, List, [], ◌∷◌, Option, Some, None, option_map}
use Rattle.hir_base.specs.declared.node.AstPtr.{AstPtr}
use Rattle.hir_base.specs.declared.node.NodeId.{NodeId}
use Rattle.hir_base.specs.declared.op.BinaryOp.{BinaryOp}
use Rattle.hir_base.specs.declared.op.BinaryOp.TheVariants as op
use Rattle.hir_syntax.specs.declared.ast.BlockModifier.{BlockModifier}
use Rattle.hir_syntax.specs.declared.ast.BlockModifier.TheVariants as modifier
use Rattle.hir_syntax.specs.declared.ast.ElseBranch.TheOpen.{ElseBranch-F, ExprKind-F, StmtKind-F}
use Rattle.hir_syntax.specs.declared.ast.Expr.{Expr as AstExpr}
use Rattle.hir_syntax.specs.declared.ast.Label.{Label as AstLabel}
use Rattle.hir_syntax.specs.declared.ast.Lifetime.{Lifetime as AstLifetime}
use Rattle.hir_syntax.specs.declared.ast.Name.{Name as AstName}
use Rattle.hir_syntax.specs.declared.ast.Stmt.{Stmt as AstStmt}
use Rattle.hir_store.specs.Pointers.{Pointer}
use Rattle.hir_store.specs.declared.hir.CoroutineKind.{CoroutineKind}
use Rattle.hir_store.specs.declared.hir.CoroutineKind.TheVariants as coroutine
use Rattle.hir_store.specs.declared.ids.BlockId.{BlockId}
use Rattle.hir_store.specs.declared.ids.HygieneId.{HygieneId}
use Rattle.hir_store.specs.declared.ids.ModuleId.{ModuleId}
use Rattle.hir_store.specs.declared.name.Name.TheVariants as name
use Rattle.hir_env.specs.ResolvedTree as tree
use Rattle.hir_env.specs.ResolvedTree.{Expr, Label, OptionExpr, Target}
use Rattle.hir_env.specs.Answering as of
use Rattle.hir_env.specs.Answers.{Answers}
use Rattle.hir_env.specs.Calls.{append, lacking_call, nothing, stmts_of, times, value_or_none}
use Rattle.hir_env.specs.Folds.{entering, fold_expr, fold_stmt}
use Rattle.hir_env.specs.Layers.{BlockExprLayer, Defined, ElseBranchLayer, ExprKindLayer, ExprReading, MatchArmLayer}
use Rattle.hir_env.specs.Layers.{RecordExprFieldLayer, RecordExprFieldListLayer, StmtKindLayer, StmtReading, itself}
use Rattle.hir_env.specs.NodeMap.{Site}
use Rattle.hir_env.specs.Paths as of_types
use Rattle.hir_env.specs.ResolveCtx.{in_file, ptr, site_of}
use Rattle.hir_env.specs.Targets.{resolves, target_of}
use Rattle.hir_env.specs.declared.ctx.LoweringMode.{LoweringMode}
use Rattle.hir_env.specs.declared.ctx.LoweringMode.TheVariants as mode
use Rattle.hir_env.specs.declared.ctx.LowerCtx.{LowerCtx}
use Rattle.hir_env.proofs.Mapped.{beside, map_list, optional}
use Rattle.hir_env.proofs.Mapped.{mapped_else, mapped_kind, mapped_stmt_kind, mapped_block, mapped_field, mapped_record, mapped_arm}
use Rattle.thm_frame.specs.Items as item
use Rattle.thm_frame.specs.Questions.{Area, Framed, Here}
use Rattle.thm_frame.specs.Questions as question
use Rattle.thm_frame.proofs.Asks.{block_asked, cfg_asked, contexts_asked, hygiene_asked, item_asked, pred_asked}
use Rattle.thm_frame.proofs.ItemForms.{for_items_framed, question_items_framed, range_framed}
use Rattle.thm_frame.proofs.Bare.{bare_else, bare_kind, bare_stmt_kind, bare_block, bare_field, bare_record, bare_arm}
use Rattle.thm_frame.proofs.Called.{expr_called, splice_called}
use Rattle.thm_frame.proofs.Framing.{app, ask, one, still, go_on, two, three, four}
use Rattle.thm_frame.proofs.Motives.{Below, OfExpr, OfStmt, claimed}
use Rattle.thm_frame.proofs.Parts.{answer_framed, arg_list_framed, arms_framed, asked_framed, closure_params_or_framed, else_framed}
use Rattle.thm_frame.proofs.Parts.{expr_framed, exprs_framed, fields_framed, guard_framed, let_else_framed, pat_framed, path_framed}
use Rattle.thm_frame.proofs.Parts.{plain_framed, record_framed, spread_framed, type_framed}
use Rattle.thm_frame.proofs.TargetForms.{target_framed}

abbrev label_with : LowerCtx → AstLabel → HygieneId → Label
label_with p l h = record { pointer = in_file p (ptr l.id l.range); name = of.label_name l.lifetime; hygiene = h }

abbrev held_with : Option (BlockId × ModuleId) → of.Contents → of.Held
held_with number c = record { number = option_map (λ n. n.0) number; stmts = c.0; last = c.1 }

abbrev with_target : OptionExpr → Target → OptionExpr × Target
with_target e t = (e, t)

abbrev assign_with : Pointer → OptionExpr × Target → OptionExpr → Expr
assign_with s t v = tree.assign_expr s t.0 t.1 v

module _ (a : Answers) (area : Area a) (n : ℕ) (below : Below a area n) where
  -- labels, jumps and numbers

  label_asked : (p : LowerCtx) (w : Here area p) (l : AstLabel) → Framed area (λ b. b.hygiene (site_of (in_file p (ptr l.id l.range)))) a
  label_asked p w l = hygiene_asked a area _ w.0

  jump_framed : (p : LowerCtx) (w : Here area p) (l : Option AstLifetime) → Framed area (λ b. option_map (of.jump_of b p) l) a
  jump_framed p w None = still None
  jump_framed p w (Some l) = let s = in_file p (ptr l.id l.range) in
      two (λ h c. Some (record { pointer = s; name = name.Text l.t; hygiene = h; contexts = c }))
      (hygiene_asked a area (site_of s) w.0) (contexts_asked a area)

  numbered_by : (m : LoweringMode) (p : LowerCtx) (w : Here area p) (id : NodeId)
      → Framed area (λ b. of.numbered b (record p { mode = m }) id) a
  numbered_by mode.Analysis p w id = block_asked a area _ _ w.0 w.1
  numbered_by mode.Untracked p w id = still None

  numbered_framed : (p : LowerCtx) (w : Here area p) (id : NodeId) → Framed area (λ b. of.numbered b p id) a
  numbered_framed p w id = numbered_by p.mode p w id

  -- the module of a block with a number is in the area
  inside_by : (p : LowerCtx) (w : Here area p) (s : Site) (x : Option (BlockId × ModuleId)) → area.file s.file_id ≡ true
      → a.block s p.module_id ≡ x → Here area (of.inside x p)
  inside_by p w s None k e = w
  inside_by p w s (Some number) k e = (w.0, area.blocks s p.module_id number k w.1 e)

  inside_as : (m : LoweringMode) (p : LowerCtx) (w : Here area p) (id : NodeId)
      → Here area (of.inside (of.numbered a (record p { mode = m }) id) (record p { mode = m }))
  inside_as mode.Analysis p w id = inside_by (record p { mode = mode.Analysis }) w (record { file_id = p.file_id; value = id })
      (a.block (record { file_id = p.file_id; value = id }) p.module_id) w.0 refl
  inside_as mode.Untracked p w id = w

  inside_here : (p : LowerCtx) (w : Here area p) (id : NodeId) → Here area (of.inside (of.numbered a p id) p)
  inside_here p w id = inside_as p.mode p w id

  -- what is in a block

  stmts_framed : (ss : List ((s : AstStmt) × OfStmt a area n s)) (p : LowerCtx) (w : Here area p) (d : Defined)
      → Framed area (λ b. stmts_of {A = AstStmt × (LowerCtx → Defined → StmtReading)} {B = AstExpr × ExprReading} (λ y. y.1)
      (λ y. y.1.value)
      (map_list (beside (fold_stmt b (entering b n))) (map_list (λ e. e.0) ss)) p d) a
  stmts_framed [] p w d = still (record { stmts = tree.no_stmts; defined = d })
  stmts_framed (s ∷ ss) p w d = go_on
      (λ b r. let rest = stmts_of {A = AstStmt × (LowerCtx → Defined → StmtReading)} {B = AstExpr × ExprReading} (λ y. y.1) (λ y. y.1.value)
      (map_list (beside (fold_stmt b (entering b n))) (map_list (λ e. e.0) ss)) p r.defined in
      record { stmts = append r.stmts rest.stmts; defined = rest.defined })
      (s.1 p w d)
      (one (λ rest. record { stmts = append (fold_stmt a (entering a n) s.0 p d).stmts rest.stmts; defined = rest.defined })
      (stmts_framed ss p w (fold_stmt a (entering a n) s.0 p d).defined))

  value_framed : (e : Option ((x : AstExpr) × OfExpr a area n x)) (p : LowerCtx) (w : Here area p) (d : Defined)
      → Framed area
      (λ b. value_or_none {A = AstStmt × (LowerCtx → Defined → StmtReading)} {B = AstExpr × ExprReading} (λ y. y.1) (λ y. y.1.value)
      (optional (beside (fold_expr b (entering b n))) (optional (λ e. e.0) e)) p d) a
  value_framed None p w d = still (nothing d)
  value_framed (Some e) p w d = e.1.value p w d

  contents_framed : (ss : List ((s : AstStmt) × OfStmt a area n s)) (e : Option ((x : AstExpr) × OfExpr a area n x)) (p : LowerCtx)
      (w : Here area p)
      → Framed area
      (λ b. of.contents_of {A = AstStmt × (LowerCtx → Defined → StmtReading)} {B = AstExpr × ExprReading} (λ y. y.1) (λ y. y.1.value)
      (map_list (beside (fold_stmt b (entering b n))) (map_list (λ e. e.0) ss))
      (optional (beside (fold_expr b (entering b n))) (optional (λ e. e.0) e)) p) a
  contents_framed ss e p w = go_on
      (λ b r. let t = value_or_none {A = AstStmt × (LowerCtx → Defined → StmtReading)} {B = AstExpr × ExprReading} (λ y. y.1)
      (λ y. y.1.value)
      (optional (beside (fold_expr b (entering b n))) (optional (λ e. e.0) e)) p r.defined in
      (append r.stmts t.stmts, t.last))
      (stmts_framed ss p w [])
      (one (λ t. (
        append (stmts_of {A = AstStmt × (LowerCtx → Defined → StmtReading)} {B = AstExpr × ExprReading} (λ y. y.1) (λ y. y.1.value)
            (map_list (beside (fold_stmt a (entering a n))) (map_list (λ e. e.0) ss)) p []).stmts t.stmts,
        t.last,
      ))
      (value_framed e p w _))

  -- with the number of the block, in whose module it is read
  held_framed : (y : BlockExprLayer (claimed a area n)) (p : LowerCtx) (w : Here area p)
      → Framed area (λ b. of.held_at b (itself (entering b n)) (mapped_block b (entering b n) (bare_block a area n y)) p) a
  held_framed y p w = go_on
      (λ b number. held_with number
      (of.contents_of {A = AstStmt × (LowerCtx → Defined → StmtReading)} {B = AstExpr × ExprReading} (λ y. y.1) (λ y. y.1.value)
      (map_list (beside (fold_stmt b (entering b n))) (map_list (λ e. e.0) y.stmts))
      (optional (beside (fold_expr b (entering b n))) (optional (λ e. e.0) y.tail)) (of.inside number p)))
      (numbered_framed p w y.id)
      (one (held_with (of.numbered a p y.id)) (contents_framed y.stmts y.tail (of.inside (of.numbered a p y.id) p) (inside_here p w y.id)))

  -- blocks

  coroutine_framed : (kind : CoroutineKind) (y : BlockExprLayer (claimed a area n)) (p : LowerCtx) (w : Here area p)
      → Framed area (λ b. of.coroutine_at b (itself (entering b n)) kind (mapped_block b (entering b n) (bare_block a area n y)) p) a
  coroutine_framed kind y p w = one (of.coroutine_holding (in_file p (ptr y.id y.range)) kind y.move_) (held_framed y p w)

  own_framed : (m : Option BlockModifier) (l : Option AstLabel) (y : BlockExprLayer (claimed a area n)) (p : LowerCtx) (w : Here area p)
      → Framed area (λ b. of.own_block b (itself (entering b n)) m
      (mapped_block b (entering b n) (bare_block a area n (record y { label = l }))) p) a
  own_framed None None y p w =
      one (λ held. tree.block_expr (of.block_holding (in_file p (ptr y.id y.range)) of.plain_head held)) (held_framed y p w)
  own_framed None (Some l) y p w =
      two (λ h held. tree.block_expr (of.block_holding (in_file p (ptr y.id y.range))
      (of.labelled_head (Some (label_with p l h)) (of.label_name_written l.lifetime)) held)) (label_asked p w l) (held_framed y p w)
  own_framed (Some modifier.Unsafe) l y p w =
      one (λ held. tree.block_expr (of.block_holding (in_file p (ptr y.id y.range)) of.unsafe_head held)) (held_framed y p w)
  own_framed (Some modifier.Try) l y p w =
      three (of.try_holding (in_file p (ptr y.id y.range))) (item_asked a area item.try_trait_from_output) (type_framed a area n y.ty p w)
      (held_framed y p w)
  own_framed (Some modifier.Const) l y p w = let q = of_types.inside_const_block p in
      one (λ held. of.const_of (in_file p (ptr y.id y.range)) (of.block_holding (in_file q (ptr y.id y.range)) of.plain_head held))
      (held_framed y q w)
  own_framed (Some modifier.Async) l y p w = coroutine_framed coroutine.Async y (of_types.inside_coroutine coroutine.Async p) w
  own_framed (Some modifier.Gen) l y p w = coroutine_framed coroutine.Gen y (of_types.inside_coroutine coroutine.Gen p) w
  own_framed (Some modifier.AsyncGen) l y p w = coroutine_framed coroutine.AsyncGen y (of_types.inside_coroutine coroutine.AsyncGen p) w

  pub plain_block_framed : (y : BlockExprLayer (claimed a area n)) (p : LowerCtx) (w : Here area p)
      → Framed area (λ b. (of.block_step b (itself (entering b n)) (mapped_block b (entering b n) (bare_block a area n y))).plain p) a
  plain_block_framed y p w = one (of.block_holding (in_file p (ptr y.id y.range)) of.plain_head) (held_framed y p w)

  pub own_block_framed : (y : BlockExprLayer (claimed a area n)) (p : LowerCtx) (w : Here area p)
      → Framed area (λ b. (of.block_step b (itself (entering b n)) (mapped_block b (entering b n) (bare_block a area n y))).own p) a
  own_block_framed y p w = own_framed y.mod_ y.label y p w

  pub asked_block_framed : (y : BlockExprLayer (claimed a area n)) (p : LowerCtx) (w : Here area p)
      → Framed area (λ b. (of.block_step b (itself (entering b n)) (mapped_block b (entering b n) (bare_block a area n y))).asked p) a
  asked_block_framed y p w = let s = in_file p (ptr y.id y.range) in
      two (of.asked s) (cfg_asked a area (site_of s) w.0) (own_framed y.mod_ y.label y p w)

  -- operators

  assigned : (s : Pointer) (p : LowerCtx) (w : Here area p) {f g : Answers → OptionExpr} → Framed area f a → Framed area g a
      → Framed area (λ b. tree.assign_expr s (f b) (target_of (resolves b p) (f b)) (g b)) a
  assigned s p w {f = f} x v = two (assign_with s)
      (go_on (λ b e. with_target e (target_of (resolves b p) e)) x (one (with_target (f a)) (target_framed a area p w (f a)))) v

  bin_framed : (s : Pointer) (p : LowerCtx) (w : Here area p) (o : Option BinaryOp) {f g : Answers → OptionExpr} → Framed area f a
      → Framed area g a
      → Framed area (λ b. of.bin_expr (resolves b p) s o (f b) (g b)) a
  bin_framed s p w (Some (op.LogicOp o)) x y = two (tree.lazy_expr s o) x y
  bin_framed s p w (Some op.Assign) x y = assigned s p w x y
  bin_framed s p w o x y = two (tree.binary_expr s (tree.operator o)) x y

  -- expressions

  at_framed : (y : ExprKindLayer (claimed a area n)) (p : LowerCtx) (w : Here area p) (s : Pointer) → area.file s.file_id ≡ true
      → Framed area (λ b. of.expr_at b (itself (entering b n)) (mapped_kind b (entering b n) (bare_kind a area n y)) p s) a
  at_framed (ExprKind-F.IfExpr c t e) p w s k =
      three (tree.if_expr s) (expr_framed a area n c p w) (plain_framed a area n t p w) (else_framed a area n e p w)
  at_framed (ExprKind-F.BlockExpr x) p w s k = x.1.own p w
  at_framed (ExprKind-F.LoopExpr None x) p w s k = one (tree.loop_expr s None tt) (plain_framed a area n x p w)
  at_framed (ExprKind-F.LoopExpr (Some l) x) p w s k =
      two (λ h x. tree.loop_expr s (Some (label_with p l h)) (of.label_name_written l.lifetime) x) (label_asked p w l)
      (plain_framed a area n x p w)
  at_framed (ExprKind-F.WhileExpr None c x) p w s k =
      two (tree.while_expr s None tt) (expr_framed a area n c p w) (plain_framed a area n x p w)
  at_framed (ExprKind-F.WhileExpr (Some l) c x) p w s k =
      three (λ h c x. tree.while_expr s (Some (label_with p l h)) (of.label_name_written l.lifetime) c x)
      (label_asked p w l) (expr_framed a area n c p w) (plain_framed a area n x p w)
  at_framed (ExprKind-F.ForExpr None q e x) p w s k =
      four (λ i q e x. of.for_of i s None tt q e x)
      (for_items_framed a area) (pat_framed a area n q p w) (expr_framed a area n e p w) (asked_framed a area n x p w)
  at_framed (ExprKind-F.ForExpr (Some l) q e x) p w s k =
      app (four (λ h i q e x. of.for_of i s (Some (label_with p l h)) (of.label_name_written l.lifetime) q e x)
      (label_asked p w l) (for_items_framed a area) (pat_framed a area n q p w) (expr_framed a area n e p w)) (asked_framed a area n x p w)
  at_framed (ExprKind-F.TryExpr e) p w s k =
      two (λ i e. of.question_of i s e) (question_items_framed a area) (expr_framed a area n e p w)
  at_framed (ExprKind-F.CallExpr f None) p w s k = one (λ f. tree.call_expr s f false tree.no_exprs) (expr_framed a area n f p w)
  at_framed (ExprKind-F.CallExpr f (Some es)) p w s k =
      two (λ f es. tree.call_expr s f true es) (expr_framed a area n f p w) (exprs_framed a area n es p w)
  at_framed (ExprKind-F.PathExpr x) p w s k = two (tree.path_expr s) (path_framed a area n x p w) (hygiene_asked a area (site_of s) k)
  at_framed (ExprKind-F.ContinueExpr l) p w s k = one (tree.continue_expr s) (jump_framed p w l)
  at_framed (ExprKind-F.BreakExpr l e) p w s k = two (tree.break_expr s) (jump_framed p w l) (expr_framed a area n e p w)
  at_framed (ExprKind-F.ParenExpr e) p w s k = one (tree.paren_expr s) (expr_framed a area n e p w)
  at_framed (ExprKind-F.Literal l) p w s k = still (tree.literal_expr s l)
  at_framed (ExprKind-F.MethodCallExpr e m as' None) p w s k =
      two (λ e xs. tree.method_call_expr s e (of.name_or_missing m) tree.no_exprs xs) (expr_framed a area n e p w)
      (arg_list_framed a area n as' p w)
  at_framed (ExprKind-F.MethodCallExpr e m as' (Some es)) p w s k =
      three (λ e es xs. tree.method_call_expr s e (of.name_or_missing m) es xs)
      (expr_framed a area n e p w) (exprs_framed a area n es p w) (arg_list_framed a area n as' p w)
  at_framed (ExprKind-F.FieldExpr e m) p w s k = one (tree.unary_expr s (tree.field_of (of.name_or_missing m))) (expr_framed a area n e p w)
  at_framed (ExprKind-F.PrefixExpr o e) p w s k = one (of.prefix_expr s o) (expr_framed a area n e p w)
  at_framed (ExprKind-F.BinExpr o x y) p w s k = bin_framed s p w o (expr_framed a area n x p w) (expr_framed a area n y p w)
  at_framed (ExprKind-F.IndexExpr x y) p w s k =
      two (tree.binary_expr s tree.index_of) (expr_framed a area n x p w) (expr_framed a area n y p w)
  at_framed (ExprKind-F.RefExpr r m e) p w s k =
      one (tree.unary_expr s (tree.reference_to (of.rawness r) (of.mutability m))) (expr_framed a area n e p w)
  at_framed (ExprKind-F.TupleExpr comma es) p w s k = one (tree.list_expr s (tree.tuple_of comma)) (exprs_framed a area n es p w)
  at_framed (ExprKind-F.ArrayExpr es) p w s k = one (tree.list_expr s tree.array_of) (exprs_framed a area n es p w)
  at_framed (ExprKind-F.RepeatExpr e m) p w s k =
      two (λ e c. tree.repeat_expr s e (tree.constant c)) (expr_framed a area n e p w)
      (expr_framed a area n m (of_types.inside_constant p) w)
  at_framed (ExprKind-F.ClosureExpr ps r e is_async is_gen moves is_static) p w s k =
      three (of.closure_of (of.coroutine_kind is_async is_gen) s moves is_static) (closure_params_or_framed a area n ps p w)
      (answer_framed a area n r p w) (expr_framed a area n e (of_types.inside_closure is_async p) w)
  at_framed (ExprKind-F.ReturnExpr e) p w s k = one (tree.leaving_expr s tree.returning) (expr_framed a area n e p w)
  at_framed (ExprKind-F.BecomeExpr e) p w s k = one (tree.become_expr s) (expr_framed a area n e p w)
  at_framed (ExprKind-F.YieldExpr e) p w s k = one (tree.yield_expr s) (expr_framed a area n e p w)
  at_framed (ExprKind-F.YeetExpr e) p w s k = one (tree.leaving_expr s tree.yeeting) (expr_framed a area n e p w)
  at_framed (ExprKind-F.AwaitExpr e) p w s k = one (tree.await_expr s p.await_location) (expr_framed a area n e p w)
  at_framed (ExprKind-F.CastExpr e t) p w s k = two (tree.cast_expr s) (expr_framed a area n e p w) (type_framed a area n t p w)
  at_framed (ExprKind-F.RecordExpr x l) p w s k =
      two (λ x r. tree.record_expr s x r.head r.fields r.spread) (path_framed a area n x p w) (record_framed a area n l p w)
  at_framed (ExprKind-F.OffsetOfExpr t ns) p w s k = one (λ t. tree.offset_of_expr s t (of.names_of ns)) (type_framed a area n t p w)
  at_framed (ExprKind-F.CfgPredExpr pred) p w s k = one (λ x. tree.literal_expr s (of.truth x)) (pred_asked a area pred)
  at_framed (ExprKind-F.LetExpr x e) p w s k = two (tree.let_expr s) (pat_framed a area n x p w) (expr_framed a area n e p w)
  at_framed (ExprKind-F.MatchExpr e None) p w s k = one (λ e. tree.match_expr s e tree.no_arms) (expr_framed a area n e p w)
  at_framed (ExprKind-F.MatchExpr e (Some xs)) p w s k = two (tree.match_expr s) (expr_framed a area n e p w) (arms_framed a area n xs p w)
  at_framed (ExprKind-F.RangeExpr o None None) p w s k =
      one (λ r. tree.range_expr s r tree.no_expr tree.no_expr) (range_framed a area o false false p w)
  at_framed (ExprKind-F.RangeExpr o None (Some y)) p w s k =
      two (λ r y. tree.range_expr s r tree.no_expr (tree.some_expr y)) (range_framed a area o false true p w) (y.1.expr p w)
  at_framed (ExprKind-F.RangeExpr o (Some x) None) p w s k =
      two (λ r x. tree.range_expr s r (tree.some_expr x) tree.no_expr) (range_framed a area o true false p w) (x.1.expr p w)
  at_framed (ExprKind-F.RangeExpr o (Some x) (Some y)) p w s k =
      three (λ r x y. tree.range_expr s r (tree.some_expr x) (tree.some_expr y))
      (range_framed a area o true true p w) (x.1.expr p w) (y.1.expr p w)
  at_framed (ExprKind-F.MacroExpr None) p w s k = still (lacking_call s)
  at_framed (ExprKind-F.MacroExpr (Some c)) p w s k = expr_called a area n below c.0 p w s
  at_framed ExprKind-F.UnderscoreExpr p w s k = still (tree.leaf_expr s tree.underscore)
  at_framed ExprKind-F.IncludeBytesExpr p w s k = still (tree.leaf_expr s tree.include_bytes)
  at_framed ExprKind-F.AsmExpr p w s k = still (tree.leaf_expr s tree.left_out)
  at_framed ExprKind-F.FormatArgsExpr p w s k = still (tree.leaf_expr s tree.left_out)

  pub kind_framed : (y : ExprKindLayer (claimed a area n)) (s : AstPtr) (p : LowerCtx) (w : Here area p)
      → Framed area (λ b. of.expr_kind b (itself (entering b n)) (mapped_kind b (entering b n) (bare_kind a area n y)) s p) a
  kind_framed y s p w = let at = in_file p s in two (of.asked at) (cfg_asked a area (site_of at) w.0) (at_framed y p w at w.0)

  -- in statement or tail place
  pub value_kind_framed : (y : ExprKindLayer (claimed a area n)) (s : AstPtr) (p : LowerCtx) (w : Here area p) (d : Defined)
      → Framed area (λ b. of.value_kind b (itself (entering b n)) (mapped_kind b (entering b n) (bare_kind a area n y)) s p d) a
  value_kind_framed (ExprKind-F.MacroExpr None) s p w d = let at = in_file p s in
      one (λ c. of.asked_splice at c (nothing d) d) (cfg_asked a area (site_of at) w.0)
  value_kind_framed (ExprKind-F.MacroExpr (Some c)) s p w d = let at = in_file p s in
      two (λ c r. of.asked_splice at c r d) (cfg_asked a area (site_of at) w.0) (splice_called a area n below c.0 p w at d)
  value_kind_framed y s p w d = one (λ e. of.whole_value e d) (kind_framed y s p w)

  pub else_level_framed : (y : ElseBranchLayer (claimed a area n)) (p : LowerCtx) (w : Here area p)
      → Framed area (λ b. of.else_branch b (itself (entering b n)) (mapped_else b (entering b n) (bare_else a area n y)) p) a
  else_level_framed (ElseBranch-F.ElseBlock x) p w = one tree.block_expr (x.1.plain p w)
  else_level_framed (ElseBranch-F.ElseIf e) p w = e.1.expr p w

  pub field_framed : (y : RecordExprFieldLayer (claimed a area n)) (p : LowerCtx) (w : Here area p)
      → Framed area (λ b. of.field_step b (itself (entering b n)) (mapped_field b (entering b n) (bare_field a area n y)) p) a
  field_framed y p w = let s = in_file p (ptr y.id y.range) in
      two (λ c e. of.asked_field s c (of.field_of s y.name e)) (cfg_asked a area (site_of s) w.0) (expr_framed a area n y.expr p w)

  pub record_level_framed : (y : RecordExprFieldListLayer (claimed a area n)) (p : LowerCtx) (w : Here area p)
      → Framed area (λ b. of.record_step b (itself (entering b n)) (mapped_record b (entering b n) (bare_record a area n y)) p) a
  record_level_framed y p w = two (λ fs s. record { head = of.list_with y.dotdot; fields = fs; spread = s })
      (fields_framed a area n y.fields p w) (spread_framed a area n y.spread y.dotdot p w)

  pub arm_framed : (y : MatchArmLayer (claimed a area n)) (p : LowerCtx) (w : Here area p)
      → Framed area (λ b. of.arm_step b (itself (entering b n)) (mapped_arm b (entering b n) (bare_arm a area n y)) p) a
  arm_framed y p w = let s = in_file p (ptr y.id y.range) in
      four (λ c q e g. of.asked_arm s c (tree.arm q e g))
      (cfg_asked a area (site_of s) w.0) (pat_framed a area n y.pat p w) (expr_framed a area n y.expr p w)
      (guard_framed a area n y.guard p w)

  -- statements

  def_framed : (p : LowerCtx) (w : Here area p) (x : Option AstName) → Framed area (λ b. of.def_named b p x) a
  def_framed p w None = still None
  def_framed p w (Some m) = ask (λ b. of.def_named b p (Some m)) (question.of_macro_def p.module_id (name.Text m.t)) w.1 (λ b h. h.0)

  rules_framed : (p : LowerCtx) (w : Here area p) (x : Option AstName) (d : Defined) → Framed area (λ b. of.rules_named b p x d) a
  rules_framed p w None d = still _
  rules_framed p w (Some m) d = let k = times (name.Text m.t) d in
      one (λ r. of.alone (tree.macro_stmt k r) (name.Text m.t ∷ d))
      (ask (λ b. b.legacy_macro p.module_id (name.Text m.t) k) (question.of_legacy_macro p.module_id (name.Text m.t) k) w.1 (λ b h. h.0))

  pub stmt_kind_framed : (y : StmtKindLayer (claimed a area n)) (s : AstPtr) (p : LowerCtx) (w : Here area p) (d : Defined)
      → Framed area (λ b. of.stmt_kind b (itself (entering b n)) (mapped_stmt_kind b (entering b n) (bare_stmt_kind a area n y)) s p d) a
  stmt_kind_framed (StmtKind-F.LetStmt x t e y) s p w d = let at = in_file p s in
      app (four (λ c q t e x. of.alone (of.asked_stmt at c (tree.let_stmt q t e x)) d)
      (cfg_asked a area (site_of at) w.0) (pat_framed a area n x p w) (type_framed a area n t p w) (expr_framed a area n e p w))
      (let_else_framed a area n y p w)
  stmt_kind_framed (StmtKind-F.ExprStmt e semi) s p w d = one (of.ended semi) (value_framed e p w d)
  stmt_kind_framed (StmtKind-F.MacroRules x) s p w d = let at = in_file p s in
      two (λ c r. of.asked_rules at c r d) (cfg_asked a area (site_of at) w.0) (rules_framed p w x d)
  stmt_kind_framed (StmtKind-F.MacroDef x) s p w d = let at = in_file p s in
      two (λ c m. of.alone (of.asked_stmt at c (tree.macro_stmt 0 m)) d) (cfg_asked a area (site_of at) w.0) (def_framed p w x)
  stmt_kind_framed StmtKind-F.Item s p w d = still (of.alone tree.item_stmt d)
