-- One level of an expression, a statement or what stands in one is framed where its parts are.
use Rattle.std.proofs.Common.{◌≡◌, ap, refl, ℕ, true, false, List, [], ◌∷◌, ◌++◌, Option, Some, None, option_map}
use Rattle.hir_base.specs.declared.node.AstPtr.{AstPtr}
use Rattle.hir_base.specs.declared.node.HirFileId.{HirFileId}
use Rattle.hir_base.specs.declared.node.NodeId.{NodeId}
use Rattle.hir_base.specs.declared.op.BinaryOp.{BinaryOp}
use Rattle.hir_base.specs.declared.op.BinaryOp.TheVariants as op
use Rattle.hir_syntax.specs.declared.ast.BlockModifier.{BlockModifier}
use Rattle.hir_syntax.specs.declared.ast.BlockModifier.TheVariants as modifier
use Rattle.hir_syntax.specs.declared.ast.ElseBranch.TheOpen.{ElseBranch-F, ExprKind-F, StmtKind-F}
use Rattle.hir_syntax.specs.declared.ast.Expr.{Expr as AstExpr}
use Rattle.hir_syntax.specs.declared.ast.Label.{Label as AstLabel}
use Rattle.hir_syntax.specs.declared.ast.Name.{Name as AstName}
use Rattle.hir_syntax.specs.declared.ast.Stmt.{Stmt as AstStmt}
use Rattle.hir_store.specs.Pointers.{Pointer}
use Rattle.hir_store.specs.declared.hir.CoroutineKind.{CoroutineKind}
use Rattle.hir_store.specs.declared.hir.CoroutineKind.TheVariants as coroutine
use Rattle.hir_store.specs.declared.ids.BlockId.{BlockId}
use Rattle.hir_store.specs.declared.ids.HygieneId.{HygieneId}
use Rattle.hir_store.specs.declared.ids.ModuleId.{ModuleId}
use Rattle.hir_store.specs.declared.name.Name.TheVariants as name
use Rattle.hir_env.specs.ResolvedTree as tree
use Rattle.hir_env.specs.ResolvedTree.{Expr, Label, OptionBlock, OptionExpr, OptionPat, OptionType, Target}
use Rattle.hir_env.specs.Answering as of
use Rattle.hir_env.specs.Answers.{Answers}
use Rattle.hir_env.specs.Calls.{append, lacking_call, nothing, stmts_of, times, value_or_none}
use Rattle.hir_env.specs.Folds as read
use Rattle.hir_env.specs.Folds.{entering}
use Rattle.hir_env.specs.Layers.{BlockExprLayer, Defined, ElseBranchLayer, ExprKindLayer, ExprReading, MatchArmLayer}
use Rattle.hir_env.specs.Layers.{RecordExprFieldLayer, RecordExprFieldListLayer, Spliced, StmtKindLayer, StmtReading, itself, written}
use Rattle.hir_env.specs.NodeMap.{Site}
use Rattle.hir_env.specs.Paths as of_types
use Rattle.hir_env.specs.ResolveCtx.{in_file, ptr, site_of}
use Rattle.hir_env.specs.Targets.{resolves, target_of}
use Rattle.hir_env.specs.declared.ctx.LoweringMode.{LoweringMode}
use Rattle.hir_env.specs.declared.ctx.LoweringMode.TheVariants as mode
use Rattle.hir_env.specs.declared.ctx.LowerCtx.{LowerCtx}
use Rattle.hir_env.proofs.Mapped.{beside}
use Rattle.hir_env.proofs.Mapped.{mapped_else, mapped_kind, mapped_stmt_kind, mapped_block, mapped_field, mapped_record, mapped_arm}
use Rattle.thm_frame.specs.Items as item
use Rattle.thm_frame.specs.Questions.{Question, of_legacy_macro, of_macro_def}
use Rattle.spec_fold.specs.Folds.{with_made}
use Rattle.spec_fold.proofs.Maps.{Maps, map_arm, map_block, map_else_branch, map_expr_kind, map_field, map_field_list, map_stmt_kind}
use Rattle.spec_fold.proofs.Maps.{drop_claims}
use Rattle.thm_questions.specs.Asked as asked
use Rattle.thm_questions.specs.Areas.{AllThere, NodeArea}
use Rattle.thm_questions.specs.Lists.{entered_calls}
use Rattle.thm_questions.specs.Nodes as node
use Rattle.thm_questions.specs.Parts.{of_option}
use Rattle.thm_questions.proofs.Asks.{block_asked, cfg_asked, hygiene_asked, item_asked, jump_by, label_by, pred_asked}
use Rattle.thm_questions.proofs.Called.{expr_called, splice_called}
use Rattle.thm_questions.proofs.Claims.{Below, OfExpr, OfStmt, claimed, claims, in_asked, in_nodes, lst, opt}
use Rattle.thm_questions.proofs.Framing.{At, also, as_listed, ask, first_there, four, go_on, no_node, none, of_these, one}
use Rattle.thm_questions.proofs.Framing.{rest_there, still, three, two}
use Rattle.thm_questions.proofs.ItemForms.{for_items_by, question_items_by, range_by}
use Rattle.thm_questions.proofs.Parts.{answer_by, arg_list_by, arms_by, asked_by, closure_params_by, else_by, expr_by, exprs_by}
use Rattle.thm_questions.proofs.Parts.{fields_by, guard_by, let_else_by, pat_by, path_by, plain_by, record_by, spread_by, type_by}
use Rattle.thm_questions.proofs.TargetForms.{target_by}

abbrev label_with : LowerCtx → AstLabel → HygieneId → Label
label_with p l h = record { pointer = in_file p (ptr l.id l.range); name = of.label_name l.lifetime; hygiene = h }

abbrev held_with : Option (BlockId × ModuleId) → of.Contents → of.Held
held_with number c = record { number = option_map (λ n. n.0) number; stmts = c.0; last = c.1 }

abbrev with_target : OptionExpr → Target → OptionExpr × Target
with_target e t = (e, t)

abbrev assign_with : Pointer → OptionExpr × Target → OptionExpr → Expr
assign_with s t v = tree.assign_expr s t.0 t.1 v

module _ (a : Answers) (area : NodeArea a) (n : ℕ) (below : Below a area n) where
  abbrev bare : Maps (claimed a area n) written
  bare = drop_claims (claims a area n)

  abbrev asking : Maps written (with_made asked.asking)
  asking = in_asked a n

  -- the number of a block, whose module is in the area

  numbered_from : (m : LoweringMode) (p : LowerCtx) (id : NodeId)
      → At area p (id ∷ []) (λ b. of.numbered b (record p { mode = m }) id) (asked.of_number (record p { mode = m }) id)
  numbered_from mode.Analysis p id = block_asked a area id
  numbered_from mode.Untracked p id = none None

  numbered_by : (p : LowerCtx) (id : NodeId) → At area p (id ∷ []) (λ b. of.numbered b p id) (asked.of_number p id)
  numbered_by p id = numbered_from p.mode p id

  inside_by : (m : ModuleId) (s : Site) (x : Option (BlockId × ModuleId)) → area.node s ≡ true → area.inside m ≡ true
      → a.block s m ≡ x → area.inside (of.module_or x m) ≡ true
  inside_by m s None k i e = i
  inside_by m s (Some number) k i e = area.blocks s m number k i e

  inside_as : (m : LoweringMode) (p : LowerCtx) (id : NodeId) → area.inside p.module_id ≡ true
      → area.node (record { file_id = p.file_id; value = id }) ≡ true
      → area.inside (of.module_or (of.numbered a (record p { mode = m }) id) p.module_id) ≡ true
  inside_as mode.Analysis p id i k =
      inside_by p.module_id (asked.own_site p id) (a.block (asked.own_site p id) p.module_id) k i refl
  inside_as mode.Untracked p id i k = i

  inside_here : (p : LowerCtx) (id : NodeId) → area.inside p.module_id ≡ true
      → area.node (record { file_id = p.file_id; value = id }) ≡ true
      → area.inside (of.module_or (of.numbered a p id) p.module_id) ≡ true
  inside_here p id i k = inside_as p.mode p id i k

  -- what is in a block

  abbrev leaves : AstStmt × (LowerCtx → Defined → List Question) → LowerCtx → Defined → Defined
  leaves s = asked.behind a n s.0

  abbrev stmt_of : AstStmt × (LowerCtx → Defined → StmtReading) → LowerCtx → Defined → StmtReading
  stmt_of y = y.1

  abbrev value_of : AstExpr × ExprReading → LowerCtx → Defined → Spliced
  value_of y = y.1.value

  stmts_by : (ss : List ((s : AstStmt) × OfStmt a area n s)) (p : LowerCtx) (d : Defined)
      → At area p (node.each (lst in_nodes.stmt ss))
      (λ b. stmts_of stmt_of value_of (lst (beside (read.fold_stmt b (entering b n))) ss) p d)
      (asked.of_stmts a (λ y. y.1) leaves (lst asking.stmt ss) p d)
  stmts_by [] p d = still (record { stmts = tree.no_stmts; defined = d })
  stmts_by (s ∷ ss) p d = go_on
      (λ b r. let rest = stmts_of stmt_of value_of (lst (beside (read.fold_stmt b (entering b n))) ss) p r.defined in
      record { stmts = append r.stmts rest.stmts; defined = rest.defined })
      (s.1 p d)
      (one (λ rest. record { stmts = append (read.fold_stmt a (entering a n) s.0 p d).stmts rest.stmts; defined = rest.defined })
      (stmts_by ss p (read.fold_stmt a (entering a n) s.0 p d).defined))

  value_by : (e : Option ((x : AstExpr) × OfExpr a area n x)) (p : LowerCtx) (d : Defined)
      → At area p (node.some (opt in_nodes.expr e))
      (λ b. value_or_none stmt_of value_of (opt (beside (read.fold_expr b (entering b n))) e) p d)
      (of_option (λ y. y.1.value p d) (opt asking.expr e))
  value_by None p d = still (nothing d)
  value_by (Some e) p d = e.1.value p d

  left_is : (ss : List ((s : AstStmt) × OfStmt a area n s)) (p : LowerCtx) (d : Defined)
      → asked.left_off a leaves (lst asking.stmt ss) p d
      ≡ (stmts_of stmt_of value_of (lst (beside (read.fold_stmt a (entering a n))) ss) p d).defined
  left_is [] p d = refl
  left_is (s ∷ ss) p d = left_is ss p (read.fold_stmt a (entering a n) s.0 p d).defined

  contents_by : (ss : List ((s : AstStmt) × OfStmt a area n s)) (e : Option ((x : AstExpr) × OfExpr a area n x)) (p : LowerCtx)
      → At area p (node.each (lst in_nodes.stmt ss) ++ node.some (opt in_nodes.expr e))
      (λ b. of.contents_of stmt_of value_of (lst (beside (read.fold_stmt b (entering b n))) ss)
      (opt (beside (read.fold_expr b (entering b n))) e) p)
      (asked.of_stmts a (λ y. y.1) leaves (lst asking.stmt ss) p []
      ++ of_option (λ y. y.1.value p (asked.left_off a leaves (lst asking.stmt ss) p [])) (opt asking.expr e))
  contents_by ss e p = go_on
      (λ b r. let t = value_or_none stmt_of value_of (opt (beside (read.fold_expr b (entering b n))) e) p r.defined in
      (append r.stmts t.stmts, t.last))
      (stmts_by ss p [])
      (as_listed (ap (λ d. of_option (λ y. y.1.value p d) (opt asking.expr e)) (left_is ss p []))
      (one (λ t. (
        append (stmts_of stmt_of value_of (lst (beside (read.fold_stmt a (entering a n))) ss) p []).stmts t.stmts,
        t.last,
      ))
      (value_by e p _)))

  -- the nodes of a block: its own, its label's, its type's, and those in it

  abbrev block_nodes : BlockExprLayer (claimed a area n) → List NodeId
  block_nodes y = node.block_nodes (map_block in_nodes (map_block bare y))

  abbrev in_label : BlockExprLayer (claimed a area n) → List NodeId
  in_label y = node.label_node y.label

  abbrev in_type : BlockExprLayer (claimed a area n) → List NodeId
  in_type y = node.some (opt in_nodes.type y.ty)

  abbrev in_it : BlockExprLayer (claimed a area n) → List NodeId
  in_it y = node.each (lst in_nodes.stmt y.stmts) ++ node.some (opt in_nodes.expr y.tail)

  label_there : (y : BlockExprLayer (claimed a area n)) (f : HirFileId) → AllThere area f (block_nodes y) → AllThere area f (in_label y)
  label_there y f h = first_there area f (in_label y) (in_type y ++ in_it y) h.1

  type_there : (y : BlockExprLayer (claimed a area n)) (f : HirFileId) → AllThere area f (block_nodes y) → AllThere area f (in_type y)
  type_there y f h = first_there area f (in_type y) (in_it y) (rest_there area f (in_label y) (in_type y ++ in_it y) h.1)

  it_there : (y : BlockExprLayer (claimed a area n)) (f : HirFileId) → AllThere area f (block_nodes y) → AllThere area f (in_it y)
  it_there y f h = rest_there area f (in_type y) (in_it y) (rest_there area f (in_label y) (in_type y ++ in_it y) h.1)

  -- with the number of the block, in whose module it is read
  held_by : (y : BlockExprLayer (claimed a area n)) (p : LowerCtx)
      → At area p (block_nodes y)
      (λ b. of.held_at b (itself (entering b n)) (mapped_block b (entering b n) (map_block bare y)) p)
      (asked.held_asked a n (entered_calls a n) (map_block asking (map_block bare y)) p)
  held_by y p = also
      (λ b number. held_with number
      (of.contents_of stmt_of value_of (lst (beside (read.fold_stmt b (entering b n))) y.stmts)
      (opt (beside (read.fold_expr b (entering b n))) y.tail) (of.inside number p)))
      (of_these (λ i h. (i, (h.0, tt))) (numbered_by p y.id))
      (of_these (λ i h. (inside_here p y.id i h.0, it_there y p.file_id h))
      (one (held_with (of.numbered a p y.id)) (contents_by y.stmts y.tail (of.inside (of.numbered a p y.id) p))))

  -- blocks

  coroutine_by : (kind : CoroutineKind) (y : BlockExprLayer (claimed a area n)) (p : LowerCtx)
      → At area p (block_nodes y)
      (λ b. of.coroutine_at b (itself (entering b n)) kind (mapped_block b (entering b n) (map_block bare y)) p)
      (asked.held_asked a n (entered_calls a n) (map_block asking (map_block bare y)) p)
  coroutine_by kind y p = one (of.coroutine_holding (in_file p (ptr y.id y.range)) kind y.move_) (held_by y p)

  head_by : (l : Option AstLabel) (p : LowerCtx)
      → At area p (node.label_node l)
      (λ b. of.labelled_head (option_map (of.label_of b p) l) (of.label_written b p l)) (asked.of_label p l)
  head_by None p = still of.plain_head
  head_by (Some l) p = one (λ h. of.labelled_head (Some (label_with p l h)) (of.label_name_written l.lifetime)) (label_by a area p l)

  own_by : (m : Option BlockModifier) (y : BlockExprLayer (claimed a area n)) (p : LowerCtx)
      → At area p (block_nodes y)
      (λ b. of.own_block b (itself (entering b n)) m (mapped_block b (entering b n) (map_block bare y)) p)
      (asked.own_block_asked a n (entered_calls a n) m (map_block asking (map_block bare y)) p)
  own_by None y p = also (λ b head. tree.block_expr (of.block_holding (in_file p (ptr y.id y.range)) head
      (of.held_at b (itself (entering b n)) (mapped_block b (entering b n) (map_block bare y)) p)))
      (of_these (λ i h. (i, label_there y p.file_id h)) (head_by y.label p))
      (one (λ held. tree.block_expr (of.block_holding (in_file p (ptr y.id y.range))
      (of.labelled_head (option_map (of.label_of a p) y.label) (of.label_written a p y.label)) held)) (held_by y p))
  own_by (Some modifier.Unsafe) y p =
      one (λ held. tree.block_expr (of.block_holding (in_file p (ptr y.id y.range)) of.unsafe_head held)) (held_by y p)
  own_by (Some modifier.Try) y p = two {Y = OptionType × of.Held} (λ item x. of.try_holding (in_file p (ptr y.id y.range)) item x.0 x.1)
      (item_asked a area item.try_trait_from_output)
      (also (λ b t. (t, of.held_at b (itself (entering b n)) (mapped_block b (entering b n) (map_block bare y)) p))
      (of_these (λ i h. (i, type_there y p.file_id h)) (type_by a area n y.ty p))
      (one (λ held. (of_types.type_or_none (λ y. y.1) (opt (beside (read.fold_type a (entering a n))) y.ty) p, held)) (held_by y p)))
  own_by (Some modifier.Const) y p = let q = of_types.inside_const_block p in
      one (λ held. of.const_of (in_file p (ptr y.id y.range)) (of.block_holding (in_file q (ptr y.id y.range)) of.plain_head held))
      (held_by y q)
  own_by (Some modifier.Async) y p = coroutine_by coroutine.Async y (of_types.inside_coroutine coroutine.Async p)
  own_by (Some modifier.Gen) y p = coroutine_by coroutine.Gen y (of_types.inside_coroutine coroutine.Gen p)
  own_by (Some modifier.AsyncGen) y p = coroutine_by coroutine.AsyncGen y (of_types.inside_coroutine coroutine.AsyncGen p)

  pub plain_block_by : (y : BlockExprLayer (claimed a area n)) (p : LowerCtx)
      → At area p (block_nodes y)
      (λ b. (of.block_step b (itself (entering b n)) (mapped_block b (entering b n) (map_block bare y))).plain p)
      (asked.held_asked a n (entered_calls a n) (map_block asking (map_block bare y)) p)
  plain_block_by y p = one (of.block_holding (in_file p (ptr y.id y.range)) of.plain_head) (held_by y p)

  pub own_block_by : (y : BlockExprLayer (claimed a area n)) (p : LowerCtx)
      → At area p (block_nodes y)
      (λ b. (of.block_step b (itself (entering b n)) (mapped_block b (entering b n) (map_block bare y))).own p)
      (asked.own_block_asked a n (entered_calls a n) y.mod_ (map_block asking (map_block bare y)) p)
  own_block_by y p = own_by y.mod_ y p

  pub asked_block_by : (y : BlockExprLayer (claimed a area n)) (p : LowerCtx)
      → At area p (block_nodes y)
      (λ b. (of.block_step b (itself (entering b n)) (mapped_block b (entering b n) (map_block bare y))).asked p)
      (asked.own_cfg p y.id ∷ asked.own_block_asked a n (entered_calls a n) y.mod_ (map_block asking (map_block bare y)) p)
  asked_block_by y p = let s = in_file p (ptr y.id y.range) in
      also (λ b c. of.asked s c (of.own_block b (itself (entering b n)) y.mod_ (mapped_block b (entering b n) (map_block bare y)) p))
      (of_these (λ i h. (i, (h.0, tt))) (cfg_asked a area y.id)) (one (of.asked s (a.cfg (site_of s))) (own_by y.mod_ y p))

  -- operators

  assigned_by : (s : Pointer) (p : LowerCtx) (x : Option ((e : AstExpr) × OfExpr a area n e))
      → At area p (node.some (opt in_nodes.expr x))
      (λ b. with_target (of_types.expr_or_none (λ y. y.1.expr) (opt (beside (read.fold_expr b (entering b n))) x) p)
      (target_of (resolves b p) (of_types.expr_or_none (λ y. y.1.expr) (opt (beside (read.fold_expr b (entering b n))) x) p)))
      (asked.left_asked a n (entered_calls a n) (Some op.Assign) (opt asking.expr x) p)
  assigned_by s p None = still (with_target tree.no_expr (tree.absent_target None))
  assigned_by s p (Some x) = let e = tree.some_expr ((read.fold_expr a (entering a n) x.0).expr p) in
      also (λ b e. with_target e (target_of (resolves b p) e)) (expr_by a area n (Some x) p)
      (one (with_target e) (no_node (target_by a area p e)))

  bin_by : (s : Pointer) (p : LowerCtx) (o : Option BinaryOp) (x y : Option ((e : AstExpr) × OfExpr a area n e))
      → At area p (node.some (opt in_nodes.expr x) ++ node.some (opt in_nodes.expr y))
      (λ b. of.bin_expr (resolves b p) s o (of_types.expr_or_none (λ y. y.1.expr) (opt (beside (read.fold_expr b (entering b n))) x) p)
      (of_types.expr_or_none (λ y. y.1.expr) (opt (beside (read.fold_expr b (entering b n))) y) p))
      (asked.left_asked a n (entered_calls a n) o (opt asking.expr x) p ++ asked.some_expr (opt asking.expr y) p)
  bin_by s p (Some (op.LogicOp o)) x y = two (tree.lazy_expr s o) (expr_by a area n x p) (expr_by a area n y p)
  bin_by s p (Some op.Assign) x y = two (assign_with s) (assigned_by s p x) (expr_by a area n y p)
  bin_by s p o x y = two (tree.binary_expr s (tree.operator o)) (expr_by a area n x p) (expr_by a area n y p)

  -- expressions

  at_by : (y : ExprKindLayer (claimed a area n)) (p : LowerCtx) (at : AstPtr)
      → At area p (node.expr_nodes (map_expr_kind in_nodes (map_expr_kind bare y)) at.node)
      (λ b. of.expr_at b (itself (entering b n)) (mapped_kind b (entering b n) (map_expr_kind bare y)) p (in_file p at))
      (asked.expr_asked a n (entered_calls a n) (map_expr_kind asking (map_expr_kind bare y)) at p)
  at_by (ExprKind-F.IfExpr c t e) p at =
      three (tree.if_expr (in_file p at)) (expr_by a area n c p) (plain_by a area n t p) (else_by a area n e p)
  at_by (ExprKind-F.BlockExpr x) p at = x.1.own p
  at_by (ExprKind-F.LoopExpr None x) p at = one (tree.loop_expr (in_file p at) None tt) (plain_by a area n x p)
  at_by (ExprKind-F.LoopExpr (Some l) x) p at =
      two (λ h x. tree.loop_expr (in_file p at) (Some (label_with p l h)) (of.label_name_written l.lifetime) x) (label_by a area p l)
      (plain_by a area n x p)
  at_by (ExprKind-F.WhileExpr None c x) p at =
      two (tree.while_expr (in_file p at) None tt) (expr_by a area n c p) (plain_by a area n x p)
  at_by (ExprKind-F.WhileExpr (Some l) c x) p at =
      three (λ h c x. tree.while_expr (in_file p at) (Some (label_with p l h)) (of.label_name_written l.lifetime) c x)
      (label_by a area p l) (expr_by a area n c p) (plain_by a area n x p)
  at_by (ExprKind-F.ForExpr None q e x) p at =
      four (λ i q e x. of.for_of i (in_file p at) None tt q e x)
      (for_items_by a area) (pat_by a area n q p) (expr_by a area n e p) (asked_by a area n x p)
  at_by (ExprKind-F.ForExpr (Some l) q e x) p at =
      two {Y = HygieneId × (OptionPat × (OptionExpr × OptionExpr))} (λ i y. of.for_of i (in_file p at)
      (Some (label_with p l y.0)) (of.label_name_written l.lifetime) y.1.0 y.1.1.0 y.1.1.1)
      (for_items_by a area) (four (λ h q e x. (h, (q, (e, x))))
      (label_by a area p l) (pat_by a area n q p) (expr_by a area n e p) (asked_by a area n x p))
  at_by (ExprKind-F.TryExpr e) p at =
      two (λ i e. of.question_of i (in_file p at) e) (question_items_by a area) (expr_by a area n e p)
  at_by (ExprKind-F.CallExpr f None) p at =
      two (λ f es. tree.call_expr (in_file p at) f false es) (expr_by a area n f p) (still tree.no_exprs)
  at_by (ExprKind-F.CallExpr f (Some es)) p at =
      two (λ f es. tree.call_expr (in_file p at) f true es) (expr_by a area n f p) (exprs_by a area n es p)
  at_by (ExprKind-F.PathExpr x) p at = two (tree.path_expr (in_file p at)) (path_by a area n x p) (hygiene_asked a area at.node)
  at_by (ExprKind-F.ContinueExpr l) p at = one (tree.continue_expr (in_file p at)) (jump_by a area p l)
  at_by (ExprKind-F.BreakExpr l e) p at = two (tree.break_expr (in_file p at)) (jump_by a area p l) (expr_by a area n e p)
  at_by (ExprKind-F.ParenExpr e) p at = one (tree.paren_expr (in_file p at)) (expr_by a area n e p)
  at_by (ExprKind-F.Literal l) p at = still (tree.literal_expr (in_file p at) l)
  at_by (ExprKind-F.MethodCallExpr e m as' None) p at =
      two (λ e xs. tree.method_call_expr (in_file p at) e (of.name_or_missing m) tree.no_exprs xs) (expr_by a area n e p)
      (arg_list_by a area n as' p)
  at_by (ExprKind-F.MethodCallExpr e m as' (Some es)) p at =
      three (λ e es xs. tree.method_call_expr (in_file p at) e (of.name_or_missing m) es xs)
      (expr_by a area n e p) (exprs_by a area n es p) (arg_list_by a area n as' p)
  at_by (ExprKind-F.FieldExpr e m) p at = one (tree.unary_expr (in_file p at) (tree.field_of (of.name_or_missing m))) (expr_by a area n e p)
  at_by (ExprKind-F.PrefixExpr o e) p at = one (of.prefix_expr (in_file p at) o) (expr_by a area n e p)
  at_by (ExprKind-F.BinExpr o x y) p at = bin_by (in_file p at) p o x y
  at_by (ExprKind-F.IndexExpr x y) p at =
      two (tree.binary_expr (in_file p at) tree.index_of) (expr_by a area n x p) (expr_by a area n y p)
  at_by (ExprKind-F.RefExpr r m e) p at =
      one (tree.unary_expr (in_file p at) (tree.reference_to (of.rawness r) (of.mutability m))) (expr_by a area n e p)
  at_by (ExprKind-F.TupleExpr comma es) p at = one (tree.list_expr (in_file p at) (tree.tuple_of comma)) (exprs_by a area n es p)
  at_by (ExprKind-F.ArrayExpr es) p at = one (tree.list_expr (in_file p at) tree.array_of) (exprs_by a area n es p)
  at_by (ExprKind-F.RepeatExpr e m) p at =
      two (λ e c. tree.repeat_expr (in_file p at) e (tree.constant c)) (expr_by a area n e p)
      (expr_by a area n m (of_types.inside_constant p))
  at_by (ExprKind-F.ClosureExpr ps r e is_async is_gen moves is_static) p at =
      three (of.closure_of (of.coroutine_kind is_async is_gen) (in_file p at) moves is_static) (closure_params_by a area n ps p)
      (answer_by a area n r p) (expr_by a area n e (of_types.inside_closure is_async p))
  at_by (ExprKind-F.ReturnExpr e) p at = one (tree.leaving_expr (in_file p at) tree.returning) (expr_by a area n e p)
  at_by (ExprKind-F.BecomeExpr e) p at = one (tree.become_expr (in_file p at)) (expr_by a area n e p)
  at_by (ExprKind-F.YieldExpr e) p at = one (tree.yield_expr (in_file p at)) (expr_by a area n e p)
  at_by (ExprKind-F.YeetExpr e) p at = one (tree.leaving_expr (in_file p at) tree.yeeting) (expr_by a area n e p)
  at_by (ExprKind-F.AwaitExpr e) p at = one (tree.await_expr (in_file p at) p.await_location) (expr_by a area n e p)
  at_by (ExprKind-F.CastExpr e t) p at = two (tree.cast_expr (in_file p at)) (expr_by a area n e p) (type_by a area n t p)
  at_by (ExprKind-F.RecordExpr x l) p at =
      two (λ x r. tree.record_expr (in_file p at) x r.head r.fields r.spread) (path_by a area n x p) (record_by a area n l p)
  at_by (ExprKind-F.OffsetOfExpr t ns) p at = one (λ t. tree.offset_of_expr (in_file p at) t (of.names_of ns)) (type_by a area n t p)
  at_by (ExprKind-F.CfgPredExpr pred) p at = one (λ x. tree.literal_expr (in_file p at) (of.truth x)) (pred_asked a area pred)
  at_by (ExprKind-F.LetExpr x e) p at = two (tree.let_expr (in_file p at)) (pat_by a area n x p) (expr_by a area n e p)
  at_by (ExprKind-F.MatchExpr e None) p at = two (tree.match_expr (in_file p at)) (expr_by a area n e p) (still tree.no_arms)
  at_by (ExprKind-F.MatchExpr e (Some xs)) p at = two (tree.match_expr (in_file p at)) (expr_by a area n e p) (arms_by a area n xs p)
  at_by (ExprKind-F.RangeExpr o None None) p at =
      one (λ r. tree.range_expr (in_file p at) r tree.no_expr tree.no_expr) (range_by a area o false false)
  at_by (ExprKind-F.RangeExpr o None (Some y)) p at =
      two (λ r y. tree.range_expr (in_file p at) r tree.no_expr (tree.some_expr y)) (range_by a area o false true) (y.1.expr p)
  at_by (ExprKind-F.RangeExpr o (Some x) None) p at =
      three (λ r x y. tree.range_expr (in_file p at) r (tree.some_expr x) y)
      (range_by a area o true false) (x.1.expr p) (still tree.no_expr)
  at_by (ExprKind-F.RangeExpr o (Some x) (Some y)) p at =
      three (λ r x y. tree.range_expr (in_file p at) r (tree.some_expr x) (tree.some_expr y))
      (range_by a area o true true) (x.1.expr p) (y.1.expr p)
  at_by (ExprKind-F.MacroExpr None) p at = still (lacking_call (in_file p at))
  at_by (ExprKind-F.MacroExpr (Some c)) p at = expr_called a area n below c.0 p (in_file p at)
  at_by ExprKind-F.UnderscoreExpr p at = still (tree.leaf_expr (in_file p at) tree.underscore)
  at_by ExprKind-F.IncludeBytesExpr p at = still (tree.leaf_expr (in_file p at) tree.include_bytes)
  at_by ExprKind-F.AsmExpr p at = still (tree.leaf_expr (in_file p at) tree.left_out)
  at_by ExprKind-F.FormatArgsExpr p at = still (tree.leaf_expr (in_file p at) tree.left_out)

  pub kind_by : (y : ExprKindLayer (claimed a area n)) (s : AstPtr) (p : LowerCtx)
      → At area p (s.node ∷ node.expr_nodes (map_expr_kind in_nodes (map_expr_kind bare y)) s.node)
      (λ b. of.expr_kind b (itself (entering b n)) (mapped_kind b (entering b n) (map_expr_kind bare y)) s p)
      (asked.kind_asked a n (entered_calls a n) (map_expr_kind asking (map_expr_kind bare y)) s p)
  kind_by y s p = two (of.asked (in_file p s)) (cfg_asked a area s.node) (at_by y p s)

  -- in statement or tail place
  pub value_kind_by : (y : ExprKindLayer (claimed a area n)) (s : AstPtr) (p : LowerCtx) (d : Defined)
      → At area p (s.node ∷ node.expr_nodes (map_expr_kind in_nodes (map_expr_kind bare y)) s.node)
      (λ b. of.value_kind b (itself (entering b n)) (mapped_kind b (entering b n) (map_expr_kind bare y)) s p d)
      (asked.value_asked a n (entered_calls a n) (map_expr_kind asking (map_expr_kind bare y)) s p d)
  value_kind_by (ExprKind-F.MacroExpr None) s p d = one (λ c. of.asked_splice (in_file p s) c (nothing d) d) (cfg_asked a area s.node)
  value_kind_by (ExprKind-F.MacroExpr (Some c)) s p d = let at = in_file p s in
      two (λ c r. of.asked_splice at c r d) (cfg_asked a area s.node) (splice_called a area n below c.0 p at d)
  value_kind_by y s p d = one (λ e. of.whole_value e d) (kind_by y s p)

  pub else_level_by : (y : ElseBranchLayer (claimed a area n)) (p : LowerCtx)
      → At area p (node.else_nodes (map_else_branch in_nodes (map_else_branch bare y)))
      (λ b. of.else_branch b (itself (entering b n)) (mapped_else b (entering b n) (map_else_branch bare y)) p)
      (asked.else_asked a n (entered_calls a n) (map_else_branch asking (map_else_branch bare y)) p)
  else_level_by (ElseBranch-F.ElseBlock x) p = one tree.block_expr (x.1.plain p)
  else_level_by (ElseBranch-F.ElseIf e) p = e.1.expr p

  pub field_by : (y : RecordExprFieldLayer (claimed a area n)) (p : LowerCtx)
      → At area p (node.node_steps.field (map_field in_nodes (map_field bare y)))
      (λ b. of.field_step b (itself (entering b n)) (mapped_field b (entering b n) (map_field bare y)) p)
      ((asked.asking_steps a n (entered_calls a n)).field (map_field asking (map_field bare y)) p)
  field_by y p = let s = in_file p (ptr y.id y.range) in
      two (λ c e. of.asked_field s c (of.field_of s y.name e)) (cfg_asked a area y.id) (expr_by a area n y.expr p)

  pub record_level_by : (y : RecordExprFieldListLayer (claimed a area n)) (p : LowerCtx)
      → At area p (node.node_steps.field_list (map_field_list in_nodes (map_field_list bare y)))
      (λ b. of.record_step b (itself (entering b n)) (mapped_record b (entering b n) (map_field_list bare y)) p)
      ((asked.asking_steps a n (entered_calls a n)).field_list (map_field_list asking (map_field_list bare y)) p)
  record_level_by y p = two (λ fs s. record { head = of.list_with y.dotdot; fields = fs; spread = s })
      (fields_by a area n y.fields p) (spread_by a area n y.spread y.dotdot p)

  pub arm_by : (y : MatchArmLayer (claimed a area n)) (p : LowerCtx)
      → At area p (node.node_steps.arm (map_arm in_nodes (map_arm bare y)))
      (λ b. of.arm_step b (itself (entering b n)) (mapped_arm b (entering b n) (map_arm bare y)) p)
      ((asked.asking_steps a n (entered_calls a n)).arm (map_arm asking (map_arm bare y)) p)
  arm_by y p = let s = in_file p (ptr y.id y.range) in
      four (λ c q e g. of.asked_arm s c (tree.arm q e g))
      (cfg_asked a area y.id) (pat_by a area n y.pat p) (expr_by a area n y.expr p) (guard_by a area n y.guard p)

  -- statements

  def_by : (p : LowerCtx) (x : Option AstName)
      → At area p [] (λ b. of.def_named b p x) (of_option (λ m. of_macro_def p.module_id (name.Text m.t) ∷ []) x)
  def_by p None = still None
  def_by p (Some m) = ask [] (λ b. of.def_named b p (Some m)) (of_macro_def p.module_id (name.Text m.t)) (λ i h. i) (λ b h. h.0)

  rules_by : (p : LowerCtx) (x : Option AstName) (d : Defined)
      → At area p [] (λ b. of.rules_named b p x d) (asked.of_rules a n (entered_calls a n) x p d)
  rules_by p None d = still _
  rules_by p (Some m) d = let k = times (name.Text m.t) d in
      one (λ r. of.alone (tree.macro_stmt k r) (name.Text m.t ∷ d))
      (ask [] (λ b. b.legacy_macro p.module_id (name.Text m.t) k) (of_legacy_macro p.module_id (name.Text m.t) k) (λ i h. i) (λ b h. h.0))

  pub stmt_kind_by : (y : StmtKindLayer (claimed a area n)) (s : AstPtr) (p : LowerCtx) (d : Defined)
      → At area p (node.stmt_nodes (map_stmt_kind in_nodes (map_stmt_kind bare y)) s.node)
      (λ b. of.stmt_kind b (itself (entering b n)) (mapped_stmt_kind b (entering b n) (map_stmt_kind bare y)) s p d)
      (asked.stmt_asked a n (entered_calls a n) (map_stmt_kind asking (map_stmt_kind bare y)) s p d)
  stmt_kind_by (StmtKind-F.LetStmt x t e y) s p d =
      two {Y = OptionPat × (OptionType × (OptionExpr × OptionBlock))} (λ c z. of.alone
      (of.asked_stmt (in_file p s) c (tree.let_stmt z.0 z.1.0 z.1.1.0 z.1.1.1)) d) (cfg_asked a area s.node)
      (four (λ q t e y. (q, (t, (e, y)))) (pat_by a area n x p) (type_by a area n t p) (expr_by a area n e p) (let_else_by a area n y p))
  stmt_kind_by (StmtKind-F.ExprStmt e semi) s p d = one (of.ended semi) (value_by e p d)
  stmt_kind_by (StmtKind-F.MacroRules x) s p d = two (λ c r. of.asked_rules (in_file p s) c r d) (cfg_asked a area s.node) (rules_by p x d)
  stmt_kind_by (StmtKind-F.MacroDef x) s p d =
      two (λ c m. of.alone (of.asked_stmt (in_file p s) c (tree.macro_stmt 0 m)) d) (cfg_asked a area s.node) (def_by p x)
  stmt_kind_by StmtKind-F.Item s p d = still (of.alone tree.item_stmt d)
