-- What reading one level of a tree asks of an environment, with what its parts ask.
use Rattle.std.specs.Prelude.{ℕ, List, [], ◌∷◌, ◌++◌, Bool, true, false, if◌then◌else◌, bytes_eq, codes}
use Rattle.std.specs.Prelude.{Option, Some, None, is_some}
use Rattle.hir_base.specs.declared.node.AstPtr.{AstPtr}
use Rattle.hir_base.specs.declared.node.NodeId.{NodeId}
use Rattle.hir_base.specs.declared.op.BinaryOp.{BinaryOp}
use Rattle.hir_base.specs.declared.op.BinaryOp.TheVariants as op
use Rattle.hir_syntax.specs.declared.ast.BlockModifier.{BlockModifier}
use Rattle.hir_syntax.specs.declared.ast.BlockModifier.TheVariants as modifier
use Rattle.hir_syntax.specs.declared.ast.ElseBranch.TheOpen.{ElseBranch-F, ExprKind-F, StmtKind-F, PatKind-F, GenericArg-F, TypeKind-F}
use Rattle.hir_syntax.specs.declared.ast.Expr.{Expr as AstExpr}
use Rattle.hir_syntax.specs.declared.ast.Label.{Label as AstLabel}
use Rattle.hir_syntax.specs.declared.ast.Lifetime.{Lifetime as AstLifetime}
use Rattle.hir_syntax.specs.declared.ast.Name.{Name as AstName}
use Rattle.hir_syntax.specs.declared.ast.Path.{Path as AstPath}
use Rattle.hir_syntax.specs.declared.ast.PathSegment.{PathSegment as AstPathSegment, out-PathSegment}
use Rattle.hir_syntax.specs.declared.ast.SegmentKind.{SegmentKind}
use Rattle.hir_syntax.specs.declared.ast.SegmentKind.TheVariants as segment
use Rattle.hir_syntax.specs.declared.ast.Stmt.{Stmt as AstStmt}
use Rattle.hir_syntax.specs.declared.macros.Fragment.TheVariants as fragment
use Rattle.hir_syntax.specs.declared.macros.MacroCall.{MacroCall as AstMacroCall}
use Rattle.hir_syntax.specs.declared.pats.Pat.{Pat as AstPat}
use Rattle.hir_syntax.specs.declared.types.Type_.{Type_ as AstType_}
use Rattle.hir_store.specs.declared.ids.CtxId.{CtxId}
use Rattle.hir_store.specs.declared.ids.ModuleId.{ModuleId}
use Rattle.hir_store.specs.declared.name.Name.TheVariants as name
use Rattle.hir_store.specs.declared.path.ModPath.{ModPath}
use Rattle.hir_env.specs.ResolvedTree as tree
use Rattle.hir_env.specs.ResolvedTree.{Path}
use Rattle.hir_env.specs.Answering.{inside, name_or_missing, numbered}
use Rattle.hir_env.specs.Answers.{Answers, Expanding, expanded}
use Rattle.hir_env.specs.Calls.{asked_call, call_pointer, inside_file, times}
use Rattle.hir_env.specs.Folds.{entering, read_expr, read_pat, read_path, read_stmt}
use Rattle.hir_env.specs.Layers.{BlockExprLayer, Defined, ElseBranchLayer, ExprKindLayer}
use Rattle.hir_env.specs.Layers.{Sorts, StmtKindLayer}
use Rattle.hir_env.specs.NodeMap.{Site}
use Rattle.hir_env.specs.PatLayers.{PatKindLayer, RecordPatFieldLayer}
use Rattle.hir_env.specs.PathNames.{mod_path_of}
use Rattle.hir_env.specs.Paths.{expr_or_none, inside_closure, inside_const_block, inside_constant, inside_coroutine, inside_impl}
use Rattle.hir_env.specs.Paths.{inside_projection, outside_impl, pat_or_none}
use Rattle.hir_env.specs.Pats.{plain_path}
use Rattle.hir_env.specs.ResolveCtx.{in_file, ptr, site_of}
use Rattle.hir_env.specs.TypeLayers.{AssocTypeArgLayer, GenericArgLayer, ParamLayer, PathLayer, PathSegmentLayer}
use Rattle.hir_env.specs.TypeLayers.{TypeKindLayer}
use Rattle.hir_env.specs.declared.expand.FragmentKind.TheVariants as kind
use Rattle.hir_env.specs.declared.ctx.LifetimeScope.{LifetimeScope}
use Rattle.hir_env.specs.declared.ctx.LifetimeScope.TheVariants as scope
use Rattle.hir_env.specs.declared.ctx.LoweringMode.{LoweringMode}
use Rattle.hir_env.specs.declared.ctx.LoweringMode.TheVariants as mode
use Rattle.hir_env.specs.declared.ctx.LowerCtx.{LowerCtx}
use Rattle.hir_env.specs.declared.resolved.Resolution.{Resolution}
use Rattle.hir_env.specs.declared.resolved.Resolution.TheVariants as resolution
use Rattle.hir_env.specs.declared.resolved.BuiltinShadowMode.TheVariants as shadow
use Rattle.hir_store.specs.declared.hir.CoroutineKind.TheVariants as coroutine
use Rattle.thm_frame.specs.Items as item
use Rattle.thm_frame.specs.Questions.{Question, of_alias, of_block, of_cfg, of_cfg_pred, of_context, of_contexts, of_crate_root, of_expand}
use Rattle.thm_frame.specs.Questions.{of_hygiene, of_lang_item, of_legacy_macro, of_local_inner, of_macro_def, of_resolve}
use Rattle.spec_fold.specs.Folds.{Steps, with_made}
use Rattle.thm_questions.specs.Decided.{for_items, of_range, of_target_part, of_type_pat_part, question_items}
use Rattle.thm_questions.specs.Parts.{of_each, of_option, of_present}

-- What is asked at a place: of an expression as such, and in statement or tail place behind these definitions of macros.
pub record ExprAsking : Type 0 where
  pub expr : LowerCtx → List Question
  pub value : LowerCtx → Defined → List Question

pub record KindAsking : Type 0 where
  pub expr : AstPtr → LowerCtx → List Question
  pub value : AstPtr → LowerCtx → Defined → List Question

pub record BlockAsking : Type 0 where
  pub plain : LowerCtx → List Question
  pub own : LowerCtx → List Question
  pub asked : LowerCtx → List Question

-- of a path by itself, which is given again, and as the use tree around another one
pub record PathAsking : Type 0 where
  pub alone : AstPath → LowerCtx → List Question
  pub use_tree : LowerCtx → List Question

abbrev pub asking : Sorts
asking = record {
  ElseBranch = LowerCtx → List Question;
  ExprKind = KindAsking;
  StmtKind = AstPtr → LowerCtx → Defined → List Question;
  PatKind = LowerCtx → List Question;
  GenericArg = LowerCtx → List Question;
  TypeKind = LowerCtx → List Question;
  BlockExpr = BlockAsking;
  Expr = ExprAsking;
  Path = PathAsking;
  PathSegment = LowerCtx → List Question;
  RecordExprField = LowerCtx → List Question;
  RecordExprFieldList = LowerCtx → List Question;
  Stmt = LowerCtx → Defined → List Question;
  MatchArm = LowerCtx → List Question;
  MacroCall = Unit {0};
  Pat = LowerCtx → List Question;
  RecordPatField = LowerCtx → List Question;
  AssocTypeArg = LowerCtx → List Question;
  Param = LowerCtx → List Question;
  PathType = LowerCtx → List Question;
  TypeBound = LowerCtx → List Question;
  Type_ = LowerCtx → List Question;
}

-- what is asked of that which calls stand for, where so many more may be entered
pub record Entered : Type 0 where
  pub left : ℕ
  pub expr : AstExpr → LowerCtx → List Question
  pub value : AstExpr → LowerCtx → Defined → List Question
  pub stmt : AstStmt → LowerCtx → Defined → List Question
  pub pat : AstPat → LowerCtx → List Question
  pub type_ : AstType_ → LowerCtx → List Question

-- parts

module _ {A : Type 0} where
  abbrev pub some : Option (A × (LowerCtx → List Question)) → LowerCtx → List Question
  some x p = of_option (λ y. y.1 p) x

  abbrev pub each : List (A × (LowerCtx → List Question)) → LowerCtx → List Question
  each xs p = of_each (λ y. y.1 p) xs

  abbrev pub some_each : Option (List (A × (LowerCtx → List Question))) → LowerCtx → List Question
  some_each x p = of_option (λ xs. each xs p) x

  abbrev pub some_some : Option (Option (A × (LowerCtx → List Question))) → LowerCtx → List Question
  some_some x p = of_option (λ x. some x p) x

  abbrev pub some_expr : Option (A × ExprAsking) → LowerCtx → List Question
  some_expr x p = of_option (λ y. y.1.expr p) x

  abbrev pub each_expr : List (A × ExprAsking) → LowerCtx → List Question
  each_expr xs p = of_each (λ y. y.1.expr p) xs

  abbrev pub some_plain : Option (A × BlockAsking) → LowerCtx → List Question
  some_plain x p = of_option (λ y. y.1.plain p) x

abbrev pub some_path : Option (AstPath × PathAsking) → LowerCtx → List Question
some_path x p = of_option (λ y. y.1.alone y.0 p) x

-- labels, jumps and names

abbrev pub of_label : LowerCtx → Option AstLabel → List Question
of_label p l = of_option (λ l. of_hygiene (site_of (in_file p (ptr l.id l.range))) ∷ []) l

abbrev pub of_jump : LowerCtx → Option AstLifetime → List Question
of_jump p l = of_option (λ l. of_hygiene (site_of (in_file p (ptr l.id l.range))) ∷ of_contexts ∷ []) l

abbrev pub of_name : LowerCtx → Option AstName → List Question
of_name p n = of_option (λ n. of_hygiene (site_of (in_file p (ptr n.id n.range))) ∷ []) n

-- a node of the file that is read
abbrev pub own_site : LowerCtx → NodeId → Site
own_site p id = record { file_id = p.file_id; value = id }

-- the condition of one
abbrev pub own_cfg : LowerCtx → NodeId → Question
own_cfg p id = of_cfg (own_site p id)

-- the number of a block, where numbers are asked for
abbrev pub of_number : LowerCtx → NodeId → List Question
of_number p id = by p.mode
  where
    by : LoweringMode → List Question
    by mode.Analysis = of_block (own_site p id) p.module_id ∷ []
    by mode.Untracked = []

-- a binding with a parameter list, and one without a name, is skipped
abbrev pub of_binding : Bool → Option AstName → List Question → List Question
of_binding true n parts = []
of_binding false n parts = of_option (λ n. parts) n

module _ (a : Answers) where
  -- paths

  -- the root of the crate that `$crate` stands for
  abbrev pub of_root : LowerCtx → NodeId → List Question
  of_root p id = of_context (own_site p id) ∷ of_crate_root (a.context (own_site p id)) ∷ []

  -- the root where a name begins that stands directly in a call
  abbrev pub of_local_root : CtxId → List Question
  of_local_root c = of_local_inner c ∷ (if a.local_inner c then of_crate_root c ∷ [] else [])

  abbrev pub of_local : Bool → List (Option (AstPathSegment × (LowerCtx → List Question))) → Option (AstPath × PathAsking) → LowerCtx
      → List Question
  of_local true (Some s ∷ []) None p = let at = own_site p (out-PathSegment s.0).id in of_context at ∷ of_local_root (a.context at)
  of_local in_macro ss u p = []

  -- an alias, which is looked for in an argument alone
  abbrev pub of_found : Option Resolution → List Question
  of_found (Some (resolution.TypeAlias n)) = of_alias n ∷ []
  of_found _ = []

  abbrev pub of_alias_in : LifetimeScope → ModuleId → ModPath → List Question
  of_alias_in scope.Input m x = of_resolve m x shadow.Module ∷ of_found (a.resolve m x shadow.Module).types
  of_alias_in _ m x = []

  abbrev pub of_alias_at : LowerCtx → Path → List Question
  of_alias_at p x = of_option (of_alias_in p.lifetimes p.module_id) (mod_path_of (tree.some_path x))

  abbrev pub of_named : LowerCtx → AstName → List Question → List Question
  of_named p n args = if bytes_eq n.t (codes "$crate") then of_root p n.id else args

  -- by its kind: of its arguments, or of what is qualified
  abbrev pub of_segment : LowerCtx → Option SegmentKind → Option AstName → List Question → List Question → List Question
  of_segment p (Some segment.Name) n args qualified = of_option (λ n. of_named p n args) n
  of_segment p (Some segment.Qualified) n args qualified = qualified
  of_segment p _ n args qualified = []

  -- macro calls, where one may be entered

  abbrev pub of_type_in : Entered → LowerCtx → Expanding → List Question
  of_type_in into p (expanded f (Some (fragment.Type_ t)) es) = into.type_ t (inside_file f into.left p)
  of_type_in into p _ = []

  abbrev pub of_pat_in : Entered → LowerCtx → Expanding → List Question
  of_pat_in into p (expanded f (Some (fragment.Pat x)) es) = into.pat x (inside_file f into.left p)
  of_pat_in into p _ = []

  abbrev pub of_expr_in : Entered → LowerCtx → Expanding → List Question
  of_expr_in into p (expanded f (Some (fragment.Expr e)) es) = into.expr e (inside_file f into.left p)
  of_expr_in into p _ = []

  -- the statements, and what stands behind them, where the last of them leaves off
  abbrev pub of_stmts : {A : Type 0} → (A → LowerCtx → Defined → List Question) → (A → LowerCtx → Defined → Defined) → List A → LowerCtx
      → Defined
      → List Question
  of_stmts asked leaves [] p d = []
  of_stmts asked leaves (s ∷ ss) p d = asked s p d ++ of_stmts asked leaves ss p (leaves s p d)

  abbrev pub left_off : {A : Type 0} → (A → LowerCtx → Defined → Defined) → List A → LowerCtx → Defined → Defined
  left_off leaves [] p d = d
  left_off leaves (s ∷ ss) p d = left_off leaves ss p (leaves s p d)

  -- the definitions of macros behind a statement
  abbrev pub behind : ℕ → AstStmt → LowerCtx → Defined → Defined
  behind n s p d = (read_stmt a (entering a n) s p d).defined

  abbrev pub of_splice_in : Entered → LowerCtx → Expanding → Defined → List Question
  of_splice_in into p (expanded f (Some (fragment.Stmts ms)) es) d = let q = inside_file f into.left p in
      of_stmts into.stmt (behind into.left) ms.stmts q d
      ++ of_option (λ e. into.value e q (left_off (behind into.left) ms.stmts q d)) ms.expr
  of_splice_in into p _ d = []

module _ (a : Answers) (n : ℕ) (into : Option Entered) where
  abbrev pub of_type_call : AstMacroCall × Unit {0} → LowerCtx → List Question
  of_type_call c p = of_option
      (λ e. of_expand (site_of (call_pointer p c.0)) c.0 p.module_id kind.Type_ ∷ of_type_in a e p (asked_call a kind.Type_ c.0 p)) into

  abbrev pub of_pat_call : AstMacroCall × Unit {0} → LowerCtx → List Question
  of_pat_call c p = of_option
      (λ e. of_expand (site_of (call_pointer p c.0)) c.0 p.module_id kind.Pat ∷ of_pat_in a e p (asked_call a kind.Pat c.0 p)) into

  abbrev pub of_expr_call : AstMacroCall × Unit {0} → LowerCtx → List Question
  of_expr_call c p = of_option
      (λ e. of_expand (site_of (call_pointer p c.0)) c.0 p.module_id kind.Expr ∷ of_expr_in a e p (asked_call a kind.Expr c.0 p)) into

  abbrev pub of_splice_call : AstMacroCall × Unit {0} → LowerCtx → Defined → List Question
  of_splice_call c p d = of_option
      (λ e. of_expand (site_of (call_pointer p c.0)) c.0 p.module_id kind.Stmts ∷ of_splice_in a e p (asked_call a kind.Stmts c.0 p) d) into

  -- types

  abbrev pub type_asked : TypeKindLayer (with_made asking) → LowerCtx → List Question
  type_asked (TypeKind-F.ParenType t) p = some t p
  type_asked (TypeKind-F.SliceType t) p = some t p
  type_asked (TypeKind-F.ArrayType t c) p = of_option (λ e. some_expr e (inside_constant p)) c ++ some t p
  type_asked (TypeKind-F.TupleType ts) p = each ts p
  type_asked (TypeKind-F.PathType x) p = some_path x p
  type_asked (TypeKind-F.PtrType m t) p = some t p
  type_asked (TypeKind-F.RefType l m t) p = some t p
  type_asked (TypeKind-F.FnPtrType is_unsafe text ps r) p = some_each ps p ++ some_some r p
  type_asked (TypeKind-F.ForType b t) p = some t p
  -- the bounds of one inside of another one aren't read
  type_asked (TypeKind-F.ImplTraitType bs) p = if p.in_impl then [] else each bs (inside_impl p)
  type_asked (TypeKind-F.DynTraitType bs) p = each bs p
  type_asked (TypeKind-F.PatternType t x) p = let q = inside_constant p in
      some t p ++ (some x q ++ of_type_pat_part (pat_or_none (λ y. read_pat a (entering a n) y.0) x q))
  type_asked (TypeKind-F.MacroType c) p = of_option (λ c. of_type_call c p) c
  type_asked _ p = []

  abbrev pub param_asked : ParamLayer (with_made asking) → LowerCtx → List Question
  param_asked x p = own_cfg p x.id ∷ (some x.pat p ++ some x.ty p)

  abbrev pub plain_asked : PathLayer (with_made asking) → LowerCtx → List Question
  plain_asked x p = of_present (λ s. s.1 p) x.segs ++ of_option (λ y. y.1.use_tree p) x.use_

  abbrev pub path_asked : PathLayer (with_made asking) → AstPath → LowerCtx → List Question
  path_asked x itself p =
      (plain_asked x p ++ of_local a x.in_macro x.segs x.use_ p) ++ of_alias_at a p (read_path a (entering a n) itself p)

  -- what is returned counts beside arguments in parentheses alone
  abbrev pub parens_asked : Option (List (Option (AstType_ × (LowerCtx → List Question)))) → List Question → LowerCtx → List Question
  parens_asked x ret p = of_option (λ xs. of_each (λ t. some t p) xs ++ ret) x

  abbrev pub segment_asked : PathSegmentLayer (with_made asking) → LowerCtx → List Question
  segment_asked s p = of_segment a p s.seg s.name (some_each s.generics p ++ parens_asked s.parens (some_some s.ret p) p)
      (some s.ty (inside_projection p) ++ some s.trait_ (inside_projection p))

  abbrev pub arg_asked : GenericArgLayer (with_made asking) → LowerCtx → List Question
  arg_asked (GenericArg-F.TypeArg x) p = some x p
  arg_asked (GenericArg-F.AssocTypeArg x) p = x.1 p
  arg_asked (GenericArg-F.LifetimeArg x) p = []
  arg_asked (GenericArg-F.ConstArg x) p = some_expr x (inside_constant p)

  abbrev pub assoc_arg_asked : AssocTypeArgLayer (with_made asking) → LowerCtx → List Question
  assoc_arg_asked x p = let inner = outside_impl p in
      of_binding x.params x.name (some_each x.generics inner ++ (some x.ty inner ++ each x.bounds inner))

  -- patterns

  abbrev pub pat_asked : PatKindLayer (with_made asking) → LowerCtx → List Question
  pat_asked (PatKind-F.IdentPat m is_ref is_mut x) p =
      of_name p m ++ (of_resolve p.module_id (plain_path (name_or_missing m)) shadow.Other ∷ some x p)
  pat_asked (PatKind-F.TupleStructPat x comma xs) p = some_path x p ++ each xs p
  pat_asked (PatKind-F.TuplePat comma xs) p = each xs p
  pat_asked (PatKind-F.RefPat is_mut x) p = some x p
  pat_asked (PatKind-F.PathPat x) p = some_path x p
  pat_asked (PatKind-F.OrPat xs) p = each xs p
  pat_asked (PatKind-F.ParenPat x) p = some x p
  pat_asked (PatKind-F.BoxPat x) p = some x p
  pat_asked (PatKind-F.DerefPat x) p = some x p
  pat_asked (PatKind-F.RecordPat x fs dots) p = some_path x p ++ each fs p
  pat_asked (PatKind-F.SlicePat xs y zs) p = each xs p ++ (some y p ++ each zs p)
  pat_asked (PatKind-F.RangePat o x y) p = some x p ++ some y p
  pat_asked (PatKind-F.CfgPredPat pred) p = of_cfg_pred pred ∷ []
  pat_asked (PatKind-F.MacroPat c) p = of_option (λ c. of_pat_call c p) c
  pat_asked _ p = []

  abbrev pub pat_field_asked : RecordPatFieldLayer (with_made asking) → LowerCtx → List Question
  pat_field_asked x p = own_cfg p x.id ∷ some x.pat p

  -- blocks

  abbrev pub leaves : AstStmt × (LowerCtx → Defined → List Question) → LowerCtx → Defined → Defined
  leaves s = behind a n s.0

  -- its number, and what is in it, in the module that has this number
  abbrev pub held_asked : BlockExprLayer (with_made asking) → LowerCtx → List Question
  held_asked b p = let q = inside (numbered a p b.id) p in
      of_number p b.id
      ++ (of_stmts a (λ y. y.1) leaves b.stmts q [] ++ of_option (λ y. y.1.value q (left_off a leaves b.stmts q [])) b.tail)

  abbrev pub own_block_asked : Option BlockModifier → BlockExprLayer (with_made asking) → LowerCtx → List Question
  own_block_asked None b p = of_label p b.label ++ held_asked b p
  own_block_asked (Some modifier.Unsafe) b p = held_asked b p
  own_block_asked (Some modifier.Try) b p = of_lang_item item.try_trait_from_output ∷ (some b.ty p ++ held_asked b p)
  own_block_asked (Some modifier.Const) b p = held_asked b (inside_const_block p)
  own_block_asked (Some modifier.Async) b p = held_asked b (inside_coroutine coroutine.Async p)
  own_block_asked (Some modifier.Gen) b p = held_asked b (inside_coroutine coroutine.Gen p)
  own_block_asked (Some modifier.AsyncGen) b p = held_asked b (inside_coroutine coroutine.AsyncGen p)

  -- expressions

  -- an assignment asks of what is on its left as of the assignee expression, too
  abbrev pub left_asked : Option BinaryOp → Option (AstExpr × ExprAsking) → LowerCtx → List Question
  left_asked (Some op.Assign) x p =
      some_expr x p ++ of_target_part p.module_id (expr_or_none (λ y. read_expr a (entering a n) y.0) x p)
  left_asked o x p = some_expr x p

  abbrev pub expr_asked : ExprKindLayer (with_made asking) → AstPtr → LowerCtx → List Question
  expr_asked (ExprKind-F.IfExpr c t e) s p = some_expr c p ++ (some_plain t p ++ some e p)
  expr_asked (ExprKind-F.BlockExpr b) s p = b.1.own p
  expr_asked (ExprKind-F.LoopExpr l b) s p = of_label p l ++ some_plain b p
  expr_asked (ExprKind-F.WhileExpr l c b) s p = of_label p l ++ (some_expr c p ++ some_plain b p)
  expr_asked (ExprKind-F.ForExpr l x h b) s p =
      for_items ++ (of_label p l ++ (some x p ++ (some_expr h p ++ of_option (λ y. y.1.asked p) b)))
  expr_asked (ExprKind-F.TryExpr e) s p = question_items ++ some_expr e p
  expr_asked (ExprKind-F.CallExpr f es) s p = some_expr f p ++ of_option (λ es. each_expr es p) es
  expr_asked (ExprKind-F.PathExpr x) s p = some_path x p ++ (of_hygiene (site_of (in_file p s)) ∷ [])
  expr_asked (ExprKind-F.ContinueExpr l) s p = of_jump p l
  expr_asked (ExprKind-F.BreakExpr l e) s p = of_jump p l ++ some_expr e p
  expr_asked (ExprKind-F.ParenExpr e) s p = some_expr e p
  expr_asked (ExprKind-F.MethodCallExpr e m as' es) s p = some_expr e p ++ (of_option (λ es. each_expr es p) es ++ some_each as' p)
  expr_asked (ExprKind-F.FieldExpr e m) s p = some_expr e p
  expr_asked (ExprKind-F.PrefixExpr o e) s p = some_expr e p
  expr_asked (ExprKind-F.BinExpr o x y) s p = left_asked o x p ++ some_expr y p
  expr_asked (ExprKind-F.IndexExpr x y) s p = some_expr x p ++ some_expr y p
  expr_asked (ExprKind-F.RefExpr r m e) s p = some_expr e p
  expr_asked (ExprKind-F.TupleExpr comma es) s p = each_expr es p
  expr_asked (ExprKind-F.ArrayExpr es) s p = each_expr es p
  expr_asked (ExprKind-F.RepeatExpr e m) s p = some_expr e p ++ some_expr m (inside_constant p)
  expr_asked (ExprKind-F.ClosureExpr ps r e is_async is_gen moves is_static) s p =
      some_each ps p ++ (some_some r p ++ some_expr e (inside_closure is_async p))
  expr_asked (ExprKind-F.ReturnExpr e) s p = some_expr e p
  expr_asked (ExprKind-F.BecomeExpr e) s p = some_expr e p
  expr_asked (ExprKind-F.YieldExpr e) s p = some_expr e p
  expr_asked (ExprKind-F.YeetExpr e) s p = some_expr e p
  expr_asked (ExprKind-F.AwaitExpr e) s p = some_expr e p
  expr_asked (ExprKind-F.CastExpr e t) s p = some_expr e p ++ some t p
  expr_asked (ExprKind-F.RecordExpr x l) s p = some_path x p ++ some l p
  expr_asked (ExprKind-F.OffsetOfExpr t ns) s p = some t p
  expr_asked (ExprKind-F.CfgPredExpr pred) s p = of_cfg_pred pred ∷ []
  expr_asked (ExprKind-F.LetExpr x e) s p = some x p ++ some_expr e p
  expr_asked (ExprKind-F.MatchExpr e xs) s p = some_expr e p ++ some_each xs p
  expr_asked (ExprKind-F.RangeExpr o x y) s p =
      of_range p.module_id (a.new_range p.module_id) o (is_some x) (is_some y) ++ (some_expr x p ++ some_expr y p)
  expr_asked (ExprKind-F.MacroExpr c) s p = of_option (λ c. of_expr_call c p) c
  expr_asked _ s p = []

  -- of each its condition
  abbrev pub kind_asked : ExprKindLayer (with_made asking) → AstPtr → LowerCtx → List Question
  kind_asked k s p = own_cfg p s.node ∷ expr_asked k s p

  -- in statement or tail place a call stands for statements
  abbrev pub value_asked : ExprKindLayer (with_made asking) → AstPtr → LowerCtx → Defined → List Question
  value_asked (ExprKind-F.MacroExpr c) s p d = own_cfg p s.node ∷ of_option (λ c. of_splice_call c p d) c
  value_asked k s p d = kind_asked k s p

  abbrev pub else_asked : ElseBranchLayer (with_made asking) → LowerCtx → List Question
  else_asked (ElseBranch-F.ElseBlock b) p = b.1.plain p
  else_asked (ElseBranch-F.ElseIf e) p = e.1.expr p

  -- statements

  abbrev pub of_rules : Option AstName → LowerCtx → Defined → List Question
  of_rules x p d = of_option (λ m. of_legacy_macro p.module_id (name.Text m.t) (times (name.Text m.t) d) ∷ []) x

  abbrev pub stmt_asked : StmtKindLayer (with_made asking) → AstPtr → LowerCtx → Defined → List Question
  stmt_asked (StmtKind-F.LetStmt x t e b) s p d =
      own_cfg p s.node ∷ (some x p ++ (some t p ++ (some_expr e p ++ of_option (λ b. some_plain b p) b)))
  stmt_asked (StmtKind-F.ExprStmt e semi) s p d = of_option (λ y. y.1.value p d) e
  stmt_asked (StmtKind-F.MacroRules x) s p d = own_cfg p s.node ∷ of_rules x p d
  stmt_asked (StmtKind-F.MacroDef x) s p d = own_cfg p s.node ∷ of_option (λ m. of_macro_def p.module_id (name.Text m.t) ∷ []) x
  stmt_asked StmtKind-F.Item s p d = []

  abbrev pub asking_steps : Steps asking
  asking_steps = record {
    else_branch = else_asked;
    expr_kind = λ k. record { expr = kind_asked k; value = value_asked k };
    stmt_kind = stmt_asked;
    pat_kind = pat_asked;
    generic_arg = arg_asked;
    type_kind = type_asked;
    block = λ b. record {
      plain = held_asked b;
      own = own_block_asked b.mod_ b;
      asked = λ p. own_cfg p b.id ∷ own_block_asked b.mod_ b p;
    };
    expr = λ e. record { expr = e.kind.1.expr (ptr e.id e.range); value = e.kind.1.value (ptr e.id e.range) };
    path = λ x. record { alone = path_asked x; use_tree = plain_asked x };
    segment = segment_asked;
    field = λ x p. own_cfg p x.id ∷ some_expr x.expr p;
    field_list = λ x p. each x.fields p ++ some_expr x.spread p;
    stmt = λ s. s.kind.1 (ptr s.id s.range);
    arm = λ x p. own_cfg p x.id ∷ (some x.pat p ++ (some_expr x.expr p ++ of_option (λ g. some_expr g p) x.guard));
    call = λ c. tt;
    pat = λ x. x.kind.1;
    pat_field = pat_field_asked;
    assoc_type_arg = assoc_arg_asked;
    param = param_asked;
    path_type = λ t. some_path t.path;
    type_bound = λ b. some b.ty;
    type = λ t. t.kind.1;
  }
