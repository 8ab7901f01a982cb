-- Parts that may be absent, and lists, are framed where each part is.
use Rattle.std.proofs.Common.{ℕ, Bool, true, false, List, [], ◌∷◌, Option, Some, None, if◌then◌else◌}
use Rattle.hir_syntax.specs.declared.ast.ElseBranch.{ElseBranch as AstElseBranch}
use Rattle.hir_syntax.specs.declared.types.GenericArg.{GenericArg as AstGenericArg}
use Rattle.hir_syntax.specs.declared.ast.BlockExpr.{BlockExpr as AstBlockExpr}
use Rattle.hir_syntax.specs.declared.ast.Expr.{Expr as AstExpr}
use Rattle.hir_syntax.specs.declared.ast.Path.{Path as AstPath}
use Rattle.hir_syntax.specs.declared.ast.PathSegment.{PathSegment as AstPathSegment}
use Rattle.hir_syntax.specs.declared.ast.RecordExprField.{RecordExprField as AstRecordExprField}
use Rattle.hir_syntax.specs.declared.ast.RecordExprFieldList.{RecordExprFieldList as AstRecordExprFieldList}
use Rattle.hir_syntax.specs.declared.branches.MatchArm.{MatchArm as AstMatchArm}
use Rattle.hir_syntax.specs.declared.pats.Pat.{Pat as AstPat}
use Rattle.hir_syntax.specs.declared.pats.RecordPatField.{RecordPatField as AstRecordPatField}
use Rattle.hir_syntax.specs.declared.types.Param.{Param as AstParam}
use Rattle.hir_syntax.specs.declared.types.PathType.{PathType as AstPathType}
use Rattle.hir_syntax.specs.declared.types.TypeBound.{TypeBound as AstTypeBound}
use Rattle.hir_syntax.specs.declared.types.Type_.{Type_ as AstType_}
use Rattle.hir_store.specs.declared.name.Name.{Name}
use Rattle.hir_env.specs.ResolvedTree as tree
use Rattle.hir_env.specs.ResolvedTree.{OptionRet, Parts}
use Rattle.hir_env.specs.Answering as of
use Rattle.hir_env.specs.Answers.{Answers}
use Rattle.hir_env.specs.Folds.{entering}
use Rattle.hir_env.specs.Folds.{fold_else_branch, fold_generic_arg, fold_block, fold_expr, fold_path, fold_segment, fold_field}
use Rattle.hir_env.specs.Folds.{fold_record, fold_arm, fold_pat, fold_pat_field, fold_param, fold_path_type, fold_type_bound, fold_type}
use Rattle.hir_env.specs.Layers.{ParamReading}
use Rattle.hir_env.specs.Paths as of_types
use Rattle.hir_env.specs.Pats as of_pats
use Rattle.hir_env.specs.declared.ctx.LowerCtx.{LowerCtx}
use Rattle.hir_env.proofs.Mapped.{beside, map_list, listed_options, optional}
use Rattle.thm_frame.specs.Questions.{Area, Framed, Here}
use Rattle.thm_frame.proofs.Framing.{still, one, two}
use Rattle.thm_frame.proofs.Motives.{OfElse, OfArg, OfBlock, OfExpr, OfPath, OfSegment, OfField, OfRecord, OfArm, OfPat, OfPatField}
use Rattle.thm_frame.proofs.Motives.{OfParam, OfPathType, OfBound, OfType}

module _ (a : Answers) (area : Area a) (n : ℕ) where
  -- types, paths and arguments

  pub type_framed : (x : Option ((t : AstType_) × OfType a area n t)) (p : LowerCtx) (w : Here area p)
      → Framed area (λ b. of_types.type_or_none (λ y. y.1) (optional (beside (fold_type b (entering b n))) (optional (λ e. e.0) x)) p) a
  type_framed None p w = still tree.no_type
  type_framed (Some t) p w = one tree.some_type (t.1 p w)

  pub answer_framed : (x : Option (Option ((t : AstType_) × OfType a area n t))) (p : LowerCtx) (w : Here area p)
      → Framed area (λ b. of_types.answer_or_none (of_types.type_or_none (λ y. y.1))
      (optional (optional (beside (fold_type b (entering b n)))) (optional (optional (λ e. e.0)) x)) p) a
  answer_framed None p w = still tree.no_type
  answer_framed (Some x) p w = type_framed x p w

  pub ret_framed : (x : Option (Option ((t : AstType_) × OfType a area n t))) (p : LowerCtx) (w : Here area p)
      → Framed area (λ b. of_types.ret_or_none (of_types.type_or_none (λ y. y.1))
      (optional (optional (beside (fold_type b (entering b n)))) (optional (optional (λ e. e.0)) x)) p) a
  ret_framed None p w = still tree.no_ret
  ret_framed (Some x) p w = one tree.some_ret (type_framed x p w)

  pub types_framed : (xs : List ((t : AstType_) × OfType a area n t)) (p : LowerCtx) (w : Here area p)
      → Framed area (λ b. of_types.types_of (λ y. y.1) (map_list (beside (fold_type b (entering b n))) (map_list (λ e. e.0) xs)) p) a
  types_framed [] p w = still tree.no_parts
  types_framed (x ∷ xs) p w = two (λ t ts. tree.more_parts (tree.some_type t) ts) (x.1 p w) (types_framed xs p w)

  pub parts_framed : (xs : List (Option ((t : AstType_) × OfType a area n t))) (p : LowerCtx) (w : Here area p)
      → Framed area (λ b. of_types.parts_of (of_types.type_or_none (λ y. y.1))
      (listed_options (beside (fold_type b (entering b n))) (listed_options (λ e. e.0) xs)) p) a
  parts_framed [] p w = still tree.no_parts
  parts_framed (None ∷ xs) p w = one (tree.more_parts tree.no_type) (parts_framed xs p w)
  parts_framed (Some x ∷ xs) p w = two (λ t ts. tree.more_parts (tree.some_type t) ts) (x.1 p w) (parts_framed xs p w)

  pub parens_framed : (x : Option (List (Option ((t : AstType_) × OfType a area n t)))) (r : Answers → OptionRet) (p : LowerCtx)
      (w : Here area p) → Framed area r a
      → Framed area (λ b. of_types.parens_or_none (of_types.parts_of (of_types.type_or_none (λ y. y.1)))
      (optional (listed_options (beside (fold_type b (entering b n)))) (optional (listed_options (λ e. e.0)) x)) (r b) p) a
  parens_framed None r p w h = still tree.no_parens
  parens_framed (Some xs) r p w h = two tree.some_parens (parts_framed xs p w) h

  pub path_framed : (x : Option ((y : AstPath) × OfPath a area n y)) (p : LowerCtx) (w : Here area p)
      → Framed area
      (λ b. of_types.path_or_none (λ y. y.1.alone) (optional (beside (fold_path b (entering b n))) (optional (λ e. e.0) x)) p) a
  path_framed None p w = still tree.no_path
  path_framed (Some x) p w = one tree.some_path (x.1.alone p w)

  pub use_tree_framed : (x : Option ((y : AstPath) × OfPath a area n y)) (p : LowerCtx) (w : Here area p)
      → Framed area (λ b. of_types.path_or_none (λ y. y.1.use_tree)
      (optional (beside (fold_path b (entering b n))) (optional (λ e. e.0) x)) p) a
  use_tree_framed None p w = still tree.no_path
  use_tree_framed (Some x) p w = one tree.some_path (x.1.use_tree p w)

  pub path_type_framed : (x : Option ((y : AstPathType) × OfPathType a area n y)) (p : LowerCtx) (w : Here area p)
      → Framed area (λ b. of_types.path_type_or_none (λ y. y.1)
      (optional (beside (fold_path_type b (entering b n))) (optional (λ e. e.0) x)) p) a
  path_type_framed None p w = still None
  path_type_framed (Some x) p w = one (λ t. Some t) (x.1 p w)

  pub segments_framed : (xs : List (Option ((s : AstPathSegment) × OfSegment a area n s))) (p : LowerCtx) (w : Here area p)
      → Framed area (λ b. of_types.segments_of (λ y. y.1)
      (listed_options (beside (fold_segment b (entering b n))) (listed_options (λ e. e.0) xs)) p) a
  segments_framed [] p w = still tree.no_segments
  segments_framed (None ∷ xs) p w = one (tree.more_segments tree.absent_segment) (segments_framed xs p w)
  segments_framed (Some x ∷ xs) p w = two tree.more_segments (x.1 p w) (segments_framed xs p w)

  pub first_framed : (xs : List (Option ((s : AstPathSegment) × OfSegment a area n s))) (p : LowerCtx) (w : Here area p)
      → Framed area (λ b. of_types.first_of (λ y. y.1)
      (listed_options (beside (fold_segment b (entering b n))) (listed_options (λ e. e.0) xs)) p) a
  first_framed [] p w = still tree.absent_segment
  first_framed (None ∷ xs) p w = still tree.absent_segment
  first_framed (Some x ∷ xs) p w = x.1 p w

  pub rest_framed : (xs : List (Option ((s : AstPathSegment) × OfSegment a area n s))) (p : LowerCtx) (w : Here area p)
      → Framed area (λ b. of_types.rest_of (λ y. y.1)
      (listed_options (beside (fold_segment b (entering b n))) (listed_options (λ e. e.0) xs)) p) a
  rest_framed [] p w = still tree.no_segments
  rest_framed (x ∷ xs) p w = segments_framed xs p w

  pub args_framed : (xs : List ((y : AstGenericArg) × OfArg a area n y)) (p : LowerCtx) (w : Here area p)
      → Framed area (λ b. of_types.generic_args_of (λ y. y.1)
      (map_list (beside (fold_generic_arg b (entering b n))) (map_list (λ e. e.0) xs)) p) a
  args_framed [] p w = still tree.no_args
  args_framed (x ∷ xs) p w = two tree.more_args (x.1 p w) (args_framed xs p w)

  pub arg_list_framed : (x : Option (List ((y : AstGenericArg) × OfArg a area n y))) (p : LowerCtx) (w : Here area p)
      → Framed area (λ b. of_types.arg_list_or_none (of_types.generic_args_of (λ y. y.1))
      (optional (map_list (beside (fold_generic_arg b (entering b n)))) (optional (map_list (λ e. e.0)) x)) p) a
  arg_list_framed None p w = still tree.no_arg_list
  arg_list_framed (Some xs) p w = one tree.some_arg_list (args_framed xs p w)

  pub bounds_framed : (xs : List ((y : AstTypeBound) × OfBound a area n y)) (p : LowerCtx) (w : Here area p)
      → Framed area (λ b. of_types.bounds_of (λ y. y.1) (map_list (beside (fold_type_bound b (entering b n))) (map_list (λ e. e.0) xs)) p) a
  bounds_framed [] p w = still tree.no_bounds
  bounds_framed (x ∷ xs) p w = two tree.more_bounds (x.1 p w) (bounds_framed xs p w)

  -- parameters

  abbrev more_types : ParamReading → Parts → Parts
  more_types r ts = if r.variadic then ts else tree.more_parts r.ty ts

  abbrev more_names : ParamReading → List (Option Name) → List (Option Name)
  more_names r ns = if r.variadic then ns else r.name ∷ ns

  pub params_framed : (xs : List ((y : AstParam) × OfParam a area n y)) (p : LowerCtx) (w : Here area p)
      → Framed area (λ b. of_types.params_of (λ y. y.1) (map_list (beside (fold_param b (entering b n))) (map_list (λ e. e.0) xs)) p) a
  params_framed [] p w = still tree.no_parts
  params_framed (x ∷ xs) p w = two more_types (x.1 p w) (params_framed xs p w)

  pub params_or_framed : (x : Option (List ((y : AstParam) × OfParam a area n y))) (p : LowerCtx) (w : Here area p)
      → Framed area (λ b. of_types.params_or_none (λ y. y.1)
      (optional (map_list (beside (fold_param b (entering b n)))) (optional (map_list (λ e. e.0)) x)) p) a
  params_or_framed None p w = still tree.no_parts
  params_or_framed (Some xs) p w = params_framed xs p w

  pub names_framed : (xs : List ((y : AstParam) × OfParam a area n y)) (p : LowerCtx) (w : Here area p)
      → Framed area (λ b. of_types.names_given (λ y. y.1) (map_list (beside (fold_param b (entering b n))) (map_list (λ e. e.0) xs)) p) a
  names_framed [] p w = still []
  names_framed (x ∷ xs) p w = two more_names (x.1 p w) (names_framed xs p w)

  pub names_or_framed : (x : Option (List ((y : AstParam) × OfParam a area n y))) (p : LowerCtx) (w : Here area p)
      → Framed area (λ b. of_types.names_or_none (λ y. y.1)
      (optional (map_list (beside (fold_param b (entering b n)))) (optional (map_list (λ e. e.0)) x)) p) a
  names_or_framed None p w = still []
  names_or_framed (Some xs) p w = names_framed xs p w

  pub last_framed : (xs : List ((y : AstParam) × OfParam a area n y)) (v : Answers → Bool) (p : LowerCtx) (w : Here area p)
      → Framed area v a
      → Framed area
      (λ b. of_types.last_variadic (λ y. y.1) (v b) (map_list (beside (fold_param b (entering b n))) (map_list (λ e. e.0) xs)) p) a
  last_framed [] v p w h = h
  last_framed (x ∷ xs) v p w h = last_framed xs (λ b. (fold_param b (entering b n) x.0 p).variadic) p w (one (λ r. r.variadic) (x.1 p w))

  pub varargs_framed : (x : Option (List ((y : AstParam) × OfParam a area n y))) (p : LowerCtx) (w : Here area p)
      → Framed area (λ b. of_types.is_varargs (λ y. y.1)
      (optional (map_list (beside (fold_param b (entering b n)))) (optional (map_list (λ e. e.0)) x)) p) a
  varargs_framed None p w = still false
  varargs_framed (Some xs) p w = last_framed xs (λ b. false) p w (still false)

  pub closure_params_framed : (xs : List ((y : AstParam) × OfParam a area n y)) (p : LowerCtx) (w : Here area p)
      → Framed area (λ b. of_types.closure_params_of (λ y. y.1)
      (map_list (beside (fold_param b (entering b n))) (map_list (λ e. e.0) xs)) p) a
  closure_params_framed [] p w = still tree.no_params
  closure_params_framed (x ∷ xs) p w = two (λ r ps. tree.more_params r.own ps) (x.1 p w) (closure_params_framed xs p w)

  pub closure_params_or_framed : (x : Option (List ((y : AstParam) × OfParam a area n y))) (p : LowerCtx) (w : Here area p)
      → Framed area (λ b. of_types.closure_params_or_none (λ y. y.1)
      (optional (map_list (beside (fold_param b (entering b n)))) (optional (map_list (λ e. e.0)) x)) p) a
  closure_params_or_framed None p w = still tree.no_params
  closure_params_or_framed (Some xs) p w = closure_params_framed xs p w

  -- expressions

  pub expr_framed : (x : Option ((e : AstExpr) × OfExpr a area n e)) (p : LowerCtx) (w : Here area p)
      → Framed area
      (λ b. of_types.expr_or_none (λ y. y.1.expr) (optional (beside (fold_expr b (entering b n))) (optional (λ e. e.0) x)) p) a
  expr_framed None p w = still tree.no_expr
  expr_framed (Some x) p w = one tree.some_expr (x.1.expr p w)

  pub else_framed : (x : Option ((e : AstElseBranch) × OfElse a area n e)) (p : LowerCtx) (w : Here area p)
      → Framed area
      (λ b. of_types.expr_or_none (λ y. y.1) (optional (beside (fold_else_branch b (entering b n))) (optional (λ e. e.0) x)) p) a
  else_framed None p w = still tree.no_expr
  else_framed (Some x) p w = one tree.some_expr (x.1 p w)

  pub constant_framed : (x : Option (Option ((e : AstExpr) × OfExpr a area n e))) (p : LowerCtx) (w : Here area p)
      → Framed area
      (λ b. of_types.constant_or_absent (λ y q. tree.constant (of_types.expr_or_none (λ y. y.1.expr) y (of_types.inside_constant q)))
      (optional (optional (beside (fold_expr b (entering b n)))) (optional (optional (λ e. e.0)) x)) p) a
  constant_framed None p w = still (tree.constant tree.no_expr)
  constant_framed (Some x) p w = one tree.constant (expr_framed x (of_types.inside_constant p) w)

  pub plain_framed : (x : Option ((e : AstBlockExpr) × OfBlock a area n e)) (p : LowerCtx) (w : Here area p)
      → Framed area (λ b. of.plain_or_none (λ y. y.1) (optional (beside (fold_block b (entering b n))) (optional (λ e. e.0) x)) p) a
  plain_framed None p w = still tree.no_block
  plain_framed (Some x) p w = one tree.some_block (x.1.plain p w)

  pub asked_framed : (x : Option ((e : AstBlockExpr) × OfBlock a area n e)) (p : LowerCtx) (w : Here area p)
      → Framed area (λ b. of.asked_or_none (λ y. y.1) (optional (beside (fold_block b (entering b n))) (optional (λ e. e.0) x)) p) a
  asked_framed None p w = still tree.no_expr
  asked_framed (Some x) p w = one tree.some_expr (x.1.asked p w)

  pub exprs_framed : (xs : List ((e : AstExpr) × OfExpr a area n e)) (p : LowerCtx) (w : Here area p)
      → Framed area (λ b. of.exprs_of (λ y. y.1.expr) (map_list (beside (fold_expr b (entering b n))) (map_list (λ e. e.0) xs)) p) a
  exprs_framed [] p w = still tree.no_exprs
  exprs_framed (x ∷ xs) p w = two tree.more_exprs (x.1.expr p w) (exprs_framed xs p w)

  pub fields_framed : (xs : List ((x : AstRecordExprField) × OfField a area n x)) (p : LowerCtx) (w : Here area p)
      → Framed area (λ b. of.fields_of (λ y. y.1) (map_list (beside (fold_field b (entering b n))) (map_list (λ e. e.0) xs)) p) a
  fields_framed [] p w = still tree.no_fields
  fields_framed (x ∷ xs) p w = two tree.more_fields (x.1 p w) (fields_framed xs p w)

  pub spread_framed : (x : Option ((e : AstExpr) × OfExpr a area n e)) (dots : Bool) (p : LowerCtx) (w : Here area p)
      → Framed area
      (λ b. of.spread_or_none (λ y. y.1.expr) (optional (beside (fold_expr b (entering b n))) (optional (λ e. e.0) x)) dots p) a
  spread_framed (Some x) dots p w = one tree.spread_of (x.1.expr p w)
  spread_framed None true p w = still tree.field_defaults
  spread_framed None false p w = still tree.no_spread

  pub record_framed : (x : Option ((y : AstRecordExprFieldList) × OfRecord a area n y)) (p : LowerCtx) (w : Here area p)
      → Framed area (λ b. of.record_or_empty (λ y. y.1) (optional (beside (fold_record b (entering b n))) (optional (λ e. e.0) x)) p) a
  record_framed None p w = still (record { head = of.no_list; fields = tree.no_fields; spread = tree.no_spread })
  record_framed (Some x) p w = x.1 p w

  pub arms_framed : (xs : List ((x : AstMatchArm) × OfArm a area n x)) (p : LowerCtx) (w : Here area p)
      → Framed area (λ b. of.arms_of (λ y. y.1) (map_list (beside (fold_arm b (entering b n))) (map_list (λ e. e.0) xs)) p) a
  arms_framed [] p w = still tree.no_arms
  arms_framed (x ∷ xs) p w = two tree.more_arms (x.1 p w) (arms_framed xs p w)

  pub guard_framed : (x : Option (Option ((e : AstExpr) × OfExpr a area n e))) (p : LowerCtx) (w : Here area p)
      → Framed area (λ b. of.guard_or_none (of_types.expr_or_none (λ y. y.1.expr))
      (optional (optional (beside (fold_expr b (entering b n)))) (optional (optional (λ e. e.0)) x)) p) a
  guard_framed None p w = still tree.no_guard
  guard_framed (Some x) p w = one tree.guard (expr_framed x p w)

  pub let_else_framed : (x : Option (Option ((e : AstBlockExpr) × OfBlock a area n e))) (p : LowerCtx) (w : Here area p)
      → Framed area (λ b. of.let_else_or_none (of.plain_or_none (λ y. y.1))
      (optional (optional (beside (fold_block b (entering b n)))) (optional (optional (λ e. e.0)) x)) p) a
  let_else_framed None p w = still tree.no_block
  let_else_framed (Some x) p w = plain_framed x p w

  -- patterns

  pub pat_framed : (x : Option ((y : AstPat) × OfPat a area n y)) (p : LowerCtx) (w : Here area p)
      → Framed area (λ b. of_types.pat_or_none (λ y. y.1) (optional (beside (fold_pat b (entering b n))) (optional (λ e. e.0) x)) p) a
  pat_framed None p w = still tree.no_pat
  pat_framed (Some x) p w = one tree.some_pat (x.1 p w)

  pub pats_framed : (xs : List ((y : AstPat) × OfPat a area n y)) (p : LowerCtx) (w : Here area p)
      → Framed area (λ b. of_pats.pats_of (λ y. y.1) (map_list (beside (fold_pat b (entering b n))) (map_list (λ e. e.0) xs)) p) a
  pats_framed [] p w = still tree.no_pats
  pats_framed (x ∷ xs) p w = two tree.more_pats (x.1 p w) (pats_framed xs p w)

  pub elements_framed : (xs : List ((y : AstPat) × OfPat a area n y)) (p : LowerCtx) (w : Here area p)
      → Framed area (λ b. of_pats.elements_of (λ y. y.1) (map_list (beside (fold_pat b (entering b n))) (map_list (λ e. e.0) xs)) p) a
  elements_framed [] p w = still tree.no_pats
  elements_framed (x ∷ xs) p w = two of_pats.element_in (x.1 p w) (elements_framed xs p w)

  pub pat_fields_framed : (xs : List ((y : AstRecordPatField) × OfPatField a area n y)) (p : LowerCtx) (w : Here area p)
      → Framed area (λ b. of_pats.pat_fields_of (λ y. y.1)
      (map_list (beside (fold_pat_field b (entering b n))) (map_list (λ e. e.0) xs)) p) a
  pat_fields_framed [] p w = still tree.no_pat_fields
  pat_fields_framed (x ∷ xs) p w = two tree.more_pat_fields (x.1 p w) (pat_fields_framed xs p w)
