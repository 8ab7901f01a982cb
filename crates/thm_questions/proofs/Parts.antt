-- Parts that may be absent, and lists, are framed where each part is.
use Rattle.std.proofs.Common.{ℕ, Bool, true, false, List, [], ◌∷◌, ◌++◌, Option, Some, None, if◌then◌else◌}
use Rattle.hir_base.specs.declared.node.NodeId.{NodeId}
use Rattle.hir_syntax.specs.declared.ast.ElseBranch.{ElseBranch as AstElseBranch}
use Rattle.hir_syntax.specs.declared.types.GenericArg.{GenericArg as AstGenericArg}
use Rattle.hir_syntax.specs.declared.ast.BlockExpr.{BlockExpr as AstBlockExpr}
use Rattle.hir_syntax.specs.declared.ast.Expr.{Expr as AstExpr}
use Rattle.hir_syntax.specs.declared.ast.Path.{Path as AstPath}
use Rattle.hir_syntax.specs.declared.ast.PathSegment.{PathSegment as AstPathSegment}
use Rattle.hir_syntax.specs.declared.ast.RecordExprField.{RecordExprField as AstRecordExprField}
use Rattle.hir_syntax.specs.declared.ast.RecordExprFieldList.{RecordExprFieldList as AstRecordExprFieldList}
use Rattle.hir_syntax.specs.declared.branches.MatchArm.{MatchArm as AstMatchArm}
use Rattle.hir_syntax.specs.declared.pats.Pat.{Pat as AstPat}
use Rattle.hir_syntax.specs.declared.pats.RecordPatField.{RecordPatField as AstRecordPatField}
use Rattle.hir_syntax.specs.declared.types.Param.{Param as AstParam}
use Rattle.hir_syntax.specs.declared.types.PathType.{PathType as AstPathType}
use Rattle.hir_syntax.specs.declared.types.TypeBound.{TypeBound as AstTypeBound}
use Rattle.hir_syntax.specs.declared.types.Type_.{Type_ as AstType_}
use Rattle.hir_store.specs.declared.name.Name.{Name}
use Rattle.hir_env.specs.ResolvedTree as tree
use Rattle.hir_env.specs.ResolvedTree.{OptionRet, Parts, Segment, Segments}
use Rattle.hir_env.specs.Answering as of
use Rattle.hir_env.specs.Answers.{Answers}
use Rattle.hir_env.specs.Folds as read
use Rattle.hir_env.specs.Folds.{entering}
use Rattle.hir_env.specs.Layers.{ParamReading}
use Rattle.hir_env.specs.Paths as of_types
use Rattle.hir_env.specs.Pats as of_pats
use Rattle.hir_env.specs.declared.ctx.LowerCtx.{LowerCtx}
use Rattle.hir_env.proofs.Mapped.{beside}
use Rattle.thm_frame.specs.Questions.{Question}
use Rattle.thm_questions.specs.Asked as asked
use Rattle.thm_questions.specs.Areas.{NodeArea}
use Rattle.thm_questions.specs.Nodes as node
use Rattle.thm_questions.specs.Parts.{of_each, of_option, of_present}
use Rattle.thm_questions.proofs.Framing.{At, behind, none, of_these, one, still, two}
use Rattle.thm_questions.proofs.Claims.{in_asked, in_nodes, lst, opt, opt_lst, opt_opt, opt_opts, opts, OfElse, OfArg, OfBlock, OfExpr}
use Rattle.thm_questions.proofs.Claims.{OfPath, OfSegment, OfField, OfRecord, OfArm, OfPat, OfPatField, OfParam, OfPathType, OfBound}
use Rattle.thm_questions.proofs.Claims.{OfType}

module _ (a : Answers) (area : NodeArea a) (n : ℕ) where
  pub type_by : (x : Option ((y : AstType_) × OfType a area n y)) (p : LowerCtx)
      → At area p (node.some (opt in_nodes.type x))
      (λ b. of_types.type_or_none (λ y. y.1) (opt (beside (read.fold_type b (entering b n))) x) p)
      (asked.some (opt (in_asked a n).type x) p)
  type_by None p = still tree.no_type
  type_by (Some t) p = one tree.some_type (t.1 p)

  pub answer_by : (x : Option (Option ((y : AstType_) × OfType a area n y))) (p : LowerCtx)
      → At area p (node.some_some (opt_opt in_nodes.type x))
      (λ b. of_types.answer_or_none (of_types.type_or_none (λ y. y.1)) (opt_opt (beside (read.fold_type b (entering b n))) x) p)
      (asked.some_some (opt_opt (in_asked a n).type x) p)
  answer_by None p = still tree.no_type
  answer_by (Some x) p = type_by x p

  pub ret_by : (x : Option (Option ((y : AstType_) × OfType a area n y))) (p : LowerCtx)
      → At area p (node.some_some (opt_opt in_nodes.type x))
      (λ b. of_types.ret_or_none (of_types.type_or_none (λ y. y.1)) (opt_opt (beside (read.fold_type b (entering b n))) x) p)
      (asked.some_some (opt_opt (in_asked a n).type x) p)
  ret_by None p = still tree.no_ret
  ret_by (Some x) p = one tree.some_ret (type_by x p)

  pub types_by : (xs : List ((y : AstType_) × OfType a area n y)) (p : LowerCtx)
      → At area p (node.each (lst in_nodes.type xs))
      (λ b. of_types.types_of (λ y. y.1) (lst (beside (read.fold_type b (entering b n))) xs) p)
      (asked.each (lst (in_asked a n).type xs) p)
  types_by [] p = still tree.no_parts
  types_by (x ∷ xs) p = two (λ t ts. tree.more_parts (tree.some_type t) ts) (x.1 p) (types_by xs p)

  pub parts_by : (xs : List (Option ((y : AstType_) × OfType a area n y))) (p : LowerCtx)
      → At area p (of_each node.some (opts in_nodes.type xs))
      (λ b. of_types.parts_of (of_types.type_or_none (λ y. y.1)) (opts (beside (read.fold_type b (entering b n))) xs) p)
      (of_each (λ t. asked.some t p) (opts (in_asked a n).type xs))
  parts_by [] p = still tree.no_parts
  parts_by (None ∷ xs) p = one (tree.more_parts tree.no_type) (parts_by xs p)
  parts_by (Some x ∷ xs) p = two (λ t ts. tree.more_parts (tree.some_type t) ts) (x.1 p) (parts_by xs p)

  -- what is returned counts beside them alone
  pub parens_by : (x : Option (List (Option ((t : AstType_) × OfType a area n t)))) {ns : List NodeId} {r : Answers → OptionRet}
      {qs : List Question} (p : LowerCtx) → At area p ns r qs
      → At area p (node.in_parens (opt_opts in_nodes.type x) ++ ns)
      (λ b. of_types.parens_or_none (of_types.parts_of (of_types.type_or_none (λ y. y.1)))
      (opt_opts (beside (read.fold_type b (entering b n))) x) (r b) p)
      (of_option (λ xs. of_each (λ t. asked.some t p) xs ++ qs) (opt_opts (in_asked a n).type x))
  parens_by None p h = none tree.no_parens
  parens_by (Some xs) p h = two tree.some_parens (parts_by xs p) h

  pub path_by : (x : Option ((y : AstPath) × OfPath a area n y)) (p : LowerCtx)
      → At area p (node.some (opt in_nodes.path x))
      (λ b. of_types.path_or_none (λ y. y.1.alone) (opt (beside (read.fold_path b (entering b n))) x) p)
      (asked.some_path (opt (in_asked a n).path x) p)
  path_by None p = still tree.no_path
  path_by (Some x) p = one tree.some_path (x.1.alone p)

  pub use_tree_by : (x : Option ((y : AstPath) × OfPath a area n y)) (p : LowerCtx)
      → At area p (node.some (opt in_nodes.path x))
      (λ b. of_types.path_or_none (λ y. y.1.use_tree) (opt (beside (read.fold_path b (entering b n))) x) p)
      (of_option (λ y. y.1.use_tree p) (opt (in_asked a n).path x))
  use_tree_by None p = still tree.no_path
  use_tree_by (Some x) p = one tree.some_path (x.1.use_tree p)

  pub path_type_by : (x : Option ((y : AstPathType) × OfPathType a area n y)) (p : LowerCtx)
      → At area p (node.some (opt in_nodes.path_type x))
      (λ b. of_types.path_type_or_none (λ y. y.1) (opt (beside (read.fold_path_type b (entering b n))) x) p)
      (asked.some (opt (in_asked a n).path_type x) p)
  path_type_by None p = still None
  path_type_by (Some x) p = one (λ t. Some t) (x.1 p)

  segment_by : (x : (s : AstPathSegment) × OfSegment a area n s) (p : LowerCtx)
      → At area p (node.segment_nodes (in_nodes.segment x.0)) (λ b. read.fold_segment b (entering b n) x.0 p)
      (((in_asked a n).segment x.0).1 p)
  segment_by x p = of_these (λ i h. (i, h.1)) (x.1 p)

  pub segments_by : (xs : List (Option ((y : AstPathSegment) × OfSegment a area n y))) (p : LowerCtx)
      → At area p (of_present node.segment_nodes (opts in_nodes.segment xs))
      (λ b. of_types.segments_of (λ y. y.1) (opts (beside (read.fold_segment b (entering b n))) xs) p)
      (of_present (λ s. s.1 p) (opts (in_asked a n).segment xs))
  segments_by [] p = still tree.no_segments
  segments_by (None ∷ xs) p = one (tree.more_segments tree.absent_segment) (segments_by xs p)
  segments_by (Some x ∷ xs) p = two tree.more_segments (segment_by x p) (segments_by xs p)

  pub first_and_rest_by : (xs : List (Option ((y : AstPathSegment) × OfSegment a area n y))) (p : LowerCtx)
      → At {X = Segment × Segments} area p (of_present node.segment_nodes (opts in_nodes.segment xs))
      (λ b. (
        of_types.first_of (λ y. y.1) (opts (beside (read.fold_segment b (entering b n))) xs) p,
        of_types.rest_of (λ y. y.1) (opts (beside (read.fold_segment b (entering b n))) xs) p,
      ))
      (of_present (λ s. s.1 p) (opts (in_asked a n).segment xs))
  first_and_rest_by [] p = still (tree.absent_segment, tree.no_segments)
  first_and_rest_by (None ∷ xs) p = one (λ ss. (tree.absent_segment, ss)) (segments_by xs p)
  first_and_rest_by (Some x ∷ xs) p = two (λ s ss. (s, ss)) (segment_by x p) (segments_by xs p)

  pub args_by : (xs : List ((y : AstGenericArg) × OfArg a area n y)) (p : LowerCtx)
      → At area p (node.each (lst in_nodes.generic_arg xs))
      (λ b. of_types.generic_args_of (λ y. y.1) (lst (beside (read.fold_generic_arg b (entering b n))) xs) p)
      (asked.each (lst (in_asked a n).generic_arg xs) p)
  args_by [] p = still tree.no_args
  args_by (x ∷ xs) p = two tree.more_args (x.1 p) (args_by xs p)

  pub arg_list_by : (x : Option (List ((y : AstGenericArg) × OfArg a area n y))) (p : LowerCtx)
      → At area p (node.some_each (opt_lst in_nodes.generic_arg x))
      (λ b. of_types.arg_list_or_none (of_types.generic_args_of (λ y. y.1)) (opt_lst (beside (read.fold_generic_arg b (entering b n))) x) p)
      (asked.some_each (opt_lst (in_asked a n).generic_arg x) p)
  arg_list_by None p = still tree.no_arg_list
  arg_list_by (Some xs) p = one tree.some_arg_list (args_by xs p)

  pub bounds_by : (xs : List ((y : AstTypeBound) × OfBound a area n y)) (p : LowerCtx)
      → At area p (node.each (lst in_nodes.type_bound xs))
      (λ b. of_types.bounds_of (λ y. y.1) (lst (beside (read.fold_type_bound b (entering b n))) xs) p)
      (asked.each (lst (in_asked a n).type_bound xs) p)
  bounds_by [] p = still tree.no_bounds
  bounds_by (x ∷ xs) p = two tree.more_bounds (x.1 p) (bounds_by xs p)

  -- parameters

  abbrev more_types : ParamReading → Parts → Parts
  more_types r ts = if r.variadic then ts else tree.more_parts r.ty ts

  abbrev more_names : ParamReading → List (Option Name) → List (Option Name)
  more_names r ns = if r.variadic then ns else r.name ∷ ns

  pub params_each : (xs : List ((y : AstParam) × OfParam a area n y)) (p : LowerCtx)
      → At area p (node.each (lst in_nodes.param xs))
      (λ b. of_types.params_of (λ y. y.1) (lst (beside (read.fold_param b (entering b n))) xs) p)
      (asked.each (lst (in_asked a n).param xs) p)
  params_each [] p = still tree.no_parts
  params_each (x ∷ xs) p = two more_types (x.1 p) (params_each xs p)

  pub params_by : (x : Option (List ((y : AstParam) × OfParam a area n y))) (p : LowerCtx)
      → At area p (node.some_each (opt_lst in_nodes.param x))
      (λ b. of_types.params_or_none (λ y. y.1) (opt_lst (beside (read.fold_param b (entering b n))) x) p)
      (asked.some_each (opt_lst (in_asked a n).param x) p)
  params_by None p = still tree.no_parts
  params_by (Some xs) p = params_each xs p

  pub names_each : (xs : List ((y : AstParam) × OfParam a area n y)) (p : LowerCtx)
      → At area p (node.each (lst in_nodes.param xs))
      (λ b. of_types.names_given (λ y. y.1) (lst (beside (read.fold_param b (entering b n))) xs) p)
      (asked.each (lst (in_asked a n).param xs) p)
  names_each [] p = still []
  names_each (x ∷ xs) p = two more_names (x.1 p) (names_each xs p)

  pub names_by : (x : Option (List ((y : AstParam) × OfParam a area n y))) (p : LowerCtx)
      → At area p (node.some_each (opt_lst in_nodes.param x))
      (λ b. of_types.names_or_none (λ y. y.1) (opt_lst (beside (read.fold_param b (entering b n))) x) p)
      (asked.some_each (opt_lst (in_asked a n).param x) p)
  names_by None p = still []
  names_by (Some xs) p = names_each xs p

  pub closure_params_each : (xs : List ((y : AstParam) × OfParam a area n y)) (p : LowerCtx)
      → At area p (node.each (lst in_nodes.param xs))
      (λ b. of_types.closure_params_of (λ y. y.1) (lst (beside (read.fold_param b (entering b n))) xs) p)
      (asked.each (lst (in_asked a n).param xs) p)
  closure_params_each [] p = still tree.no_params
  closure_params_each (x ∷ xs) p = two (λ r ps. tree.more_params r.own ps) (x.1 p) (closure_params_each xs p)

  pub closure_params_by : (x : Option (List ((y : AstParam) × OfParam a area n y))) (p : LowerCtx)
      → At area p (node.some_each (opt_lst in_nodes.param x))
      (λ b. of_types.closure_params_or_none (λ y. y.1) (opt_lst (beside (read.fold_param b (entering b n))) x) p)
      (asked.some_each (opt_lst (in_asked a n).param x) p)
  closure_params_by None p = still tree.no_params
  closure_params_by (Some xs) p = closure_params_each xs p

  last_by : (xs : List ((y : AstParam) × OfParam a area n y)) {ns : List NodeId} {v : Answers → Bool} {qs : List Question} (p : LowerCtx)
      → At area p ns v qs
      → At area p (ns ++ node.each (lst in_nodes.param xs))
      (λ b. of_types.last_variadic (λ y. y.1) (v b) (lst (beside (read.fold_param b (entering b n))) xs) p)
      (qs ++ asked.each (lst (in_asked a n).param xs) p)
  last_by [] p h = two (λ v (u : Bool). v) h (still false)
  last_by (x ∷ xs) {ns = ns} {qs = qs} p h = behind ns qs h.there (last_by xs p (one (λ r. r.variadic) (x.1 p)))

  pub varargs_by : (x : Option (List ((y : AstParam) × OfParam a area n y))) (p : LowerCtx)
      → At area p (node.some_each (opt_lst in_nodes.param x))
      (λ b. of_types.is_varargs (λ y. y.1) (opt_lst (beside (read.fold_param b (entering b n))) x) p)
      (asked.some_each (opt_lst (in_asked a n).param x) p)
  varargs_by None p = still false
  varargs_by (Some xs) p = last_by xs p (still false)

  -- expressions

  pub expr_by : (x : Option ((y : AstExpr) × OfExpr a area n y)) (p : LowerCtx)
      → At area p (node.some (opt in_nodes.expr x))
      (λ b. of_types.expr_or_none (λ y. y.1.expr) (opt (beside (read.fold_expr b (entering b n))) x) p)
      (asked.some_expr (opt (in_asked a n).expr x) p)
  expr_by None p = still tree.no_expr
  expr_by (Some x) p = one tree.some_expr (x.1.expr p)

  pub else_by : (x : Option ((y : AstElseBranch) × OfElse a area n y)) (p : LowerCtx)
      → At area p (node.some (opt in_nodes.else_branch x))
      (λ b. of_types.expr_or_none (λ y. y.1) (opt (beside (read.fold_else_branch b (entering b n))) x) p)
      (asked.some (opt (in_asked a n).else_branch x) p)
  else_by None p = still tree.no_expr
  else_by (Some x) p = one tree.some_expr (x.1 p)

  pub constant_by : (x : Option (Option ((y : AstExpr) × OfExpr a area n y))) (p : LowerCtx)
      → At area p (node.some_some (opt_opt in_nodes.expr x))
      (λ b. of_types.constant_or_absent (λ y q. tree.constant (of_types.expr_or_none (λ y. y.1.expr) y (of_types.inside_constant q)))
      (opt_opt (beside (read.fold_expr b (entering b n))) x) p)
      (of_option (λ e. asked.some_expr e (of_types.inside_constant p)) (opt_opt (in_asked a n).expr x))
  constant_by None p = still (tree.constant tree.no_expr)
  constant_by (Some x) p = one tree.constant (expr_by x (of_types.inside_constant p))

  pub plain_by : (x : Option ((y : AstBlockExpr) × OfBlock a area n y)) (p : LowerCtx)
      → At area p (node.some (opt in_nodes.block x))
      (λ b. of.plain_or_none (λ y. y.1) (opt (beside (read.fold_block b (entering b n))) x) p)
      (asked.some_plain (opt (in_asked a n).block x) p)
  plain_by None p = still tree.no_block
  plain_by (Some x) p = one tree.some_block (x.1.plain p)

  pub asked_by : (x : Option ((y : AstBlockExpr) × OfBlock a area n y)) (p : LowerCtx)
      → At area p (node.some (opt in_nodes.block x))
      (λ b. of.asked_or_none (λ y. y.1) (opt (beside (read.fold_block b (entering b n))) x) p)
      (of_option (λ y. y.1.asked p) (opt (in_asked a n).block x))
  asked_by None p = still tree.no_expr
  asked_by (Some x) p = one tree.some_expr (x.1.asked p)

  pub exprs_by : (xs : List ((y : AstExpr) × OfExpr a area n y)) (p : LowerCtx)
      → At area p (node.each (lst in_nodes.expr xs))
      (λ b. of.exprs_of (λ y. y.1.expr) (lst (beside (read.fold_expr b (entering b n))) xs) p)
      (asked.each_expr (lst (in_asked a n).expr xs) p)
  exprs_by [] p = still tree.no_exprs
  exprs_by (x ∷ xs) p = two tree.more_exprs (x.1.expr p) (exprs_by xs p)

  pub fields_by : (xs : List ((y : AstRecordExprField) × OfField a area n y)) (p : LowerCtx)
      → At area p (node.each (lst in_nodes.field xs))
      (λ b. of.fields_of (λ y. y.1) (lst (beside (read.fold_field b (entering b n))) xs) p) (asked.each (lst (in_asked a n).field xs) p)
  fields_by [] p = still tree.no_fields
  fields_by (x ∷ xs) p = two tree.more_fields (x.1 p) (fields_by xs p)

  pub spread_by : (x : Option ((y : AstExpr) × OfExpr a area n y)) (dots : Bool) (p : LowerCtx)
      → At area p (node.some (opt in_nodes.expr x))
      (λ b. of.spread_or_none (λ y. y.1.expr) (opt (beside (read.fold_expr b (entering b n))) x) dots p)
      (asked.some_expr (opt (in_asked a n).expr x) p)
  spread_by (Some x) dots p = one tree.spread_of (x.1.expr p)
  spread_by None true p = still tree.field_defaults
  spread_by None false p = still tree.no_spread

  pub record_by : (x : Option ((y : AstRecordExprFieldList) × OfRecord a area n y)) (p : LowerCtx)
      → At area p (node.some (opt in_nodes.field_list x))
      (λ b. of.record_or_empty (λ y. y.1) (opt (beside (read.fold_record b (entering b n))) x) p)
      (asked.some (opt (in_asked a n).field_list x) p)
  record_by None p = still (record { head = of.no_list; fields = tree.no_fields; spread = tree.no_spread })
  record_by (Some x) p = x.1 p

  pub arms_by : (xs : List ((y : AstMatchArm) × OfArm a area n y)) (p : LowerCtx)
      → At area p (node.each (lst in_nodes.arm xs)) (λ b. of.arms_of (λ y. y.1) (lst (beside (read.fold_arm b (entering b n))) xs) p)
      (asked.each (lst (in_asked a n).arm xs) p)
  arms_by [] p = still tree.no_arms
  arms_by (x ∷ xs) p = two tree.more_arms (x.1 p) (arms_by xs p)

  pub guard_by : (x : Option (Option ((y : AstExpr) × OfExpr a area n y))) (p : LowerCtx)
      → At area p (node.some_some (opt_opt in_nodes.expr x))
      (λ b. of.guard_or_none (of_types.expr_or_none (λ y. y.1.expr)) (opt_opt (beside (read.fold_expr b (entering b n))) x) p)
      (of_option (λ g. asked.some_expr g p) (opt_opt (in_asked a n).expr x))
  guard_by None p = still tree.no_guard
  guard_by (Some x) p = one tree.guard (expr_by x p)

  pub let_else_by : (x : Option (Option ((y : AstBlockExpr) × OfBlock a area n y))) (p : LowerCtx)
      → At area p (node.some_some (opt_opt in_nodes.block x))
      (λ b. of.let_else_or_none (of.plain_or_none (λ y. y.1)) (opt_opt (beside (read.fold_block b (entering b n))) x) p)
      (of_option (λ b. asked.some_plain b p) (opt_opt (in_asked a n).block x))
  let_else_by None p = still tree.no_block
  let_else_by (Some x) p = plain_by x p

  -- patterns

  pub pat_by : (x : Option ((y : AstPat) × OfPat a area n y)) (p : LowerCtx)
      → At area p (node.some (opt in_nodes.pat x))
      (λ b. of_types.pat_or_none (λ y. y.1) (opt (beside (read.fold_pat b (entering b n))) x) p) (asked.some (opt (in_asked a n).pat x) p)
  pat_by None p = still tree.no_pat
  pat_by (Some x) p = one tree.some_pat (x.1 p)

  pub pats_by : (xs : List ((y : AstPat) × OfPat a area n y)) (p : LowerCtx)
      → At area p (node.each (lst in_nodes.pat xs)) (λ b. of_pats.pats_of (λ y. y.1) (lst (beside (read.fold_pat b (entering b n))) xs) p)
      (asked.each (lst (in_asked a n).pat xs) p)
  pats_by [] p = still tree.no_pats
  pats_by (x ∷ xs) p = two tree.more_pats (x.1 p) (pats_by xs p)

  pub elements_by : (xs : List ((y : AstPat) × OfPat a area n y)) (p : LowerCtx)
      → At area p (node.each (lst in_nodes.pat xs))
      (λ b. of_pats.elements_of (λ y. y.1) (lst (beside (read.fold_pat b (entering b n))) xs) p)
      (asked.each (lst (in_asked a n).pat xs) p)
  elements_by [] p = still tree.no_pats
  elements_by (x ∷ xs) p = two of_pats.element_in (x.1 p) (elements_by xs p)

  pub pat_fields_by : (xs : List ((y : AstRecordPatField) × OfPatField a area n y)) (p : LowerCtx)
      → At area p (node.each (lst in_nodes.pat_field xs))
      (λ b. of_pats.pat_fields_of (λ y. y.1) (lst (beside (read.fold_pat_field b (entering b n))) xs) p)
      (asked.each (lst (in_asked a n).pat_field xs) p)
  pat_fields_by [] p = still tree.no_pat_fields
  pat_fields_by (x ∷ xs) p = two tree.more_pat_fields (x.1 p) (pat_fields_by xs p)
