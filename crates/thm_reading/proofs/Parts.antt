-- Parts that may be absent, and lists, are what the rules allow where each part is.
use Rattle.std.proofs.Common.{◌≡◌, refl, sym, subst, ℕ, Bool, true, false, List, [], ◌∷◌, Option, Some, None, if◌then◌else◌}
use Rattle.hir_syntax.specs.declared.types.GenericArg.{GenericArg as AstGenericArg}
use Rattle.hir_syntax.specs.declared.ast.Expr.{Expr as AstExpr}
use Rattle.hir_syntax.specs.declared.ast.Path.{Path as AstPath}
use Rattle.hir_syntax.specs.declared.ast.PathSegment.{PathSegment as AstPathSegment}
use Rattle.hir_syntax.specs.declared.pats.Pat.{Pat as AstPat}
use Rattle.hir_syntax.specs.declared.types.Param.{Param as AstParam, out-Param}
use Rattle.hir_syntax.specs.declared.types.TypeBound.{TypeBound as AstTypeBound}
use Rattle.hir_syntax.specs.declared.types.Type_.{Type_ as AstType_}
use Rattle.hir_store.specs.declared.name.Name.{Name}
use Rattle.hir_env.specs.ResolvedTree as tree
use Rattle.hir_env.specs.ResolvedTree.{OptionType, Parts}
use Rattle.hir_env.specs.Answers.{Answers}
use Rattle.hir_env.specs.Folds.{entering, fold_expr, fold_generic_arg, fold_path, fold_segment}
use Rattle.hir_env.specs.Folds.{fold_pat, fold_param, fold_type_bound, fold_type}
use Rattle.hir_env.specs.Layers.{ParamReading}
use Rattle.hir_env.specs.Paths as of
use Rattle.hir_env.specs.Answering as of_exprs
use Rattle.hir_env.specs.Pats as of_pats
use Rattle.hir_env.specs.Calls.{splice_of, stmts_of, value_or_none}
use Rattle.hir_env.specs.Layers.{Defined, ExprReading, StmtReading}
use Rattle.hir_env.specs.Folds.{fold_arm, fold_block, fold_else_branch, fold_field, fold_pat_field, fold_stmt}
use Rattle.hir_syntax.specs.declared.ast.BlockExpr.{BlockExpr as AstBlockExpr}
use Rattle.hir_syntax.specs.declared.ast.ElseBranch.{ElseBranch as AstElseBranch}
use Rattle.hir_syntax.specs.declared.ast.RecordExprField.{RecordExprField as AstRecordExprField}
use Rattle.hir_syntax.specs.declared.ast.Stmt.{Stmt as AstStmt}
use Rattle.hir_syntax.specs.declared.branches.MatchArm.{MatchArm as AstMatchArm}
use Rattle.hir_syntax.specs.declared.pats.RecordPatField.{RecordPatField as AstRecordPatField}
use Rattle.thm_reading.specs.Rules.{ArmsAs, ContentsAs, ElseAs, ExprsAs, FieldsAs, ForBodyAs, GuardAs, LetElseAs, OptPlainAs, ParamsAs}
use Rattle.thm_reading.specs.Rules.{PatFieldsAs, PatsAs, SpreadAs, StmtsAs, TailAs}
use Rattle.thm_reading.specs.Shapes.{as_elements}
use Rattle.hir_env.specs.TypePats.{name_given}
use Rattle.hir_env.specs.declared.ctx.LowerCtx.{LowerCtx}
use Rattle.hir_env.proofs.Mapped.{beside, map_list, listed_options, optional}
use Rattle.thm_reading.specs.Rules as rule
use Rattle.thm_reading.specs.Rules.{AnswerAs, ArgListAs, ArgsAs, BoundsAs, FirstAs, FnParamsAs, LenAs, OptExprAs, OptPathAs, OptPatAs}
use Rattle.thm_reading.specs.Rules.{OptTypeAs}
use Rattle.thm_reading.specs.Rules.{OptUseTreeAs, ParensAs, PartsAs, SegmentsAs, TypesAs}
use Rattle.thm_reading.specs.Shapes.{ends_variadic}
use Rattle.thm_reading.specs.LowerCtx.{in_constant}
use Rattle.thm_reading.proofs.Motives.{OfArm, OfBlock, OfElse, OfExpr, OfField, OfPatField, OfStmt, OfArg, OfBound, OfParam, OfPat, OfPath}
use Rattle.thm_reading.proofs.Motives.{OfSegment, OfType, at}

module _ (a : Answers) (n : ℕ) where
  pub type_part : (x : Option ((t : AstType_) × OfType a n t)) (p : LowerCtx) → OptTypeAs a (at n p) (optional (λ e. e.0) x)
      (of.type_or_none (λ y. y.1) (optional (beside (fold_type a (entering a n))) (optional (λ e. e.0) x)) (at n p))
  type_part None p = rule.no_type
  type_part (Some t) p = rule.some_type (t.1 p)

  pub answer_part : (x : Option (Option ((t : AstType_) × OfType a n t))) (p : LowerCtx)
      → AnswerAs a (at n p) (optional (optional (λ e. e.0)) x)
      (of.answer_or_none (of.type_or_none (λ y. y.1))
      (optional (optional (beside (fold_type a (entering a n)))) (optional (optional (λ e. e.0)) x)) (at n p))
  answer_part None p = rule.no_answer
  answer_part (Some x) p = rule.answer_type (type_part x p)

  pub types_part : (xs : List ((t : AstType_) × OfType a n t)) (p : LowerCtx) → TypesAs a (at n p) (map_list (λ e. e.0) xs)
      (of.types_of (λ y. y.1) (map_list (beside (fold_type a (entering a n))) (map_list (λ e. e.0) xs)) (at n p))
  types_part [] p = rule.no_types
  types_part (x ∷ xs) p = rule.more_types (rule.some_type (x.1 p)) (types_part xs p)

  pub parts_part : (xs : List (Option ((t : AstType_) × OfType a n t))) (p : LowerCtx)
      → PartsAs a (at n p) (listed_options (λ e. e.0) xs) (of.parts_of (of.type_or_none (λ y. y.1))
      (listed_options (beside (fold_type a (entering a n))) (listed_options (λ e. e.0) xs)) (at n p))
  parts_part [] p = rule.no_parts
  parts_part (None ∷ xs) p = rule.more_parts rule.no_type (parts_part xs p)
  parts_part (Some x ∷ xs) p = rule.more_parts (rule.some_type (x.1 p)) (parts_part xs p)

  pub parens_part : (x : Option (List (Option ((t : AstType_) × OfType a n t)))) (r : Option (Option ((t : AstType_) × OfType a n t)))
      (p : LowerCtx) → ParensAs a (at n p) (optional (listed_options (λ e. e.0)) x) (optional (optional (λ e. e.0)) r)
      (of.parens_or_none (of.parts_of (of.type_or_none (λ y. y.1)))
      (optional (listed_options (beside (fold_type a (entering a n)))) (optional (listed_options (λ e. e.0)) x))
      (of.ret_or_none (of.type_or_none (λ y. y.1))
      (optional (optional (beside (fold_type a (entering a n)))) (optional (optional (λ e. e.0)) r)) (at n p)) (at n p))
  parens_part None r p = rule.no_parens
  parens_part (Some xs) None p = rule.without_answer (parts_part xs p)
  parens_part (Some xs) (Some r) p = rule.with_answer (parts_part xs p) (type_part r p)

  pub path_part : (x : Option ((y : AstPath) × OfPath a n y)) (p : LowerCtx) → OptPathAs a (at n p) (optional (λ e. e.0) x)
      (of.path_or_none (λ y. y.1.alone) (optional (beside (fold_path a (entering a n))) (optional (λ e. e.0) x)) (at n p))
  path_part None p = rule.no_path
  path_part (Some x) p = rule.some_path (x.1.alone p)

  pub use_tree_part : (x : Option ((y : AstPath) × OfPath a n y)) (p : LowerCtx) → OptUseTreeAs a (at n p) (optional (λ e. e.0) x)
      (of.path_or_none (λ y. y.1.use_tree) (optional (beside (fold_path a (entering a n))) (optional (λ e. e.0) x)) (at n p))
  use_tree_part None p = rule.no_use_tree
  use_tree_part (Some x) p = rule.some_use_tree (x.1.use_tree p)

  pub segments_part : (xs : List (Option ((s : AstPathSegment) × OfSegment a n s))) (p : LowerCtx)
      → SegmentsAs a (at n p) (listed_options (λ e. e.0) xs) (of.segments_of (λ y. y.1)
      (listed_options (beside (fold_segment a (entering a n))) (listed_options (λ e. e.0) xs)) (at n p))
  segments_part [] p = rule.no_segments
  segments_part (None ∷ xs) p = rule.more_segments rule.absent_segment (segments_part xs p)
  segments_part (Some x ∷ xs) p = rule.more_segments (rule.some_segment (x.1 p)) (segments_part xs p)

  pub first_part : (xs : List (Option ((s : AstPathSegment) × OfSegment a n s))) (p : LowerCtx)
      → FirstAs a (at n p) (listed_options (λ e. e.0) xs)
      (of.first_of (λ y. y.1) (listed_options (beside (fold_segment a (entering a n))) (listed_options (λ e. e.0) xs)) (at n p))
      (of.rest_of (λ y. y.1) (listed_options (beside (fold_segment a (entering a n))) (listed_options (λ e. e.0) xs)) (at n p))
  first_part [] p = rule.none_first
  first_part (None ∷ xs) p = rule.some_first rule.absent_segment (segments_part xs p)
  first_part (Some x ∷ xs) p = rule.some_first (rule.some_segment (x.1 p)) (segments_part xs p)

  pub args_part : (xs : List ((y : AstGenericArg) × OfArg a n y)) (p : LowerCtx) → ArgsAs a (at n p) (map_list (λ e. e.0) xs)
      (of.generic_args_of (λ y. y.1) (map_list (beside (fold_generic_arg a (entering a n))) (map_list (λ e. e.0) xs)) (at n p))
  args_part [] p = rule.no_args
  args_part (x ∷ xs) p = rule.more_args (x.1 p) (args_part xs p)

  pub arg_list_part : (x : Option (List ((y : AstGenericArg) × OfArg a n y))) (p : LowerCtx)
      → ArgListAs a (at n p) (optional (map_list (λ e. e.0)) x) (of.arg_list_or_none (of.generic_args_of (λ y. y.1))
      (optional (map_list (beside (fold_generic_arg a (entering a n)))) (optional (map_list (λ e. e.0)) x)) (at n p))
  arg_list_part None p = rule.no_list
  arg_list_part (Some xs) p = rule.some_list (args_part xs p)

  pub bounds_part : (xs : List ((y : AstTypeBound) × OfBound a n y)) (p : LowerCtx) → BoundsAs a (at n p) (map_list (λ e. e.0) xs)
      (of.bounds_of (λ y. y.1) (map_list (beside (fold_type_bound a (entering a n))) (map_list (λ e. e.0) xs)) (at n p))
  bounds_part [] p = rule.no_bounds
  bounds_part (x ∷ xs) p = rule.more_bounds (x.1 p) (bounds_part xs p)

  pub pat_part : (x : Option ((y : AstPat) × OfPat a n y)) (p : LowerCtx) → OptPatAs a (at n p) (optional (λ e. e.0) x)
      (of.pat_or_none (λ y. y.1) (optional (beside (fold_pat a (entering a n))) (optional (λ e. e.0) x)) (at n p))
  pat_part None p = rule.no_pat
  pat_part (Some x) p = rule.some_pat (x.1 p)

  pub expr_part : (x : Option ((e : AstExpr) × OfExpr a n e)) (p : LowerCtx) → OptExprAs a (at n p) (optional (λ e. e.0) x)
      (of.expr_or_none (λ y. y.1.expr) (optional (beside (fold_expr a (entering a n))) (optional (λ e. e.0) x)) (at n p))
  expr_part None p = rule.no_expr
  expr_part (Some x) p = rule.some_expr (x.1.expr p)

  pub len_part : (x : Option (Option ((e : AstExpr) × OfExpr a n e))) (p : LowerCtx)
      → LenAs a (at n p) (optional (optional (λ e. e.0)) x)
      (of.constant_or_absent (λ y q. tree.constant (of.expr_or_none (λ y. y.1.expr) y (of.inside_constant q)))
      (optional (optional (beside (fold_expr a (entering a n)))) (optional (optional (λ e. e.0)) x)) (at n p))
  len_part None p = rule.no_len
  len_part (Some x) p = rule.some_len (expr_part x (in_constant p))

  pub else_part : (x : Option ((e : AstElseBranch) × OfElse a n e)) (p : LowerCtx) → ElseAs a (at n p) (optional (λ e. e.0) x)
      (of.expr_or_none (λ y. y.1) (optional (beside (fold_else_branch a (entering a n))) (optional (λ e. e.0) x)) (at n p))
  else_part None p = rule.no_else
  else_part (Some x) p = rule.some_else (x.1 p)

  pub plain_part : (x : Option ((e : AstBlockExpr) × OfBlock a n e)) (p : LowerCtx) → OptPlainAs a (at n p) (optional (λ e. e.0) x)
      (of_exprs.plain_or_none (λ y. y.1) (optional (beside (fold_block a (entering a n))) (optional (λ e. e.0) x)) (at n p))
  plain_part None p = rule.no_block
  plain_part (Some x) p = rule.some_block (x.1.plain p)

  pub body_part : (x : Option ((e : AstBlockExpr) × OfBlock a n e)) (p : LowerCtx) → ForBodyAs a (at n p) (optional (λ e. e.0) x)
      (of_exprs.asked_or_none (λ y. y.1) (optional (beside (fold_block a (entering a n))) (optional (λ e. e.0) x)) (at n p))
  body_part None p = rule.no_body
  body_part (Some x) p = x.1.asked p

  pub exprs_part : (xs : List ((e : AstExpr) × OfExpr a n e)) (p : LowerCtx) → ExprsAs a (at n p) (map_list (λ e. e.0) xs)
      (of_exprs.exprs_of (λ y. y.1.expr) (map_list (beside (fold_expr a (entering a n))) (map_list (λ e. e.0) xs)) (at n p))
  exprs_part [] p = rule.no_exprs
  exprs_part (x ∷ xs) p = rule.more_exprs (x.1.expr p) (exprs_part xs p)

  pub fields_part : (xs : List ((x : AstRecordExprField) × OfField a n x)) (p : LowerCtx) → FieldsAs a (at n p) (map_list (λ e. e.0) xs)
      (of_exprs.fields_of (λ y. y.1) (map_list (beside (fold_field a (entering a n))) (map_list (λ e. e.0) xs)) (at n p))
  fields_part [] p = rule.no_fields
  fields_part (x ∷ xs) p = rule.more_fields (x.1 p) (fields_part xs p)

  pub spread_part : (x : Option ((e : AstExpr) × OfExpr a n e)) (dots : Bool) (p : LowerCtx)
      → SpreadAs a (at n p) (optional (λ e. e.0) x) dots
      (of_exprs.spread_or_none (λ y. y.1.expr) (optional (beside (fold_expr a (entering a n))) (optional (λ e. e.0) x)) dots (at n p))
  spread_part (Some x) dots p = rule.spread_of (x.1.expr p)
  spread_part None true p = rule.field_defaults
  spread_part None false p = rule.no_spread

  pub arms_part : (xs : List ((x : AstMatchArm) × OfArm a n x)) (p : LowerCtx) → ArmsAs a (at n p) (map_list (λ e. e.0) xs)
      (of_exprs.arms_of (λ y. y.1) (map_list (beside (fold_arm a (entering a n))) (map_list (λ e. e.0) xs)) (at n p))
  arms_part [] p = rule.no_arms
  arms_part (x ∷ xs) p = rule.more_arms (x.1 p) (arms_part xs p)

  pub guard_part : (x : Option (Option ((e : AstExpr) × OfExpr a n e))) (p : LowerCtx)
      → GuardAs a (at n p) (optional (optional (λ e. e.0)) x)
      (of_exprs.guard_or_none (of.expr_or_none (λ y. y.1.expr))
      (optional (optional (beside (fold_expr a (entering a n)))) (optional (optional (λ e. e.0)) x)) (at n p))
  guard_part None p = rule.no_guard
  guard_part (Some x) p = rule.some_guard (expr_part x p)

  pub let_else_part : (x : Option (Option ((e : AstBlockExpr) × OfBlock a n e))) (p : LowerCtx)
      → LetElseAs a (at n p) (optional (optional (λ e. e.0)) x)
      (of_exprs.let_else_or_none (of_exprs.plain_or_none (λ y. y.1))
      (optional (optional (beside (fold_block a (entering a n)))) (optional (optional (λ e. e.0)) x)) (at n p))
  let_else_part None p = rule.no_let_else
  let_else_part (Some x) p = rule.some_let_else (plain_part x p)

  pub pats_part : (xs : List ((y : AstPat) × OfPat a n y)) (p : LowerCtx) → PatsAs a (at n p) (map_list (λ e. e.0) xs)
      (of_pats.pats_of (λ y. y.1) (map_list (beside (fold_pat a (entering a n))) (map_list (λ e. e.0) xs)) (at n p))
  pats_part [] p = rule.no_pats
  pats_part (x ∷ xs) p = rule.more_pats (x.1 p) (pats_part xs p)

  pub elements_same : (xs : List ((y : AstPat) × OfPat a n y)) (p : LowerCtx)
      → of_pats.elements_of (λ y. y.1) (map_list (beside (fold_pat a (entering a n))) (map_list (λ e. e.0) xs)) (at n p)
      ≡ as_elements (of_pats.pats_of (λ y. y.1) (map_list (beside (fold_pat a (entering a n))) (map_list (λ e. e.0) xs)) (at n p))
  elements_same [] p = refl
  elements_same (x ∷ xs) p = λ i. of_pats.element_in (fold_pat a (entering a n) x.0 (at n p)) (elements_same xs p i)

  pub pat_fields_part : (xs : List ((y : AstRecordPatField) × OfPatField a n y)) (p : LowerCtx)
      → PatFieldsAs a (at n p) (map_list (λ e. e.0) xs)
      (of_pats.pat_fields_of (λ y. y.1) (map_list (beside (fold_pat_field a (entering a n))) (map_list (λ e. e.0) xs)) (at n p))
  pat_fields_part [] p = rule.no_pat_fields
  pat_fields_part (x ∷ xs) p = rule.more_pat_fields (x.1 p) (pat_fields_part xs p)

  closure_list : (xs : List ((y : AstParam) × OfParam a n y)) (p : LowerCtx) → ParamsAs a (at n p) (Some (map_list (λ e. e.0) xs))
      (of.closure_params_of (λ y. y.1) (map_list (beside (fold_param a (entering a n))) (map_list (λ e. e.0) xs)) (at n p))
  closure_list [] p = rule.last_param
  closure_list (x ∷ xs) p = (x.1 p).own _ _ (closure_list xs p)

  pub closure_part : (x : Option (List ((y : AstParam) × OfParam a n y))) (p : LowerCtx)
      → ParamsAs a (at n p) (optional (map_list (λ e. e.0)) x)
      (of.closure_params_or_none (λ y. y.1)
      (optional (map_list (beside (fold_param a (entering a n)))) (optional (map_list (λ e. e.0)) x)) (at n p))
  closure_part None p = rule.without_params
  closure_part (Some xs) p = closure_list xs p

  -- statements

  pub stmts_part : (ss : List ((s : AstStmt) × OfStmt a n s)) (p : LowerCtx) (d : Defined)
      → (let r = stmts_of {A = AstStmt × (LowerCtx → Defined → StmtReading)} {B = AstExpr × ExprReading} (λ y. y.1) (λ y. y.1.value)
      (map_list (beside (fold_stmt a (entering a n))) (map_list (λ e. e.0) ss)) (at n p) d in
      StmtsAs a (at n p) (map_list (λ e. e.0) ss) d r.stmts r.defined)
  stmts_part [] p d = rule.no_stmts
  stmts_part (s ∷ ss) p d = rule.more_stmts (s.1 p d) (stmts_part ss p _)

  pub tail_part : (e : Option ((x : AstExpr) × OfExpr a n x)) (p : LowerCtx) (d : Defined)
      → (let r = value_or_none {A = AstStmt × (LowerCtx → Defined → StmtReading)} {B = AstExpr × ExprReading} (λ y. y.1) (λ y. y.1.value)
      (optional (beside (fold_expr a (entering a n))) (optional (λ e. e.0) e)) (at n p) d in
      TailAs a (at n p) (optional (λ e. e.0) e) d r.stmts r.last r.defined)
  tail_part None p d = rule.no_tail
  tail_part (Some e) p d = rule.some_tail (e.1.value p d)

  pub contents_part : (ss : List ((s : AstStmt) × OfStmt a n s)) (e : Option ((x : AstExpr) × OfExpr a n x)) (p : LowerCtx) (d : Defined)
      → (let r = splice_of {A = AstStmt × (LowerCtx → Defined → StmtReading)} {B = AstExpr × ExprReading} (λ y. y.1) (λ y. y.1.value)
      (map_list (beside (fold_stmt a (entering a n))) (map_list (λ e. e.0) ss))
      (optional (beside (fold_expr a (entering a n))) (optional (λ e. e.0) e)) (at n p) d in
      ContentsAs a (at n p) (map_list (λ e. e.0) ss) (optional (λ e. e.0) e) d r.stmts r.last r.defined)
  contents_part ss e p d = rule.contents (stmts_part ss p d) (tail_part e p _)

  -- parameters of a function pointer

  one_param : (x : AstParam) (p : LowerCtx) (r : ParamReading) (v : Bool) (xs : List AstParam) (ns : List (Option Name)) (ts : Parts)
      → r.variadic ≡ v → (out-Param x).variadic ≡ v → ((q : tree.OptionPat) × (r.name ≡ name_given q) × OptPatAs a p (out-Param x).pat q)
      → OptTypeAs a p (out-Param x).ty r.ty → FnParamsAs a p xs ns ts
      → FnParamsAs a p (x ∷ xs) (if v then ns else r.name ∷ ns) (if v then ts else tree.more_parts r.ty ts)
  one_param x p r true xs ns ts e w q t h = rule.variadic_param w h
  one_param x p r false xs ns ts e w q t h =
      subst (λ m. FnParamsAs a p (x ∷ xs) (m ∷ ns) (tree.more_parts r.ty ts)) (sym q.1) (rule.fn_param w q.2 t h)

  pub params_part : (xs : List ((y : AstParam) × OfParam a n y)) (p : LowerCtx) → FnParamsAs a (at n p) (map_list (λ e. e.0) xs)
      (of.names_given (λ y. y.1) (map_list (beside (fold_param a (entering a n))) (map_list (λ e. e.0) xs)) (at n p))
      (of.params_of (λ y. y.1) (map_list (beside (fold_param a (entering a n))) (map_list (λ e. e.0) xs)) (at n p))
  params_part [] p = rule.no_params
  params_part (x ∷ xs) p = let h = x.1 p in
      one_param x.0 (at n p) (fold_param a (entering a n) x.0 (at n p)) (fold_param a (entering a n) x.0 (at n p)).variadic
      (map_list (λ e. e.0) xs) _ _ refl (sym h.variadic) (h.pat, h.name, h.pat_as) h.ty (params_part xs p)

  pub varargs_part : (b : Bool) (xs : List ((y : AstParam) × OfParam a n y)) (p : LowerCtx)
      → of.last_variadic (λ y. y.1) b (map_list (beside (fold_param a (entering a n))) (map_list (λ e. e.0) xs)) (at n p)
      ≡ ends_variadic b (map_list (λ e. e.0) xs)
  varargs_part b [] p = refl
  varargs_part b (x ∷ xs) p =
      subst (λ v. of.last_variadic (λ y. y.1) v (map_list (beside (fold_param a (entering a n))) (map_list (λ e. e.0) xs)) (at n p)
      ≡ ends_variadic (out-Param x.0).variadic (map_list (λ e. e.0) xs)) (sym (x.1 p).variadic)
      (varargs_part (out-Param x.0).variadic xs p)
