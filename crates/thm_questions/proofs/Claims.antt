-- What is claimed of each part of a tree: that what is read of it is framed by its list, and that this list is about its nodes.
use Rattle.std.proofs.Common.{ℕ, zero, suc, List, Option}
use Rattle.hir_base.specs.declared.node.AstPtr.{AstPtr}
use Rattle.hir_syntax.specs.declared.ast.ElseBranch.{ElseBranch as AstElseBranch}
use Rattle.hir_syntax.specs.declared.ast.ExprKind.{ExprKind as AstExprKind}
use Rattle.hir_syntax.specs.declared.ast.StmtKind.{StmtKind as AstStmtKind}
use Rattle.hir_syntax.specs.declared.pats.PatKind.{PatKind as AstPatKind}
use Rattle.hir_syntax.specs.declared.types.GenericArg.{GenericArg as AstGenericArg}
use Rattle.hir_syntax.specs.declared.types.TypeKind.{TypeKind as AstTypeKind}
use Rattle.hir_syntax.specs.declared.ast.BlockExpr.{BlockExpr as AstBlockExpr}
use Rattle.hir_syntax.specs.declared.ast.Expr.{Expr as AstExpr}
use Rattle.hir_syntax.specs.declared.ast.Path.{Path as AstPath}
use Rattle.hir_syntax.specs.declared.ast.PathSegment.{PathSegment as AstPathSegment}
use Rattle.hir_syntax.specs.declared.ast.RecordExprField.{RecordExprField as AstRecordExprField}
use Rattle.hir_syntax.specs.declared.ast.RecordExprFieldList.{RecordExprFieldList as AstRecordExprFieldList}
use Rattle.hir_syntax.specs.declared.ast.Stmt.{Stmt as AstStmt}
use Rattle.hir_syntax.specs.declared.branches.MatchArm.{MatchArm as AstMatchArm}
use Rattle.hir_syntax.specs.declared.pats.Pat.{Pat as AstPat}
use Rattle.hir_syntax.specs.declared.pats.RecordPatField.{RecordPatField as AstRecordPatField}
use Rattle.hir_syntax.specs.declared.types.AssocTypeArg.{AssocTypeArg as AstAssocTypeArg}
use Rattle.hir_syntax.specs.declared.types.Param.{Param as AstParam}
use Rattle.hir_syntax.specs.declared.types.PathType.{PathType as AstPathType}
use Rattle.hir_syntax.specs.declared.types.TypeBound.{TypeBound as AstTypeBound}
use Rattle.hir_syntax.specs.declared.types.Type_.{Type_ as AstType_}
use Rattle.hir_env.specs.Answers.{Answers}
use Rattle.hir_env.specs.Folds as read
use Rattle.hir_env.specs.Folds.{entering}
use Rattle.hir_env.specs.Layers.{Defined, Sorts, written}
use Rattle.hir_env.specs.declared.ctx.LowerCtx.{LowerCtx}
use Rattle.hir_env.proofs.Mapped.{map_list, listed_options, optional}
use Rattle.spec_fold.specs.Claims.{Claims}
use Rattle.spec_fold.specs.Claims as of
use Rattle.spec_fold.specs.Folds as fold
use Rattle.spec_fold.specs.Folds.{Steps, with_made}
use Rattle.spec_fold.proofs.Maps.{Maps, making}
use Rattle.thm_questions.specs.Asked.{asking, asking_steps}
use Rattle.thm_questions.specs.Areas.{NodeArea}
use Rattle.thm_questions.specs.Lists.{entered_calls}
use Rattle.thm_questions.specs.Nodes.{node_steps, nodes}
use Rattle.thm_questions.proofs.Framing.{At}

-- parts with what is made of them, where something was claimed of them
module _ {W M : Type 0} {C : W → Type 0} (made : W → M) where
  abbrev pub opt : Option ((w : W) × C w) → Option M
  opt x = optional made (optional (λ e. e.0) x)

  abbrev pub lst : List ((w : W) × C w) → List M
  lst xs = map_list made (map_list (λ e. e.0) xs)

  abbrev pub opts : List (Option ((w : W) × C w)) → List (Option M)
  opts xs = listed_options made (listed_options (λ e. e.0) xs)

  abbrev pub opt_lst : Option (List ((w : W) × C w)) → Option (List M)
  opt_lst x = optional (map_list made) (optional (map_list (λ e. e.0)) x)

  abbrev pub opt_opt : Option (Option ((w : W) × C w)) → Option (Option M)
  opt_opt x = optional (optional made) (optional (optional (λ e. e.0)) x)

  abbrev pub opt_opts : Option (List (Option ((w : W) × C w))) → Option (List (Option M))
  opt_opts x = optional (listed_options made) (optional (listed_options (λ e. e.0)) x)

abbrev pub in_nodes : Maps written (with_made nodes)
in_nodes = making nodes node_steps

abbrev pub asked_of : Answers → ℕ → Steps asking
asked_of a n = asking_steps a n (entered_calls a n)

abbrev pub in_asked : Answers → ℕ → Maps written (with_made asking)
in_asked a n = making asking (asked_of a n)

-- where so many calls may be entered
module _ (a : Answers) (area : NodeArea a) (n : ℕ) where
  abbrev pub OfElse : AstElseBranch → Type 0
  OfElse x = (p : LowerCtx)
      → At area p (fold.fold_else_branch nodes node_steps x) (λ b. read.fold_else_branch b (entering b n) x p)
      (fold.fold_else_branch asking (asked_of a n) x p)

  pub record OfKind (x : AstExprKind) : Type 0 where
    pub expr : (s : AstPtr) (p : LowerCtx)
        → At area p (fold.fold_expr_kind nodes node_steps x s.node) (λ b. (read.fold_expr_kind b (entering b n) x).expr s p)
        ((fold.fold_expr_kind asking (asked_of a n) x).expr s p)
    pub value : (s : AstPtr) (p : LowerCtx) (d : Defined)
        → At area p (fold.fold_expr_kind nodes node_steps x s.node) (λ b. (read.fold_expr_kind b (entering b n) x).value s p d)
        ((fold.fold_expr_kind asking (asked_of a n) x).value s p d)

  abbrev pub OfStmtKind : AstStmtKind → Type 0
  OfStmtKind x = (s : AstPtr) (p : LowerCtx) (d : Defined)
      → At area p (fold.fold_stmt_kind nodes node_steps x s.node) (λ b. read.fold_stmt_kind b (entering b n) x s p d)
      (fold.fold_stmt_kind asking (asked_of a n) x s p d)

  abbrev pub OfPatKind : AstPatKind → Type 0
  OfPatKind x = (s : AstPtr) (p : LowerCtx)
      → At area p (fold.fold_pat_kind nodes node_steps x) (λ b. read.fold_pat_kind b (entering b n) x s p)
      (fold.fold_pat_kind asking (asked_of a n) x p)

  abbrev pub OfArg : AstGenericArg → Type 0
  OfArg x = (p : LowerCtx)
      → At area p (fold.fold_generic_arg nodes node_steps x) (λ b. read.fold_generic_arg b (entering b n) x p)
      (fold.fold_generic_arg asking (asked_of a n) x p)

  abbrev pub OfTypeKind : AstTypeKind → Type 0
  OfTypeKind x = (s : AstPtr) (p : LowerCtx)
      → At area p (fold.fold_type_kind nodes node_steps x) (λ b. read.fold_type_kind b (entering b n) x s p)
      (fold.fold_type_kind asking (asked_of a n) x p)

  pub record OfBlock (x : AstBlockExpr) : Type 0 where
    pub plain : (p : LowerCtx)
        → At area p (fold.fold_block nodes node_steps x) (λ b. (read.fold_block b (entering b n) x).plain p)
        ((fold.fold_block asking (asked_of a n) x).plain p)
    pub own : (p : LowerCtx)
        → At area p (fold.fold_block nodes node_steps x) (λ b. (read.fold_block b (entering b n) x).own p)
        ((fold.fold_block asking (asked_of a n) x).own p)
    pub asked : (p : LowerCtx)
        → At area p (fold.fold_block nodes node_steps x) (λ b. (read.fold_block b (entering b n) x).asked p)
        ((fold.fold_block asking (asked_of a n) x).asked p)

  pub record OfExpr (x : AstExpr) : Type 0 where
    pub expr : (p : LowerCtx)
        → At area p (fold.fold_expr nodes node_steps x) (λ b. (read.fold_expr b (entering b n) x).expr p)
        ((fold.fold_expr asking (asked_of a n) x).expr p)
    pub value : (p : LowerCtx) (d : Defined)
        → At area p (fold.fold_expr nodes node_steps x) (λ b. (read.fold_expr b (entering b n) x).value p d)
        ((fold.fold_expr asking (asked_of a n) x).value p d)

  pub record OfPath (x : AstPath) : Type 0 where
    pub alone : (p : LowerCtx)
        → At area p (fold.fold_path nodes node_steps x) (λ b. (read.fold_path b (entering b n) x).alone p)
        ((fold.fold_path asking (asked_of a n) x).alone x p)
    pub use_tree : (p : LowerCtx)
        → At area p (fold.fold_path nodes node_steps x) (λ b. (read.fold_path b (entering b n) x).use_tree p)
        ((fold.fold_path asking (asked_of a n) x).use_tree p)

  abbrev pub OfSegment : AstPathSegment → Type 0
  OfSegment x = (p : LowerCtx)
      → At area p (fold.fold_segment nodes node_steps x) (λ b. read.fold_segment b (entering b n) x p)
      (fold.fold_segment asking (asked_of a n) x p)

  abbrev pub OfField : AstRecordExprField → Type 0
  OfField x = (p : LowerCtx)
      → At area p (fold.fold_field nodes node_steps x) (λ b. read.fold_field b (entering b n) x p)
      (fold.fold_field asking (asked_of a n) x p)

  abbrev pub OfRecord : AstRecordExprFieldList → Type 0
  OfRecord x = (p : LowerCtx)
      → At area p (fold.fold_field_list nodes node_steps x) (λ b. read.fold_record b (entering b n) x p)
      (fold.fold_field_list asking (asked_of a n) x p)

  abbrev pub OfStmt : AstStmt → Type 0
  OfStmt x = (p : LowerCtx) (d : Defined)
      → At area p (fold.fold_stmt nodes node_steps x) (λ b. read.fold_stmt b (entering b n) x p d)
      (fold.fold_stmt asking (asked_of a n) x p d)

  abbrev pub OfArm : AstMatchArm → Type 0
  OfArm x = (p : LowerCtx)
      → At area p (fold.fold_arm nodes node_steps x) (λ b. read.fold_arm b (entering b n) x p) (fold.fold_arm asking (asked_of a n) x p)

  abbrev pub OfPat : AstPat → Type 0
  OfPat x = (p : LowerCtx)
      → At area p (fold.fold_pat nodes node_steps x) (λ b. read.fold_pat b (entering b n) x p) (fold.fold_pat asking (asked_of a n) x p)

  abbrev pub OfPatField : AstRecordPatField → Type 0
  OfPatField x = (p : LowerCtx)
      → At area p (fold.fold_pat_field nodes node_steps x) (λ b. read.fold_pat_field b (entering b n) x p)
      (fold.fold_pat_field asking (asked_of a n) x p)

  abbrev pub OfAssocArg : AstAssocTypeArg → Type 0
  OfAssocArg x = (p : LowerCtx)
      → At area p (fold.fold_assoc_type_arg nodes node_steps x) (λ b. read.fold_assoc_type_arg b (entering b n) x p)
      (fold.fold_assoc_type_arg asking (asked_of a n) x p)

  abbrev pub OfParam : AstParam → Type 0
  OfParam x = (p : LowerCtx)
      → At area p (fold.fold_param nodes node_steps x) (λ b. read.fold_param b (entering b n) x p)
      (fold.fold_param asking (asked_of a n) x p)

  abbrev pub OfPathType : AstPathType → Type 0
  OfPathType x = (p : LowerCtx)
      → At area p (fold.fold_path_type nodes node_steps x) (λ b. read.fold_path_type b (entering b n) x p)
      (fold.fold_path_type asking (asked_of a n) x p)

  abbrev pub OfBound : AstTypeBound → Type 0
  OfBound x = (p : LowerCtx)
      → At area p (fold.fold_type_bound nodes node_steps x) (λ b. read.fold_type_bound b (entering b n) x p)
      (fold.fold_type_bound asking (asked_of a n) x p)

  abbrev pub OfType : AstType_ → Type 0
  OfType x = (p : LowerCtx)
      → At area p (fold.fold_type nodes node_steps x) (λ b. read.fold_type b (entering b n) x p)
      (fold.fold_type asking (asked_of a n) x p)

  abbrev pub claims : Claims
  claims = record {
    ElseBranch = OfElse;
    ExprKind = OfKind;
    StmtKind = OfStmtKind;
    PatKind = OfPatKind;
    GenericArg = OfArg;
    TypeKind = OfTypeKind;
    BlockExpr = OfBlock;
    Expr = OfExpr;
    Path = OfPath;
    PathSegment = OfSegment;
    RecordExprField = OfField;
    RecordExprFieldList = OfRecord;
    Stmt = OfStmt;
    MatchArm = OfArm;
    MacroCall = λ x. Unit {0};
    Pat = OfPat;
    RecordPatField = OfPatField;
    AssocTypeArg = OfAssocArg;
    Param = OfParam;
    PathType = OfPathType;
    TypeBound = OfBound;
    Type_ = OfType;
  }

  abbrev pub claimed : Sorts
  claimed = of.claimed claims

  -- so it is of all that a call may stand for
  pub record AllByList : Type 0 where
    pub expr : (x : AstExpr) → OfExpr x
    pub stmt : (x : AstStmt) → OfStmt x
    pub pat : (x : AstPat) → OfPat x
    pub type_ : (x : AstType_) → OfType x

-- and where one may be entered, of what calls in it stand for
abbrev pub Below : (a : Answers) → NodeArea a → ℕ → Type 0
Below a area zero = Unit {0}
Below a area (suc n) = AllByList a area n
