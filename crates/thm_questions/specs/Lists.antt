-- The list of what reading a tree asks of an environment.
use Rattle.std.specs.Prelude.{ℕ, zero, suc, List, ◌∷◌, ◌++◌, Option, Some, None}
use Rattle.hir_syntax.specs.declared.ast.Expr.{Expr as AstExpr}
use Rattle.hir_syntax.specs.declared.ast.Path.{Path as AstPath}
use Rattle.hir_syntax.specs.declared.ast.PathSegment.{PathSegment as AstPathSegment}
use Rattle.hir_syntax.specs.declared.params.ParamList.{ParamList as AstParamList}
use Rattle.hir_syntax.specs.declared.params.SelfParam.{SelfParam as AstSelfParam}
use Rattle.hir_syntax.specs.declared.pats.Pat.{Pat as AstPat}
use Rattle.hir_syntax.specs.declared.types.Param.{Param as AstParam, out-Param}
use Rattle.hir_syntax.specs.declared.types.TypeBound.{TypeBound as AstTypeBound}
use Rattle.hir_syntax.specs.declared.types.Type_.{Type_ as AstType_}
use Rattle.hir_store.specs.declared.ids.DefWithBodyId.{DefWithBodyId}
use Rattle.hir_env.specs.Answers.{Answers}
use Rattle.hir_env.specs.ResolveCtx.{ResolveCtx}
use Rattle.hir_env.specs.declared.ctx.LowerCtx.{LowerCtx}
use Rattle.thm_frame.specs.Theorems.{with_limit, rctx}
use Rattle.thm_frame.specs.Questions.{Question, of_container}
use Rattle.thm_frame.specs.Questions.{of_expansion_limit, of_skip}
use Rattle.spec_fold.specs.Folds.{fold_expr, fold_pat, fold_path, fold_segment, fold_stmt, fold_type, fold_type_bound}
use Rattle.thm_questions.specs.Asked.{Entered, asking, asking_steps, of_name, own_cfg}
use Rattle.thm_questions.specs.Parts.{of_each, of_option}

-- what is asked of that which calls stand for, where so many may be entered one in the other
abbrev pub entered_calls : Answers → ℕ → Option Entered
entered_calls a zero = None
entered_calls a (suc n) = Some (record {
  left = n;
  expr = λ x p. (fold_expr asking (asking_steps a n (entered_calls a n)) x).expr p;
  value = λ x p d. (fold_expr asking (asking_steps a n (entered_calls a n)) x).value p d;
  stmt = λ x p d. fold_stmt asking (asking_steps a n (entered_calls a n)) x p d;
  pat = λ x p. fold_pat asking (asking_steps a n (entered_calls a n)) x p;
  type_ = λ x p. fold_type asking (asking_steps a n (entered_calls a n)) x p;
})

module _ (at : ResolveCtx) where
  abbrev left : ℕ
  left = at.place.left

  abbrev pub questions : AstExpr → List Question
  questions x = (fold_expr asking (asking_steps at.answers left (entered_calls at.answers left)) x).expr at.place

  abbrev pub pat_questions : AstPat → List Question
  pat_questions x = fold_pat asking (asking_steps at.answers left (entered_calls at.answers left)) x at.place

  abbrev pub path_questions : AstPath → List Question
  path_questions x = (fold_path asking (asking_steps at.answers left (entered_calls at.answers left)) x).alone x at.place

  abbrev pub type_questions : AstType_ → List Question
  type_questions x = fold_type asking (asking_steps at.answers left (entered_calls at.answers left)) x at.place

  abbrev pub segment_questions : AstPathSegment → List Question
  segment_questions x = fold_segment asking (asking_steps at.answers left (entered_calls at.answers left)) x at.place

  abbrev pub bound_questions : AstTypeBound → List Question
  bound_questions x = fold_type_bound asking (asking_steps at.answers left (entered_calls at.answers left)) x at.place

  -- the parameters of an item

  abbrev pub self_questions : Option AstSelfParam → List Question
  self_questions x = of_option (λ x. own_cfg at.place x.id ∷ of_name at.place x.name) x

  abbrev pub formal_questions : AstParam → List Question
  formal_questions x = own_cfg at.place (out-Param x).id ∷ of_option pat_questions (out-Param x).pat

  abbrev pub formals_questions : Option AstParamList → List Question
  formals_questions x = of_option (λ x. self_questions x.self_ ++ of_each formal_questions x.params) x

-- what the contract of lowering a body asks: of its item, of its parameters at a place of their own, and of itself
abbrev pub body_questions : Answers → DefWithBodyId → LowerCtx → LowerCtx → Option AstParamList → Option AstExpr → List Question
body_questions a item p q ps e =
    of_skip item ∷ of_container item ∷ of_expansion_limit ∷
    (formals_questions (rctx (with_limit q a) a) ps ++ of_option (questions (rctx (with_limit p a) a)) e)
