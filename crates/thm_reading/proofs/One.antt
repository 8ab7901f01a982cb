-- The rules allow one tree alone: by induction on how many rules it takes to allow it.
use Rattle.std.proofs.Common.{◌≡◌, ℕ, zero, suc}
use Rattle.std.specs.Prelude.{List, Bool, Option}
use Rattle.hir_syntax.specs.declared.ast.Path.{Path as AstPath}
use Rattle.hir_syntax.specs.declared.ast.PathSegment.{PathSegment as AstPathSegment}
use Rattle.hir_syntax.specs.declared.pats.Pat.{Pat as AstPat}
use Rattle.hir_syntax.specs.declared.types.TypeBound.{TypeBound as AstTypeBound}
use Rattle.hir_syntax.specs.declared.ast.BlockModifier.{BlockModifier}
use Rattle.hir_env.specs.ResolvedTree.{Block, Stmts, Arg}
use Rattle.hir_env.specs.ResolvedTree.{Bounds, Expr, OptionExpr, OptionPat}
use Rattle.hir_env.specs.ResolvedTree.{Pat, Path, Type_}
use Rattle.hir_env.specs.Answers.{Answers}
use Rattle.hir_env.specs.Layers.{BlockExprLayer, Defined, ExprKindLayer, StmtKindLayer, written}
use Rattle.hir_store.specs.Pointers.{Pointer}
use Rattle.hir_env.specs.PatLayers.{PatKindLayer}
use Rattle.hir_env.specs.TypeLayers.{GenericArgLayer, TypeKindLayer}
use Rattle.hir_env.specs.declared.ctx.LowerCtx.{LowerCtx}
use Rattle.thm_reading.specs.Rules.{TypeKindAs, PathAs, UseTreeAs, ArgAs, BoundsAs, OptPatAs, PatKindAs, ExprAs, OwnAs, PlainAs, ValueAs}
use Rattle.thm_reading.specs.Rules.{StmtAs}
use Rattle.thm_reading.proofs.Alone.{Two, Three}
use Rattle.hir_env.specs.Answers.{Answers}
use Rattle.thm_reading.proofs.Sizes.{size_type_kind, size_path, size_use_tree, size_arg, size_bounds, size_opt_pat, size_pat_kind}
use Rattle.thm_reading.proofs.Sizes.{size_expr}
use Rattle.thm_reading.proofs.Sizes.{size_own, size_plain, size_value, size_stmt}
use Rattle.thm_reading.proofs.Below.{Below, enough, never, one_less}
use Rattle.thm_reading.proofs.OneTypes as of_types
use Rattle.thm_reading.proofs.OnePats as of_pats
use Rattle.thm_reading.proofs.OneExprs as of_exprs
use Rattle.thm_reading.proofs.OneBlocks as of_blocks

module _ (env : Answers) where
  all_alone : (n : ℕ) → Below env n
  all_alone zero = record {
    opt_expr = λ a1 a2 a3 a4 h e. never e;
    opt_type = λ a1 a2 a3 a4 h e. never e;
    answer = λ a1 a2 a3 a4 h e. never e;
    opt_path = λ a1 a2 a3 a4 h e. never e;
    arg_list = λ a1 a2 a3 a4 h e. never e;
    opt_pat = λ a1 a2 a3 a4 h e. never e;
    params = λ a1 a2 a3 a4 h e. never e;
    expr = λ a1 a2 a3 a4 a5 h e. never e;
    opt_plain = λ a1 a2 a3 a4 h e. never e;
    for_body = λ a1 a2 a3 a4 h e. never e;
    own = λ a1 a2 a3 a4 a5 h e. never e;
    plain = λ a1 a2 a3 a4 h e. never e;
  }
  all_alone (suc n) = record {
    opt_expr = λ a1 a2 a3 a4 h e. of_exprs.one_opt_expr env (all_alone n) h (one_less e);
    opt_type = λ a1 a2 a3 a4 h e. of_types.one_opt_type env (all_alone n) h (one_less e);
    answer = λ a1 a2 a3 a4 h e. of_types.one_answer env (all_alone n) h (one_less e);
    opt_path = λ a1 a2 a3 a4 h e. of_types.one_opt_path env (all_alone n) h (one_less e);
    arg_list = λ a1 a2 a3 a4 h e. of_types.one_arg_list env (all_alone n) h (one_less e);
    opt_pat = λ a1 a2 a3 a4 h e. of_pats.one_opt_pat env (all_alone n) h (one_less e);
    params = λ a1 a2 a3 a4 h e. of_pats.one_params env (all_alone n) h (one_less e);
    expr = λ a1 a2 a3 a4 a5 h e. of_exprs.one_expr env (all_alone n) h (one_less e);
    opt_plain = λ a1 a2 a3 a4 h e. of_blocks.one_opt_plain env (all_alone n) h (one_less e);
    for_body = λ a1 a2 a3 a4 h e. of_blocks.one_for_body env (all_alone n) h (one_less e);
    own = λ a1 a2 a3 a4 a5 h e. of_blocks.one_own env (all_alone n) h (one_less e);
    plain = λ a1 a2 a3 a4 h e. of_blocks.one_plain env (all_alone n) h (one_less e);
  }

  pub one_type_kind : {a1 : LowerCtx} {a2 : Pointer} {a3 : TypeKindLayer written} {x y : Type_} → TypeKindAs env a1 a2 a3 x
      → TypeKindAs env a1 a2 a3 y → x ≡ y
  one_type_kind h k = of_types.one_type_kind env (all_alone (size_type_kind env h)) h (enough (size_type_kind env h)) k

  pub one_path : {a1 : LowerCtx} {a2 a3 : Bool} {a4 : List (Option AstPathSegment)} {a5 : Option AstPath} {x y : Path}
      → PathAs env a1 a2 a3 a4 a5 x → PathAs env a1 a2 a3 a4 a5 y → x ≡ y
  one_path h k = of_types.one_path env (all_alone (size_path env h)) h (enough (size_path env h)) k

  pub one_use_tree : {a1 : LowerCtx} {a2 : Bool} {a3 : List (Option AstPathSegment)} {a4 : Option AstPath} {x y : Path}
      → UseTreeAs env a1 a2 a3 a4 x → UseTreeAs env a1 a2 a3 a4 y → x ≡ y
  one_use_tree h k = of_types.one_use_tree env (all_alone (size_use_tree env h)) h (enough (size_use_tree env h)) k

  pub one_arg : {a1 : LowerCtx} {a2 : GenericArgLayer written} {x y : Arg} → ArgAs env a1 a2 x → ArgAs env a1 a2 y → x ≡ y
  one_arg h k = of_types.one_arg env (all_alone (size_arg env h)) h (enough (size_arg env h)) k

  pub one_bounds : {a1 : LowerCtx} {a2 : List AstTypeBound} {x y : Bounds} → BoundsAs env a1 a2 x → BoundsAs env a1 a2 y → x ≡ y
  one_bounds h k = of_types.one_bounds env (all_alone (size_bounds env h)) h (enough (size_bounds env h)) k

  pub one_pat_kind : {a1 : LowerCtx} {a2 : Pointer} {a3 : PatKindLayer written} {x y : Pat} → PatKindAs env a1 a2 a3 x
      → PatKindAs env a1 a2 a3 y → x ≡ y
  one_pat_kind h k = of_pats.one_pat_kind env (all_alone (size_pat_kind env h)) h (enough (size_pat_kind env h)) k

  pub one_opt_pat : {a1 : LowerCtx} {a2 : Option AstPat} {x y : OptionPat} → OptPatAs env a1 a2 x → OptPatAs env a1 a2 y → x ≡ y
  one_opt_pat h k = of_pats.one_opt_pat env (all_alone (size_opt_pat env h)) h (enough (size_opt_pat env h)) k

  pub one_expr : {a1 : LowerCtx} {a2 : Pointer} {a3 : ExprKindLayer written} {x y : Expr} → ExprAs env a1 a2 a3 x → ExprAs env a1 a2 a3 y
      → x ≡ y
  one_expr h k = of_exprs.one_expr env (all_alone (size_expr env h)) h (enough (size_expr env h)) k

  pub one_value : {a1 : LowerCtx} {a2 : Pointer} {a3 : ExprKindLayer written} {d d' : Defined} {x1 y1 : Stmts} {x2 y2 : OptionExpr}
      {x3 y3 : Defined}
      → d ≡ d' → ValueAs env a1 a2 a3 d x1 x2 x3 → ValueAs env a1 a2 a3 d' y1 y2 y3 → Three x1 x2 x3 y1 y2 y3
  one_value same h k = of_blocks.one_value env (all_alone (size_value env h)) same h (enough (size_value env h)) k

  pub one_own : {a1 : LowerCtx} {a2 : Option BlockModifier} {a3 : BlockExprLayer written} {x y : Expr} → OwnAs env a1 a2 a3 x
      → OwnAs env a1 a2 a3 y → x ≡ y
  one_own h k = of_blocks.one_own env (all_alone (size_own env h)) h (enough (size_own env h)) k

  pub one_plain : {a1 : LowerCtx} {a2 : BlockExprLayer written} {x y : Block} → PlainAs env a1 a2 x → PlainAs env a1 a2 y → x ≡ y
  one_plain h k = of_blocks.one_plain env (all_alone (size_plain env h)) h (enough (size_plain env h)) k

  pub one_stmt : {a1 : LowerCtx} {a2 : Pointer} {a3 : StmtKindLayer written} {d d' : Defined} {x1 y1 : Stmts} {x2 y2 : Defined} → d ≡ d'
      → StmtAs env a1 a2 a3 d x1 x2 → StmtAs env a1 a2 a3 d' y1 y2 → Two x1 x2 y1 y2
  one_stmt same h k = of_blocks.one_stmt env (all_alone (size_stmt env h)) same h (enough (size_stmt env h)) k
