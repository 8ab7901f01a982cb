-- What is read at a place that is the one meant.
use Rattle.std.proofs.Common.{◌≡◌, subst}
use Rattle.std.specs.Prelude.{None, Option, option_map}
use Rattle.hir_syntax.specs.declared.types.Type_.{Type_ as AstType}
use Rattle.hir_syntax.specs.declared.ast.Expr.{Expr as AstExpr}
use Rattle.hir_store.specs.declared.ids.TypeRefId.{TypeRefId}
use Rattle.hir_store.specs.declared.type_ref.ConstRef.{ConstRef}
use Rattle.hir_env.specs.Answers.{Answers}
use Rattle.hir_env.specs.Whole.{resolved_constant, type_part}
use Rattle.hir_env.specs.declared.ctx.LowerCtx.{LowerCtx}
use Rattle.hir_lower_builder.specs.Builder.{Builder}
use Rattle.hir_lower_builder.specs.Lowering.{Checked, Lowers}
use Rattle.hir_lower_builder.specs.Methods.{LowersTypeIfPresent, LowersTypeOpt}
use Rattle.hir_lower_callbacks.specs.ResolveCtxs.{rctx_at}
use Rattle.hir_lower_item.specs.Has.{HasConstOption}
use Rattle.hir_lower_item.specs.Lower.{present_constant}

module _ (a : Answers) (p q : LowerCtx) (b d : Builder) (same : p ≡ q) where
  pub type_here : (t : Option AstType) (r : Checked TypeRefId) → LowersTypeOpt None (type_part (rctx_at a p) t) b r d
      → LowersTypeOpt None (type_part (rctx_at a q) t) b r d
  type_here t r h = subst (λ x. LowersTypeOpt None (type_part (rctx_at a x) t) b r d) same h

  pub present_here : (t : Option AstType) (r : Checked (Option TypeRefId)) → LowersTypeIfPresent (type_part (rctx_at a p) t) b r d
      → LowersTypeIfPresent (type_part (rctx_at a q) t) b r d
  present_here t r h = subst (λ x. LowersTypeIfPresent (type_part (rctx_at a x) t) b r d) same h

  pub constant_here : (x : Option (Option AstExpr)) (r : Checked (Option ConstRef))
      → Lowers HasConstOption (present_constant (option_map (resolved_constant (rctx_at a p)) x)) b r d
      → Lowers HasConstOption (present_constant (option_map (resolved_constant (rctx_at a q)) x)) b r d
  constant_here x r h =
      subst (λ y. Lowers HasConstOption (present_constant (option_map (resolved_constant (rctx_at a y)) x)) b r d) same h
