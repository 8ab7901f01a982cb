-- A body and its parameters are read the same outside of what is disabled, where what is asked there is answered alike.
use Rattle.std.proofs.Common.{◌≡◌, ◌∙◌, refl, sym, codes, Bool, List, Option, Some, None}
use Rattle.std.specs.Prelude.{is_some}
use Rattle.hir_syntax.specs.declared.ast.Expr.{Expr as AstExpr}
use Rattle.hir_syntax.specs.declared.ast.Name.{Name as AstName}
use Rattle.hir_syntax.specs.declared.params.ParamList.{ParamList as AstParamList}
use Rattle.hir_syntax.specs.declared.params.SelfParam.{SelfParam as AstSelfParam}
use Rattle.hir_syntax.specs.declared.types.Param.{Param as AstParam}
use Rattle.hir_store.specs.declared.name.Name.TheVariants as name
use Rattle.hir_env.specs.ResolvedTree as tree
use Rattle.hir_env.specs.ResolvedTree.{Formal, Formals, OptionExpr, SelfFormal}
use Rattle.hir_env.specs.Answers.{Answers}
use Rattle.hir_env.specs.Formals.{resolved_formals, are_bare}
use Rattle.hir_env.specs.Whole.{resolved_expr, expr_part}
use Rattle.hir_env.specs.declared.ctx.LowerCtx.{LowerCtx}
use Rattle.thm_frame.specs.Theorems.{with_limit}
use Rattle.thm_reading.specs.Formals as rule
use Rattle.thm_reading.specs.Formals.{FormalAs, FormalListAs, FormalsAs, SelfAs, self_binding, self_here}
use Rattle.thm_reading.specs.Theorems.{rctx}
use Rattle.thm_reading.specs.LowerCtx.{hygiene_of_name}
use Rattle.thm_reading.specs.Rules as rules
use Rattle.thm_reading.specs.Rules.{OptExprAs}
use Rattle.thm_enabled.specs.Body.{asked_body, asked_formal, asked_formal_list, asked_formals, asked_self}
use Rattle.thm_enabled.specs.Theorems.{OutsideBodies}
use Rattle.thm_enabled.specs.Own.{name_asked}
use Rattle.thm_enabled.specs.Pruned.{pruned_part}
use Rattle.thm_enabled.proofs.Agreed.{Agree, agree_of}
use Rattle.thm_enabled.proofs.Allowed.{ByRules}
use Rattle.thm_enabled.proofs.Kept.{kept_opt_pat}
use Rattle.thm_enabled.proofs.Moved.{moved_opt_expr}

module _ (env other : Answers) where
  hygiene_same : (p : LowerCtx) (n : Option AstName) → Agree env other (name_asked p n)
      → hygiene_of_name env p n ≡ hygiene_of_name other p n
  hygiene_same p None g = refl
  hygiene_same p (Some n) g = g

  self_same : (p : LowerCtx) (x : AstSelfParam) → Agree env other (name_asked p x.name) → self_here env p x ≡ self_here other p x
  self_same p x g = λ i. record {
    name = name.Text (codes "self");
    hygiene = hygiene_same p x.name g i;
    mode = self_binding x.ref_ x.mut_;
  }

  kept_self : {p : LowerCtx} {x : Option AstSelfParam} {s : SelfFormal} → (h : SelfAs env p x s) → Agree env other (asked_self env h)
      → SelfAs other p x s
  kept_self rule.no_self g = rule.no_self
  kept_self (rule.enabled_self {p = p} {x = x} h k) g = rule.enabled_self (sym g.0 ∙ h) (k ∙ self_same p x g.1)
  kept_self (rule.disabled_self h) g = rule.disabled_self (sym g ∙ h)

  kept_formal : {p : LowerCtx} {bare : Bool} {x : AstParam} {f : Formal} → (h : FormalAs env p bare x f)
      → Agree env other (asked_formal env h) → FormalAs other p bare x f
  kept_formal (rule.any_formal h k) g = rule.any_formal (sym g.0 ∙ h) (kept_opt_pat env other k g.1)
  kept_formal (rule.bare_formal h k) g = rule.bare_formal (sym g.0 ∙ h) (kept_opt_pat env other k g.1)
  kept_formal (rule.disabled_formal h) g = rule.disabled_formal (sym g ∙ h)

  kept_formal_list : {p : LowerCtx} {bare : Bool} {xs : List AstParam} {fs : List Formal} → (h : FormalListAs env p bare xs fs)
      → Agree env other (asked_formal_list env h) → FormalListAs other p bare xs fs
  kept_formal_list rule.no_formals g = rule.no_formals
  kept_formal_list (rule.more_formals h hs) g = rule.more_formals (kept_formal h g.0) (kept_formal_list hs g.1)

  kept_formals : {p : LowerCtx} {bare : Bool} {x : Option AstParamList} {fs : Formals} → (h : FormalsAs env p bare x fs)
      → Agree env other (asked_formals env h) → FormalsAs other p bare x fs
  kept_formals rule.without_list g = rule.without_list
  kept_formals (rule.with_list h hs) g = rule.with_list (kept_self h g.0) (kept_formal_list hs g.1)

module _ (laws : ByRules) where
  part_is : (b : Answers) {p : LowerCtx} {e : Option AstExpr} {x : OptionExpr} → OptExprAs b p e x → x ≡ expr_part (rctx p b) e
  part_is b rules.no_expr = refl
  part_is b (rules.some_expr {p = p} {e = e} {x = x} h) =
      λ i. tree.some_expr (laws.one_expr b p _ _ x (resolved_expr (rctx p b) e) h (laws.exprs b p e) i)

  pub outside_bodies : OutsideBodies
  outside_bodies a b item p q ps e fs x h k g =
      let c = agree_of a b (asked_body a item h k) g in
      let bare = are_bare (a.container item) (is_some e) in
      let m = moved_opt_expr laws a b k c.1.1 in
      let formals = laws.one_formals b (with_limit q a) bare ps fs (resolved_formals (rctx (with_limit q a) b) bare ps)
      (kept_formals a b h c.1.0) (laws.formals b (with_limit q a) bare ps)
      ∙ (λ i. resolved_formals (rctx (record q { left = c.0.1.1 i }) b) (are_bare (c.0.1.0 i) (is_some e)) ps) in
      let read = m.same
      ∙ ((λ i. pruned_part (part_is b m.by i)) ∙ (λ i. pruned_part (expr_part (rctx (record p { left = c.0.1.1 i }) b) e))) in
      λ i. record { skipped = c.0.0 i; container = c.0.1.0 i; formals = formals i; read = read i }
