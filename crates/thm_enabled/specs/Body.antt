-- What is asked of a body and its parameters outside of what a condition disables.
use Rattle.std.specs.Prelude.{Bool, List, Option}
use Rattle.hir_syntax.specs.declared.ast.Expr.{Expr as AstExpr}
use Rattle.hir_syntax.specs.declared.params.ParamList.{ParamList as AstParamList}
use Rattle.hir_syntax.specs.declared.params.SelfParam.{SelfParam as AstSelfParam}
use Rattle.hir_syntax.specs.declared.types.Param.{Param as AstParam}
use Rattle.hir_store.specs.declared.ids.DefWithBodyId.{DefWithBodyId}
use Rattle.hir_env.specs.ResolvedTree.{Formal, Formals, OptionExpr, SelfFormal}
use Rattle.hir_env.specs.Answers.{Answers}
use Rattle.hir_env.specs.declared.ctx.LowerCtx.{LowerCtx}
use Rattle.thm_frame.specs.Questions as question
use Rattle.thm_reading.specs.Formals as rule
use Rattle.thm_reading.specs.Formals.{FormalAs, FormalListAs, FormalsAs, SelfAs}
use Rattle.thm_reading.specs.LowerCtx.{node, param_node}
use Rattle.thm_reading.specs.Rules.{OptExprAs}
use Rattle.thm_enabled.specs.Asked.{asked_opt_expr}
use Rattle.thm_enabled.specs.Asks.{Asks, nothing, ask, both}
use Rattle.thm_enabled.specs.Own.{cfg_asked, name_asked}
use Rattle.thm_enabled.specs.Whole.{whole_opt_pat}

module _ (env : Answers) where
  abbrev pub asked_self : {p : LowerCtx} {x : Option AstSelfParam} {s : SelfFormal} → SelfAs env p x s → Asks
  asked_self rule.no_self = nothing
  asked_self (rule.enabled_self {p = p} {x = x} _ _) = both (cfg_asked (node p x.id x.range)) (name_asked p x.name)
  asked_self (rule.disabled_self {p = p} {x = x} _) = cfg_asked (node p x.id x.range)

  abbrev pub asked_formal : {p : LowerCtx} {bare : Bool} {x : AstParam} {f : Formal} → FormalAs env p bare x f → Asks
  asked_formal (rule.any_formal {p = p} {x = x} _ h) = both (cfg_asked (param_node p x)) (whole_opt_pat env h)
  asked_formal (rule.bare_formal {p = p} {x = x} _ h) = both (cfg_asked (param_node p x)) (whole_opt_pat env h)
  asked_formal (rule.disabled_formal {p = p} {x = x} _) = cfg_asked (param_node p x)

  abbrev pub asked_formal_list : {p : LowerCtx} {bare : Bool} {xs : List AstParam} {fs : List Formal} → FormalListAs env p bare xs fs → Asks
  asked_formal_list rule.no_formals = nothing
  asked_formal_list (rule.more_formals h hs) = both (asked_formal h) (asked_formal_list hs)

  abbrev pub asked_formals : {p : LowerCtx} {bare : Bool} {x : Option AstParamList} {fs : Formals} → FormalsAs env p bare x fs → Asks
  asked_formals rule.without_list = nothing
  asked_formals (rule.with_list h hs) = both (asked_self h) (asked_formal_list hs)

  -- whether it is skipped, what it stands in, how many calls may be entered, its parameters and itself
  abbrev pub asked_body : DefWithBodyId → {p q : LowerCtx} {bare : Bool} {ps : Option AstParamList} {fs : Formals} {e : Option AstExpr}
      {x : OptionExpr} → FormalsAs env q bare ps fs → OptExprAs env p e x → Asks
  asked_body item h k =
      both (both (ask (question.of_skip item)) (both (ask (question.of_container item)) (ask question.of_expansion_limit)))
      (both (asked_formals h) (asked_opt_expr env k))
