-- What is read of a written item is what the rules allow.
use Rattle.std.specs.Prelude.{Bool, List, Option}
use Rattle.hir_syntax.specs.declared.params.ParamList.{ParamList}
use Rattle.hir_syntax.specs.declared.items.Fn.{Fn}
use Rattle.hir_syntax.specs.declared.items.GenericParam.{GenericParam}
use Rattle.hir_syntax.specs.declared.items.Impl.{Impl}
use Rattle.hir_syntax.specs.declared.items.Trait.{Trait}
use Rattle.hir_syntax.specs.declared.items.TypeAlias.{TypeAlias}
use Rattle.hir_syntax.specs.declared.items.WherePred.{WherePred}
use Rattle.hir_store.specs.declared.ids.GenericDefId.{GenericDefId}
use Rattle.hir_store.specs.declared.ids.ItemContainerId.{ItemContainerId}
use Rattle.hir_env.specs.Answers.{Answers}
use Rattle.hir_env.specs.Formals.{resolved_formals, are_bare}
use Rattle.hir_env.specs.declared.ctx.LowerCtx.{LowerCtx}
use Rattle.thm_reading.specs.Theorems.{rctx}
use Rattle.hir_lower_item.specs.Answering.{resolved_alias, resolved_function, resolved_generics, resolved_impl, resolved_trait}
use Rattle.thm_item_reading.specs.Rules.{AliasAs, BodyParamsAs, FunctionAs, GenericsAs, ImplAs, TraitAs}

abbrev pub GenericsByRules : Type 0
GenericsByRules = (a : Answers) (p : LowerCtx) (def : GenericDefId) (ps : Option (List GenericParam)) (ws : Option (List WherePred))
    → GenericsAs a p def ps ws (resolved_generics (rctx p a) def ps ws)

abbrev pub FunctionsByRules : Type 0
FunctionsByRules = (a : Answers) (p : LowerCtx) (def : GenericDefId) (x : Fn) → FunctionAs a p def x (resolved_function (rctx p a) def x)

abbrev pub ImplsByRules : Type 0
ImplsByRules = (a : Answers) (p : LowerCtx) (def : GenericDefId) (x : Impl) → ImplAs a p def x (resolved_impl (rctx p a) def x)

abbrev pub TraitsByRules : Type 0
TraitsByRules = (a : Answers) (p : LowerCtx) (def : GenericDefId) (x : Trait) → TraitAs a p def x (resolved_trait (rctx p a) def x)

abbrev pub AliasesByRules : Type 0
AliasesByRules = (a : Answers) (p : LowerCtx) (def : GenericDefId) (container : ItemContainerId) (x : TypeAlias)
    → AliasAs a p def container x (resolved_alias (rctx p a) def container x)

-- the parameters of the body of a function that stands in this, and has a body or lacks it
abbrev pub BodyParamsByRules : Type 0
BodyParamsByRules = (a : Answers) (p : LowerCtx) (container : ItemContainerId) (has_body : Bool) (x : Option ParamList)
    → BodyParamsAs a p container has_body x (resolved_formals (rctx p a) (are_bare container has_body) x)
