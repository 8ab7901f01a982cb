-- The rules allow one item alone, of each written one, wherever it stands. With what is read as the rules allow, they allow just that.
use Rattle.std.specs.Prelude.{Bool, List, Option}
use Rattle.hir_syntax.specs.declared.params.ParamList.{ParamList}
use Rattle.hir_syntax.specs.declared.items.Fn.{Fn}
use Rattle.hir_syntax.specs.declared.items.GenericParam.{GenericParam}
use Rattle.hir_syntax.specs.declared.items.Impl.{Impl}
use Rattle.hir_syntax.specs.declared.items.Trait.{Trait}
use Rattle.hir_syntax.specs.declared.items.TypeAlias.{TypeAlias}
use Rattle.hir_syntax.specs.declared.items.WherePred.{WherePred}
use Rattle.hir_store.specs.declared.ids.GenericDefId.{GenericDefId}
use Rattle.hir_store.specs.declared.ids.ItemContainerId.{ItemContainerId}
use Rattle.hir_env.specs.Answers.{Answers}
use Rattle.hir_env.specs.declared.ctx.LowerCtx.{LowerCtx}
use Rattle.thm_reading.specs.OneTree.{AtMostOne}
use Rattle.thm_item_reading.specs.Rules.{AliasAs, BodyParamsAs, FunctionAs, GenericsAs, ImplAs, TraitAs}

abbrev pub OneGenerics : Type 0
OneGenerics = (a : Answers) (p : LowerCtx) (def : GenericDefId) (ps : Option (List GenericParam)) (ws : Option (List WherePred))
    → AtMostOne (GenericsAs a p def ps ws)

abbrev pub OneFunction : Type 0
OneFunction = (a : Answers) (p : LowerCtx) (def : GenericDefId) (x : Fn) → AtMostOne (FunctionAs a p def x)

abbrev pub OneImpl : Type 0
OneImpl = (a : Answers) (p : LowerCtx) (def : GenericDefId) (x : Impl) → AtMostOne (ImplAs a p def x)

abbrev pub OneTrait : Type 0
OneTrait = (a : Answers) (p : LowerCtx) (def : GenericDefId) (x : Trait) → AtMostOne (TraitAs a p def x)

abbrev pub OneAlias : Type 0
OneAlias = (a : Answers) (p : LowerCtx) (def : GenericDefId) (container : ItemContainerId) (x : TypeAlias)
    → AtMostOne (AliasAs a p def container x)

abbrev pub OneBodyParams : Type 0
OneBodyParams = (a : Answers) (p : LowerCtx) (container : ItemContainerId) (has_body : Bool) (x : Option ParamList)
    → AtMostOne (BodyParamsAs a p container has_body x)
