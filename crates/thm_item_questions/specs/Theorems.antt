-- What the lists of items say: what is read of an item depends on them alone, and they are about the nodes of the item.
use Rattle.std.specs.Prelude.{◌≡◌, List, [], ◌∷◌, Option, Err}
use Rattle.hir_syntax.specs.declared.items.Fn.{Fn}
use Rattle.hir_syntax.specs.declared.items.GenericParam.{GenericParam}
use Rattle.hir_syntax.specs.declared.items.Impl.{Impl}
use Rattle.hir_syntax.specs.declared.items.Trait.{Trait}
use Rattle.hir_syntax.specs.declared.items.TypeAlias.{TypeAlias}
use Rattle.hir_syntax.specs.declared.items.WherePred.{WherePred}
use Rattle.hir_syntax.specs.declared.params.SelfParam.{SelfParam}
use Rattle.hir_syntax.specs.declared.types.Param.{Param, out-Param}
use Rattle.hir_store.specs.declared.ids.CfgId.{CfgId}
use Rattle.hir_store.specs.declared.ids.GenericDefId.{GenericDefId}
use Rattle.hir_store.specs.declared.ids.ItemContainerId.{ItemContainerId}
use Rattle.hir_env.specs.Answers.{Answers}
use Rattle.hir_env.specs.ResolveCtx.{site_of}
use Rattle.hir_env.specs.declared.ctx.LowerCtx.{LowerCtx}
use Rattle.hir_lower_item.specs.Answering.{param_pointer}
use Rattle.thm_frame.specs.Theorems.{rctx}
use Rattle.thm_frame.specs.Questions.{AllAlike, AllIn, Area, Here, of_cfg}
use Rattle.thm_questions.specs.Areas.{AgreesAtNodes, AllInNodes, Holds, NodeArea, elsewhere}
use Rattle.thm_questions.specs.Asked.{own_site}
use Rattle.thm_item_frame.specs.Theorems.{alias_at, function_at, generics_at, impl_at, in_container, trait_at}
use Rattle.thm_item_questions.specs.Lists.{alias_questions, argument_in, function_questions, generics_questions, impl_questions, param_in}
use Rattle.thm_item_questions.specs.Lists.{receiver_in, trait_questions}
use Rattle.thm_item_questions.specs.Nodes.{alias_nodes, function_nodes, generics_nodes, impl_nodes, trait_nodes}

-- Two environments that answer the list alike read the same.

abbrev pub GenericsByList : Type 0
GenericsByList = (a b : Answers) (p : LowerCtx) (def : GenericDefId) (ps : Option (List GenericParam)) (ws : Option (List WherePred))
    → AllAlike a b (generics_questions a p def ps ws) → generics_at a p def ps ws ≡ generics_at b p def ps ws

abbrev pub FunctionsByList : Type 0
FunctionsByList = (a b : Answers) (p : LowerCtx) (def : GenericDefId) (x : Fn)
    → AllAlike a b (function_questions a p def x) → function_at a p def x ≡ function_at b p def x

abbrev pub ImplsByList : Type 0
ImplsByList = (a b : Answers) (p : LowerCtx) (def : GenericDefId) (x : Impl)
    → AllAlike a b (impl_questions a p def x) → impl_at a p def x ≡ impl_at b p def x

abbrev pub TraitsByList : Type 0
TraitsByList = (a b : Answers) (p : LowerCtx) (def : GenericDefId) (x : Trait)
    → AllAlike a b (trait_questions a p def x) → trait_at a p def x ≡ trait_at b p def x

abbrev pub AliasesByList : Type 0
AliasesByList = (a b : Answers) (p : LowerCtx) (def : GenericDefId) (container : ItemContainerId) (x : TypeAlias)
    → AllAlike a b (alias_questions a p def container x) → alias_at a p def container x ≡ alias_at b p def container x

-- What is asked of an item is asked in each area that holds its nodes.

abbrev pub GenericsAtNodes : Type 0
GenericsAtNodes = (a : Answers) (area : NodeArea a) (p : LowerCtx) (def : GenericDefId) (ps : Option (List GenericParam))
    (ws : Option (List WherePred)) → Holds area p (generics_nodes ps ws) → AllInNodes area (generics_questions a p def ps ws)

abbrev pub FunctionsAtNodes : Type 0
FunctionsAtNodes = (a : Answers) (area : NodeArea a) (p : LowerCtx) (def : GenericDefId) (x : Fn) → Holds area p (function_nodes x)
    → AllInNodes area (function_questions a p def x)

abbrev pub ImplsAtNodes : Type 0
ImplsAtNodes = (a : Answers) (area : NodeArea a) (p : LowerCtx) (def : GenericDefId) (x : Impl) → Holds area p (impl_nodes x)
    → AllInNodes area (impl_questions a p def x)

abbrev pub TraitsAtNodes : Type 0
TraitsAtNodes = (a : Answers) (area : NodeArea a) (p : LowerCtx) (def : GenericDefId) (x : Trait) → Holds area p (trait_nodes x)
    → AllInNodes area (trait_questions a p def x)

abbrev pub AliasesAtNodes : Type 0
AliasesAtNodes = (a : Answers) (area : NodeArea a) (p : LowerCtx) (def : GenericDefId) (container : ItemContainerId) (x : TypeAlias)
    → Holds area (in_container a container p) (alias_nodes x) → AllInNodes area (alias_questions a p def container x)

-- So an environment reads the same that answers alike what may be asked there, and those of the list that are about no node and asked in no
-- module.

abbrev pub GenericsKeepNodes : Type 0
GenericsKeepNodes = (a : Answers) (area : NodeArea a) (b : Answers) → AgreesAtNodes area b → (p : LowerCtx) (def : GenericDefId)
    (ps : Option (List GenericParam)) (ws : Option (List WherePred)) → Holds area p (generics_nodes ps ws)
    → AllAlike a b (elsewhere (generics_questions a p def ps ws)) → generics_at a p def ps ws ≡ generics_at b p def ps ws

abbrev pub FunctionsKeepNodes : Type 0
FunctionsKeepNodes = (a : Answers) (area : NodeArea a) (b : Answers) → AgreesAtNodes area b → (p : LowerCtx) (def : GenericDefId) (x : Fn)
    → Holds area p (function_nodes x) → AllAlike a b (elsewhere (function_questions a p def x))
    → function_at a p def x ≡ function_at b p def x

abbrev pub ImplsKeepNodes : Type 0
ImplsKeepNodes = (a : Answers) (area : NodeArea a) (b : Answers) → AgreesAtNodes area b → (p : LowerCtx) (def : GenericDefId) (x : Impl)
    → Holds area p (impl_nodes x) → AllAlike a b (elsewhere (impl_questions a p def x)) → impl_at a p def x ≡ impl_at b p def x

abbrev pub TraitsKeepNodes : Type 0
TraitsKeepNodes = (a : Answers) (area : NodeArea a) (b : Answers) → AgreesAtNodes area b → (p : LowerCtx) (def : GenericDefId) (x : Trait)
    → Holds area p (trait_nodes x) → AllAlike a b (elsewhere (trait_questions a p def x)) → trait_at a p def x ≡ trait_at b p def x

abbrev pub AliasesKeepNodes : Type 0
AliasesKeepNodes = (a : Answers) (area : NodeArea a) (b : Answers) → AgreesAtNodes area b → (p : LowerCtx) (def : GenericDefId)
    (container : ItemContainerId) (x : TypeAlias) → Holds area (in_container a container p) (alias_nodes x)
    → AllAlike a b (elsewhere (alias_questions a p def container x)) → alias_at a p def container x ≡ alias_at b p def container x

-- What is asked of an item that stands in files and modules which are closed under expansions and blocks is asked there.

abbrev pub GenericsInFiles : Type 0
GenericsInFiles = (a : Answers) (area : Area a) (p : LowerCtx) → Here area p → (def : GenericDefId) (ps : Option (List GenericParam))
    (ws : Option (List WherePred)) → AllIn area (generics_questions a p def ps ws)

abbrev pub FunctionsInFiles : Type 0
FunctionsInFiles = (a : Answers) (area : Area a) (p : LowerCtx) → Here area p → (def : GenericDefId) (x : Fn)
    → AllIn area (function_questions a p def x)

abbrev pub ImplsInFiles : Type 0
ImplsInFiles = (a : Answers) (area : Area a) (p : LowerCtx) → Here area p → (def : GenericDefId) (x : Impl)
    → AllIn area (impl_questions a p def x)

abbrev pub TraitsInFiles : Type 0
TraitsInFiles = (a : Answers) (area : Area a) (p : LowerCtx) → Here area p → (def : GenericDefId) (x : Trait)
    → AllIn area (trait_questions a p def x)

abbrev pub AliasesInFiles : Type 0
AliasesInFiles = (a : Answers) (area : Area a) (p : LowerCtx) (container : ItemContainerId) → Here area (in_container a container p)
    → (def : GenericDefId) (x : TypeAlias) → AllIn area (alias_questions a p def container x)

-- Of a disabled parameter the list has its condition alone.

abbrev pub OfDisabledParams : Type 0
OfDisabledParams = (a : Answers) (p : LowerCtx) (def : GenericDefId) (x : GenericParam) (by : CfgId)
    → a.cfg (site_of (param_pointer p x)) ≡ Err by → param_in (rctx p a) def x ≡ of_cfg (site_of (param_pointer p x)) ∷ []

abbrev pub OfDisabledReceivers : Type 0
OfDisabledReceivers = (a : Answers) (p : LowerCtx) (def : GenericDefId) (x : SelfParam) (by : CfgId)
    → a.cfg (own_site p x.id) ≡ Err by → receiver_in (rctx p a) def x ≡ of_cfg (own_site p x.id) ∷ []

abbrev pub OfDisabledArguments : Type 0
OfDisabledArguments = (a : Answers) (p : LowerCtx) (def : GenericDefId) (x : Param) (by : CfgId)
    → a.cfg (own_site p (out-Param x).id) ≡ Err by → argument_in (rctx p a) def x ≡ of_cfg (own_site p (out-Param x).id) ∷ []
