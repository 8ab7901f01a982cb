-- What is read of an item is framed by finitely many questions.
use Rattle.std.specs.Prelude.{◌≡◌, List, Option}
use Rattle.hir_syntax.specs.declared.items.Fn.{Fn}
use Rattle.hir_syntax.specs.declared.items.GenericParam.{GenericParam}
use Rattle.hir_syntax.specs.declared.items.Impl.{Impl}
use Rattle.hir_syntax.specs.declared.items.Trait.{Trait}
use Rattle.hir_syntax.specs.declared.items.TypeAlias.{TypeAlias}
use Rattle.hir_syntax.specs.declared.items.WherePred.{WherePred}
use Rattle.hir_store.specs.declared.ids.GenericDefId.{GenericDefId}
use Rattle.hir_store.specs.declared.ids.ItemContainerId.{ItemContainerId}
use Rattle.hir_env.specs.Answers.{Answers}
use Rattle.hir_env.specs.declared.ctx.LowerCtx.{LowerCtx}
use Rattle.thm_frame.specs.Theorems.{AgreesIn, with_limit, rctx}
use Rattle.thm_frame.specs.Questions.{Area, Framed, Here}
use Rattle.hir_lower_item.specs.Answering.{resolved_alias, resolved_function, resolved_generics, resolved_impl, resolved_trait}
use Rattle.hir_lower_item.specs.Items as item

-- an item, read with as many calls entered as the environment says

abbrev pub generics_at : Answers → LowerCtx → GenericDefId → Option (List GenericParam) → Option (List WherePred) → item.Generics
generics_at b p def ps ws = resolved_generics (rctx (with_limit p b) b) def ps ws

abbrev pub function_at : Answers → LowerCtx → GenericDefId → Fn → item.Function
function_at b p def x = resolved_function (rctx (with_limit p b) b) def x

abbrev pub impl_at : Answers → LowerCtx → GenericDefId → Impl → item.Impl
impl_at b p def x = resolved_impl (rctx (with_limit p b) b) def x

abbrev pub trait_at : Answers → LowerCtx → GenericDefId → Trait → item.Trait
trait_at b p def x = resolved_trait (rctx (with_limit p b) b) def x

-- an alias in the module of what it stands in
abbrev pub in_container : Answers → ItemContainerId → LowerCtx → LowerCtx
in_container b container p = record p { module_id = b.module_of container }

abbrev pub alias_at : Answers → LowerCtx → GenericDefId → ItemContainerId → TypeAlias → item.Alias
alias_at b p def container x = resolved_alias (rctx (in_container b container (with_limit p b)) b) def container x

abbrev pub GenericsFramed : Type 0
GenericsFramed = (a : Answers) (area : Area a) (p : LowerCtx) → Here area p
    → (def : GenericDefId) (ps : Option (List GenericParam)) (ws : Option (List WherePred))
    → Framed area (λ b. generics_at b p def ps ws) a

abbrev pub FunctionsFramed : Type 0
FunctionsFramed = (a : Answers) (area : Area a) (p : LowerCtx) → Here area p → (def : GenericDefId) (x : Fn)
    → Framed area (λ b. function_at b p def x) a

abbrev pub ImplsFramed : Type 0
ImplsFramed = (a : Answers) (area : Area a) (p : LowerCtx) → Here area p → (def : GenericDefId) (x : Impl)
    → Framed area (λ b. impl_at b p def x) a

abbrev pub TraitsFramed : Type 0
TraitsFramed = (a : Answers) (area : Area a) (p : LowerCtx) → Here area p → (def : GenericDefId) (x : Trait)
    → Framed area (λ b. trait_at b p def x) a

abbrev pub AliasesFramed : Type 0
AliasesFramed = (a : Answers) (area : Area a) (p : LowerCtx) (container : ItemContainerId) → Here area (in_container a container p)
    → (def : GenericDefId) (x : TypeAlias) → Framed area (λ b. alias_at b p def container x) a

-- another environment that answers whatever may be asked in the area alike reads it alike

abbrev pub GenericsKeep : Type 0
GenericsKeep = (a : Answers) (area : Area a) (b : Answers) → AgreesIn area b → (p : LowerCtx) → Here area p
    → (def : GenericDefId) (ps : Option (List GenericParam)) (ws : Option (List WherePred))
    → generics_at a p def ps ws ≡ generics_at b p def ps ws

abbrev pub FunctionsKeep : Type 0
FunctionsKeep = (a : Answers) (area : Area a) (b : Answers) → AgreesIn area b → (p : LowerCtx) → Here area p
    → (def : GenericDefId) (x : Fn)
    → function_at a p def x ≡ function_at b p def x

abbrev pub ImplsKeep : Type 0
ImplsKeep = (a : Answers) (area : Area a) (b : Answers) → AgreesIn area b → (p : LowerCtx) → Here area p
    → (def : GenericDefId) (x : Impl)
    → impl_at a p def x ≡ impl_at b p def x

abbrev pub TraitsKeep : Type 0
TraitsKeep = (a : Answers) (area : Area a) (b : Answers) → AgreesIn area b → (p : LowerCtx) → Here area p
    → (def : GenericDefId) (x : Trait)
    → trait_at a p def x ≡ trait_at b p def x

abbrev pub AliasesKeep : Type 0
AliasesKeep = (a : Answers) (area : Area a) (b : Answers) → AgreesIn area b → (p : LowerCtx) (container : ItemContainerId)
    → Here area (in_container a container p) → (def : GenericDefId) (x : TypeAlias)
    → alias_at a p def container x ≡ alias_at b p def container x
