-- What the entry functions make of items.
use Rattle.std.specs.Prelude.{◌≡◌, ℕ, Bool, List, Option, Ok}
use Rattle.hir_base.specs.declared.node.HirFileId.{HirFileId}
use Rattle.hir_syntax.specs.declared.items.Fn.{Fn}
use Rattle.hir_syntax.specs.declared.items.GenericParam.{GenericParam}
use Rattle.hir_syntax.specs.declared.items.Impl.{Impl}
use Rattle.hir_syntax.specs.declared.items.Trait.{Trait}
use Rattle.hir_syntax.specs.declared.items.TypeAlias.{TypeAlias}
use Rattle.hir_syntax.specs.declared.items.WherePred.{WherePred}
use Rattle.hir_store.specs.Stored.{Store, SourceMap, map_of, store_of}
use Rattle.hir_store.specs.declared.generics.GenericParams.{GenericParams}
use Rattle.hir_store.specs.declared.ids.FunctionId.{FunctionId}
use Rattle.hir_store.specs.declared.ids.GenericDefId.{GenericDefId}
use Rattle.hir_store.specs.declared.ids.GenericDefId.TheVariants as definition
use Rattle.hir_store.specs.declared.ids.ImplId.{ImplId}
use Rattle.hir_store.specs.declared.ids.ItemContainerId.{ItemContainerId}
use Rattle.hir_store.specs.declared.ids.ModuleId.{ModuleId}
use Rattle.hir_store.specs.declared.ids.TraitId.{TraitId}
use Rattle.hir_store.specs.declared.ids.TypeAliasId.{TypeAliasId}
use Rattle.hir_store.specs.declared.ids.TypeRefId.{TypeRefId}
use Rattle.hir_store.specs.declared.type_ref.TraitRef.{TraitRef}
use Rattle.hir_store.specs.declared.type_ref.TypeBound.{TypeBound}
use Rattle.hir_env.specs.Answers.{Answers}
use Rattle.hir_env.specs.ResolveCtx.{ResolveCtx}
use Rattle.hir_env.specs.declared.ctx.LoweringMode.{LoweringMode}
use Rattle.hir_env.specs.declared.ctx.LoweringMode.TheVariants.{Analysis}
use Rattle.hir_lower_builder.specs.Builder.{Builder, new_builder}
use Rattle.hir_lower_builder.specs.Lowering.{Lowering}
use Rattle.hir_lower_builder.specs.declared.generics.GenericLists.{GenericLists}
use Rattle.hir_lower_builder.specs.declared.generics.SideOutput.{SideOutput}
use Rattle.hir_lower_callbacks.specs.ResolveCtxs.{rctx_at}
use Rattle.hir_lower_item.specs.Answering.{resolved_alias, resolved_function, resolved_generics, resolved_impl, resolved_trait}
use Rattle.hir_lower_item.specs.Items as item
use Rattle.hir_lower_item.specs.Kinds.{finished}
use Rattle.hir_lower_item.specs.Lower.{lower_alias, lower_function, lower_generics, lower_impl, lower_trait}
use Rattle.hir_lower_item.specs.declared.function.Signature.{Signature}
use Rattle.hir_lower.specs.Roots.{outside_body}

-- where the parts of an item are read
abbrev pub item_rctx : Answers → HirFileId → ModuleId → LoweringMode → ResolveCtx
item_rctx env file inside mode = rctx_at env (outside_body env file inside mode)

-- an item that is read there, with the answers written into it

abbrev pub read_generics : Answers → HirFileId → ModuleId → LoweringMode → GenericDefId → Option (List GenericParam)
    → Option (List WherePred) → item.Generics
read_generics env file inside mode def ps ws = resolved_generics (item_rctx env file inside mode) def ps ws

abbrev pub read_impl : Answers → HirFileId → ModuleId → ImplId → Impl → item.Impl
read_impl env file inside id x = resolved_impl (item_rctx env file inside Analysis) (definition.ImplId id) x

abbrev pub read_trait : Answers → HirFileId → ModuleId → TraitId → Trait → item.Trait
read_trait env file inside id x = resolved_trait (item_rctx env file inside Analysis) (definition.TraitId id) x

-- in the module of what contains it
abbrev pub read_alias : Answers → HirFileId → ItemContainerId → TypeAliasId → TypeAlias → item.Alias
read_alias env file container id x =
    resolved_alias (item_rctx env file (env.module_of container) Analysis) (definition.TypeAliasId id) container x

abbrev pub read_function : Answers → HirFileId → ModuleId → FunctionId → Fn → item.Function
read_function env file inside id x = resolved_function (item_rctx env file inside Analysis) (definition.FunctionId id) x

-- the steps of it

abbrev pub generics_at : ResolveCtx → GenericDefId → Option (List GenericParam) → Option (List WherePred) → Lowering (Unit {0})
generics_at at def ps ws = lower_generics def (resolved_generics at def ps ws)

abbrev pub impl_at : ResolveCtx → ImplId → Impl → Lowering (TypeRefId × Option TraitRef)
impl_at at id x = let def = definition.ImplId id in lower_impl def (resolved_impl at def x)

abbrev pub trait_at : ResolveCtx → TraitId → Trait → Lowering (Unit {0})
trait_at at id x = let def = definition.TraitId id in lower_trait def (resolved_trait at def x)

abbrev pub alias_at : ResolveCtx → TypeAliasId → ItemContainerId → TypeAlias → Lowering (List TypeBound × Option TypeRefId)
alias_at at id container x = let def = definition.TypeAliasId id in lower_alias def (resolved_alias at def container x)

abbrev pub function_at : ResolveCtx → FunctionId → Fn → Lowering Signature
function_at at id x = let def = definition.FunctionId id in lower_function def (resolved_function at def x)

-- what they make

-- the parameters of all items but functions: each lifetime is early bound
abbrev pub as_tracked : SideOutput → GenericLists
as_tracked n = n.generics

-- What the steps answer, store and note, from nothing, in arenas of this limit. The parameters are made of what is noted.
pub record ItemFromNothing {A : Type 0} (p : Lowering A) (made_of : SideOutput → GenericLists) (limit : ℕ) (answer : A)
    (params : GenericParams)
    (store : Store) (source_map : SourceMap) : Type 0 where
  pub builder : Builder
  pub done : p (new_builder limit) ≡ (Ok answer, builder)
  pub params_are : params ≡ finished (made_of builder.tracks)
  pub store_is : store ≡ store_of builder.stored
  pub source_map_is : source_map ≡ map_of builder.stored

abbrev pub signature : List TypeRefId → Option TypeRefId → Bool → Bool → Signature
signature args ret has_self has_variadic = record { args = args; ret = ret; has_self = has_self; has_variadic = has_variadic }
