-- What each call takes from its environment is what the rules of reading allow of the written tree that it is handed, at the place where
-- the call reads it; and they allow nothing else.
use Rattle.std.specs.Prelude.{◌≡◌, Bool, true, false, List, [], ◌∷◌, Option, Some, None, is_some}
use Rattle.hir_base.specs.declared.node.HirFileId.{HirFileId}
use Rattle.hir_syntax.specs.declared.ast.Path.{Path as AstPath}
use Rattle.hir_syntax.specs.declared.types.Type_.{Type_ as AstType_}
use Rattle.hir_syntax.specs.declared.items.Fn.{Fn}
use Rattle.hir_syntax.specs.declared.items.GenericParam.{GenericParam}
use Rattle.hir_syntax.specs.declared.items.Impl.{Impl}
use Rattle.hir_syntax.specs.declared.items.Trait.{Trait}
use Rattle.hir_syntax.specs.declared.items.TypeAlias.{TypeAlias}
use Rattle.hir_syntax.specs.declared.items.WherePred.{WherePred}
use Rattle.hir_store.specs.Pointers.{Pointer}
use Rattle.hir_store.specs.declared.diagnostics.AwaitLocation.{AwaitLocation}
use Rattle.hir_store.specs.declared.diagnostics.AwaitLocation.TheVariants as location
use Rattle.hir_store.specs.declared.diagnostics.ExpressionStoreDiagnostics.TheVariants.{MissingBody}
use Rattle.hir_store.specs.declared.diagnostics.MissingBodyItemKind.{MissingBodyItemKind}
use Rattle.hir_store.specs.declared.diagnostics.MissingBodyItemKind.TheVariants as missing
use Rattle.hir_store.specs.declared.hir.CoroutineKind.{CoroutineKind}
use Rattle.hir_store.specs.declared.ids.DefWithBodyId.{DefWithBodyId}
use Rattle.hir_store.specs.declared.ids.DefWithBodyId.TheVariants as owner
use Rattle.hir_store.specs.declared.ids.FunctionId.{FunctionId}
use Rattle.hir_store.specs.declared.ids.GenericDefId.{GenericDefId}
use Rattle.hir_store.specs.declared.ids.GenericDefId.TheVariants as definition
use Rattle.hir_store.specs.declared.ids.ImplId.{ImplId}
use Rattle.hir_store.specs.declared.ids.ItemContainerId.{ItemContainerId}
use Rattle.hir_store.specs.declared.ids.ItemContainerId.TheVariants as holder
use Rattle.hir_store.specs.declared.ids.ModuleId.{ModuleId}
use Rattle.hir_store.specs.declared.ids.TraitId.{TraitId}
use Rattle.hir_store.specs.declared.ids.TypeAliasId.{TypeAliasId}
use Rattle.hir_env.specs.ResolvedTree as tree
use Rattle.hir_env.specs.ResolvedTree.{Formals, OptionExpr, OptionPath}
use Rattle.hir_env.specs.Answers.{Answers}
use Rattle.hir_env.specs.Wrapped.{AstConstArg}
use Rattle.hir_env.specs.declared.ctx.ImplTrait.{ImplTrait}
use Rattle.hir_env.specs.declared.ctx.ImplTrait.TheVariants as becomes
use Rattle.hir_env.specs.declared.ctx.LifetimeScope.TheVariants as scope
use Rattle.hir_env.specs.declared.ctx.LoweringMode.{LoweringMode}
use Rattle.hir_env.specs.declared.ctx.LoweringMode.TheVariants.{Analysis}
use Rattle.hir_env.specs.declared.ctx.LowerCtx.{LowerCtx}
use Rattle.thm_item_reading.specs.Rules.{AliasAs, BodyParamsAs, CoroutineAs, FunctionAs, GenericsAs, ImplAs, TraitAs}
use Rattle.thm_reading.specs.OneTree.{AtMostOne}
use Rattle.thm_reading.specs.LowerCtx.{in_constant}
use Rattle.thm_reading.specs.Rules.{OptExprAs, OptPathAs, OptTypeAs}
use Rattle.thm_body_result.specs.Diagnostics.{Faults}
use Rattle.hir_lower.specs.Inputs.{BodyInput}
use Rattle.hir_lower.specs.Items.{read_alias, read_function, read_generics, read_impl, read_trait}
use Rattle.thm_calls.specs.Readings.{BodyCall, body_reading, const_reading_at, path_reading_at, type_reading}

-- places

-- where a call begins to read: no `impl` stands around, no lifetime counts, and as many macro calls may be entered as the environment
-- says
abbrev pub first_place : Answers → HirFileId → ModuleId → LoweringMode → Option AwaitLocation → ImplTrait → LowerCtx
first_place env file inside mode awaits_in impl = record {
  file_id = file;
  module_id = inside;
  mode = mode;
  await_location = awaits_in;
  impl_trait = impl;
  in_impl = false;
  lifetimes = scope.Nowhere;
  left = env.expansion_limit;
}

-- a body: an `impl` in it is an error, and an `await` stands in this
abbrev pub in_body : Answers → BodyCall → Option AwaitLocation → LowerCtx
in_body env c awaits_in = first_place env c.file_id c.inside Analysis awaits_in becomes.Error

-- its parameters, which are read outside of it
abbrev pub in_params : Answers → BodyCall → LowerCtx
in_params env c = first_place env c.file_id c.inside Analysis (Some location.Unknown) becomes.Error

-- a type that stands alone: an `impl` stays one
abbrev pub in_type : Answers → HirFileId → ModuleId → LowerCtx
in_type env file inside = first_place env file inside Analysis (Some location.Unknown) becomes.Opaque

-- the parts of an item, before what is said of each
abbrev pub in_item : Answers → HirFileId → ModuleId → LoweringMode → LowerCtx
in_item env file inside mode = first_place env file inside mode (Some location.Unknown) becomes.Error

-- an alias: in the module of what contains it
abbrev pub in_alias : Answers → HirFileId → ItemContainerId → LowerCtx
in_alias env file container = in_item env file (env.module_of container) Analysis

-- a path of a collector: what an `impl` becomes is the caller's choice
abbrev pub in_path : LowerCtx → ImplTrait → LowerCtx
in_path p impl = record p { impl_trait = impl }

-- bodies

-- what an `await` in the body of an item stands in: in nothing that forbids it where the body is async
pub data AwaitsAs : Bool → DefWithBodyId → Option AwaitLocation → Type 0 where
  in_async : {item : _} → AwaitsAs true item None
  in_function : {f : _} → AwaitsAs false (owner.FunctionId f) (Some location.NonAsyncFunction)
  in_static : {s : _} → AwaitsAs false (owner.StaticId s) (Some location.Static)
  in_const : {k : _} → AwaitsAs false (owner.ConstId k) (Some location.Constant)
  in_variant : {v : _} → AwaitsAs false (owner.VariantId v) (Some location.EnumVariant)

-- whether parameters are read: those of functions, and of each item whose body is skipped
pub data AreReadAs : Bool → DefWithBodyId → Bool → Type 0 where
  of_skipped : {item : _} → AreReadAs true item true
  of_function : {f : _} → AreReadAs false (owner.FunctionId f) true
  of_static : {s : _} → AreReadAs false (owner.StaticId s) false
  of_const : {k : _} → AreReadAs false (owner.ConstId k) false
  of_variant : {v : _} → AreReadAs false (owner.VariantId v) false

-- which items must have a body, by what they stand in, and as which fault they lack it
pub data NeedsAs : DefWithBodyId → ItemContainerId → Option MissingBodyItemKind → Type 0 where
  static_in_module : {s m : _} → NeedsAs (owner.StaticId s) (holder.ModuleId m) (Some missing.Static)
  const_in_module : {k m : _} → NeedsAs (owner.ConstId k) (holder.ModuleId m) (Some missing.Const)
  const_in_impl : {k i : _} → NeedsAs (owner.ConstId k) (holder.ImplId i) (Some missing.AssocConst)
  any_function : {f c : _} → NeedsAs (owner.FunctionId f) c None
  any_variant : {v c : _} → NeedsAs (owner.VariantId v) c None
  static_in_impl : {s i : _} → NeedsAs (owner.StaticId s) (holder.ImplId i) None
  static_in_trait : {s t : _} → NeedsAs (owner.StaticId s) (holder.TraitId t) None
  static_in_extern_block : {s b : _} → NeedsAs (owner.StaticId s) (holder.ExternBlockId b) None
  const_in_trait : {k t : _} → NeedsAs (owner.ConstId k) (holder.TraitId t) None
  const_in_extern_block : {k b : _} → NeedsAs (owner.ConstId k) (holder.ExternBlockId b) None

-- the fault of an absent body, at the node of its item, where it must be there
abbrev pub fault_at : Pointer → Option MissingBodyItemKind → Faults
fault_at s None = []
fault_at s (Some k) = MissingBody s k ∷ []

module _ (env : Answers) (c : BodyCall) where
  -- a skipped body is absent
  pub data TreeAs : OptionExpr → Type 0 where
    skipped_tree : env.skip c.owner ≡ true → TreeAs tree.no_expr
    read_tree : {l x : _} → env.skip c.owner ≡ false → AwaitsAs c.is_async c.owner l → OptExprAs env (in_body env c l) c.body x
        → TreeAs x

  -- and no coroutine
  pub data KindAs : Option CoroutineKind → Type 0 where
    skipped_kind : env.skip c.owner ≡ true → KindAs None
    written_kind : {k : _} → env.skip c.owner ≡ false → CoroutineAs c.is_async c.is_gen k → KindAs k

  pub data ParamsAs : Formals → Type 0 where
    no_params : AreReadAs (env.skip c.owner) c.owner false → ParamsAs (record { receiver = tree.no_self; formals = [] })
    read_params : {f : _} → AreReadAs (env.skip c.owner) c.owner true
        → BodyParamsAs env (in_params env c) (env.container c.owner) (is_some c.body) c.params f → ParamsAs f

  pub data OwedAs : Faults → Type 0 where
    skipped_body : env.skip c.owner ≡ true → OwedAs []
    has_body : {e : _} → env.skip c.owner ≡ false → c.body ≡ Some e → OwedAs []
    absent_body : {k : _} → env.skip c.owner ≡ false → c.body ≡ None → NeedsAs c.owner (env.container c.owner) k
        → OwedAs (fault_at (record { file_id = c.file_id; value = c.node }) k)

  pub record BodyAs (x : BodyInput) : Type 0 where
    pub skipped : x.skipped ≡ env.skip c.owner
    pub kind : KindAs x.kind
    pub owed : OwedAs x.owed
    pub formals : ParamsAs x.formals
    pub read : TreeAs x.read

-- it is such, and nothing else is
pub record IsJust {A : Type 0} (F : A → Type 0) (x : A) : Type 0 where
  pub allowed : F x
  pub alone : AtMostOne F

abbrev pub BodyByRules : Type 0
BodyByRules = (a : Answers) (c : BodyCall) → IsJust (BodyAs a c) (body_reading c a)

abbrev pub TypeRefByRules : Type 0
TypeRefByRules = (a : Answers) (file : HirFileId) (inside : ModuleId) (t : Option AstType_)
    → IsJust (OptTypeAs a (in_type a file inside) t) (type_reading file inside t a)

-- at the place of the collector, wherever that is

abbrev pub ConstArgByRules : Type 0
ConstArgByRules = (a : Answers) (p : LowerCtx) (x : AstConstArg) → IsJust (OptExprAs a (in_constant p) x) (const_reading_at p x a)

abbrev pub PathByRules : Type 0
PathByRules = (a : Answers) (p : LowerCtx) (impl : ImplTrait) (x : AstPath)
    → IsJust (OptPathAs a (in_path p impl) (Some x)) (path_reading_at p impl x a).read

-- items

abbrev pub GenericParamsByRules : Type 0
GenericParamsByRules = (a : Answers) (file : HirFileId) (inside : ModuleId) (mode : LoweringMode) (def : GenericDefId)
    (ps : Option (List GenericParam)) (ws : Option (List WherePred))
    → IsJust (GenericsAs a (in_item a file inside mode) def ps ws) (read_generics a file inside mode def ps ws)

abbrev pub ImplByRules : Type 0
ImplByRules = (a : Answers) (file : HirFileId) (inside : ModuleId) (id : ImplId) (x : Impl)
    → IsJust (ImplAs a (in_item a file inside Analysis) (definition.ImplId id) x) (read_impl a file inside id x)

abbrev pub TraitByRules : Type 0
TraitByRules = (a : Answers) (file : HirFileId) (inside : ModuleId) (id : TraitId) (x : Trait)
    → IsJust (TraitAs a (in_item a file inside Analysis) (definition.TraitId id) x) (read_trait a file inside id x)

abbrev pub TypeAliasByRules : Type 0
TypeAliasByRules = (a : Answers) (file : HirFileId) (container : ItemContainerId) (id : TypeAliasId) (x : TypeAlias)
    → IsJust (AliasAs a (in_alias a file container) (definition.TypeAliasId id) container x) (read_alias a file container id x)

abbrev pub FunctionByRules : Type 0
FunctionByRules = (a : Answers) (file : HirFileId) (inside : ModuleId) (id : FunctionId) (x : Fn)
    → IsJust (FunctionAs a (in_item a file inside Analysis) (definition.FunctionId id) x) (read_function a file inside id x)
