-- The inputs of the entry functions, as their contracts use them: the arguments with all answers of the environment filled in.
use Rattle.std.specs.Prelude.{Bool, List, Option, is_some, option_copied}
use denote.Ref.{Bor}
use Rattle.hir_base.specs.declared.node.AstPtr.{AstPtr}
use Rattle.hir_base.specs.declared.node.HirFileId.{HirFileId}
use Rattle.hir_base.specs.declared.node.InFile.{InFile}
use Rattle.hir_syntax.specs.declared.ast.Expr.{Expr as AstExpr}
use Rattle.hir_syntax.specs.declared.ast.Path.{Path as AstPath}
use Rattle.hir_syntax.specs.declared.items.Fn.{Fn}
use Rattle.hir_syntax.specs.declared.items.GenericParam.{GenericParam}
use Rattle.hir_syntax.specs.declared.items.Impl.{Impl}
use Rattle.hir_syntax.specs.declared.items.Trait.{Trait}
use Rattle.hir_syntax.specs.declared.items.TypeAlias.{TypeAlias}
use Rattle.hir_syntax.specs.declared.items.WherePred.{WherePred}
use Rattle.hir_syntax.specs.declared.params.ParamList.{ParamList as AstParamList}
use Rattle.hir_syntax.specs.declared.types.Type_.{Type_ as AstType_}
use Rattle.hir_store.specs.declared.hir.CoroutineKind.{CoroutineKind}
use Rattle.hir_store.specs.declared.ids.DefWithBodyId.{DefWithBodyId}
use Rattle.hir_store.specs.declared.ids.FunctionId.{FunctionId}
use Rattle.hir_store.specs.declared.ids.GenericDefId.{GenericDefId}
use Rattle.hir_store.specs.declared.ids.GenericDefId.TheVariants as definition
use Rattle.hir_store.specs.declared.ids.ImplId.{ImplId}
use Rattle.hir_store.specs.declared.ids.ItemContainerId.{ItemContainerId}
use Rattle.hir_store.specs.declared.ids.ModuleId.{ModuleId}
use Rattle.hir_store.specs.declared.ids.TraitId.{TraitId}
use Rattle.hir_store.specs.declared.ids.TypeAliasId.{TypeAliasId}
use Rattle.hir_env.specs.ResolvedTree.{Formals, OptionExpr, OptionPath, OptionType}
use Rattle.hir_env.specs.Answering.{coroutine_kind}
use Rattle.hir_env.specs.Answers.{Answers}
use Rattle.hir_env.specs.Paths.{inside_constant}
use Rattle.hir_env.specs.ResolveCtx.{ResolveCtx}
use Rattle.hir_env.specs.Whole.{expr_part}
use Rattle.hir_env.specs.Wrapped.{AstConstArg}
use Rattle.hir_env.specs.declared.ctx.ImplTrait.{ImplTrait}
use Rattle.hir_env.specs.declared.ctx.LowerCtx.{LowerCtx}
use Rattle.hir_env.specs.declared.ctx.LoweringMode.{LoweringMode}
use Rattle.hir_lower_callbacks.specs.ResolveCtxs.{rctx_at}
use Rattle.hir_lower_item.specs.Items as item
use Rattle.thm_body_result.specs.Diagnostics.{Faults}
use Rattle.thm_item_result.specs.Parts.{Part, alias_parts, function_parts, generics_parts, impl_parts, trait_parts}
use Rattle.hir_lower.specs.Formals.{item_formals}
use Rattle.hir_lower.specs.Items.{read_alias, read_function, read_generics, read_impl, read_trait}
use Rattle.hir_lower.specs.Means.{body_owes, body_read, kind_unless_skipped, whole_path, whole_type}
use Rattle.hir_lower.specs.Roots.{becoming, body_rctx, type_rctx}

-- bodies

pub record BodyInput : Type 0 where
  -- whether the environment says that the body is skipped
  pub skipped : Bool
  -- the kind of coroutine that the body is; none if it is no coroutine or is skipped
  pub kind : Option CoroutineKind
  -- the diagnostic that is required if the item must have a body and has none
  pub owed : Faults
  -- the parameters that are lowered: those of a function, and of each owner that is skipped
  pub formals : Formals
  -- the written body; absent if it is skipped
  pub read : OptionExpr

abbrev pub body_input : Answers → DefWithBodyId → AstPtr → HirFileId → ModuleId → Option AstParamList → Option AstExpr → Bool → Bool
    → BodyInput
body_input env owner node file inside ps e is_async is_gen = let at = body_rctx env owner file inside is_async in record {
  skipped = at.answers.skip owner;
  kind = kind_unless_skipped (at.answers.skip owner) (coroutine_kind is_async is_gen);
  owed = body_owes at owner node e;
  formals = item_formals at owner ps (is_some e);
  read = body_read at owner e;
}

-- a type by itself

abbrev pub type_input : Answers → ModuleId → InFile (Option (Bor AstType_)) → OptionType
type_input env inside t = whole_type (type_rctx env t.file_id inside) (option_copied t.value)

-- constants, paths and types, at the place of the collector

-- an `await` in a constant is in a constant, wherever the collector is
abbrev pub const_input : Answers → LowerCtx → AstConstArg → OptionExpr
const_input env place x = expr_part (rctx_at env (inside_constant place)) x

-- the caller says what an `impl Trait` in a path becomes
abbrev pub path_rctx : Answers → LowerCtx → ImplTrait → ResolveCtx
path_rctx env place impl = rctx_at env (becoming place impl)

abbrev pub path_input : Answers → LowerCtx → ImplTrait → AstPath → OptionPath
path_input env place impl x = whole_path (path_rctx env place impl) x

-- a type at the place of the collector; the caller says what an `impl Trait` in it becomes
abbrev pub placed_type_input : Answers → LowerCtx → ImplTrait → Option AstType_ → OptionType
placed_type_input env place impl x = whole_type (rctx_at env (becoming place impl)) x

-- items

pub record ItemInput (A : Type 0) : Type 0 where
  -- the definition that owns the generic parameters
  pub def : GenericDefId
  -- the item as a resolved tree
  pub read : A
  -- its parts, in the order of lowering
  pub parts : List Part

abbrev pub generics_input : Answers → HirFileId → ModuleId → LoweringMode → GenericDefId → Option (List GenericParam)
    → Option (List WherePred) → ItemInput item.Generics
generics_input env file inside mode def ps ws = let x = read_generics env file inside mode def ps ws in
    record { def = def; read = x; parts = generics_parts def x }

abbrev pub impl_input : Answers → ModuleId → InFile (Bor Impl) → ImplId → ItemInput item.Impl
impl_input env inside it id = let def = definition.ImplId id in let x = read_impl env it.file_id inside id it.value.now in
    record { def = def; read = x; parts = impl_parts def x }

abbrev pub trait_input : Answers → ModuleId → InFile (Bor Trait) → TraitId → ItemInput item.Trait
trait_input env inside it id = let def = definition.TraitId id in let x = read_trait env it.file_id inside id it.value.now in
    record { def = def; read = x; parts = trait_parts def x }

-- an alias is in the module of its container
abbrev pub alias_input : Answers → ItemContainerId → InFile (Bor TypeAlias) → TypeAliasId → ItemInput item.Alias
alias_input env container it id = let def = definition.TypeAliasId id in let x = read_alias env it.file_id container id it.value.now in
    record { def = def; read = x; parts = alias_parts def x }

abbrev pub function_input : Answers → ModuleId → InFile (Bor Fn) → FunctionId → ItemInput item.Function
function_input env inside it id = let def = definition.FunctionId id in let x = read_function env it.file_id inside id it.value.now in
    record { def = def; read = x; parts = function_parts def x }
