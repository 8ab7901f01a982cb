-- Where the parts of a tree are read, said without the reading, and what a macro call comes to there.
use Rattle.std.specs.Prelude.{◌≡◌, Ok, Err, ℕ, zero, suc, Bool, true, false, List, [], ◌∷◌, Option, Some, None}
use Rattle.hir_base.specs.declared.node.NodeId.{NodeId}
use Rattle.hir_base.specs.declared.node.TextRange.{TextRange}
use Rattle.hir_syntax.specs.declared.ast.Expr.{Expr as AstExpr, out-Expr}
use Rattle.hir_syntax.specs.declared.ast.BlockExpr.{BlockExpr as AstBlockExpr, out-BlockExpr}
use Rattle.hir_syntax.specs.declared.ast.ExprKind.{out-ExprKind}
use Rattle.hir_syntax.specs.declared.ast.RecordExprField.{RecordExprField as AstRecordExprField, out-RecordExprField}
use Rattle.hir_syntax.specs.declared.ast.Stmt.{Stmt as AstStmt, out-Stmt}
use Rattle.hir_syntax.specs.declared.branches.MatchArm.{MatchArm as AstMatchArm, out-MatchArm}
use Rattle.hir_syntax.specs.declared.pats.RecordPatField.{RecordPatField as AstRecordPatField, out-RecordPatField}
use Rattle.hir_syntax.specs.declared.types.Param.{Param as AstParam, out-Param}
use Rattle.hir_syntax.specs.declared.types.PathType.{PathType as AstPathType, out-PathType}
use Rattle.hir_syntax.specs.declared.ast.Name.{Name as AstName}
use Rattle.hir_syntax.specs.declared.ast.Label.{Label as AstLabel}
use Rattle.hir_syntax.specs.declared.ast.Lifetime.{Lifetime as AstLifetime}
use Rattle.hir_store.specs.declared.ids.BlockId.{BlockId}
use Rattle.hir_store.specs.declared.ids.CfgId.{CfgId}
use Rattle.hir_store.specs.declared.ids.CrateId.{CrateId}
use Rattle.hir_store.specs.declared.ids.MacroDefId.{MacroDefId}
use Rattle.hir_store.specs.declared.ids.ModuleId.{ModuleId}
use Rattle.hir_env.specs.declared.ctx.LoweringMode.{LoweringMode}
use Rattle.hir_env.specs.declared.ctx.LoweringMode.TheVariants as reads
use Rattle.hir_syntax.specs.declared.macros.Fragment.TheVariants as fragment
use Rattle.hir_syntax.specs.declared.macros.MacroCall.{MacroCall as AstMacroCall, out-MacroCall}
use Rattle.hir_syntax.specs.declared.pats.Pat.{Pat as AstPat, out-Pat}
use Rattle.hir_syntax.specs.declared.pats.PatKind.{out-PatKind}
use Rattle.hir_syntax.specs.declared.types.Type_.{Type_ as AstType_, out-Type_}
use Rattle.hir_syntax.specs.declared.types.TypeKind.{out-TypeKind}
use Rattle.hir_syntax.specs.declared.types.UseArg.{UseArg as AstUseArg}
use Rattle.hir_syntax.specs.declared.types.UseArg.TheVariants as used
use Rattle.hir_store.specs.Pointers.{Pointer}
use Rattle.hir_store.specs.declared.diagnostics.AwaitLocation.{AwaitLocation}
use Rattle.hir_store.specs.declared.diagnostics.AwaitLocation.TheVariants as location
use Rattle.hir_store.specs.declared.ids.HygieneId.{HygieneId}
use Rattle.hir_store.specs.declared.name.Name.{Name}
use Rattle.hir_store.specs.declared.name.Name.TheVariants as name
use Rattle.hir_store.specs.declared.path.ModPath.{ModPath}
use Rattle.hir_store.specs.declared.path.PathKind.TheVariants as start
use Rattle.hir_binding.specs.declared.binding.BindingAnnotation.{BindingAnnotation}
use Rattle.hir_binding.specs.declared.binding.BindingAnnotation.TheVariants as mode
use Rattle.hir_env.specs.ResolvedTree as tree
use Rattle.hir_env.specs.ResolvedTree.{Called, Jump, Label, Lifetime, Use, UseRead}
use Rattle.hir_env.specs.Answers.{Answers, Expanding, unresolved, no_expansion, expanded}
use Rattle.hir_env.specs.Layers.{ExprKindLayer, written}
use Rattle.hir_env.specs.NodeMap.{Site}
use Rattle.hir_env.specs.PatLayers.{PatKindLayer}
use Rattle.hir_env.specs.Paths.{lifetime_ref}
use Rattle.hir_env.specs.TypeLayers.{TypeKindLayer}
use Rattle.hir_env.specs.declared.expand.FragmentKind.{FragmentKind}
use Rattle.hir_env.specs.declared.ctx.ImplTrait.TheVariants as becomes
use Rattle.hir_env.specs.declared.ctx.LifetimeScope.{LifetimeScope}
use Rattle.hir_env.specs.declared.ctx.LifetimeScope.TheVariants as scope
use Rattle.hir_env.specs.declared.ctx.LowerCtx.{LowerCtx}
use Rattle.hir_env.specs.declared.resolved.Resolution.{Resolution}
use Rattle.hir_env.specs.declared.resolved.Resolution.TheVariants as resolution
use Rattle.hir_env.specs.declared.resolved.BuiltinShadowMode.TheVariants as shadow
use Rattle.hir_alias.specs.Alias.{Alias}

-- nodes

abbrev pub node : LowerCtx → NodeId → TextRange → Pointer
node p id range = record { file_id = p.file_id; value = record { node = id; range = range } }

abbrev pub site : Pointer → Site
site s = record { file_id = s.file_id; value = s.value.node }

abbrev pub type_node : LowerCtx → AstType_ → Pointer
type_node p t = node p (out-Type_ t).id (out-Type_ t).range

abbrev pub type_kind : AstType_ → TypeKindLayer written
type_kind t = out-TypeKind (out-Type_ t).kind

abbrev pub expr_node : LowerCtx → AstExpr → Pointer
expr_node p e = node p (out-Expr e).id (out-Expr e).range

abbrev pub expr_kind : AstExpr → ExprKindLayer written
expr_kind e = out-ExprKind (out-Expr e).kind

abbrev pub pat_node : LowerCtx → AstPat → Pointer
pat_node p x = node p (out-Pat x).id (out-Pat x).range

abbrev pub pat_kind : AstPat → PatKindLayer written
pat_kind x = out-PatKind (out-Pat x).kind

abbrev pub param_node : LowerCtx → AstParam → Pointer
param_node p x = node p (out-Param x).id (out-Param x).range

abbrev pub block_node : LowerCtx → AstBlockExpr → Pointer
block_node p b = node p (out-BlockExpr b).id (out-BlockExpr b).range

abbrev pub field_node : LowerCtx → AstRecordExprField → Pointer
field_node p x = node p (out-RecordExprField x).id (out-RecordExprField x).range

abbrev pub pat_field_node : LowerCtx → AstRecordPatField → Pointer
pat_field_node p x = node p (out-RecordPatField x).id (out-RecordPatField x).range

abbrev pub arm_node : LowerCtx → AstMatchArm → Pointer
arm_node p x = node p (out-MatchArm x).id (out-MatchArm x).range

abbrev pub stmt_node : LowerCtx → AstStmt → Pointer
stmt_node p s = node p (out-Stmt s).id (out-Stmt s).range

abbrev pub trait_node : LowerCtx → AstPathType → Pointer
trait_node p x = node p (out-PathType x).id (out-PathType x).range

abbrev pub call_node : LowerCtx → AstMacroCall → Pointer
call_node p c = node p (out-MacroCall c).id (out-MacroCall c).range

-- conditions, which are asked at the node

abbrev pub IsEnabled : Answers → Pointer → Type 0
IsEnabled env s = env.cfg (site s) ≡ Ok tt

abbrev pub IsDisabled : Answers → Pointer → CfgId → Type 0
IsDisabled env s by = env.cfg (site s) ≡ Err by

-- places

abbrev pub in_constant : LowerCtx → LowerCtx
in_constant p = record p { impl_trait = becomes.Error; await_location = Some location.Constant }

-- a lifetime in an `impl` counts as one in a bound, but where the `impl` stands in what is returned or in no argument
abbrev pub impl_scope : LifetimeScope → LifetimeScope
impl_scope scope.Nowhere = scope.Output
impl_scope scope.Output = scope.Output
impl_scope scope.Bound = scope.Bound
impl_scope scope.Input = scope.Bound
impl_scope scope.Projection = scope.Bound

abbrev pub projection_scope : LifetimeScope → LifetimeScope
projection_scope scope.Input = scope.Projection
projection_scope scope.Nowhere = scope.Nowhere
projection_scope scope.Output = scope.Output
projection_scope scope.Bound = scope.Bound
projection_scope scope.Projection = scope.Projection

-- inside of the bounds of an `impl`
abbrev pub in_an_impl : LowerCtx → LowerCtx
in_an_impl p = record p { in_impl = true; lifetimes = impl_scope p.lifetimes }

-- inside of the type and the trait of `<T as Trait>`
abbrev pub in_projection : LowerCtx → LowerCtx
in_projection p = record p { lifetimes = projection_scope p.lifetimes }

-- inside of an associated type argument an `impl` may stand, wherever that stands
abbrev pub outside_impl : LowerCtx → LowerCtx
outside_impl p = record p { in_impl = false }

-- where an `await` stands in this, or in nothing that it may not stand in
abbrev pub awaiting : Option AwaitLocation → LowerCtx → LowerCtx
awaiting location p = record p { await_location = location }

abbrev pub in_module : ModuleId → LowerCtx → LowerCtx
in_module m p = record p { module_id = m }

-- macro calls

-- what is answered of a call; nothing is asked where none may be entered
abbrev pub answer_at : Answers → ℕ → LowerCtx → AstMacroCall → FragmentKind → Option Expanding
answer_at env zero p c k = None
answer_at env (suc n) p c k = Some (env.expand (site (call_node p c)) c p.module_id k)

abbrev pub answer : Answers → LowerCtx → AstMacroCall → FragmentKind → Option Expanding
answer env p c k = answer_at env p.left p c k

-- the place inside of an expansion: another file, and one call less that may be entered; all else is as at the call
abbrev pub one_less : ℕ → ℕ
one_less zero = zero
one_less (suc n) = n

abbrev pub within : Option Expanding → LowerCtx → LowerCtx
within (Some (expanded f x es)) p = record p { file_id = f; left = one_less p.left }
within _ p = p

abbrev pub its_type : Option Expanding → Option AstType_
its_type (Some (expanded f (Some (fragment.Type_ t)) es)) = Some t
its_type _ = None

abbrev pub its_expr : Option Expanding → Option AstExpr
its_expr (Some (expanded f (Some (fragment.Expr e)) es)) = Some e
its_expr _ = None

abbrev pub its_pat : Option Expanding → Option AstPat
its_pat (Some (expanded f (Some (fragment.Pat x)) es)) = Some x
its_pat _ = None

-- what is said of the call itself
pub data CallAs (at : Pointer) : Option Expanding → Called → Type 0 where
  too_deep : CallAs at None tree.unentered
  not_expanded : CallAs at (Some no_expansion) tree.unentered
  not_found : {x : ModPath} → CallAs at (Some (unresolved x)) (tree.unresolved at x)
  goes_in : {f x es : _} → CallAs at (Some (expanded f x es)) (tree.entered (record { call = at; file = f; eager = es }))

-- roots of crates

abbrev pub root_at : Answers → LowerCtx → NodeId → Option CrateId
root_at env p id = env.crate_root (env.context (record { file_id = p.file_id; value = id }))

-- names

abbrev pub name_text : Option AstName → Name
name_text None = name.Missing
name_text (Some n) = name.Text n.t

abbrev pub binding_mode : Bool → Bool → BindingAnnotation
binding_mode true true = mode.RefMut
binding_mode true false = mode.Ref
binding_mode false true = mode.Mutable
binding_mode false false = mode.Unannotated

-- the hygiene of a name is that of the node of the name, not of the pattern
abbrev pub hygiene_of_name : Answers → LowerCtx → Option AstName → HygieneId
hygiene_of_name env p None = record { 0 = 0 }
hygiene_of_name env p (Some n) = env.hygiene (site (node p n.id n.range))

abbrev pub names_it : Answers → LowerCtx → Option AstName → Bool → Bool → Use
names_it env p n by_ref is_mut = record { name = name_text n; hygiene = hygiene_of_name env p n; mode = binding_mode by_ref is_mut }

-- whether a plain name stands for a value that a pattern can name: it is asked in the module of the place, and locals don't hide it
abbrev pub is_named_value : Option Resolution → Bool
is_named_value (Some resolution.Const) = true
is_named_value (Some resolution.Variant) = true
is_named_value (Some resolution.Struct) = true
is_named_value _ = false

abbrev pub corresponds_to_value : Answers → LowerCtx → Option AstName → Bool
corresponds_to_value env p n =
    is_named_value (env.resolve p.module_id (record { kind = start.Plain; segments = name_text n ∷ [] }) shadow.Other).values

-- Of an alias in an argument: of each lifetime that it takes whether its type names it. It is asked for as a type in the
-- module of the place.
abbrev pub lifetimes_named : Option Alias → List Bool
lifetimes_named None = []
lifetimes_named (Some x) = x.named

abbrev pub of_alias : Answers → Option Resolution → Option (List Bool)
of_alias env (Some (resolution.TypeAlias n)) = Some (lifetimes_named (env.alias n))
of_alias env _ = None

abbrev pub alias_here : Answers → LowerCtx → LifetimeScope → Option ModPath → Option (List Bool)
alias_here env p scope.Input (Some x) = of_alias env (env.resolve p.module_id x shadow.Module).types
alias_here env p _ _ = None

-- lifetimes, each with its node and the scope of the place

abbrev pub lifetime_here : LowerCtx → AstLifetime → Lifetime
lifetime_here p l = record { pointer = node p l.id l.range; lifetime = lifetime_ref l.t; scope = p.lifetimes }

-- what a `use<..>` names
abbrev pub use_here : LowerCtx → AstUseArg → UseRead
use_here p (used.Lifetime l) = tree.used_lifetime (lifetime_here p l)
use_here p (used.Name n) = tree.used_name (name.Text n.t)

-- labels, jumps, numbers and definitions

abbrev pub label_text : Option AstLifetime → Name
label_text None = name.Missing
label_text (Some l) = name.Text l.t

-- the hygiene of a label is that of its node, not of its lifetime
abbrev pub label_here : Answers → LowerCtx → Option AstLabel → Option Label
label_here env p None = None
label_here env p (Some l) = Some (record {
  pointer = node p l.id l.range;
  name = label_text l.lifetime;
  hygiene = env.hygiene (site (node p l.id l.range));
})

abbrev pub jump_here : Answers → LowerCtx → AstLifetime → Jump
jump_here env p l = record {
  pointer = node p l.id l.range;
  name = name.Text l.t;
  hygiene = env.hygiene (site (node p l.id l.range));
  contexts = env.contexts;
}

-- numbers are asked for in analysis alone, at the block's node and in the module around it
abbrev pub number_in : Answers → LoweringMode → LowerCtx → NodeId → Option (BlockId × ModuleId)
number_in env reads.Analysis p id = env.block (record { file_id = p.file_id; value = id }) p.module_id
number_in env reads.Untracked p id = None

abbrev pub number_here : Answers → LowerCtx → NodeId → Option (BlockId × ModuleId)
number_here env p id = number_in env p.mode p id

abbrev pub def_here : Answers → LowerCtx → Option AstName → Option MacroDefId
def_here env p None = None
def_here env p (Some n) = env.macro_def p.module_id (name.Text n.t)
