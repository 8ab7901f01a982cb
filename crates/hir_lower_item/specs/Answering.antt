-- Where the parts of an item are read, and the item with the answers written into it.
use Rattle.std.specs.Prelude.{Bool, true, false, List, [], map, Option, Some, None, option_map, Result, Ok, Err}
use Rattle.hir_syntax.specs.declared.ast.Lifetime.{Lifetime as AstLifetime}
use Rattle.hir_syntax.specs.declared.ast.ElseBranch.TheOpen.{TypeKind-F}
use Rattle.hir_syntax.specs.declared.params.ParamList.{ParamList as AstParamList}
use Rattle.hir_syntax.specs.declared.params.SelfParam.{SelfParam as AstSelfParam}
use Rattle.hir_syntax.specs.declared.types.ForBinder.{ForBinder as AstForBinder}
use Rattle.hir_syntax.specs.declared.types.Param.{Param as AstParam, out-Param}
use Rattle.hir_syntax.specs.declared.types.Type_.{Type_ as AstType}
use Rattle.hir_syntax.specs.declared.types.TypeBound.{TypeBound as AstTypeBound}
use Rattle.hir_syntax.specs.declared.types.TypeKind.{out-TypeKind}
use Rattle.hir_syntax.specs.declared.items.Fn.{Fn as AstFn}
use Rattle.hir_syntax.specs.declared.items.GenericParam.{GenericParam as AstGenericParam}
use Rattle.hir_syntax.specs.declared.items.GenericParam.TheVariants as param
use Rattle.hir_syntax.specs.declared.items.Impl.{Impl as AstImpl}
use Rattle.hir_syntax.specs.declared.items.Trait.{Trait as AstTrait}
use Rattle.hir_syntax.specs.declared.items.TypeAlias.{TypeAlias as AstTypeAlias}
use Rattle.hir_syntax.specs.declared.items.WherePred.{WherePred as AstWherePred}
use Rattle.hir_store.specs.Pointers.{Pointer}
use Rattle.hir_store.specs.declared.diagnostics.MissingBodyItemKind.{MissingBodyItemKind}
use Rattle.hir_store.specs.declared.diagnostics.MissingBodyItemKind.TheVariants as missing
use Rattle.hir_store.specs.declared.hir.Mutability.{Mutability}
use Rattle.hir_store.specs.declared.ids.CfgId.{CfgId}
use Rattle.hir_store.specs.declared.ids.GenericDefId.{GenericDefId}
use Rattle.hir_store.specs.declared.ids.ItemContainerId.{ItemContainerId}
use Rattle.hir_store.specs.declared.ids.ItemContainerId.TheVariants as holder
use Rattle.hir_store.specs.declared.name.Name.{Name}
use Rattle.hir_store.specs.declared.name.Name.TheVariants as name
use Rattle.hir_store.specs.declared.type_ref.LifetimeRef.{LifetimeRef}
use Rattle.hir_store.specs.declared.type_ref.LifetimeRef.TheVariants as lifetime
use Rattle.hir_env.specs.declared.ctx.ImplTrait.{ImplTrait}
use Rattle.hir_env.specs.declared.ctx.ImplTrait.TheVariants as becomes
use Rattle.hir_env.specs.declared.ctx.LifetimeScope.{LifetimeScope}
use Rattle.hir_env.specs.declared.ctx.LifetimeScope.TheVariants as scope
use Rattle.hir_env.specs.declared.ctx.LowerCtx.{LowerCtx}
use Rattle.hir_env.specs.ResolvedTree.{Binder, Bounds, Lifetime}
use Rattle.hir_env.specs.Answering.{coroutine_kind, name_or_missing}
use Rattle.hir_env.specs.Paths.{lifetime_of, mutability}
use Rattle.hir_env.specs.ResolveCtx.{ResolveCtx, in_file, ptr, site_of}
use Rattle.hir_env.specs.TypeLayers.{PathTypeReading, TypeKindLayer}
use Rattle.hir_env.specs.Whole.{resolved_constant, resolved_type, bounds_part, path_part, pointer_at, ret_part, type_part, written}
use Rattle.hir_lower_item.specs.Items.{Param, disabled_param, type_param, const_param, lifetime_param, nameless_param}
use Rattle.hir_lower_item.specs.Items.{Predicate, of_type, of_lifetime, of_nothing, Generics}
use Rattle.hir_lower_item.specs.Items.{Receiver, no_receiver, disabled_receiver, typed_receiver, self_receiver}
use Rattle.hir_lower_item.specs.Items.{Argument, disabled_argument, variadic_argument, argument, Function, Impl, Trait, Alias}

-- places

-- where an `impl` becomes this, and a lifetime counts there
abbrev pub reading : ImplTrait → LifetimeScope → LowerCtx → LowerCtx
reading mode s p = record p { impl_trait = mode; lifetimes = s }

-- the bounds of parameters and of where predicates
abbrev pub in_bounds : GenericDefId → LowerCtx → LowerCtx
in_bounds def p = reading (becomes.Argument def) scope.Bound p

-- what a where predicate is of
abbrev pub in_target : LowerCtx → LowerCtx
in_target p = reading becomes.Error scope.Bound p

-- the bounds of a trait's `Self`
abbrev pub in_self_bounds : GenericDefId → LowerCtx → LowerCtx
in_self_bounds def p = reading (becomes.Argument def) scope.Nowhere p

-- the types of a function's parameters
abbrev pub in_arguments : GenericDefId → LowerCtx → LowerCtx
in_arguments def p = reading (becomes.Argument def) scope.Input p

-- what a function returns
abbrev pub in_output : LowerCtx → LowerCtx
in_output p = reading becomes.Opaque scope.Output p

-- the trait of an `impl`, and the bounds and the type of an alias
abbrev pub in_opaque : LowerCtx → LowerCtx
in_opaque p = reading becomes.Opaque scope.Nowhere p

-- all else: the defaults and the types of parameters, and the type of an `impl`
abbrev pub in_plain : LowerCtx → LowerCtx
in_plain p = reading becomes.Error scope.Nowhere p

abbrev pub at_place : (LowerCtx → LowerCtx) → ResolveCtx → ResolveCtx
at_place f at = record at { place = f at.place }

-- parameters

abbrev pub asked_param : Pointer → Result (Unit {0}) CfgId → Param → Param
asked_param s (Ok _) x = x
asked_param s (Err by) x = disabled_param s by

-- a lifetime with a name is a parameter
abbrev pub named_param : LifetimeRef → Lifetime → Bounds → Param
named_param (lifetime.Named n) l bs = lifetime_param n l bs
named_param lifetime.Static l bs = nameless_param (Some l)
named_param lifetime.Placeholder l bs = nameless_param (Some l)
named_param lifetime.Error l bs = nameless_param (Some l)

abbrev pub lifetime_param_of : Option Lifetime → Bounds → Param
lifetime_param_of None bs = nameless_param None
lifetime_param_of (Some l) bs = named_param l.lifetime l bs

abbrev pub param_pointer : LowerCtx → AstGenericParam → Pointer
param_pointer p (param.TypeParam id range n bs d) = in_file p (ptr id range)
param_pointer p (param.ConstParam id range n t d) = in_file p (ptr id range)
param_pointer p (param.LifetimeParam id range l bs) = in_file p (ptr id range)

abbrev pub kept_param : ResolveCtx → GenericDefId → AstGenericParam → Param
kept_param at def (param.TypeParam id range n bs d) =
    type_param (name_or_missing n) (type_part (at_place in_plain at) d) (bounds_part (at_place (in_bounds def) at) bs)
kept_param at def (param.ConstParam id range n t d) =
    const_param (name_or_missing n) (type_part (at_place in_plain at) t) (option_map (resolved_constant (at_place in_plain at)) d)
kept_param at def (param.LifetimeParam id range l bs) =
    lifetime_param_of (option_map (lifetime_of (in_plain at.place)) l) (bounds_part (at_place (in_bounds def) at) bs)

abbrev pub resolved_param : ResolveCtx → GenericDefId → AstGenericParam → Param
resolved_param at def x = let s = param_pointer at.place x in asked_param s (at.answers.cfg (site_of s)) (kept_param at def x)

abbrev pub params_part : ResolveCtx → GenericDefId → List AstGenericParam → List Param
params_part at def xs = map (resolved_param at def) xs

-- an absent list is empty
abbrev pub list_part : ResolveCtx → GenericDefId → Option (List AstGenericParam) → List Param
list_part at def None = []
list_part at def (Some xs) = params_part at def xs

-- where predicates

-- one that a text lacks has the missing name
abbrev pub binder_name : Option AstLifetime → Name
binder_name None = name.Missing
binder_name (Some l) = name.Text l.t

abbrev pub binder_names : List (Option AstLifetime) → Binder
binder_names ls = map binder_name ls

abbrev pub where_binder : AstForBinder → Binder
where_binder b = binder_names b.params

abbrev pub predicate_of : ResolveCtx → GenericDefId → Option AstType → Option AstLifetime → Option AstForBinder → List AstTypeBound
    → Predicate
predicate_of at def (Some t) l b bs =
    of_type (resolved_type (at_place in_target at) t) (option_map where_binder b) (bounds_part (at_place (in_bounds def) at) bs)
predicate_of at def None (Some l) b bs =
    of_lifetime (lifetime_of (in_target at.place) l) (bounds_part (at_place (in_bounds def) at) bs)
predicate_of at def None None b bs = of_nothing

abbrev pub resolved_predicate : ResolveCtx → GenericDefId → AstWherePred → Predicate
resolved_predicate at def x = predicate_of at def x.ty x.lifetime x.binder x.bounds

abbrev pub predicates_part : ResolveCtx → GenericDefId → List AstWherePred → List Predicate
predicates_part at def xs = map (resolved_predicate at def) xs

-- an absent clause is empty
abbrev pub where_part : ResolveCtx → GenericDefId → Option (List AstWherePred) → List Predicate
where_part at def None = []
where_part at def (Some xs) = predicates_part at def xs

abbrev pub resolved_generics : ResolveCtx → GenericDefId → Option (List AstGenericParam) → Option (List AstWherePred) → Generics
resolved_generics at def ps ws = record { params = list_part at def ps; predicates = where_part at def ws }

-- functions

-- what `self` is borrowed as, which is written as `&` and `mut`
abbrev pub borrow : Bool → Bool → Option Mutability
borrow false is_mut = None
borrow true is_mut = Some (mutability is_mut)

abbrev pub asked_receiver : Pointer → Result (Unit {0}) CfgId → Receiver → Receiver
asked_receiver s (Ok _) x = x
asked_receiver s (Err by) x = disabled_receiver s by

-- a written type counts alone
abbrev pub receiver_of : ResolveCtx → Option AstType → Bool → Bool → Option AstLifetime → Receiver
receiver_of at (Some t) is_ref is_mut l = typed_receiver (resolved_type at t)
receiver_of at None is_ref is_mut l = self_receiver (borrow is_ref is_mut) (option_map (lifetime_of at.place) l)

abbrev pub resolved_receiver : ResolveCtx → GenericDefId → Option AstSelfParam → Receiver
resolved_receiver at def None = no_receiver
resolved_receiver at def (Some x) =
    let s = pointer_at at x.id x.range in
    asked_receiver s (at.answers.cfg (site_of s)) (receiver_of (at_place (in_arguments def) at) x.ty x.ref_ x.mut_ x.lifetime)

abbrev pub asked_argument : Pointer → Result (Unit {0}) CfgId → Argument → Argument
asked_argument s (Ok _) x = x
asked_argument s (Err by) x = disabled_argument s by

abbrev pub argument_of : ResolveCtx → Bool → Option AstType → Argument
argument_of at true t = variadic_argument
argument_of at false t = argument (type_part at t)

abbrev pub resolved_argument : ResolveCtx → GenericDefId → AstParam → Argument
resolved_argument at def x =
    let level = out-Param x in
    let s = pointer_at at level.id level.range in
    asked_argument s (at.answers.cfg (site_of s)) (argument_of (at_place (in_arguments def) at) level.variadic level.ty)

abbrev pub receiver_part : ResolveCtx → GenericDefId → Option AstParamList → Receiver
receiver_part at def None = no_receiver
receiver_part at def (Some x) = resolved_receiver at def x.self_

abbrev pub arguments_of : ResolveCtx → GenericDefId → List AstParam → List Argument
arguments_of at def xs = map (resolved_argument at def) xs

abbrev pub arguments_part : ResolveCtx → GenericDefId → Option AstParamList → List Argument
arguments_part at def None = []
arguments_part at def (Some x) = arguments_of at def x.params

abbrev pub resolved_function : ResolveCtx → GenericDefId → AstFn → Function
resolved_function at def x = record {
  generics = resolved_generics at def x.generics x.where_;
  receiver = receiver_part at def x.params;
  arguments = arguments_part at def x.params;
  ret = ret_part (at_place in_output at) x.ret;
  kind = coroutine_kind x.async_ x.gen_;
}

-- other items

-- a trait that isn't written as a path isn't read
abbrev pub trait_by : ResolveCtx → Pointer → TypeKindLayer written → Option PathTypeReading
trait_by at s (TypeKind-F.PathType x) = Some (record { pointer = s; path = path_part at x })
trait_by at s _ = None

abbrev pub trait_of : ResolveCtx → Option AstType → Option PathTypeReading
trait_of at None = None
trait_of at (Some t) = trait_by at (pointer_at at t.id t.range) (out-TypeKind t.kind)

abbrev pub resolved_impl : ResolveCtx → GenericDefId → AstImpl → Impl
resolved_impl at def x = record {
  self_type = type_part (at_place in_plain at) x.self_ty;
  trait_ = trait_of (at_place in_opaque at) x.trait_;
  generics = resolved_generics at def x.generics x.where_;
}

abbrev pub resolved_trait : ResolveCtx → GenericDefId → AstTrait → Trait
resolved_trait at def x = record {
  bounds = bounds_part (at_place (in_self_bounds def) at) x.bounds;
  generics = resolved_generics at def x.generics x.where_;
}

-- the kind of the fault that an alias without a type owes
abbrev pub required_type : ItemContainerId → Option MissingBodyItemKind
required_type (holder.ModuleId _) = Some missing.TypeAlias
required_type (holder.ImplId _) = Some missing.AssocType
required_type (holder.ExternBlockId _) = None
required_type (holder.TraitId _) = None

abbrev pub missing_type : Pointer → Option AstType → Option MissingBodyItemKind → Option (Pointer × MissingBodyItemKind)
missing_type s None (Some k) = Some (s, k)
missing_type s None None = None
missing_type s (Some t) k = None

abbrev pub resolved_alias : ResolveCtx → GenericDefId → ItemContainerId → AstTypeAlias → Alias
resolved_alias at def container x = record {
  bounds = bounds_part (at_place in_opaque at) x.bounds;
  generics = resolved_generics at def x.generics x.where_;
  type_ = type_part (at_place in_opaque at) x.ty;
  missing = missing_type (pointer_at at x.id x.range) x.ty (required_type container);
}
