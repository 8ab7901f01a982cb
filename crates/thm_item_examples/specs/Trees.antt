-- Small written trees of items, and where they are read.
use Rattle.std.specs.Prelude.{ℕ, suc, nat_eq, codes, Bool, true, false, if◌then◌else◌, List, [], ◌∷◌, Option, Some, None}
use Rattle.std.specs.Prelude.{option_map, Ok, Err}
use Rattle.hir_syntax.specs.declared.ast.ElseBranch.TheOpen.{ExprKind-F, GenericArg-F, TypeKind-F}
use Rattle.hir_syntax.specs.declared.ast.Expr.{Expr as AstExpr}
use Rattle.hir_syntax.specs.declared.ast.ExprKind.{roll-ExprKind}
use Rattle.hir_syntax.specs.declared.ast.Lifetime.{Lifetime as AstLifetime}
use Rattle.hir_syntax.specs.declared.ast.Path.{roll-Path}
use Rattle.hir_syntax.specs.declared.ast.PathSegment.{PathSegment as AstPathSegment, roll-PathSegment}
use Rattle.hir_syntax.specs.declared.params.ParamList.{ParamList as AstParamList}
use Rattle.hir_syntax.specs.declared.params.SelfParam.{SelfParam as AstSelfParam}
use Rattle.hir_syntax.specs.declared.types.BoundKind.{BoundKind}
use Rattle.hir_syntax.specs.declared.types.BoundKind.TheVariants as bound
use Rattle.hir_syntax.specs.declared.types.ForBinder.{ForBinder as AstForBinder}
use Rattle.hir_syntax.specs.declared.types.GenericArg.{GenericArg as AstGenericArg, roll-GenericArg}
use Rattle.hir_syntax.specs.declared.types.Param.{Param as AstParam, roll-Param}
use Rattle.hir_syntax.specs.declared.types.PathType.{PathType as AstPathType, roll-PathType}
use Rattle.hir_syntax.specs.declared.types.TypeBound.{TypeBound as AstTypeBound, roll-TypeBound}
use Rattle.hir_syntax.specs.declared.types.Type_.{Type_ as AstType}
use Rattle.hir_syntax.specs.declared.types.UseArg.{UseArg as AstUseArg}
use Rattle.hir_syntax.specs.declared.types.UseArg.TheVariants as used
use Rattle.hir_syntax.specs.declared.items.GenericParam.{GenericParam as AstGenericParam}
use Rattle.hir_syntax.specs.declared.items.GenericParam.TheVariants as param
use Rattle.hir_syntax.specs.declared.items.WherePred.{WherePred as AstWherePred}
use Rattle.hir_store.specs.declared.ids.CfgId.{CfgId}
use Rattle.hir_env.specs.ResolveCtx.{ResolveCtx}
use Rattle.hir_env.specs.Wrapped.{AstConstArg}
use Rattle.spec_data.specs.Trees.{bare_segment, ast_name, impl_at, never_at, no_range, node, type_arg_of, type_at, with_argument}

-- where they are read

-- where no condition disables anything, and in no `impl`
abbrev pub enabled : ResolveCtx → ResolveCtx
enabled at = record { answers = record at.answers { cfg = λ s. Ok tt }; place = record at.place { in_impl = false } }

-- the same, but that this condition disables the node with this number
abbrev pub disabling : ℕ → CfgId → ResolveCtx → ResolveCtx
disabling n by at = record {
  answers = record at.answers { cfg = λ s. if nat_eq s.value.0 n then Err by else Ok tt };
  place = record at.place { in_impl = false };
}

-- types, lifetimes and bounds: the numbers of their nodes are written beside them

abbrev pub lifetime_at : ℕ → List ℕ → AstLifetime
lifetime_at n t = record { id = node n; range = no_range; t = t }

-- `&t !`, the lifetime and the type with the two numbers behind that of the reference
abbrev pub reference_at : ℕ → List ℕ → AstType
reference_at n t = type_at n (TypeKind-F.RefType (Some (lifetime_at (suc n) t)) false (Some (never_at (suc (suc n)))))

-- `as t`, where the text lacks what is cast
abbrev pub cast_at : ℕ → AstType → AstExpr
cast_at n t = record { id = node n; range = no_range; kind = roll-ExprKind (ExprKind-F.CastExpr None (Some t)) }

-- a path of this one segment, as a type and as that of a trait
abbrev pub path_at : ℕ → AstPathSegment → AstType
path_at n s = type_at n (TypeKind-F.PathType (Some (roll-Path (record {
  id = node 9;
  range = no_range;
  leading = false;
  use_ = None;
  segs = Some s ∷ [];
  in_macro = false;
}))))

abbrev pub trait_path_at : ℕ → AstPathSegment → AstPathType
trait_path_at n s = roll-PathType (record {
  id = node n;
  range = no_range;
  path = Some (roll-Path (record { id = node 9; range = no_range; leading = false; use_ = None; segs = Some s ∷ []; in_macro = false }));
})

-- a segment that says nothing
abbrev pub broken_named : AstPathSegment
broken_named = roll-PathSegment (record {
  id = node 9;
  range = no_range;
  seg = None;
  name = None;
  generics = None;
  parens = None;
  ret = None;
  rtn = false;
  ty = None;
  trait_ = None;
})

-- `<t>` with a lifetime
abbrev pub lifetime_arg_at : ℕ → List ℕ → AstGenericArg
lifetime_arg_at n t = roll-GenericArg (GenericArg-F.LifetimeArg (record {
  id = node 9;
  range = no_range;
  lifetime = Some (lifetime_at n t);
}))

abbrev pub binder_of : List (Option AstLifetime) → AstForBinder
binder_of ls = record { id = node 9; range = no_range; params = ls }

abbrev pub bound_by : Option BoundKind → Option AstPathType → Option AstForBinder → Bool → Option AstLifetime → List AstUseArg
    → AstTypeBound
bound_by b t binder maybe l us = roll-TypeBound (record {
  id = node 9;
  range = no_range;
  b = b;
  ty = t;
  binder = binder;
  maybe = maybe;
  lifetime = l;
  uses = us;
})

-- `s`, `?s` and `for<t> s`
abbrev pub trait_at : ℕ → AstPathSegment → AstTypeBound
trait_at n s = bound_by (Some bound.Path) (Some (trait_path_at n s)) None false None []

abbrev pub maybe_at : ℕ → AstPathSegment → AstTypeBound
maybe_at n s = bound_by (Some bound.Path) (Some (trait_path_at n s)) None true None []

abbrev pub for_trait_at : ℕ → List ℕ → AstPathSegment → AstTypeBound
for_trait_at n t s = bound_by (Some bound.Path) (Some (trait_path_at n s)) (Some (binder_of (Some (lifetime_at 9 t) ∷ []))) false None []

-- a lifetime, `use<t>`, and one that a broken text lacks
abbrev pub outlives_at : ℕ → List ℕ → AstTypeBound
outlives_at n t = bound_by (Some bound.Lifetime) None None false (Some (lifetime_at n t)) []

abbrev pub uses_at : ℕ → List ℕ → AstTypeBound
uses_at n t = bound_by (Some bound.Use) None None false None (used.Lifetime (lifetime_at n t) ∷ [])

abbrev pub broken_bound : AstTypeBound
broken_bound = bound_by None None None false None []

-- an `impl` of these
abbrev pub impl_by : ℕ → List AstTypeBound → AstType
impl_by n bs = type_at n (TypeKind-F.ImplTraitType bs)

-- `A<impl B>`, the name alone and as a bound: the node of the `impl` is 5, and that of the bound's path 4
abbrev pub with_impl : AstPathSegment
with_impl = with_argument (codes "A") (roll-GenericArg (GenericArg-F.TypeArg (type_arg_of (impl_at 5 (bare_segment (codes "B"))))))

abbrev pub impl_inside : AstTypeBound
impl_inside = trait_at 4 with_impl

-- generic parameters and where clauses

abbrev pub type_param_at : ℕ → Option (List ℕ) → List AstTypeBound → Option AstType → AstGenericParam
type_param_at n t bs d = param.TypeParam (node n) no_range (option_map ast_name t) bs d

abbrev pub const_param_at : ℕ → Option (List ℕ) → Option AstType → Option AstConstArg → AstGenericParam
const_param_at n t ty d = param.ConstParam (node n) no_range (option_map ast_name t) ty d

abbrev pub lifetime_param_at : ℕ → Option AstLifetime → List AstTypeBound → AstGenericParam
lifetime_param_at n l bs = param.LifetimeParam (node n) no_range l bs

abbrev pub where_of : Option AstType → Option AstLifetime → Option AstForBinder → List AstTypeBound → AstWherePred
where_of t l binder bs = record { id = node 9; range = no_range; ty = t; lifetime = l; binder = binder; bounds = bs }

-- functions

-- a parameter with this type, and one with dots behind it
abbrev pub param_at : ℕ → Option AstType → AstParam
param_at n t = roll-Param (record { id = node n; range = no_range; pat = None; ty = t; variadic = false })

abbrev pub dots_at : ℕ → Option AstType → AstParam
dots_at n t = roll-Param (record { id = node n; range = no_range; pat = None; ty = t; variadic = true })

abbrev pub self_at : ℕ → Bool → Bool → Option AstLifetime → Option AstType → AstSelfParam
self_at n is_ref is_mut l t = record { id = node n; range = no_range; name = None; ref_ = is_ref; mut_ = is_mut; lifetime = l; ty = t }

abbrev pub param_list : Option AstSelfParam → List AstParam → AstParamList
param_list self xs = record { id = node 9; range = no_range; self_ = self; params = xs }
