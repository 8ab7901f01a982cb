-- Worked trees, as they are written: what is named in them by where they stand, what a path in an argument says of an alias, and what an
-- `impl` there is.
use Rattle.std.specs.Prelude.{◌≡◌, codes, ℕ, suc, Bool, false, List, [], ◌∷◌, map, Option, Some, None}
use Rattle.hir_syntax.specs.declared.ast.ElseBranch.TheOpen.{GenericArg-F, TypeKind-F}
use Rattle.hir_syntax.specs.declared.ast.Path.{Path as AstPath, roll-Path}
use Rattle.hir_syntax.specs.declared.ast.PathSegment.{PathSegment as AstPathSegment, roll-PathSegment}
use Rattle.hir_syntax.specs.declared.ast.SegmentKind.TheVariants as segment
use Rattle.hir_syntax.specs.declared.types.GenericArg.{roll-GenericArg}
use Rattle.hir_syntax.specs.declared.types.PathType.{PathType as AstPathType, roll-PathType}
use Rattle.hir_syntax.specs.declared.types.Type_.{Type_ as AstType_}
use Rattle.hir_store.specs.Pointers.{Pointer}
use Rattle.hir_store.specs.declared.ids.GenericDefId.{GenericDefId}
use Rattle.hir_store.specs.declared.ids.TypeAliasId.{TypeAliasId}
use Rattle.hir_alias.specs.Alias.{Alias}
use Rattle.hir_env.specs.declared.ctx.ImplTrait.TheVariants as impl
use Rattle.hir_env.specs.declared.ctx.LifetimeScope.{LifetimeScope}
use Rattle.hir_env.specs.declared.ctx.LifetimeScope.TheVariants as scope
use Rattle.hir_env.specs.declared.resolved.Resolution.{Resolution}
use Rattle.hir_env.specs.declared.resolved.Resolution.TheVariants as resolution
use Rattle.hir_env.specs.ResolvedTree as tree
use Rattle.hir_env.specs.ResolvedTree.{Bounds}
use Rattle.hir_env.specs.Paths.{alias_of}
use Rattle.hir_env.specs.ResolveCtx.{ResolveCtx}
use Rattle.hir_env.specs.Whole.{resolved_path, resolved_type}
use Rattle.spec_data.specs.Data as datum
use Rattle.spec_data.specs.Trees.{impl_at, no_range, node, bare_segment, pointer, reference_with, type_at, with_argument}
use Rattle.spec_data.specs.Written.{type_data}
use Rattle.spec_data.specs.Tracking.{Impl, Tracking, names_at, none, one_name}
use Rattle.spec_data.specs.Fold.{tracked_in_type}
use Rattle.spec_data.specs.SetsExample.{a}

-- trees

-- `A<'a>`
abbrev pub with_a : AstPathSegment
with_a = with_argument (codes "A") (roll-GenericArg (GenericArg-F.LifetimeArg (record {
  id = node 9;
  range = no_range;
  lifetime = Some (record { id = node 1; range = no_range; t = codes "'a" });
})))

abbrev pub path_of : List (Option AstPathSegment) → AstPath
path_of ss = roll-Path (record { id = node 9; range = no_range; leading = false; use_ = None; segs = ss; in_macro = false })

-- `A<'a>`, a type
abbrev pub alone : AstType_
alone = type_at 0 (TypeKind-F.PathType (Some (path_of (Some with_a ∷ []))))

-- `A<'a>`, a trait
abbrev pub trait_a : AstPathType
trait_a = roll-PathType (record { id = node 9; range = no_range; path = Some (path_of (Some with_a ∷ [])) })

-- `<&'a ! as A<'a>>`
abbrev pub in_front : AstPathSegment
in_front = roll-PathSegment (record {
  id = node 9;
  range = no_range;
  seg = Some segment.Qualified;
  name = None;
  generics = None;
  parens = None;
  ret = None;
  rtn = false;
  ty = Some (reference_with (codes "'a"));
  trait_ = Some trait_a;
})

-- `<&'a ! as A<'a>>::Q`
abbrev pub projected_type : AstType_
projected_type = type_at 0 (TypeKind-F.PathType (Some (path_of (Some in_front ∷ Some (bare_segment (codes "Q")) ∷ []))))

-- where they stand

-- where a lifetime counts there
abbrev pub counting : LifetimeScope → ResolveCtx → ResolveCtx
counting s at = record at { place = record at.place { lifetimes = s } }

-- in no `impl`, where one stays
abbrev pub out_of_impl : ResolveCtx → ResolveCtx
out_of_impl at = record at { place = record at.place { impl_trait = impl.Opaque; in_impl = false } }

-- where each path stands for this, and each alias has this answer
abbrev pub answering : Option Resolution → Option Alias → ResolveCtx → ResolveCtx
answering r x at =
    record at { answers = record at.answers { resolve = λ m n s. record { types = r; values = None; rest = None }; alias = λ n. x } }

-- where each path is an alias
abbrev pub aliasing : TypeAliasId → Option Alias → ResolveCtx → ResolveCtx
aliasing n x at = answering (Some (resolution.TypeAlias n)) x at

abbrev pub named_by : ResolveCtx → AstType_ → Tracking
named_by at t = tracked_in_type (resolved_type at t)

-- where a lifetime counts

-- `&'a !`, wherever it stands
abbrev pub CountsWhereItCorresponds : Type 0
CountsWhereItCorresponds = (at : ResolveCtx) (s : LifetimeScope) → named_by (counting s at) (reference_with (codes "'a")) ≡ one_name s a

-- `impl A<'a>`
abbrev pub of_impl : LifetimeScope → ResolveCtx → Tracking
of_impl s at = named_by (counting s (out_of_impl at)) (impl_at 0 with_a)

abbrev pub CountsInImpls : Type 0
CountsInImpls = (at : ResolveCtx)
    → (of_impl scope.Nowhere at ≡ one_name scope.Output a)
    × (of_impl scope.Bound at ≡ one_name scope.Bound a)
    × (of_impl scope.Input at ≡ one_name scope.Bound a)
    × (of_impl scope.Projection at ≡ one_name scope.Bound a)
    × (of_impl scope.Output at ≡ one_name scope.Output a)

-- `<&'a ! as A<'a>>::Q`, which names it twice
abbrev pub of_projection : LifetimeScope → ResolveCtx → Tracking
of_projection s at = named_by (counting s at) projected_type

abbrev pub CountsInProjections : Type 0
CountsInProjections = (at : ResolveCtx)
    → (of_projection scope.Input at ≡ none)
    × (of_projection scope.Projection at ≡ none)
    × (of_projection scope.Bound at ≡ record none { bounds = a ∷ a ∷ [] })
    × (of_projection scope.Output at ≡ record none { output = a ∷ a ∷ [] })

-- aliases

abbrev pub says : ResolveCtx → Option (List Bool) → Type 0
says at places = alias_of (resolved_path at (path_of (Some with_a ∷ []))) ≡ places

-- In an argument a path that is an alias says which of its lifetime parameters its type names, and none where the alias has no answer. One
-- that is something else, or nothing, and one that stands elsewhere says nothing.
abbrev pub PathsSayAliases : Type 0
PathsSayAliases = (at : ResolveCtx) (n : TypeAliasId) (x : Alias)
    → says (counting scope.Input (aliasing n (Some x) at)) (Some x.named)
    × says (counting scope.Input (aliasing n None at)) (Some [])
    × says (counting scope.Input (answering (Some resolution.Struct) (Some x) at)) None
    × says (counting scope.Input (answering None (Some x) at)) None
    × says (counting scope.Nowhere (aliasing n (Some x) at)) None
    × says (counting scope.Bound (aliasing n (Some x) at)) None
    × says (counting scope.Projection (aliasing n (Some x) at)) None
    × says (counting scope.Output (aliasing n (Some x) at)) None

-- so of `A<'a>` that counts which the alias's type names
abbrev pub AliasesCount : Type 0
AliasesCount = (at : ResolveCtx) (n : TypeAliasId) (x : Alias)
    → (named_by (counting scope.Input (aliasing n (Some x) at)) alone ≡ record none { input = names_at x.named (Some a ∷ []) })
    × (named_by (counting scope.Input (aliasing n None at)) alone ≡ none)
    × (named_by (counting scope.Input (answering None None at)) alone ≡ one_name scope.Input a)
    × (named_by (counting scope.Output (aliasing n (Some x) at)) alone ≡ one_name scope.Output a)

-- an `impl` in an argument

abbrev pub in_argument : GenericDefId → ResolveCtx → ResolveCtx
in_argument def at =
    record at { place = record at.place { impl_trait = impl.Argument def; in_impl = false; lifetimes = scope.Input } }

-- how many bounds there are
abbrev pub how_many : Bounds → ℕ
how_many tree.no_bounds = 0
how_many (tree.more_bounds b bs) = suc (how_many bs)

-- its definition, its node and how many bounds it has
abbrev pub Emitted : Type 0
Emitted = GenericDefId × (Pointer × ℕ)

abbrev pub emitted_of : Impl → Emitted
emitted_of i = (i.parent, (i.at, how_many i.bounds))

-- `impl A<'a>` is a parameter there, with one bound
abbrev pub ImplsAreParameters : Type 0
ImplsAreParameters = (at : ResolveCtx) (def : GenericDefId)
    → let all = named_by (in_argument def at) (impl_at 0 with_a) in
    let one : List Emitted = (def, (pointer at 0, 1)) ∷ [] in
    (type_data None (resolved_type (in_argument def at) (impl_at 0 with_a))
    ≡ datum.typed (Some (pointer at 0)) (datum.parameter_shape def))
    × (map emitted_of all.impls ≡ one) × (all.bounds ≡ a ∷ []) × (all.input ≡ []) × (all.output ≡ [])
