-- Worked trees, computed level by level.
use Rattle.std.proofs.Common.{◌≡◌, ◌∙◌, refl, ap, codes, Bool, false, List, [], ◌∷◌, Some, None, Option}
use Rattle.hir_store.specs.declared.hir.Mutability.TheVariants.{Shared}
use Rattle.hir_env.specs.declared.ctx.LifetimeScope.{LifetimeScope}
use Rattle.hir_env.specs.declared.ctx.LifetimeScope.TheVariants as scope
use Rattle.hir_env.specs.declared.resolved.Resolution.TheVariants as resolution
use Rattle.hir_env.specs.ResolvedTree as tree
use Rattle.hir_env.specs.ResolvedTree.{Lifetime, Path, Segment, Type_}
use Rattle.hir_env.specs.Paths.{alias_at, alias_of, inside_projection, lifetime_of, with_alias}
use Rattle.hir_env.specs.ResolveCtx.{ResolveCtx}
use Rattle.hir_env.specs.Whole.{resolved_path, resolved_path_type, resolved_segment, resolved_type, in_impl}
use Rattle.std.specs.Prelude.{map}
use Rattle.spec_data.specs.Trees.{bare_segment, impl_at, no_range, node, pointer, reference_with}
use Rattle.spec_data.specs.Written.{type_data}
use Rattle.spec_data.proofs.Trees.{type_made, path_made, segment_made, path_type_made, bound_made, arg_made, never_is, with_argument_is}
use Rattle.spec_data.proofs.Trees.{segment_with, list_with}
use Rattle.spec_data.specs.Fold.{tracked_in_type}
use Rattle.spec_data.specs.Places.{emitted_of, alone, answering, aliasing, counting, in_argument, in_front, named_by}
use Rattle.spec_data.specs.Places.{of_impl, of_projection, path_of}
use Rattle.spec_data.specs.Places.{projected_type, trait_a, out_of_impl, with_a}
use Rattle.spec_data.specs.Places.{AliasesCount, CountsInImpls, CountsInProjections, CountsWhereItCorresponds, ImplsAreParameters}
use Rattle.spec_data.specs.Places.{PathsSayAliases}

-- what the trees are

abbrev written_a : ResolveCtx → Lifetime
written_a at = lifetime_of at.place (record { id = node 1; range = no_range; t = codes "'a" })

abbrev reference : ResolveCtx → Type_
reference at = tree.ref_type (pointer at 0) (Some (written_a at)) Shared (tree.some_type (tree.leaf_type (pointer at 2) tree.never_leaf))

reference_is : (at : ResolveCtx) → resolved_type at (reference_with (codes "'a")) ≡ reference at
reference_is at = type_made at 0 _
    ∙ ap (λ x. tree.ref_type (pointer at 0) (Some (written_a at)) Shared (tree.some_type x)) (never_is at 2)

abbrev segment_a : ResolveCtx → Segment
segment_a at = segment_with (codes "A") (list_with (tree.lifetime_arg (written_a at)))

segment_is : (at : ResolveCtx) → resolved_segment at with_a ≡ segment_a at
segment_is at = with_argument_is at _ ∙ ap (λ x. segment_with (codes "A") (list_with x)) (arg_made at _)

-- a path of one segment, with what is answered of an alias
abbrev one_of : ResolveCtx → Segment → Path
one_of at s =
    let plain = tree.path None false s tree.no_segments tree.no_path in
    with_alias (alias_at at.answers at.place plain) plain

path_is : (at : ResolveCtx) → resolved_path at (path_of (Some with_a ∷ [])) ≡ one_of at (segment_a at)
path_is at = path_made at _ ∙ ap (one_of at) (segment_is at)

alone_is : (at : ResolveCtx) → resolved_type at alone ≡ tree.path_type (pointer at 0) (tree.some_path (one_of at (segment_a at)))
alone_is at = type_made at 0 _ ∙ ap (λ p. tree.path_type (pointer at 0) (tree.some_path p)) (path_is at)

-- where a lifetime counts

pub counts_where_it_corresponds : CountsWhereItCorresponds
counts_where_it_corresponds at s = ap tracked_in_type (reference_is (counting s at))

-- an `impl` of this path
abbrev impl_of : ResolveCtx → Path → Type_
impl_of at p = tree.impl_type (pointer at 0) at.place.impl_trait
    (tree.more_bounds (tree.path_bound (pointer at 9) (tree.some_path p) false []) tree.no_bounds)

-- it stands in none
abbrev outside : ResolveCtx → ResolveCtx
outside at = record at { place = record at.place { in_impl = false } }

abbrev written_impl : ResolveCtx → Type_
written_impl at = impl_of at (one_of (in_impl at) (segment_a (in_impl at)))

impl_is : (at : ResolveCtx) → resolved_type (outside at) (impl_at 0 with_a) ≡ written_impl (outside at)
impl_is at =
    let inner = in_impl (outside at) in
    let mode = at.place.impl_trait in
    type_made (outside at) 0 _
    ∙ (ap (λ b. tree.impl_type (pointer at 0) mode (tree.more_bounds b tree.no_bounds)) (bound_made inner _)
    ∙ (ap (λ t. tree.impl_type (pointer at 0) mode (tree.more_bounds (tree.path_bound t.pointer t.path false []) tree.no_bounds))
    (path_type_made inner _)
    ∙ ap (impl_of at) (path_is inner)))

impl_counts : (at : ResolveCtx) (s : LifetimeScope) → of_impl s at ≡ tracked_in_type (written_impl (counting s (out_of_impl at)))
impl_counts at s = ap tracked_in_type (impl_is (counting s (out_of_impl at)))

pub counts_in_impls : CountsInImpls
counts_in_impls at = (
  impl_counts at scope.Nowhere,
  impl_counts at scope.Bound,
  impl_counts at scope.Input,
  impl_counts at scope.Projection,
  impl_counts at scope.Output,
)

-- projections

abbrev within : ResolveCtx → ResolveCtx
within at = record at { place = inside_projection at.place }

abbrev front : ResolveCtx → Segment
front at = tree.trait_segment (reference (within at)) (pointer at 9) (tree.some_path (one_of (within at) (segment_a (within at))))

front_is : (at : ResolveCtx) → resolved_segment at in_front ≡ front at
front_is at =
    let inner = within at in
    segment_made at _
    ∙ (ap (λ t. tree.trait_segment t (resolved_path_type inner trait_a).pointer (resolved_path_type inner trait_a).path)
    (reference_is inner)
    ∙ (ap (λ q. tree.trait_segment (reference inner) q.pointer q.path) (path_type_made inner _)
    ∙ ap (λ p. tree.trait_segment (reference inner) (pointer at 9) (tree.some_path p)) (path_is inner)))

abbrev plain_two : Segment → Segment → Path
plain_two s t = tree.path None false s (tree.more_segments t tree.no_segments) tree.no_path

abbrev two_of : ResolveCtx → Segment → Segment → Path
two_of at s t = with_alias (alias_at at.answers at.place (plain_two s t)) (plain_two s t)

abbrev last_of_two : Segment
last_of_two = segment_with (codes "Q") (tree.segment_args tree.no_arg_list tree.no_parens false)

last_is : (at : ResolveCtx) → resolved_segment at (bare_segment (codes "Q")) ≡ last_of_two
last_is at = segment_made at _

abbrev typed_path : ResolveCtx → Path → Type_
typed_path at p = tree.path_type (pointer at 0) (tree.some_path p)

projected_is : (at : ResolveCtx) → resolved_type at projected_type ≡ typed_path at (two_of at (front at) last_of_two)
projected_is at = type_made at 0 _
    ∙ (ap (typed_path at) (path_made at _)
    ∙ (ap (λ s. typed_path at (two_of at s (resolved_segment at (bare_segment (codes "Q"))))) (front_is at)
    ∙ ap (λ t. typed_path at (two_of at (front at) t)) (last_is at)))

-- nothing stands beside its last name
unaliased : (at : ResolveCtx) (s : LifetimeScope) (alias : Option (List Bool)) → let here = counting s at in
    tracked_in_type (typed_path here (with_alias alias (plain_two (front here) last_of_two)))
    ≡ tracked_in_type (typed_path here (plain_two (front here) last_of_two))
unaliased at scope.Nowhere None = refl
unaliased at scope.Nowhere (Some places) = refl
unaliased at scope.Bound None = refl
unaliased at scope.Bound (Some places) = refl
unaliased at scope.Input None = refl
unaliased at scope.Input (Some places) = refl
unaliased at scope.Projection None = refl
unaliased at scope.Projection (Some places) = refl
unaliased at scope.Output None = refl
unaliased at scope.Output (Some places) = refl

projection_counts : (at : ResolveCtx) (s : LifetimeScope) → let here = counting s at in
    of_projection s at ≡ tracked_in_type (typed_path here (plain_two (front here) last_of_two))
projection_counts at s =
    let here = counting s at in
    ap tracked_in_type (projected_is here) ∙ unaliased at s (alias_at here.answers here.place (plain_two (front here) last_of_two))

pub counts_in_projections : CountsInProjections
counts_in_projections at = (
  projection_counts at scope.Input,
  projection_counts at scope.Projection,
  projection_counts at scope.Bound,
  projection_counts at scope.Output,
)

-- aliases

said : (at : ResolveCtx) → alias_of (resolved_path at (path_of (Some with_a ∷ []))) ≡ alias_of (one_of at (segment_a at))
said at = ap alias_of (path_is at)

pub paths_say_aliases : PathsSayAliases
paths_say_aliases at n x = (
  said (counting scope.Input (aliasing n (Some x) at)),
  said (counting scope.Input (aliasing n None at)),
  said (counting scope.Input (answering (Some resolution.Struct) (Some x) at)),
  said (counting scope.Input (answering None (Some x) at)),
  said (counting scope.Nowhere (aliasing n (Some x) at)),
  said (counting scope.Bound (aliasing n (Some x) at)),
  said (counting scope.Projection (aliasing n (Some x) at)),
  said (counting scope.Output (aliasing n (Some x) at)),
)

alone_counts : (at : ResolveCtx) → named_by at alone ≡ tracked_in_type (typed_path at (one_of at (segment_a at)))
alone_counts at = ap tracked_in_type (alone_is at)

pub aliases_count : AliasesCount
aliases_count at n x = (
  alone_counts (counting scope.Input (aliasing n (Some x) at)),
  alone_counts (counting scope.Input (aliasing n None at)),
  alone_counts (counting scope.Input (answering None None at)),
  alone_counts (counting scope.Output (aliasing n (Some x) at)),
)

-- an `impl` in an argument

pub impls_are_parameters : ImplsAreParameters
impls_are_parameters at def =
    let is = impl_is (in_argument def at) in
    let all = ap tracked_in_type is in (
      ap (type_data None) is,
      ap (λ n. map emitted_of n.impls) all,
      ap (λ n. n.bounds) all,
      ap (λ n. n.input) all,
      ap (λ n. n.output) all,
    )
