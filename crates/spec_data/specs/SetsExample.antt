-- Worked functions: the lifetimes that they name, and the kinds of their lifetime parameters.
use Rattle.std.specs.Prelude.{◌≡◌, codes, Bool, true, false, List, [], ◌∷◌, Option, Some, None}
use Rattle.hir_store.specs.Pointers.{Pointer}
use Rattle.hir_store.specs.declared.generics.LifetimeBoundType.{LifetimeBoundType}
use Rattle.hir_store.specs.declared.generics.LifetimeBoundType.TheVariants.{EarlyBound, LateBound}
use Rattle.hir_store.specs.declared.ids.GenericDefId.{GenericDefId}
use Rattle.hir_store.specs.declared.hir.Mutability.TheVariants.{Shared}
use Rattle.hir_store.specs.declared.name.Name.{Name}
use Rattle.hir_store.specs.declared.name.Name.TheVariants as name
use Rattle.hir_store.specs.declared.type_ref.LifetimeRef.{LifetimeRef}
use Rattle.hir_store.specs.declared.type_ref.LifetimeRef.TheVariants as lifetime
use Rattle.hir_env.specs.declared.ctx.ImplTrait.TheVariants.{Error, Opaque, Argument}
use Rattle.hir_env.specs.declared.ctx.LifetimeScope.{LifetimeScope}
use Rattle.hir_env.specs.declared.ctx.LifetimeScope.TheVariants as scope
use Rattle.hir_env.specs.ResolvedTree as tree
use Rattle.hir_env.specs.ResolvedTree.{Arg, Args, Lifetime, OptionPath, Segment, Segments, SegmentArgs, Type_}
use Rattle.spec_data.specs.Tracking.{Impl, Tracking, none, one_name, of_lifetime, ◌⊕◌}
use Rattle.spec_data.specs.Fold.{tracked_in_bound, tracked_in_type}
use Rattle.spec_data.specs.Kinds.{bound_kind, sets_of}

abbrev pub a : Name
a = name.Text (codes "'a")

abbrev pub b : Name
b = name.Text (codes "'b")

-- a lifetime that counts there
abbrev pub lifetime_in : Pointer → LifetimeScope → LifetimeRef → Lifetime
lifetime_in at s l = record { pointer = at; lifetime = l; scope = s }

abbrev pub named_in : Pointer → LifetimeScope → Name → Lifetime
named_in at s n = lifetime_in at s (lifetime.Named n)

-- `&'n !`
abbrev pub reference_in : Pointer → LifetimeScope → Name → Type_
reference_in at s n = tree.ref_type at (Some (named_in at s n)) Shared (tree.some_type (tree.leaf_type at tree.never_leaf))

abbrev pub arguments : List Lifetime → Args
arguments [] = tree.no_args
arguments (l ∷ ls) = tree.more_args (tree.lifetime_arg l) (arguments ls)

-- a name with these lifetimes beside it
abbrev pub with_lifetimes : List Lifetime → Segment
with_lifetimes ls =
    tree.name_segment (name.Text (codes "A")) tt (tree.segment_args (tree.some_arg_list (arguments ls)) tree.no_parens false)

abbrev pub bare : Segment
bare = tree.name_segment (name.Text (codes "Q")) tt (tree.segment_args tree.no_arg_list tree.no_parens false)

abbrev pub path_of_two : Option (List Bool) → Segment → Segment → OptionPath
path_of_two alias s t = tree.some_path (tree.path alias false s (tree.more_segments t tree.no_segments) tree.no_path)

abbrev pub path_of_one : Option (List Bool) → Segment → OptionPath
path_of_one alias s = tree.some_path (tree.path alias false s tree.no_segments tree.no_path)

abbrev pub kind : Tracking → Name → LifetimeBoundType
kind n x = bound_kind (sets_of n) x

-- arguments and what is returned

-- `fn f<'a>(_: &'a !) -> &'a !`
abbrev pub ConstrainedIsLate : Type 0
ConstrainedIsLate = (at : Pointer)
    → kind (tracked_in_type (reference_in at scope.Input a) ⊕ tracked_in_type (reference_in at scope.Output a)) a ≡ LateBound

-- `fn f<'a>() -> &'a !`, and `fn f<'a>()`
abbrev pub ReturnedAloneIsEarly : Type 0
ReturnedAloneIsEarly = (at : Pointer)
    → (kind (tracked_in_type (reference_in at scope.Output a)) a ≡ EarlyBound)
    × (kind none a ≡ LateBound)

-- `fn f<'a: 'b, 'b>(_: &'a !)`, whose bound names the parameter that it is of once more
abbrev pub BoundIsEarly : Type 0
BoundIsEarly = (at : Pointer)
    → let bound = tracked_in_bound (tree.lifetime_bound (named_in at scope.Bound b)) ⊕ one_name scope.Bound a in
    let sets = bound ⊕ tracked_in_type (reference_in at scope.Input a) in
    (kind sets a ≡ EarlyBound) × (kind sets b ≡ EarlyBound)

-- `'static`, `'_` and one that is an error aren't named
abbrev pub NamelessCountNowhere : Type 0
NamelessCountNowhere = (at : Pointer) (s : LifetimeScope)
    → (of_lifetime (lifetime_in at s lifetime.Static) ≡ none)
    × (of_lifetime (lifetime_in at s lifetime.Placeholder) ≡ none)
    × (of_lifetime (lifetime_in at s lifetime.Error) ≡ none)

-- projections

-- `<! as A<'a>>::Q` in an argument
abbrev pub projection : Pointer → Type_
projection at = tree.path_type at (path_of_two None
    (tree.trait_segment (tree.leaf_type at tree.never_leaf) at (path_of_one None (with_lifetimes (named_in at scope.Projection a ∷ []))))
    bare)

-- beside `-> &'a !`
abbrev pub ProjectionConstrainsNothing : Type 0
ProjectionConstrainsNothing = (at : Pointer)
    → kind (tracked_in_type (projection at) ⊕ tracked_in_type (reference_in at scope.Output a)) a ≡ EarlyBound

-- aliases

-- `A<'static, 'a, 'b>` in an argument, where A has a type that names these of its parameters
abbrev pub alias_named : Pointer → List Bool → Type_
alias_named at places = tree.path_type at (path_of_one (Some places)
    (with_lifetimes (lifetime_in at scope.Input lifetime.Static ∷ named_in at scope.Input a ∷ named_in at scope.Input b ∷ [])))

-- beside `-> (&'a !, &'b !)`
abbrev pub with_alias : Pointer → List Bool → Tracking
with_alias at places = tracked_in_type (alias_named at places)
    ⊕ (tracked_in_type (reference_in at scope.Output a) ⊕ tracked_in_type (reference_in at scope.Output b))

-- where its type names the third parameter, where it names the first, and where it has no answer
abbrev pub AliasConstrainsWhatItNames : Type 0
AliasConstrainsWhatItNames = (at : Pointer)
    → (kind (with_alias at (false ∷ false ∷ true ∷ [])) a ≡ EarlyBound)
    × (kind (with_alias at (false ∷ false ∷ true ∷ [])) b ≡ LateBound)
    × (kind (with_alias at (true ∷ [])) a ≡ EarlyBound)
    × (kind (with_alias at []) a ≡ EarlyBound)
    × (kind (with_alias at []) b ≡ EarlyBound)

-- in an argument `A<'a>::Q`, one that is refused behind `A<'a>`, and `Q::A<'a>`, where these are aliases whose types name nothing:
-- nothing stands beside the last name of the first, and of one that is refused all counts
abbrev pub RefusedConstrainsByAll : Type 0
RefusedConstrainsByAll = (at : Pointer)
    → let s = with_lifetimes (named_in at scope.Input a ∷ []) in
    (tracked_in_type (tree.path_type at (path_of_two (Some []) s bare)) ≡ one_name scope.Input a)
    × (tracked_in_type (tree.path_type at (path_of_two (Some []) tree.broken_segment s)) ≡ one_name scope.Input a)
    × (tracked_in_type (tree.path_type at (path_of_two (Some []) bare s)) ≡ none)

-- constants

-- `[!; { let _: &'a !; }]`, a constant with a type in it
abbrev pub length_with : Pointer → LifetimeScope → Type_
length_with at s =
    let typed = tree.let_stmt tree.no_pat (tree.some_type (reference_in at s a)) tree.no_expr tree.no_block in
    let block = tree.block at false None tt None (tree.more_stmts typed tree.no_stmts) tree.no_expr in
    tree.array_type at (tree.constant (tree.some_expr (tree.block_expr block))) (tree.some_type (tree.leaf_type at tree.never_leaf))

abbrev pub ConstantsCount : Type 0
ConstantsCount = (at : Pointer) (s : LifetimeScope) → tracked_in_type (length_with at s) ≡ one_name s a

-- `impl`s

-- `impl A<'a> + 'b` in an argument, and `dyn A<'a>` there
abbrev pub ImplsTrack : Type 0
ImplsTrack = (at : Pointer) (def : GenericDefId)
    → let inner = tree.path_bound at (path_of_one None (with_lifetimes (named_in at scope.Bound a ∷ []))) false [] in
    let bounds = tree.more_bounds inner (tree.more_bounds (tree.lifetime_bound (named_in at scope.Bound b)) tree.no_bounds) in
    let own = tree.path_bound at (path_of_one None (with_lifetimes (named_in at scope.Input a ∷ []))) false [] in
    let parameter : Impl = record { parent = def; at = at; bounds = bounds } in
    (tracked_in_type (tree.impl_type at (Argument def) bounds) ≡ record none { impls = parameter ∷ []; bounds = a ∷ b ∷ [] })
    × (tracked_in_type (tree.impl_type at Opaque bounds) ≡ record none { bounds = a ∷ b ∷ [] })
    × (tracked_in_type (tree.impl_type at Error bounds) ≡ record none { bounds = a ∷ b ∷ [] })
    × (tracked_in_type (tree.dyn_type at (tree.more_bounds own tree.no_bounds)) ≡ one_name scope.Input a)

-- `impl A<T = impl Q>` in an argument: the inner one is a parameter in front
abbrev pub InnerImplsFirst : Type 0
InnerImplsFirst = (at inside : Pointer) (def : GenericDefId)
    → let within = tree.more_bounds (tree.path_bound inside (path_of_one None bare) false []) tree.no_bounds in
    let binding = tree.assoc_arg a tree.no_arg_list false (tree.some_type (tree.impl_type inside (Argument def) within)) tree.no_bounds in
    let args = tree.segment_args (tree.some_arg_list (tree.more_args binding tree.no_args)) tree.no_parens false in
    let around = tree.more_bounds (tree.path_bound at (path_of_one None (tree.name_segment b tt args)) false []) tree.no_bounds in
    tracked_in_type (tree.impl_type at (Argument def) around)
    ≡ record none {
      impls = record { parent = def; at = inside; bounds = within }
          ∷ record { parent = def; at = at; bounds = around } ∷ [];
    }
