-- Worked trees, computed level by level.
use Rattle.std.proofs.Common.{◌≡◌, ◌∙◌, ap, ℕ, codes, Bool, true, false, if◌then◌else◌, List, [], ◌∷◌, Option, Some, None}
use Rattle.hir_syntax.specs.declared.ast.Path.{roll-Path, out-roll-Path}
use Rattle.hir_syntax.specs.declared.ast.PathSegment.{PathSegment as AstPathSegment, roll-PathSegment, out-roll-PathSegment}
use Rattle.hir_syntax.specs.declared.types.AssocTypeArg.{roll-AssocTypeArg, out-roll-AssocTypeArg}
use Rattle.hir_syntax.specs.declared.types.GenericArg.{GenericArg as AstGenericArg, roll-GenericArg, out-roll-GenericArg}
use Rattle.hir_syntax.specs.declared.ast.ElseBranch.TheOpen.{GenericArg-F}
use Rattle.hir_syntax.specs.declared.types.Param.{Param as AstParam, roll-Param, out-roll-Param}
use Rattle.hir_syntax.specs.declared.types.PathType.{roll-PathType, out-roll-PathType}
use Rattle.hir_syntax.specs.declared.types.TypeBound.{roll-TypeBound, out-roll-TypeBound}
use Rattle.hir_syntax.specs.declared.types.TypeKind.{out-roll-TypeKind}
use Rattle.hir_syntax.specs.declared.types.Type_.{Type_ as AstType_}
use Rattle.hir_store.specs.declared.hir.Mutability.TheVariants.{Shared}
use Rattle.hir_store.specs.declared.name.Name.TheVariants as name
use Rattle.hir_env.specs.declared.ctx.ImplTrait.TheVariants as impl
use Rattle.hir_env.specs.ResolveCtx.{ResolveCtx, site_of}
use Rattle.hir_env.specs.TypeLayers.{ParamReading, TypeKindLayer, PathLayer, PathSegmentLayer, AssocTypeArgLayer, GenericArgLayer}
use Rattle.hir_env.specs.TypeLayers.{ParamLayer, PathTypeLayer, TypeBoundLayer}
use Rattle.hir_env.specs.Paths as of
use Rattle.hir_env.specs.ResolvedTree as tree
use Rattle.hir_env.specs.ResolvedTree.{FnHead, Type_, OptionType, Parts, Segment, SegmentArgs, Arg}
use Rattle.hir_env.specs.Whole.{written, reader, into}
use Rattle.hir_env.specs.Whole.{resolved_type, resolved_param, resolved_path, resolved_segment, resolved_path_type}
use Rattle.hir_env.specs.Whole.{resolved_arg, resolved_assoc_arg}
use Rattle.hir_env.specs.Whole.{resolved_bound, in_impl, in_binding}
use Rattle.hir_env.proofs.PathLevels.{type_is_level, param_is_level, path_is_level, segment_is_level, path_type_is_level}
use Rattle.hir_env.proofs.PathLevels.{arg_is_level, assoc_arg_is_level}
use Rattle.hir_env.proofs.PathLevels.{bound_is_level}
use Rattle.spec_data.specs.Written.{type_data}
use Rattle.spec_data.specs.Trees.{type_at, with_argument, type_arg_of, binding_of, fn_trait, impl_at, never_at, bare_segment}
use Rattle.spec_data.specs.Trees.{outside_impl, pointer, ImplsInside, reads_lifetime, LifetimesOfTexts, reads_abi, AbisOfTexts, fn_at}
use Rattle.spec_data.specs.Trees.{plain_param, dots_param, VarargsAtTheEnd}

-- one level of a tree that is made of its parts

module _ (at : ResolveCtx) where
  pub type_made : (n : ℕ) (k : TypeKindLayer written)
      → resolved_type at (type_at n k) ≡ of.type_at at.answers (reader at.answers (into at)) k at.place (pointer at n)
  type_made n k = type_is_level at (type_at n k)
      ∙ ap (λ x. of.type_at at.answers (reader at.answers (into at)) x at.place (pointer at n)) (out-roll-TypeKind k)

  pub path_made : (x : PathLayer written)
      → resolved_path at (roll-Path x) ≡ of.path_step at.answers (reader at.answers (into at)) x at.place
  path_made x = path_is_level at (roll-Path x)
      ∙ ap (λ l. of.path_step at.answers (reader at.answers (into at)) l at.place) (out-roll-Path x)

  pub segment_made : (x : PathSegmentLayer written)
      → resolved_segment at (roll-PathSegment x) ≡ of.segment_step at.answers (reader at.answers (into at)) x at.place
  segment_made x = segment_is_level at (roll-PathSegment x)
      ∙ ap (λ l. of.segment_step at.answers (reader at.answers (into at)) l at.place) (out-roll-PathSegment x)

  pub path_type_made : (x : PathTypeLayer written)
      → resolved_path_type at (roll-PathType x) ≡ of.path_type_step at.answers (reader at.answers (into at)) x at.place
  path_type_made x = path_type_is_level at (roll-PathType x)
      ∙ ap (λ l. of.path_type_step at.answers (reader at.answers (into at)) l at.place) (out-roll-PathType x)

  pub bound_made : (x : TypeBoundLayer written)
      → resolved_bound at (roll-TypeBound x) ≡ of.type_bound_step at.answers (reader at.answers (into at)) x at.place
  bound_made x = bound_is_level at (roll-TypeBound x)
      ∙ ap (λ l. of.type_bound_step at.answers (reader at.answers (into at)) l at.place) (out-roll-TypeBound x)

  pub arg_made : (x : GenericArgLayer written)
      → resolved_arg at (roll-GenericArg x) ≡ of.generic_arg_step at.answers (reader at.answers (into at)) x at.place
  arg_made x = arg_is_level at (roll-GenericArg x)
      ∙ ap (λ l. of.generic_arg_step at.answers (reader at.answers (into at)) l at.place) (out-roll-GenericArg x)

  pub assoc_arg_made : (x : AssocTypeArgLayer written)
      → resolved_assoc_arg at (roll-AssocTypeArg x) ≡ of.assoc_type_arg_step at.answers (reader at.answers (into at)) x at.place
  assoc_arg_made x = assoc_arg_is_level at (roll-AssocTypeArg x)
      ∙ ap (λ l. of.assoc_type_arg_step at.answers (reader at.answers (into at)) l at.place) (out-roll-AssocTypeArg x)

  param_made : (x : ParamLayer written)
      → resolved_param at (roll-Param x) ≡ of.param_step at.answers (reader at.answers (into at)) x at.place
  param_made x = param_is_level at (roll-Param x)
      ∙ ap (λ l. of.param_step at.answers (reader at.answers (into at)) l at.place) (out-roll-Param x)

-- an `impl` inside of one

abbrev within : ResolveCtx → ResolveCtx
within at = in_impl (outside_impl at)

-- in a binding of one
abbrev bound_in : ResolveCtx → ResolveCtx
bound_in at = in_binding (within at)

-- the `impl` at this node of this one segment
abbrev impl_of : ResolveCtx → ℕ → Segment → Type_
impl_of at n s =
    let plain = tree.path None false s tree.no_segments tree.no_path in
    let path = tree.some_path (of.with_alias (of.alias_at at.answers (within at).place plain) plain) in
    tree.impl_type (pointer at n) impl.Opaque (tree.more_bounds (tree.path_bound (pointer at 9) path false []) tree.no_bounds)

outer_is : (at : ResolveCtx) (n : ℕ) (s : AstPathSegment)
    → resolved_type (outside_impl at) (impl_at n s) ≡ impl_of at n (resolved_segment (within at) s)
outer_is at n s =
    type_made (outside_impl at) n _
    ∙ (ap (λ b. tree.impl_type (pointer at n) impl.Opaque (tree.more_bounds b tree.no_bounds)) (bound_made (within at) _)
    ∙ (ap (λ t. tree.impl_type (pointer at n) impl.Opaque (tree.more_bounds (tree.path_bound t.pointer t.path false []) tree.no_bounds))
    (path_type_made (within at) _)
    ∙ ap (λ p. tree.impl_type (pointer at n) impl.Opaque
    (tree.more_bounds (tree.path_bound (pointer at 9) (tree.some_path p) false []) tree.no_bounds)) (path_made (within at) _)))

inner_is : (at : ResolveCtx) (n : ℕ) (s : AstPathSegment) → resolved_type (within at) (impl_at n s) ≡ tree.nested_impl (pointer at n)
inner_is at n s = type_made (within at) n _

pub never_is : (at : ResolveCtx) (n : ℕ) → resolved_type at (never_at n) ≡ tree.leaf_type (pointer at n) tree.never_leaf
never_is at n = type_made at n _

-- a name, with what stands behind it
abbrev pub segment_with : List ℕ → SegmentArgs → Segment
segment_with t a = tree.name_segment (name.Text t) tt a

abbrev pub list_with : Arg → SegmentArgs
list_with a = tree.segment_args (tree.some_arg_list (tree.more_args a tree.no_args)) tree.no_parens false

abbrev parens_with : Parts → OptionType → SegmentArgs
parens_with ps r = tree.segment_args tree.no_arg_list (tree.some_parens ps (tree.some_ret r)) false

abbrev only_part : OptionType → Parts
only_part t = tree.more_parts t tree.no_parts

module _ (at : ResolveCtx) where
  pub with_argument_is : (a : AstGenericArg)
      → resolved_segment at (with_argument (codes "A") a) ≡ segment_with (codes "A") (list_with (resolved_arg at a))
  with_argument_is a = segment_made at _

  type_argument_is : (t : AstType_)
      → resolved_arg at (roll-GenericArg (GenericArg-F.TypeArg (type_arg_of t))) ≡ tree.type_arg (tree.some_type (resolved_type at t))
  type_argument_is t = arg_made at _

  binding_is : (n : List ℕ) (t : AstType_)
      → resolved_arg at (binding_of n t)
      ≡ tree.assoc_arg (name.Text n) tree.no_arg_list false (tree.some_type (resolved_type (in_binding at) t)) tree.no_bounds
  binding_is n t = arg_made at _ ∙ assoc_arg_made at _

  fn_trait_is : (a b : AstType_)
      → resolved_segment at (fn_trait (codes "Fn") a b)
      ≡ segment_with (codes "Fn") (parens_with (only_part (tree.some_type (resolved_type at a))) (tree.some_type (resolved_type at b)))
  fn_trait_is a b = segment_made at _

-- `Fn(t) -> r`
abbrev fn_of : Type_ → Type_ → Segment
fn_of t r = segment_with (codes "Fn") (parens_with (only_part (tree.some_type t)) (tree.some_type r))

impl_reads : (at : ResolveCtx) (s : AstPathSegment) (x : Segment) → resolved_segment (within at) s ≡ x
    → type_data None (resolved_type (outside_impl at) (impl_at 0 s)) ≡ type_data None (impl_of at 0 x)
impl_reads at s x h = ap (type_data None) (outer_is at 0 s ∙ ap (impl_of at 0) h)

pub reads_impls : ImplsInside
reads_impls at = (
  impl_reads at _ _ (with_argument_is (within at) _
      ∙ ap (λ a. segment_with (codes "A") (list_with a))
      (type_argument_is (within at) _ ∙ ap (λ t. tree.type_arg (tree.some_type t)) (inner_is at 1 (bare_segment (codes "B"))))),
  impl_reads at _ _ (with_argument_is (within at) _
      ∙ ap (λ a. segment_with (codes "A") (list_with a))
      (binding_is (within at) (codes "T") _
      ∙ ap (λ t. tree.assoc_arg (name.Text (codes "T")) tree.no_arg_list false (tree.some_type t) tree.no_bounds)
      (outer_is (bound_in at) 1 (bare_segment (codes "B")) ∙ ap (impl_of (bound_in at) 1) (segment_made (within (bound_in at)) _)))),
  impl_reads at _ _ (fn_trait_is (within at) (never_at 2) _
      ∙ (ap (λ t. fn_of t (resolved_type (within at) (impl_at 1 (bare_segment (codes "B"))))) (never_is (within at) 2)
      ∙ ap (fn_of (tree.leaf_type (pointer at 2) tree.never_leaf)) (inner_is at 1 (bare_segment (codes "B"))))),
)

-- lifetimes

reference_is : (at : ResolveCtx) (t : List ℕ)
    → reads_lifetime at t (of.lifetime_ref t)
reference_is at t = ap (type_data None) (type_made at 0 _
    ∙ ap (λ x. tree.ref_type (pointer at 0)
    (Some (record { pointer = pointer at 1; lifetime = of.lifetime_ref t; scope = at.place.lifetimes })) Shared (tree.some_type x))
    (never_is at 2))

pub reads_lifetimes : LifetimesOfTexts
reads_lifetimes at = (
  reference_is at [],
  reference_is at (codes "'"),
  reference_is at (codes "'static"),
  reference_is at (codes "'_"),
  reference_is at (codes "'a"),
)

-- function pointers

abi_is : (at : ResolveCtx) (t : Option (List ℕ)) → reads_abi at t (of.abi_of t)
abi_is at t = ap (type_data None) (type_made at 0 _)

pub reads_abis : AbisOfTexts
reads_abis at = (
  abi_is at None,
  abi_is at (Some []),
  abi_is at (Some (codes "C")),
  abi_is at (Some (codes "efiapi")),
  abi_is at (Some (codes "x")),
)

-- the head of a function pointer of two parameters that are read, and the function pointer
abbrev head_of_two : ParamReading → ParamReading → FnHead
head_of_two r q =
    let last = if q.variadic then [] else q.name ∷ [] in
    let names = if r.variadic then last else r.name ∷ last in
    record { is_unsafe = false; abi = of.abi_of None; is_varargs = q.variadic; names = names }

abbrev of_two : ResolveCtx → ParamReading → ParamReading → Type_
of_two at r q =
    let rest = if q.variadic then tree.no_parts else only_part q.ty in
    tree.fn_type (pointer at 0) (head_of_two r q) (if r.variadic then rest else tree.more_parts r.ty rest) tree.no_type

-- one parameter of this type, if it has one
abbrev reading_of : ResolveCtx → Bool → OptionType → ParamReading
reading_of at variadic t =
    let own = of.asked_param (pointer at 9) (at.answers.cfg (site_of (pointer at 9))) (tree.param tree.no_pat t) in
    record { variadic = variadic; name = None; ty = t; own = own }

abbrev of_type : ResolveCtx → Type_ → ParamReading
of_type at t = reading_of at false (tree.some_type t)

abbrev plain_reading : ResolveCtx → ParamReading
plain_reading at = of_type at (tree.leaf_type (pointer at 1) tree.never_leaf)

abbrev dots_reading : ResolveCtx → ParamReading
dots_reading at = reading_of at true tree.no_type

module _ (at : ResolveCtx) where
  of_two_is : (x y : AstParam) (r q : ParamReading) → resolved_param at x ≡ r → resolved_param at y ≡ q
      → type_data None (resolved_type at (fn_at None (x ∷ y ∷ []))) ≡ type_data None (of_two at r q)
  of_two_is x y r q f g = ap (type_data None) (type_made at 0 _
      ∙ (ap (λ z. of_two at z (resolved_param at y)) f ∙ ap (of_two at r) g))

  plain_is : resolved_param at plain_param ≡ plain_reading at
  plain_is = param_made at _ ∙ ap (of_type at) (never_is at 1)

  dots_is : resolved_param at dots_param ≡ dots_reading at
  dots_is = param_made at _

pub reads_varargs : VarargsAtTheEnd
reads_varargs at = (
  of_two_is at plain_param dots_param (plain_reading at) (dots_reading at) (plain_is at) (dots_is at),
  of_two_is at dots_param plain_param (dots_reading at) (plain_reading at) (dots_is at) (plain_is at),
)
