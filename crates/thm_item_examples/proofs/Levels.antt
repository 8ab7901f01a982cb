-- Small written trees of types and bounds, computed level by level.
use Rattle.std.proofs.Common.{◌≡◌, ◌∙◌, ap, ℕ, suc, codes, Bool, true, false, List, [], ◌∷◌, Some, None, Result, Ok}
use Rattle.hir_syntax.specs.declared.ast.ElseBranch.TheOpen.{ExprKind-F, GenericArg-F}
use Rattle.hir_syntax.specs.declared.ast.ExprKind.{out-roll-ExprKind}
use Rattle.hir_syntax.specs.declared.ast.PathSegment.{PathSegment as AstPathSegment}
use Rattle.hir_syntax.specs.declared.types.GenericArg.{GenericArg as AstGenericArg, roll-GenericArg}
use Rattle.hir_syntax.specs.declared.types.TypeBound.{TypeBound as AstTypeBound}
use Rattle.hir_syntax.specs.declared.types.Type_.{Type_ as AstType}
use Rattle.hir_store.specs.declared.hir.Mutability.TheVariants.{Shared}
use Rattle.hir_store.specs.declared.ids.CfgId.{CfgId}
use Rattle.hir_store.specs.declared.name.Name.TheVariants as name
use Rattle.hir_env.specs.Answering as reads
use Rattle.hir_env.specs.ResolveCtx.{ResolveCtx, ptr, site_of}
use Rattle.hir_env.specs.Paths as of
use Rattle.hir_env.specs.ResolvedTree as tree
use Rattle.hir_env.specs.ResolvedTree.{Arg, Binder, Bound, Bounds, Constant, Lifetime, Path, Segment, SegmentArgs, Type_}
use Rattle.hir_env.specs.Whole.{resolved_arg, resolved_bound, resolved_constant, resolved_segment, resolved_type, bounds_part}
use Rattle.hir_env.specs.Whole.{in_constant, in_impl, into, reader}
use Rattle.hir_env.proofs.Levels.{expr_is_level}
use Rattle.spec_data.specs.Trees.{bare_segment, impl_at, no_range, node, pointer, type_arg_of, with_argument}
use Rattle.spec_data.proofs.Trees.{arg_made, bound_made, never_is, path_made, path_type_made, segment_made, type_made}
use Rattle.thm_item_examples.specs.Trees.{broken_bound, cast_at, for_trait_at, impl_by, lifetime_arg_at, lifetime_at, maybe_at, outlives_at}
use Rattle.thm_item_examples.specs.Trees.{path_at}
use Rattle.thm_item_examples.specs.Trees.{reference_at, trait_at, uses_at}

module _ (at : ResolveCtx) where
  -- the lifetime with this node and this text
  abbrev pub lifetime_in : ℕ → List ℕ → Lifetime
  lifetime_in n t = of.lifetime_of at.place (lifetime_at n t)

  abbrev pub never_in : ℕ → Type_
  never_in n = tree.leaf_type (pointer at n) tree.never_leaf

  abbrev pub reference_in : ℕ → List ℕ → Type_
  reference_in n t = tree.ref_type (pointer at n) (Some (lifetime_in (suc n) t)) Shared (tree.some_type (never_in (suc (suc n))))

  pub reference_is : (n : ℕ) (t : List ℕ) → resolved_type at (reference_at n t) ≡ reference_in n t
  reference_is n t = type_made at n _
      ∙ ap (λ x. tree.ref_type (pointer at n) (Some (lifetime_in (suc n) t)) Shared (tree.some_type x)) (never_is at (suc (suc n)))

  -- a path of this one segment
  abbrev pub plain : Segment → Path
  plain x = tree.path None false x tree.no_segments tree.no_path

  abbrev pub aliased : Segment → Path
  aliased x = of.with_alias (of.alias_at at.answers at.place (plain x)) (plain x)

  abbrev pub trait_in : ℕ → Segment → Bool → Binder → Bound
  trait_in n x maybe binder = tree.path_bound (pointer at n) (tree.some_path (aliased x)) maybe binder

  module _ (n : ℕ) (s : AstPathSegment) {x : Segment} (h : resolved_segment at s ≡ x) where
    pub path_is : resolved_type at (path_at n s) ≡ tree.path_type (pointer at n) (tree.some_path (aliased x))
    path_is = type_made at n _
        ∙ (ap (λ p. tree.path_type (pointer at n) (tree.some_path p)) (path_made at _)
        ∙ ap (λ y. tree.path_type (pointer at n) (tree.some_path (aliased y))) h)

    abbrev from_path : Bool → Binder → Path → Bound
    from_path maybe binder p = tree.path_bound (pointer at n) (tree.some_path p) maybe binder

    pub trait_is : resolved_bound at (trait_at n s) ≡ trait_in n x false []
    trait_is = bound_made at _
        ∙ (ap (λ t. tree.path_bound t.pointer t.path false []) (path_type_made at _)
        ∙ (ap (from_path false []) (path_made at _) ∙ ap (λ y. trait_in n y false []) h))

    pub maybe_is : resolved_bound at (maybe_at n s) ≡ trait_in n x true []
    maybe_is = bound_made at _
        ∙ (ap (λ t. tree.path_bound t.pointer t.path true []) (path_type_made at _)
        ∙ (ap (from_path true []) (path_made at _) ∙ ap (λ y. trait_in n y true []) h))

    pub for_trait_is : (t : List ℕ) → resolved_bound at (for_trait_at n t s) ≡ trait_in n x false (name.Text t ∷ [])
    for_trait_is t = bound_made at _
        ∙ (ap (λ y. tree.path_bound y.pointer y.path false (name.Text t ∷ [])) (path_type_made at _)
        ∙ (ap (from_path false (name.Text t ∷ [])) (path_made at _) ∙ ap (λ y. trait_in n y false (name.Text t ∷ [])) h))

  pub outlives_is : (n : ℕ) (t : List ℕ) → resolved_bound at (outlives_at n t) ≡ tree.lifetime_bound (lifetime_in n t)
  outlives_is n t = bound_made at _

  pub uses_is : (n : ℕ) (t : List ℕ)
      → resolved_bound at (uses_at n t) ≡ tree.use_bound (tree.used_lifetime (lifetime_in n t) ∷ [])
  uses_is n t = bound_made at _

  pub broken_is : resolved_bound at broken_bound ≡ tree.error_bound
  broken_is = bound_made at _

  -- a name, with what stands behind it
  abbrev pub segment_with : List ℕ → SegmentArgs → Segment
  segment_with t a = tree.name_segment (name.Text t) tt a

  abbrev pub list_with : Arg → SegmentArgs
  list_with a = tree.segment_args (tree.some_arg_list (tree.more_args a tree.no_args)) tree.no_parens false

  abbrev pub alone : SegmentArgs
  alone = tree.segment_args tree.no_arg_list tree.no_parens false

  -- `A`, `B`, and `A` with an argument
  pub a_is : resolved_segment at (bare_segment (codes "A")) ≡ segment_with (codes "A") alone
  a_is = segment_made at _

  pub b_is : resolved_segment at (bare_segment (codes "B")) ≡ segment_with (codes "B") alone
  b_is = segment_made at _

  pub a_with : (a : AstGenericArg) {x : Arg} → resolved_arg at a ≡ x
      → resolved_segment at (with_argument (codes "A") a) ≡ segment_with (codes "A") (list_with x)
  a_with a h = segment_made at _ ∙ ap (λ y. segment_with (codes "A") (list_with y)) h

  pub type_arg_is : (t : AstType) {x : Type_} → resolved_type at t ≡ x
      → resolved_arg at (roll-GenericArg (GenericArg-F.TypeArg (type_arg_of t))) ≡ tree.type_arg (tree.some_type x)
  type_arg_is t h = arg_made at _ ∙ ap (λ y. tree.type_arg (tree.some_type y)) h

  pub lifetime_arg_is : (n : ℕ) (t : List ℕ) → resolved_arg at (lifetime_arg_at n t) ≡ tree.lifetime_arg (lifetime_in n t)
  lifetime_arg_is n t = arg_made at _

  -- `as t`, where no condition disables it
  abbrev pub cast_in : ℕ → Type_ → Constant
  cast_in n t = tree.constant (tree.some_expr (tree.cast_expr (pointer at n) tree.no_expr (tree.some_type t)))

  abbrev as_kept : ℕ → Result (Unit {0}) CfgId → Type_ → Constant
  as_kept n why t = tree.constant (tree.some_expr
      (reads.asked (pointer at n) why (tree.cast_expr (pointer at n) tree.no_expr (tree.some_type t))))

  pub cast_is : (n : ℕ) (t : AstType) {x : Type_} → at.answers.cfg (site_of (pointer at n)) ≡ Ok tt
      → resolved_type (in_constant at) t ≡ x → resolved_constant at (Some (cast_at n t)) ≡ cast_in n x
  cast_is n t enabled h = ap (λ e. tree.constant (tree.some_expr e)) (expr_is_level (in_constant at) _
      ∙ ap (λ k. reads.expr_kind at.answers (reader at.answers (into at)) k (ptr (node n) no_range) (in_constant at).place)
      (out-roll-ExprKind (ExprKind-F.CastExpr None (Some t))))
      ∙ (λ i. as_kept n (enabled i) (h i))

-- an `impl` of these bounds
pub impl_by_is : (at : ResolveCtx) (n : ℕ) (bs : List AstTypeBound) {x : Bounds} → bounds_part (in_impl at) bs ≡ x
    → resolved_type at (impl_by n bs) ≡ of.impl_at at.place.in_impl at.place.impl_trait (pointer at n) x
impl_by_is at n bs h = type_made at n _ ∙ ap (of.impl_at at.place.in_impl at.place.impl_trait (pointer at n)) h

-- an `impl` of this one segment
abbrev pub impl_in : ResolveCtx → ℕ → Segment → Type_
impl_in at n x = of.impl_at at.place.in_impl at.place.impl_trait (pointer at n)
    (tree.more_bounds (trait_in (in_impl at) 9 x false []) tree.no_bounds)

pub impl_is : (at : ResolveCtx) (n : ℕ) (s : AstPathSegment) {x : Segment} → resolved_segment (in_impl at) s ≡ x
    → resolved_type at (impl_at n s) ≡ impl_in at n x
impl_is at n s h = let mode = of.impl_at at.place.in_impl at.place.impl_trait (pointer at n) in
    type_made at n _
    ∙ (ap (λ b. mode (tree.more_bounds b tree.no_bounds)) (bound_made (in_impl at) _)
    ∙ (ap (λ t. mode (tree.more_bounds (tree.path_bound t.pointer t.path false []) tree.no_bounds)) (path_type_made (in_impl at) _)
    ∙ (ap (λ p. mode (tree.more_bounds (tree.path_bound (pointer at 9) (tree.some_path p) false []) tree.no_bounds))
    (path_made (in_impl at) _) ∙ ap (λ y. impl_in at n y) h)))
