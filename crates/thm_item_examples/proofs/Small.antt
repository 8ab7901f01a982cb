-- Bounds and types of the names A and B, computed.
use Rattle.std.proofs.Common.{◌≡◌, ℕ, codes, false, []}
use Rattle.hir_env.specs.ResolvedTree as tree
use Rattle.hir_env.specs.ResolvedTree.{Bound, Bounds, Segment, Type_}
use Rattle.hir_env.specs.ResolveCtx.{ResolveCtx}
use Rattle.hir_env.specs.Whole.{resolved_bound, resolved_segment, resolved_type, in_impl}
use Rattle.spec_data.specs.Trees.{bare_segment, impl_at}
use Rattle.thm_item_examples.specs.Trees.{trait_at, with_impl}
use Rattle.thm_item_examples.proofs.Levels.{a_is, a_with, alone, b_is, impl_in, impl_is, list_with, segment_with, trait_in, trait_is}
use Rattle.thm_item_examples.proofs.Levels.{type_arg_is}

abbrev pub one : Bound → Bounds
one b = tree.more_bounds b tree.no_bounds

module _ (at : ResolveCtx) where
  abbrev pub a_segment : Segment
  a_segment = segment_with at (codes "A") (alone at)

  abbrev pub b_segment : Segment
  b_segment = segment_with at (codes "B") (alone at)

  -- the bounds `A` and `B` at this node
  abbrev pub a_at : ℕ → Bound
  a_at n = trait_in at n a_segment false []

  abbrev pub b_at : ℕ → Bound
  b_at n = trait_in at n b_segment false []

  pub trait_a : (n : ℕ) → resolved_bound at (trait_at n (bare_segment (codes "A"))) ≡ a_at n
  trait_a n = trait_is at n (bare_segment (codes "A")) (a_is at)

  pub trait_b : (n : ℕ) → resolved_bound at (trait_at n (bare_segment (codes "B"))) ≡ b_at n
  trait_b n = trait_is at n (bare_segment (codes "B")) (b_is at)

-- an `impl B` at this node
abbrev pub b_in : ResolveCtx → ℕ → Type_
b_in at n = impl_in at n (b_segment at)

pub impl_b : (at : ResolveCtx) (n : ℕ) → resolved_type at (impl_at n (bare_segment (codes "B"))) ≡ b_in at n
impl_b at n = impl_is at n (bare_segment (codes "B")) (b_is (in_impl at))

module _ (at : ResolveCtx) where
  -- `A<impl B>`, alone and as a bound
  abbrev pub around_in : Segment
  around_in = segment_with at (codes "A") (list_with at (tree.type_arg (tree.some_type (b_in at 5))))

  pub around_is : resolved_segment at with_impl ≡ around_in
  around_is = a_with at _ (type_arg_is at _ (impl_b at 5))

  abbrev pub inside_in : Bound
  inside_in = trait_in at 4 around_in false []

  pub inside_is : resolved_bound at (trait_at 4 with_impl) ≡ inside_in
  inside_is = trait_is at 4 with_impl around_is
