-- Small generic parameters and where clauses, computed.
use Rattle.std.proofs.Common.{◌≡◌, ◌∙◌, refl, ap, ℕ, codes, true, false, List, [], ◌∷◌, Option, Some, None}
use Rattle.hir_syntax.specs.declared.ast.ElseBranch.TheOpen.{ExprKind-F}
use Rattle.hir_syntax.specs.declared.ast.ExprKind.{out-roll-ExprKind}
use Rattle.hir_store.specs.declared.ids.GenericDefId.{GenericDefId}
use Rattle.hir_store.specs.declared.name.Name.TheVariants as name
use Rattle.hir_env.specs.Answering as reads
use Rattle.hir_env.specs.ResolveCtx.{ResolveCtx, ptr}
use Rattle.hir_env.specs.ResolvedTree as tree
use Rattle.hir_env.specs.ResolvedTree.{Binder, Bound, Bounds, Constant, Lifetime, Segment, Type_}
use Rattle.hir_env.specs.Whole.{resolved_bound, resolved_constant, resolved_type, bounds_part, in_constant, into, reader}
use Rattle.hir_env.proofs.Levels.{expr_is_level}
use Rattle.hir_lower_item.specs.Answering.{at_place, in_bounds, in_plain, in_target}
use Rattle.hir_lower_item.specs.Items as item
use Rattle.hir_lower_item.specs.Items.{Param, Predicate}
use Rattle.spec_data.specs.Trees.{bare_segment, never_at, no_range, node, pointer}
use Rattle.spec_data.proofs.Trees.{never_is}
use Rattle.thm_item_examples.specs.Trees.{disabling, enabled, impl_by, trait_at}
use Rattle.thm_item_examples.specs.Read.{Read, generics_read}
use Rattle.thm_item_examples.specs.Expected.{text}
use Rattle.thm_item_examples.specs.ParamRows.{AsksByBounds, Everywhere, InWrittenOrder, ParametersFirst, ReadsConstParams}
use Rattle.thm_item_examples.specs.ParamRows.{ReadsImpls, ReadsLifetimeParams, ReadsTypeParams, ReadsWhereClauses}
use Rattle.thm_item_examples.specs.ParamRows.{DisabledAnywhere, all_bounds, constant_at}
use Rattle.thm_item_examples.proofs.Levels.{a_is, alone, broken_is, for_trait_is, lifetime_in, maybe_is, outlives_is, segment_with}
use Rattle.thm_item_examples.proofs.Levels.{trait_in}
use Rattle.thm_item_examples.proofs.Levels.{cast_is, impl_by_is, uses_is}
use Rattle.thm_item_examples.proofs.Small.{a_at, impl_b, inside_is, one, trait_a, trait_b}

module _ (at : ResolveCtx) (def : GenericDefId) where
  abbrev plainly : ResolveCtx
  plainly = at_place in_plain (enabled at)

  abbrev bound_at : ResolveCtx
  bound_at = at_place (in_bounds def) (enabled at)

  abbrev target_at : ResolveCtx
  target_at = at_place in_target (enabled at)

  abbrev read : List Param → List Predicate → Read
  read ps ws = generics_read def (record { params = ps; predicates = ws })

  abbrev typed : List ℕ → Bounds → Param
  typed t bs = item.type_param (text t) tree.no_type bs

  abbrev constant_in : Constant
  constant_in = tree.constant (tree.some_expr (tree.leaf_expr (pointer at 3) tree.underscore))

  constant_is : resolved_constant plainly (constant_at at def 3) ≡ constant_in
  constant_is = ap (λ e. tree.constant (tree.some_expr e)) (expr_is_level (in_constant plainly) _
      ∙ ap (λ x. reads.expr_kind (enabled at).answers (reader (enabled at).answers (into plainly)) x (ptr (node 3) no_range)
      (in_constant plainly).place) (out-roll-ExprKind ExprKind-F.UnderscoreExpr))

  -- at any spot
  abbrev pub all_in : ResolveCtx → Bounds
  all_in s = tree.more_bounds (a_at s 2)
      (tree.more_bounds (trait_in s 3 (segment_with s (codes "A") (alone s)) true [])
      (tree.more_bounds (tree.lifetime_bound (lifetime_in s 4 (codes "'a")))
      (tree.more_bounds (tree.use_bound (tree.used_lifetime (lifetime_in s 5 (codes "'a")) ∷ []))
      (tree.more_bounds (trait_in s 6 (segment_with s (codes "A") (alone s)) false (text (codes "'b") ∷ []))
      (one tree.error_bound)))))

  pub all_are : (s : ResolveCtx) → bounds_part s (all_bounds at def) ≡ all_in s
  all_are s = λ i. tree.more_bounds (trait_a s 2 i)
      (tree.more_bounds (maybe_is s 3 (bare_segment (codes "A")) (a_is s) i)
      (tree.more_bounds (outlives_is s 4 (codes "'a") i)
      (tree.more_bounds (uses_is s 5 (codes "'a") i)
      (tree.more_bounds (for_trait_is s 6 (bare_segment (codes "A")) (a_is s) (codes "'b") i) (one (broken_is s i))))))

  -- `!: A`, with what a `for` introduces
  of_never_is : (b : Option Binder)
      → read [] (item.of_type (resolved_type target_at (never_at 1)) b
      (one (resolved_bound bound_at (trait_at 2 (bare_segment (codes "A"))))) ∷ [])
      ≡ read [] (item.of_type (tree.leaf_type (pointer at 1) tree.never_leaf) b (one (a_at bound_at 2)) ∷ [])
  of_never_is b = λ i. read [] (item.of_type (never_is target_at 1 i) b (one (trait_a bound_at 2 i)) ∷ [])

pub reads_type_params : Everywhere ReadsTypeParams
reads_type_params at def = record {
  named = refl;
  nameless = refl;
  whole = λ i. read at def (item.type_param (text (codes "T")) (tree.some_type (never_is (plainly at def) 2 i))
      (one (trait_a (bound_at at def) 3 i)) ∷ []) [];
}

pub reads_const_params : Everywhere ReadsConstParams
reads_const_params at def = record {
  named = λ i. read at def (item.const_param (text (codes "N")) (tree.some_type (never_is (plainly at def) 2 i)) None ∷ []) [];
  nameless = refl;
  whole = λ i. read at def
      (item.const_param (text (codes "N")) (tree.some_type (never_is (plainly at def) 2 i)) (Some (constant_is at def i)) ∷ []) [];
}

pub reads_lifetime_params : Everywhere ReadsLifetimeParams
reads_lifetime_params at def = record { named = refl; static_ = refl; placeholder = refl; lone = refl; lacking = refl }

pub keeps_the_order : Everywhere InWrittenOrder
keeps_the_order at def = λ i. read at def
    (item.lifetime_param (text (codes "'a")) (lifetime_in (plainly at def) 2 (codes "'a")) tree.no_bounds
    ∷ typed at def (codes "T") tree.no_bounds
    ∷ item.const_param (text (codes "N")) (tree.some_type (never_is (plainly at def) 5 i)) None
    ∷ typed at def (codes "U") (one (trait_a (bound_at at def) 7 i)) ∷ []) []

pub emits_what_is_disabled : DisabledAnywhere
emits_what_is_disabled at def by = let here = at_place (in_bounds def) (disabling 1 by at) in record {
  type_ = refl;
  const_ = refl;
  lifetime_ = refl;
  before = λ i. read at def (item.disabled_param (pointer at 1) by ∷ typed at def (codes "U") (one (trait_a here 3 i)) ∷ []) [];
}

pub asks_by_bounds : Everywhere AsksByBounds
asks_by_bounds at def = record {
  of_type = ap (λ bs. read at def (typed at def (codes "T") bs ∷ []) []) (all_are at def (bound_at at def));
  of_lifetime = ap
      (λ bs. read at def (item.lifetime_param (text (codes "'c")) (lifetime_in (plainly at def) 1 (codes "'c")) bs ∷ []) [])
      (all_are at def (bound_at at def));
}

pub reads_where_clauses : Everywhere ReadsWhereClauses
reads_where_clauses at def = record {
  of_type = of_never_is at def None;
  binding = of_never_is at def (Some (text (codes "'b") ∷ name.Missing ∷ []));
  empty = of_never_is at def (Some []);
  of_lifetime = ap (λ bs. read at def [] (item.of_lifetime (lifetime_in (target_at at def) 1 (codes "'c")) bs ∷ []))
      (all_are at def (bound_at at def));
  of_nothing = refl;
}

pub reads_parameters_first : Everywhere ParametersFirst
reads_parameters_first at def = λ i. read at def (typed at def (codes "T") (one (trait_a (bound_at at def) 2 i)) ∷ [])
    (item.of_type (never_is (target_at at def) 3 i) None (one (trait_b (bound_at at def) 4 i)) ∷ [])

pub reads_impls : Everywhere ReadsImpls
reads_impls at def = record {
  in_bound = λ i. read at def (typed at def (codes "T") (one (inside_is (bound_at at def) i))
      ∷ typed at def (codes "U") (one (trait_a (bound_at at def) 2 i)) ∷ []) [];
  of_lifetime = λ i. read at def
      (item.lifetime_param (text (codes "'c")) (lifetime_in (plainly at def) 1 (codes "'c")) (one (inside_is (bound_at at def) i)) ∷ []) [];
  in_where = λ i. read at def [] (item.of_type (never_is (target_at at def) 1 i) None (one (inside_is (bound_at at def) i)) ∷ []);
  where_lifetime = λ i. read at def []
      (item.of_lifetime (lifetime_in (target_at at def) 1 (codes "'c")) (one (inside_is (bound_at at def) i)) ∷ []);
  in_default = λ i. read at def
      (item.type_param (text (codes "T")) (tree.some_type (impl_b (plainly at def) 2 i)) tree.no_bounds ∷ []) [];
  in_const = λ i. read at def (item.const_param (text (codes "N")) (tree.some_type (impl_b (plainly at def) 2 i)) None ∷ []) [];
  in_constant = λ i. read at def (item.const_param (text (codes "N")) (tree.some_type (never_is (plainly at def) 2 i))
      (Some (cast_is (plainly at def) 3 (impl_by 4 []) refl (impl_by_is (in_constant (plainly at def)) 4 [] refl) i)) ∷ []) [];
  in_target = λ i. read at def [] (item.of_type (impl_b (target_at at def) 1 i) None (one (trait_a (bound_at at def) 2 i)) ∷ []);
}
