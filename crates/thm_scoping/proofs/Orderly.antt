-- What the proofs use of a store, from its invariant and what the theorems ask besides.
use Rattle.std.proofs.Common.{arith, ◌≡◌, ◌<◌, List, [], ◌∷◌, ◌++◌, length, Some, slice_get}
use Rattle.hir_store.specs.Children.{children}
use Rattle.hir_store.specs.Range.{StoreInRange, pats_in}
use Rattle.hir_store.specs.Stored.{Store}
use Rattle.hir_store.specs.declared.hir.Expr.{Expr as StoredExpr}
use Rattle.hir_store.specs.declared.hir.Expr.TheVariants as hir
use Rattle.hir_store.specs.declared.ids.ExprId.{ExprId}
use Rattle.hir_store.specs.declared.ids.PatId.{PatId}
use Rattle.hir_store.specs.declared.pat.Pat.{Pat}
use Rattle.hir_store.proofs.ChildLemmas.{children_past}
use Rattle.hir_store.proofs.Descends.{past_member}
use Rattle.hir_walks.specs.Exprs.{expr_constants, expr_pats, exprs_in_pat}
use Rattle.hir_walks.specs.Pats.{AllBelow, Descends, pat_children}
use Rattle.thm_scoping.specs.Agree.{AreWhole, BindNothing, ConstantsBindNothing, IsWhole, PatternsAreWhole, pat_constants}
use Rattle.thm_scoping.proofs.Named.{EachBelow, all_below, each_below, expr_pats_named, parts_named, target_named}

module _ (store : Store) where
  -- a pattern that is there and whole
  abbrev pub Known : PatId → Type 0
  Known q = (q.0 < length store.pats) × IsWhole store q

  abbrev pub AllKnown : List PatId → Type 0
  AllKnown [] = Unit {0}
  AllKnown (q ∷ qs) = Known q × AllKnown qs

  pub all_known : (qs : List PatId) → AllBelow (length store.pats) qs → AreWhole store qs → AllKnown qs
  all_known [] below whole = tt
  all_known (q ∷ qs) below whole = ((below.0, whole.0), all_known qs below.1 whole.1)

  pub known_left : (ps qs : List PatId) → AllKnown (ps ++ qs) → AllKnown ps
  known_left [] qs known = tt
  known_left (p ∷ ps) qs known = (known.0, known_left ps qs known.1)

  pub known_right : (ps qs : List PatId) → AllKnown (ps ++ qs) → AllKnown qs
  known_right [] qs known = known
  known_right (p ∷ ps) qs known = known_right ps qs known.1

-- Each entry names only entries that are there, and of its own kind only earlier ones. Each pattern that an expression names is whole, and
-- no constant among arguments is a `let`.
pub record Orderly (store : Store) : Type 0 where
  pub parts : (e : ExprId) (f : StoredExpr) → slice_get store.exprs e.0 ≡ Some f → EachBelow e.0 (children f)
  pub targets : (e : ExprId) (t : PatId) (v : ExprId) → slice_get store.exprs e.0 ≡ Some (hir.Assignment t v)
      → EachBelow e.0 (exprs_in_pat store t)
  pub patterns : Descends store
  pub patterns_there : (e : ExprId) (f : StoredExpr) → slice_get store.exprs e.0 ≡ Some f → AllKnown store (expr_pats f)
  pub constants : (e : ExprId) (f : StoredExpr) → slice_get store.exprs e.0 ≡ Some f → BindNothing store (expr_constants f)
  pub constants_of_pats : (i : PatId) (p : Pat) → slice_get store.pats i.0 ≡ Some p → BindNothing store (pat_constants p)

module _ (store : Store) (h : StoreInRange store) where
  parts_below : (e : ExprId) (f : StoredExpr) → slice_get store.exprs e.0 ≡ Some f → EachBelow e.0 (children f)
  parts_below e f found =
      let named = children_past f in
      let earlier = h.descends.exprs e.0 f found in
      each_below e.0 (children f) (omega (arith, named, earlier))

  pub pats_descend : Descends store
  pats_descend i p found =
      let named = parts_named p in
      let earlier = h.descends.pats i.0 p found in
      all_below i.0 (pat_children p) (omega (arith, named, earlier))

  pub pats_there : (e : ExprId) (f : StoredExpr) → slice_get store.exprs e.0 ≡ Some f → AllBelow (length store.pats) (expr_pats f)
  pats_there e f found =
      let named = expr_pats_named f in
      let one = past_member pats_in store.exprs e.0 f found in
      let all = h.pats in
      all_below (length store.pats) (expr_pats f) (omega (arith, named, one, all))

  pub orderly : PatternsAreWhole store → ConstantsBindNothing store → Orderly store
  orderly whole nothing = record {
    parts = parts_below;
    targets = λ e t v found. target_named store pats_descend e.0 t (λ i p le is. h.descends.targets e.0 t v found i p le is);
    patterns = pats_descend;
    patterns_there = λ e f found. all_known store (expr_pats f) (pats_there e f found) (whole e f found);
    constants = nothing.in_exprs;
    constants_of_pats = nothing.in_pats;
  }
