-- Where each pattern is reached in one way, each one that is named is whole.
use Rattle.std.proofs.Common.{arith, ◌≡◌, ◌≢◌, ap, subst, ◌<◌, ◌≤◌, ◌⊎◌, inl, inr, ℕ, zero, suc, true, false, ◌||◌}
use Rattle.std.proofs.Common.{List, [], ◌∷◌, ◌++◌, length, length-append, map, Option, Some, None, option_to_list, slice_get}
use Rattle.std.specs.List.{AllByRecursion, IsDistinct, flat_map, list_any}
use Rattle.std.specs.Prelude.{eqb}
use Rattle.std.proofs.lemmas.Bool.{false≢true, ne_eqb}
use Rattle.std.proofs.lemmas.Bool.Decides.{eqb_tells}
use Rattle.std.proofs.lemmas.Grind.{flat_map-append}
use Rattle.std.proofs.lemmas.Map.Steps.{length-le_from_distinct_below}
use Rattle.std.proofs.lemmas.Option.{same_Some}
use Rattle.hir_store.specs.Range.{StoreInRange}
use Rattle.hir_store.specs.Stored.{Store}
use Rattle.hir_store.specs.declared.hir.Expr.{Expr}
use Rattle.hir_store.specs.declared.hir.Expr.TheVariants as hir
use Rattle.hir_store.specs.declared.hir.MatchArm.{MatchArm}
use Rattle.hir_store.specs.declared.hir.Statement.{Statement}
use Rattle.hir_store.specs.declared.hir.Statement.TheVariants as statement
use Rattle.hir_store.specs.declared.ids.ExprId.{ExprId}
use Rattle.hir_store.specs.declared.ids.PatId.{PatId}
use Rattle.hir_store.specs.declared.pat.Pat.{Pat}
use Rattle.hir_store.specs.declared.pat.Pat.TheVariants as pat
use Rattle.hir_store.specs.declared.pat.RecordFieldPat.{RecordFieldPat}
use Rattle.hir_walks.specs.Exprs.{arm_pat, expr_pats, statement_pats}
use Rattle.hir_walks.specs.Pats.{AllBelow, Descends, field_pat, pat_children, pats_to, with_parts}
use Rattle.hir_walks.proofs.WholeLemmas.{same_levels}
use Rattle.hir_lower_scope.specs.Each.{Each}
use Rattle.thm_semantics.specs.Reached.{Between, Distinct, Spread}
use Rattle.thm_type_result.specs.Named.{Look, of_arm, of_expr, of_exprs, of_pat, of_pat_field, of_pats_alone, of_statement}
use Rattle.thm_type_result.specs.Pats.{of_types, pats_below, pats_reached}
use Rattle.thm_type_result.specs.Reached.{of_each, of_present}
use Rattle.thm_scoping.specs.Agree.{AreWhole, IsWhole, PatsReachedOnce}
use Rattle.thm_scoping.proofs.Orderly.{pats_descend, pats_there}

-- numbers below one, each once

each_left : (P : ℕ → Type 0) (ks js : List ℕ) → Each P (ks ++ js) → Each P ks
each_left P [] js h = tt
each_left P (k ∷ ks) js h = (h.0, each_left P ks js h.1)

each_right : (P : ℕ → Type 0) (ks js : List ℕ) → Each P (ks ++ js) → Each P js
each_right P [] js h = h
each_right P (k ∷ ks) js h = each_right P ks js h.1

distinct_left : (ks js : List ℕ) → Distinct (ks ++ js) → Distinct ks
distinct_left [] js h = tt
distinct_left (k ∷ ks) js h = (each_left (λ j. k ≢ j) ks js h.0, distinct_left ks js h.1)

distinct_right : (ks js : List ℕ) → Distinct (ks ++ js) → Distinct js
distinct_right [] js h = h
distinct_right (k ∷ ks) js h = distinct_right ks js h.1

spread_left : {n : ℕ} (ks js : List ℕ) → Spread 0 n (ks ++ js) → Spread 0 n ks
spread_left {n} ks js h = record { within = each_left (Between 0 n) ks js h.within; distinct = distinct_left ks js h.distinct }

spread_right : {n : ℕ} (ks js : List ℕ) → Spread 0 n (ks ++ js) → Spread 0 n js
spread_right {n} ks js h = record { within = each_right (Between 0 n) ks js h.within; distinct = distinct_right ks js h.distinct }

apart : (k : ℕ) (ks : List ℕ) → Each (λ j. k ≢ j) ks → AllByRecursion (λ j. eqb k j ≡ false) ks
apart k [] h = tt
apart k (j ∷ ks) h = (ne_eqb k j h.0, apart k ks h.1)

is_distinct : (ks : List ℕ) → Distinct ks → IsDistinct eqb ks
unfolding IsDistinct
is_distinct [] h = tt
is_distinct (k ∷ ks) h = (apart k ks h.0, is_distinct ks h.1)

among_below : (n q : ℕ) (ks : List ℕ) → Each (Between 0 n) ks → list_any (eqb q) ks ≡ true → q < n
among_below n q [] h e = absurd (false≢true e)
among_below n q (k ∷ ks) h e = by (λ f. among_below n q ks h.1 f) (eqb_tells q k)
  where
    by : (list_any (eqb q) ks ≡ true → q < n) → ((eqb q k ≡ true) × (q ≡ k)) ⊎ ((eqb q k ≡ false) × (q ≢ k)) → q < n
    by more (inl s) = let is = s.1 in let less = h.0.1 in omega (arith, is, less)
    by more (inr s) = more (subst (λ b. (b || list_any (eqb q) ks) ≡ true) s.0 e)

spread_few : {n : ℕ} (ks : List ℕ) → Spread 0 n ks → length ks ≤ n
spread_few {n} ks h = length-le_from_distinct_below ks n (is_distinct ks h.distinct) (λ q e. among_below n q ks h.within e)

one_of : {A : Type 0} {n : ℕ} (h : A → List ℕ) (xs : List A) (k : ℕ) (x : A) → slice_get xs k ≡ Some x → Spread 0 n (of_each h xs)
    → Spread 0 n (h x)
one_of h [] k x e s = cc
one_of {n = n} h (y ∷ xs) zero x e s = subst (λ z. Spread 0 n (h z)) (same_Some y x e) (spread_left (h y) (of_each h xs) s)
one_of h (y ∷ xs) (suc k) x e s = one_of h xs k x e (spread_right (h y) (of_each h xs) s)

-- a walk of a pattern has no more than the pattern reaches

module _ (f : PatId → List PatId) (g : PatId → List ℕ) (fewer : (i : PatId) → length (f i) ≤ length (g i)) where
  abbrev seen : Look
  seen = of_pats_alone g

  each_fewer : (is : List PatId) → length (flat_map f is) ≤ length (of_each g is)
  each_fewer [] = omega arith
  each_fewer (i ∷ is) =
      let first = length-append (f i) (flat_map f is) in
      let second = length-append (g i) (of_each g is) in
      let one = fewer i in
      let more = each_fewer is in
      omega (arith, first, second, one, more)

  one_fewer : (i : PatId) → length (flat_map f (i ∷ [])) ≤ length (g i)
  one_fewer i =
      let first = length-append (f i) [] in
      let one = fewer i in
      omega (arith, first, one)

  option_fewer : (o : Option PatId) → length (flat_map f (option_to_list o)) ≤ length (of_present g o)
  option_fewer None = omega arith
  option_fewer (Some i) = one_fewer i

  fields_fewer : (fs : List RecordFieldPat) → length (flat_map f (map field_pat fs)) ≤ length (of_each (of_pat_field seen) fs)
  fields_fewer [] = omega arith
  fields_fewer (x ∷ fs) =
      let first = length-append (f x.pat) (flat_map f (map field_pat fs)) in
      let second = length-append (g x.pat) (of_each (of_pat_field seen) fs) in
      let one = fewer x.pat in
      let more = fields_fewer fs in
      omega (arith, first, second, one, more)

  behind_fewer : (ks : List ℕ) (is : List PatId) (js : List ℕ) → length (flat_map f is) ≤ length js
      → length (flat_map f is) ≤ length (ks ++ js)
  behind_fewer ks is js le =
      let both = length-append ks js in
      omega (arith, both, le)

  parts_fewer : (p : Pat) → length (flat_map f (pat_children p)) ≤ length (of_pat seen p)
  parts_fewer pat.Missing = omega arith
  parts_fewer pat.Wild = omega arith
  parts_fewer pat.Rest = omega arith
  parts_fewer pat.NotNull = omega arith
  parts_fewer (pat.Bind b sub) = option_fewer sub
  parts_fewer (pat.Path p h) = omega arith
  parts_fewer (pat.TupleStruct p dots ps) = behind_fewer _ ps (of_each g ps) (each_fewer ps)
  parts_fewer (pat.Tuple dots ps) = each_fewer ps
  parts_fewer (pat.Record p fs dots) = behind_fewer _ (map field_pat fs) (of_each (of_pat_field seen) fs) (fields_fewer fs)
  parts_fewer (pat.Or ps) = each_fewer ps
  parts_fewer (pat.Slice before middle after) =
      let rest = option_to_list middle ++ after in
      let whole = ap (λ js. length js) (flat_map-append f before rest) in
      let others = ap (λ js. length js) (flat_map-append f (option_to_list middle) after) in
      let first = length-append (flat_map f before) (flat_map f rest) in
      let second = length-append (flat_map f (option_to_list middle)) (flat_map f after) in
      let third = length-append (of_each g before) (of_present g middle ++ of_each g after) in
      let fourth = length-append (of_present g middle) (of_each g after) in
      let one = each_fewer before in
      let two = option_fewer middle in
      let three = each_fewer after in
      omega (arith, whole, others, first, second, third, fourth, one, two, three)
  parts_fewer (pat.Ref mutability p) = one_fewer p
  parts_fewer (pat.Box p) = one_fewer p
  parts_fewer (pat.Deref p) = one_fewer p
  parts_fewer (pat.Lit e) = omega arith
  parts_fewer (pat.Range op low high) = omega arith
  parts_fewer (pat.Expr e) = omega arith

-- the patterns that an expression names reach apart what the expression does

module _ (n : ℕ) (g : PatId → List ℕ) where
  abbrev look : Look
  look = of_pats_alone g

  abbrev AllSpread : List PatId → Type 0
  AllSpread [] = Unit {0}
  AllSpread (q ∷ qs) = Spread 0 n (g q) × AllSpread qs

  each_spread : (qs : List PatId) → Spread 0 n (of_each g qs) → AllSpread qs
  each_spread [] s = tt
  each_spread (q ∷ qs) s = (spread_left (g q) (of_each g qs) s, each_spread qs (spread_right (g q) (of_each g qs) s))

  statements_spread : (ss : List Statement) → Spread 0 n (of_each (of_statement look) ss) → AllSpread (flat_map statement_pats ss)
  statements_spread [] s = tt
  statements_spread (statement.Let p t i e ∷ ss) s =
      let own = g p ++ of_present look.types t in
      let others = of_each (of_statement look) ss in
      (spread_left (g p) (of_present look.types t) (spread_left own others s), statements_spread ss (spread_right own others s))
  statements_spread (statement.Expr e semi ∷ ss) s = statements_spread ss s
  statements_spread (statement.Item ∷ ss) s = statements_spread ss s
  statements_spread (statement.MacroDef d ∷ ss) s = statements_spread ss s

  arms_spread : (arms : List MatchArm) → Spread 0 n (of_each (of_arm look) arms) → AllSpread (map arm_pat arms)
  arms_spread [] s = tt
  arms_spread (a ∷ arms) s =
      (spread_left (g a.pat) (of_each (of_arm look) arms) s, arms_spread arms (spread_right (g a.pat) (of_each (of_arm look) arms) s))

  expr_spread : (f : Expr) → Spread 0 n (of_expr look f) → AllSpread (expr_pats f)
  expr_spread (hir.Let p e) s = (s, tt)
  expr_spread (hir.Block is_unsafe label id ss tail) s = statements_spread ss s
  expr_spread (hir.Match e arms) s = arms_spread arms s
  expr_spread (hir.Assignment target value) s = (s, tt)
  expr_spread (hir.Closure args arg_types ret_type body kind capture) s =
      each_spread args (spread_left (of_each g args) (of_each (of_present look.types) arg_types ++ of_present look.types ret_type) s)
  expr_spread f s = tt

-- of a store

module _ (store : Store) where
  found_fewer : (f : PatId → List PatId) (g : PatId → List ℕ) → ((j : PatId) → length (f j) ≤ length (g j)) → (i : PatId) (o : Option Pat)
      → length (with_parts store i f o) ≤ length (i.0 ∷ pats_below g o)
  found_fewer f g fewer i None = omega arith
  found_fewer f g fewer i (Some p) = let more = parts_fewer f g fewer p in omega (arith, more)

  walk_fewer : (d : ℕ) (i : PatId) → length (pats_to store d i) ≤ length (pats_reached store.pats d i)
  unfolding pats_to pats_reached
  walk_fewer zero i = omega arith
  walk_fewer (suc d) i =
      found_fewer (pats_to store d) (pats_reached store.pats d) (λ j. walk_fewer d j) i (slice_get store.pats i.0)

  is_there : (d : ℕ) (q : PatId) → Spread 0 (length store.pats) (pats_reached store.pats (suc d) q) → q.0 < length store.pats
  unfolding pats_reached
  is_there d q s = s.within.0.1

  all_there : (d : ℕ) (qs : List PatId) → AllSpread (length store.pats) (pats_reached store.pats (suc d)) qs
      → AllBelow (length store.pats) qs
  all_there d [] s = tt
  all_there d (q ∷ qs) s = (is_there d q s.0, all_there d qs s.1)

  module _ (descends : Descends store) where
    one_whole : (q : PatId) → q.0 < length store.pats → Spread 0 (length store.pats) (pats_reached store.pats (length store.pats) q)
        → IsWhole store q
    one_whole q less s =
        let same = ap (λ l. length l) (same_levels store descends (suc q.0) (length store.pats) q (omega arith) less) in
        let fewer = walk_fewer (length store.pats) q in
        let few = spread_few (pats_reached store.pats (length store.pats) q) s in
        omega (arith, same, fewer, few)

    all_whole : (qs : List PatId) → AllBelow (length store.pats) qs
        → AllSpread (length store.pats) (pats_reached store.pats (length store.pats)) qs → AreWhole store qs
    all_whole [] below s = tt
    all_whole (q ∷ qs) below s = (one_whole q below.0 s.0, all_whole qs below.1 s.1)

  module _ (h : StoreInRange store) (ps : List PatId) (once : PatsReachedOnce store ps) where
    abbrev reached : ℕ → Look
    reached d = of_pats_alone (pats_reached store.pats d)

    abbrev named : ℕ → List ℕ
    named d = of_exprs (reached d) store.exprs ++ of_types (reached d) store.types

    given_spread : (d : ℕ) → length store.pats ≤ d → AllSpread (length store.pats) (pats_reached store.pats d) ps
    given_spread d le = each_spread (length store.pats) (pats_reached store.pats d) ps
        (spread_left (of_each (pats_reached store.pats d) ps) (named d) (once d le))

    pub given_there : AllBelow (length store.pats) ps
    given_there = all_there (length store.pats) ps (given_spread (suc (length store.pats)) (omega arith))

    pub given_whole : AreWhole store ps
    given_whole = all_whole (pats_descend store h) ps given_there (given_spread (length store.pats) (omega arith))

    pub named_whole : (e : ExprId) (f : Expr) → slice_get store.exprs e.0 ≡ Some f → AreWhole store (expr_pats f)
    named_whole e f found =
        let n = length store.pats in
        let all = once n (omega arith) in
        let of_all = spread_left (of_exprs (reached n) store.exprs) (of_types (reached n) store.types)
        (spread_right (of_each (pats_reached store.pats n) ps) (named n) all) in
        all_whole (pats_descend store h) (expr_pats f) (pats_there store h e f found)
        (expr_spread n (pats_reached store.pats n) f (one_of (of_expr (reached n)) store.exprs e.0 f found of_all))
