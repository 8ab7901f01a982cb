-- Walks over what is placed, one behind the other.
use Rattle.std.proofs.Common.{arith, ◌≡◌, inl, inr, refl, sym, ap, subst, ◌<◌, ◌≤◌, List, [], ◌∷◌, ◌++◌, Option}
use Rattle.hir_store.specs.declared.ids.ExprId.{ExprId}
use Rattle.hir_store.specs.declared.hir.MatchArm.{MatchArm}
use Rattle.hir_store.specs.declared.hir.Statement.{Statement}
use Rattle.hir_store.specs.Stored.{Store}
use Rattle.std.specs.List.{flat_map}
use Rattle.hir_scopes.specs.declared.opening.Around.{Around}
use Rattle.hir_scopes.specs.Bounds.{ScopeLists}
use Rattle.hir_scopes.specs.Chains.{Enters, Grown, InRange, Stands}
use Rattle.hir_scopes.specs.Records.{Kept, Recorded, Records, SeenFrom, Walked, Walks}
use Rattle.spec_scopes.specs.Placed.{Placed, Sees, Spot, after, after_each, after_part, in_constant, in_scope, past, past_statement}
use Rattle.spec_scopes.specs.Placed.{placed_arm, placed_block, placed_each, placed_option, placed_statement}
use Rattle.hir_scopes.proofs.AfterLemmas.{after_part_below, after_part_past}
use Rattle.hir_scopes.proofs.ChainLemmas.{grown_same, grown_then, in_range_grown, stands_grown}
use Rattle.hir_scopes.proofs.RecordLemmas.{records_append, records_as, records_behind, records_before, records_none}

-- what is kept

pub kept_same : (m : ScopeLists) (a : Around) → InRange m a → Kept m m a
kept_same m a in_range = record { grown = grown_same m; in_range = in_range }

pub kept_then : (m n o : ScopeLists) (a b : Around) → Kept m n a → Kept n o b → Kept m o b
kept_then m n o a b first second = record { grown = grown_then m n o first.grown second.grown; in_range = second.in_range }

-- behind what is inside, the same scopes as before
pub kept_back : (m n : ScopeLists) (a : Around) → InRange m a → Grown m n → Kept m n a
kept_back m n a in_range grown = record { grown = grown; in_range = in_range_grown m n a grown in_range }

pub kept_enter : (m n : ScopeLists) (a r : Around) (inner : Spot → Spot) → Enters m n a inner r → Kept m n r
kept_enter m n a r inner enters = record { grown = enters.grown; in_range = enters.in_range }

module _ (store : Store) (w : ExprId) where
  pub walks_none : (m : ScopeLists) (a : Around) (x : Spot) → Stands m a x → Walks store w m m a [] x
  walks_none m a x stands = record {
    records = records_none store m m (SeenFrom store w []) refl (λ e y seen. elim seen.2 [ ]);
    stands = stands;
  }

  pub walks_then : (m n o : ScopeLists) (a b : Around) (ps qs : Placed) (x y : Spot) → Grown n o → Walks store w m n a ps x
      → Walks store w n o b qs y → Walks store w m o b (ps ++ qs) y
  walks_then m n o a b ps qs x y grown first second = record {
    records = records_append store w m n o ps qs grown first.records second.records;
    stands = second.stands;
  }

  -- what stands where it did before what is inside
  pub walks_back : (m n : ScopeLists) (a b : Around) (ps : Placed) (x y : Spot) → Grown m n → Walks store w m n b ps y → Stands m a x
      → Walks store w m n a ps x
  walks_back m n a b ps x y grown walks stands = record {
    records = walks.records;
    stands = stands_grown m n a x grown stands;
  }

  -- scopes are opened first, or behind
  pub walks_inside : (m n o : ScopeLists) (b : Around) (ps : Placed) (y : Spot) → Grown n o → n.by_expr ≡ m.by_expr
      → Walks store w n o b ps y → Walks store w m o b ps y
  walks_inside m n o b ps y grown same walks = record {
    records = records_before store m n o (SeenFrom store w ps) grown same walks.records;
    stands = walks.stands;
  }

  pub walks_enter : (m n o : ScopeLists) (a r : Around) (inner : Spot → Spot) (ps : Placed) (x : Spot) → Walks store w m n a ps x
      → Enters n o a inner r → Walks store w m o r ps (inner x)
  walks_enter m n o a r inner ps x walks enters = record {
    records = records_behind store m n o (SeenFrom store w ps) enters.grown enters.by_expr walks.records;
    stands = enters.inside x walks.stands;
  }

  -- a part
  pub walks_part : (m n : ScopeLists) (a : Around) (c : ExprId) (x : Spot) → c.0 < w.0 → Records store m n (Sees store c x)
      → Stands n a (in_scope x (after store c x.names)) → Walks store w m n a ((c, x) ∷ []) (past store (after_part store w) c x)
  walks_part m n a c x less records stands = record {
    records = records_as store m n (Sees store c x) (SeenFrom store w ((c, x) ∷ []))
        (λ e y seen. (c, x, inl refl, less, seen))
        (λ e y seen. elim seen.2 [
          | inl is ↦ subst (λ p. Sees store p.0 p.1 e y) is seen.4
          | inr it ↦ elim it [ ]
        ])
        records;
    stands = subst (λ ss. Stands n a (in_scope x ss)) (sym (after_part_below store w c x.names less)) stands;
  }

  pub walks_no_part : (m : ScopeLists) (a : Around) (c : ExprId) (x : Spot) → w.0 ≤ c.0 → Stands m a x
      → Walks store w m m a ((c, x) ∷ []) (past store (after_part store w) c x)
  walks_no_part m a c x more stands = record {
    records = records_none store m m (SeenFrom store w ((c, x) ∷ [])) refl (λ e y seen. elim seen.2 [
      | inl is ↦ absurd (let same : seen.0.0 ≡ c.0 = ap (λ p. p.0.0) is in omega (arith, more, seen.3, same))
      | inr it ↦ elim it [ ]
    ]);
    stands = subst (λ ss. Stands m a (in_scope x ss)) (sym (after_part_past store w c x.names more)) stands;
  }

  -- the same from each spot

  pub walked_then : (m n o : ScopeLists) (a b c : Around) (ps qs : Spot → Placed) (f g : Spot → Spot) → Grown n o
      → Walked store w m n a ps f b → Walked store w n o b qs g c → Walked store w m o a (λ x. ps x ++ qs (f x)) (λ x. g (f x)) c
  walked_then m n o a b c ps qs f g grown first second =
      λ x stands. let at = first x stands in
      walks_then m n o b c (ps x) (qs (f x)) (f x) (g (f x)) grown at (second (f x) at.stands)

  pub recorded_of : (m n : ScopeLists) (a b : Around) (ps : Spot → Placed) (f : Spot → Spot) → Walked store w m n a ps f b
      → Recorded store w m n a ps
  recorded_of m n a b ps f walked = λ x stands. (walked x stands).records

  pub recorded_then : (m n o : ScopeLists) (a b : Around) (ps qs : Spot → Placed) (f : Spot → Spot) → Grown n o
      → Walked store w m n a ps f b → Recorded store w n o b qs → Recorded store w m o a (λ x. ps x ++ qs (f x))
  recorded_then m n o a b ps qs f grown first second =
      λ x stands. let at = first x stands in
      records_append store w m n o (ps x) (qs (f x)) grown at.records (second (f x) at.stands)

  pub recorded_enter : (m n o : ScopeLists) (a r : Around) (inner : Spot → Spot) (ps : Spot → Placed) → Grown n o
      → Enters m n a inner r → Recorded store w n o r ps → Recorded store w m o a (λ x. ps (inner x))
  recorded_enter m n o a r inner ps grown enters recorded =
      λ x stands. records_before store m n o (SeenFrom store w (ps (inner x))) grown enters.by_expr
      (recorded (inner x) (enters.inside x stands))

  pub walked_enter : (m n o : ScopeLists) (a b r : Around) (inner : Spot → Spot) (ps : Spot → Placed) (f : Spot → Spot)
      → Walked store w m n a ps f b → Enters n o b inner r → Walked store w m o a ps (λ x. inner (f x)) r
  walked_enter m n o a b r inner ps f walked enters = λ x stands. walks_enter m n o b r inner (ps x) (f x) (walked x stands) enters

  -- behind it the scopes are those in front of it
  pub walked_back : (m n : ScopeLists) (a : Around) (ps : Spot → Placed) → Grown m n → Recorded store w m n a ps
      → Walked store w m n a ps (λ x. x) a
  walked_back m n a ps grown recorded = λ x stands. record { records = recorded x stands; stands = stands_grown m n a x grown stands }

  -- behind the first, where the second stands behind the first, beside it, or before the last
  pub walked_inner : (m n o : ScopeLists) (a b : Around) (ps qs : Spot → Placed) (f : Spot → Spot) → Grown n o
      → Walked store w m n a ps f b → Recorded store w n o b qs → Walked store w m o a (λ x. ps x ++ qs (f x)) f b
  walked_inner m n o a b ps qs f grown first second =
      λ x stands. record {
        records = recorded_then m n o a b ps qs f grown first second x stands;
        stands = stands_grown n o b (f x) grown (first x stands).stands;
      }

  pub walked_beside : (m n o : ScopeLists) (a b : Around) (ps qs : Spot → Placed) (f : Spot → Spot) → Grown m n → Grown n o
      → Walked store w m n a ps f b → Recorded store w n o a qs → Walked store w m o a (λ x. ps x ++ qs x) f b
  walked_beside m n o a b ps qs f more grown first second =
      λ x stands. let at = first x stands in record {
        records = records_append store w m n o (ps x) (qs x) grown at.records (second x (stands_grown m n a x more stands));
        stands = stands_grown n o b (f x) grown at.stands;
      }

  pub walked_last : (m n o : ScopeLists) (a b : Around) (ps qs : Spot → Placed) (f : Spot → Spot) → Grown m n → Grown n o
      → Recorded store w m n a ps → Walked store w n o a qs f b → Walked store w m o a (λ x. ps x ++ qs x) f b
  walked_last m n o a b ps qs f more grown first second =
      λ x stands. let last = second x (stands_grown m n a x more stands) in record {
        records = records_append store w m n o (ps x) (qs x) grown (first x stands) last.records;
        stands = last.stands;
      }

  pub recorded_constant : (m n : ScopeLists) (a : Around) (ps : Spot → Placed)
      → Recorded store w m n (record { scope = a.const_scope; const_scope = a.const_scope }) ps
      → Recorded store w m n a (λ x. ps (in_constant x))
  recorded_constant m n a ps recorded = λ x stands. recorded (in_constant x) (record { names = stands.items; items = stands.items })

  -- one part
  pub walked_part : (m n : ScopeLists) (a b : Around) (c : ExprId) → c.0 < w.0
      → ((x : Spot) → Stands m a x → Records store m n (Sees store c x))
      → ((x : Spot) → Stands m a x → Stands n b (in_scope x (after store c x.names)))
      → Walked store w m n a (λ x. (c, x) ∷ []) (past store (after_part store w) c) b
  walked_part m n a b c less recorded behind = λ x stands. walks_part m n b c x less (recorded x stands) (behind x stands)

  pub walked_no_part : (m : ScopeLists) (a : Around) (c : ExprId) → w.0 ≤ c.0
      → Walked store w m m a (λ x. (c, x) ∷ []) (past store (after_part store w) c) a
  walked_no_part m a c more = λ x stands. walks_no_part m a c x more stands

  -- loops

  pub each_next : (n o : ScopeLists) (b c : Around) (left : List ExprId) (e : ExprId) (rest : List ExprId) → left ≡ e ∷ rest → Grown n o
      → Walked store w n o b (λ x. (e, x) ∷ []) (past store (after_part store w) e) c → (y : Spot) → Stands n b y
      → Stands o c (past store (after_part store w) e y) × ((q : ScopeLists) (r : Around) → Grown o q
      → Walks store w o q r (placed_each store (after_part store w) rest (past store (after_part store w) e y))
      (in_scope (past store (after_part store w) e y)
      (after_each store (after_part store w) rest (past store (after_part store w) e y).names))
      → Walks store w n q r (placed_each store (after_part store w) left y)
      (in_scope y (after_each store (after_part store w) left y.names)))
  each_next n o b c left e rest is grown walked y stands =
      let at = walked y stands in
      let z = past store (after_part store w) e y in (
        at.stands,
        λ q r more walks.
            subst (λ es. Walks store w n q r (placed_each store (after_part store w) es y)
            (in_scope y (after_each store (after_part store w) es y.names))) (sym is)
            (walks_then n o q c r ((e, y) ∷ []) (placed_each store (after_part store w) rest z) z
            (in_scope z (after_each store (after_part store w) rest z.names)) more at walks),
      )

  pub each_end : (n : ScopeLists) (b : Around) (left : List ExprId) (y : Spot) → left ≡ [] → Stands n b y
      → Walks store w n n b (placed_each store (after_part store w) left y)
      (in_scope y (after_each store (after_part store w) left y.names))
  each_end n b left y is stands =
      subst (λ es. Walks store w n n b (placed_each store (after_part store w) es y)
      (in_scope y (after_each store (after_part store w) es y.names))) (sym is) (walks_none n b y stands)

  pub block_next : (n o : ScopeLists) (b c : Around) (left : List Statement) (s : Statement) (rest : List Statement)
      (tail : Option ExprId) → left ≡ s ∷ rest → Grown n o
      → Walked store w n o b (placed_statement store (after_part store w) s) (past_statement store (after_part store w) s) c
      → (y : Spot) → Stands n b y → Stands o c (past_statement store (after_part store w) s y) × ((q : ScopeLists) → Grown o q
      → Records store o q (SeenFrom store w (placed_block store (after_part store w) rest tail
      (past_statement store (after_part store w) s y)))
      → Records store n q (SeenFrom store w (placed_block store (after_part store w) left tail y)))
  block_next n o b c left s rest tail is grown walked y stands =
      let at = walked y stands in
      let z = past_statement store (after_part store w) s y in (
        at.stands,
        λ q more records.
            subst (λ ss. Records store n q (SeenFrom store w (placed_block store (after_part store w) ss tail y))) (sym is)
            (records_append store w n o q (placed_statement store (after_part store w) s y)
            (placed_block store (after_part store w) rest tail z) more at.records records),
      )

  pub block_end : (n o : ScopeLists) (left : List Statement) (tail : Option ExprId) (y : Spot) → left ≡ []
      → Records store n o (SeenFrom store w (placed_option store (after_part store w) tail y))
      → Records store n o (SeenFrom store w (placed_block store (after_part store w) left tail y))
  block_end n o left tail y is records =
      subst (λ ss. Records store n o (SeenFrom store w (placed_block store (after_part store w) ss tail y))) (sym is) records

  pub arms_next : (n o : ScopeLists) (x : Spot) (left : List MatchArm) (arm : MatchArm) (rest : List MatchArm) → left ≡ arm ∷ rest
      → Records store n o (SeenFrom store w (placed_arm store (after_part store w) x arm)) → (q : ScopeLists) → Grown o q
      → Records store o q (SeenFrom store w (flat_map (placed_arm store (after_part store w) x) rest))
      → Records store n q (SeenFrom store w (flat_map (placed_arm store (after_part store w) x) left))
  arms_next n o x left arm rest is first q more second =
      subst (λ es. Records store n q (SeenFrom store w (flat_map (placed_arm store (after_part store w) x) es))) (sym is)
      (records_append store w n o q (placed_arm store (after_part store w) x arm)
      (flat_map (placed_arm store (after_part store w) x) rest) more first second)

  pub arms_end : (n : ScopeLists) (x : Spot) (left : List MatchArm) → left ≡ []
      → Records store n n (SeenFrom store w (flat_map (placed_arm store (after_part store w) x) left))
  arms_end n x left is =
      subst (λ es. Records store n n (SeenFrom store w (flat_map (placed_arm store (after_part store w) x) es))) (sym is)
      (records_none store n n (SeenFrom store w []) refl (λ e y seen. elim seen.2 [ ]))
