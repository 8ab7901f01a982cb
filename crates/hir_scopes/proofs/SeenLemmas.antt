-- What is seen from an expression is the expression itself, or is seen from one of its parts.
use Rattle.std.proofs.Common.{◌≡◌, ◌⊎◌, inl, inr, sym, subst, ◌<◌, [], ◌∷◌, ◌++◌, Option, Some, None, slice_get}
use Rattle.hir_store.specs.declared.hir.Expr.{Expr}
use Rattle.hir_store.specs.declared.ids.ExprId.{ExprId}
use Rattle.hir_store.specs.Stored.{Store}
use Rattle.hir_scopes.specs.Records.{Is, SeenFrom, it_is}
use Rattle.spec_scopes.specs.Placed.{Among, Placed, Sees, Spot, after_part, at_root, inside, placed}

pub among_left : (c : ExprId) (z : Spot) (ps qs : Placed) → Among c z ps → Among c z (ps ++ qs)
among_left c z [] qs among = elim among [ ]
among_left c z (p ∷ ps) qs (inl is) = inl is
among_left c z (p ∷ ps) qs (inr among) = inr (among_left c z ps qs among)

pub among_right : (c : ExprId) (z : Spot) (ps qs : Placed) → Among c z qs → Among c z (ps ++ qs)
among_right c z [] qs among = among
among_right c z (p ∷ ps) qs among = inr (among_right c z ps qs among)

pub among_either : (c : ExprId) (z : Spot) (ps qs : Placed) → Among c z (ps ++ qs) → Among c z ps ⊎ Among c z qs
among_either c z [] qs among = inr among
among_either c z (p ∷ ps) qs (inl is) = inl (inl is)
among_either c z (p ∷ ps) qs (inr among) = elim (among_either c z ps qs among) [ inl it ↦ inl (inr it) | inr it ↦ inr it ]

module _ (store : Store) where
  abbrev pub placed_found : ExprId → Option Expr → Spot → Placed
  placed_found e None x = []
  placed_found e (Some f) x = placed store (after_part store e) f x

  pub seen_through : (r : ExprId) (x : Spot) (f : Expr) → slice_get store.exprs r.0 ≡ Some f → (c : ExprId) (z : Spot)
      → Among c z (placed store (after_part store r) f x) → c.0 < r.0 → {e : ExprId} {y : Spot} → Sees store c z e y → Sees store r x e y
  seen_through r x f is c z among less at_root = inside f at_root is among less
  seen_through r x f is c z among less (inside g seen there part below) =
      inside g (seen_through r x f is c z among less seen) there part below

  step : (r : ExprId) (x : Spot) {e : ExprId} {z : Spot} (f : Expr) (c : ExprId) (y : Spot) → slice_get store.exprs e.0 ≡ Some f
      → Among c y (placed store (after_part store e) f z) → c.0 < e.0 → Is r x e z
      → SeenFrom store r (placed_found r (slice_get store.exprs r.0) x) c y
  step r x f c y there part below it_is =
      (c, y, subst (λ o. Among c y (placed_found r o x)) (sym there) part, below, at_root)

  pub seen_parts : (r : ExprId) (x : Spot) {e : ExprId} {y : Spot} → Sees store r x e y
      → Is r x e y ⊎ SeenFrom store r (placed_found r (slice_get store.exprs r.0) x) e y
  seen_parts r x at_root = inl it_is
  seen_parts r x (inside {e} {c} {x = z} {y} f seen there part below) =
      elim (seen_parts r x seen) [
        | inl is ↦ inr (step r x f c y there part below is)
        | inr it ↦ inr (it.0, it.1, it.2, it.3, inside f it.4 there part below)
      ]
