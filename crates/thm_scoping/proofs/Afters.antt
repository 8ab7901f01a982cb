-- The scopes behind a stored expression, one step inward.
use Rattle.std.proofs.Common.{arith, ◌≡◌, ◌∙◌, refl, sym, ap, ◌<◌, ℕ, zero, suc, Bool, true, false, true≢false, if◌then◌else◌, nat_lt, Some}
use Rattle.std.proofs.Common.{slice_get, Option, None, option_to_list, List, [], ◌∷◌}
use Rattle.std.proofs.lemmas.Bool.{lt-ltb, ltb-true}
use Rattle.hir_store.specs.Stored.{Store}
use Rattle.hir_store.specs.declared.hir.Expr.{Expr}
use Rattle.hir_store.specs.declared.ids.ExprId.{ExprId}
use Rattle.spec_scopes.specs.Placed.{after, after_below, after_each, after_form, after_found, after_option, after_part, after_to}
use Rattle.spec_scopes.specs.Scopes.{Scopes}

if_same : (t : Bool) (a b c : Scopes) → (t ≡ true → a ≡ b) → (if t then a else c) ≡ (if t then b else c)
if_same true a b c h = h refl
if_same false a b c h = refl

if_true : (t : Bool) (a b : Scopes) → t ≡ true → (if t then a else b) ≡ a
if_true true a b e = refl
if_true false a b e = absurd (true≢false (sym e))

if_either : (t : Bool) (a b : Scopes) → a ≡ b → (if t then a else b) ≡ b
if_either true a b e = e
if_either false a b e = refl

module _ (store : Store) where
  below_same : (f g : ExprId → Scopes → Scopes) (e : ExprId) → ((b : ExprId) (ss : Scopes) → b.0 < e.0 → f b ss ≡ g b ss)
      → after_below store f e ≡ after_below store g e
  below_same f g e h = λ i b ss. if_same (nat_lt b.0 e.0) (f b ss) (g b ss) ss (λ t. h b ss (ltb-true b.0 e.0 t)) i

  -- more levels than the id counts change nothing
  same_depth : (d e : ℕ) (c : ExprId) (ss : Scopes) → c.0 < d → c.0 < e → after_to store d c ss ≡ after_to store e c ss
  unfolding after_to
  same_depth zero e c ss less more = absurd (omega (arith, less))
  same_depth (suc d) zero c ss less more = absurd (omega (arith, more))
  same_depth (suc d) (suc e) c ss less more = ap (λ f. after_found store f (slice_get store.exprs c.0) ss)
      (below_same (after_to store d) (after_to store e) c
      (λ b ts lower. same_depth d e b ts (omega (arith, lower, less)) (omega (arith, lower, more))))

  pub after_is : (e : ExprId) (f : Expr) → slice_get store.exprs e.0 ≡ Some f → (ss : Scopes)
      → after store e ss ≡ after_form store (after_part store e) f ss
  unfolding after_to
  after_is e f found ss =
      ap (λ o. after_found store (after_below store (after_to store e.0) e) o ss) found
      ∙ ap (λ g. after_form store g f ss) (below_same (after_to store e.0) (after store) e
      (λ b ts lower. same_depth e.0 (suc b.0) b ts lower (omega arith)))

  pub part_is : (e c : ExprId) (ss : Scopes) → c.0 < e.0 → after_part store e c ss ≡ after store c ss
  part_is e c ss lower = if_true (nat_lt c.0 e.0) (after store c ss) ss (lt-ltb c.0 e.0 lower)

  pub part_passed : (e c : ExprId) (ss : Scopes) → after store c ss ≡ ss → after_part store e c ss ≡ ss
  part_passed e c ss nothing = if_either (nat_lt c.0 e.0) (after store c ss) ss nothing

  pub option_is : (g : ExprId → Scopes → Scopes) (o : Option ExprId) (ss : Scopes)
      → after_option store g o ss ≡ after_each store g (option_to_list o) ss
  option_is g None ss = refl
  option_is g (Some e) ss = refl
