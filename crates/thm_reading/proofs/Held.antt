-- Which conditions hold a `let`: for all trees.
use Rattle.std.proofs.Common.{◌≡◌, ◌↔◌, refl, Bool, true, false, ◌||◌, subst}
use Rattle.hir_base.specs.declared.op.LogicOp.TheVariants as logic
use Rattle.hir_env.specs.ResolvedTree as tree
use Rattle.hir_env.specs.ResolvedTree.{Expr, OptionExpr}
use Rattle.hir_env.specs.Conditions.{holds_let, is_with_let}
use Rattle.thm_reading.specs.Conditions as held
use Rattle.thm_reading.specs.Conditions.{HoldsLet}

abbrev fails : Bool → Type 0
fails true = ⊥
fails false = Unit {0}

clash : {A : Type 0} → false ≡ true → A
clash h = absurd (subst fails h tt)

by_either : (x y : Bool) (A : Type 0) → (x ≡ true → A) → (y ≡ true → A) → (x || y) ≡ true → A
by_either true y A f g h = f refl
by_either false y A f g h = g h

left_true : (x y : Bool) → x ≡ true → (x || y) ≡ true
left_true true y h = refl
left_true false y h = clash h

right_true : (x y : Bool) → y ≡ true → (x || y) ≡ true
right_true true y h = refl
right_true false y h = h

mutual
  emits : (e : OptionExpr) → holds_let e ≡ true → HoldsLet e
  emits tree.no_expr h = clash h
  emits (tree.some_expr e) h = emits_in e h

  emits_in : (e : Expr) → is_with_let e ≡ true → HoldsLet (tree.some_expr e)
  emits_in (tree.let_expr at p e) h = held.it_is_one
  emits_in (tree.paren_expr at e) h = held.in_parentheses (emits e h)
  emits_in (tree.macro_expr at c e) h = held.in_its_call (emits e h)
  emits_in (tree.lazy_expr at logic.And a b) h = by_either (holds_let a) (holds_let b) _
      (λ k. held.on_the_left (emits a k)) (λ k. held.on_the_right (emits b k)) h
  emits_in _ h = clash h

emitted : (e : OptionExpr) → HoldsLet e → holds_let e ≡ true
emitted _ held.it_is_one = refl
emitted _ (held.in_parentheses {e = e} h) = emitted e h
emitted _ (held.in_its_call {e = e} h) = emitted e h
emitted _ (held.on_the_left {a = a} {b = b} h) = left_true (holds_let a) (holds_let b) (emitted a h)
emitted _ (held.on_the_right {a = a} {b = b} h) = right_true (holds_let a) (holds_let b) (emitted b h)

pub emits_lets : (e : OptionExpr) → (holds_let e ≡ true) ↔ HoldsLet e
emits_lets e = (emits e, emitted e)
