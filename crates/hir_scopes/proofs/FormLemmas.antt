-- A form that opens no scope.
use Rattle.std.proofs.Common.{arith, ◌≡◌, ◌∙◌, refl, sym, subst, true, false, List, ◌∷◌, []}
use Rattle.std.specs.List.{flat_map}
use Rattle.hir_store.specs.declared.hir.Expr.{Expr}
use Rattle.hir_store.specs.declared.hir.Expr.TheVariants as hir
use Rattle.hir_store.specs.declared.hir.Array.TheVariants as array
use Rattle.hir_store.specs.declared.ids.ExprId.{ExprId}
use Rattle.hir_store.specs.Stored.{Store}
use Rattle.hir_store.specs.declared.hir.MatchArm.{MatchArm}
use Rattle.hir_store.specs.declared.ids.PatId.{PatId}
use Rattle.hir_scopes.specs.declared.opening.Around.{Around}
use Rattle.hir_scopes.specs.Bounds.{ScopeLists}
use Rattle.hir_scopes.specs.Forms.{is_plain}
use Rattle.hir_scopes.specs.Records.{Recorded, Walked, Walks}
use Rattle.spec_scopes.specs.Placed.{Spot, after_each, after_form, after_part, in_scope, past, placed, placed_arm, placed_each, plain_parts}
use Rattle.spec_scopes.specs.Scopes.{Scopes, pats_scope}

no_plain : {A : Type 0} → false ≡ true → A
no_plain is = absurd (grind (arith, is))

module _ (store : Store) (after : ExprId → Scopes → Scopes) where
  pub plain_placed : (f : Expr) (x : Spot) → is_plain f ≡ true → placed store after f x ≡ placed_each store after (plain_parts store f) x
  plain_placed (hir.Block is_unsafe label id statements tail) x plain = no_plain plain
  plain_placed (hir.Const c) x plain = no_plain plain
  plain_placed (hir.Loop b label source) x plain = no_plain plain
  plain_placed (hir.Closure args arg_types ret_type body kind capture) x plain = no_plain plain
  plain_placed (hir.Array (array.Repeat e c)) x plain = no_plain plain
  plain_placed (hir.Match e arms) x plain = no_plain plain
  plain_placed (hir.If c t e) x plain = no_plain plain
  plain_placed (hir.Let p e) x plain = no_plain plain
  plain_placed _ x plain = refl

  pub plain_after : (f : Expr) (ss : Scopes) → is_plain f ≡ true
      → after_form store after f ss ≡ after_each store after (plain_parts store f) ss
  plain_after (hir.Block is_unsafe label id statements tail) ss plain = no_plain plain
  plain_after (hir.Const c) ss plain = no_plain plain
  plain_after (hir.Loop b label source) ss plain = no_plain plain
  plain_after (hir.Closure args arg_types ret_type body kind capture) ss plain = no_plain plain
  plain_after (hir.Array (array.Repeat e c)) ss plain = no_plain plain
  plain_after (hir.Match e arms) ss plain = no_plain plain
  plain_after (hir.If c t e) ss plain = no_plain plain
  plain_after (hir.Let p e) ss plain = no_plain plain
  plain_after _ ss plain = refl

-- the same lists, as the code has them

module _ (store : Store) (id : ExprId) (m n : ScopeLists) (a : Around) where
  pub plain_walked : (b : Around) (f : Expr) (es ds : List ExprId) → es ≡ ds → ds ≡ plain_parts store f → is_plain f ≡ true
      → Walked store id m n a (placed_each store (after_part store id) es)
      (λ x. in_scope x (after_each store (after_part store id) es x.names)) b
      → Walked store id m n a (placed store (after_part store id) f)
      (λ x. in_scope x (after_form store (after_part store id) f x.names)) b
  plain_walked b f es ds first second plain walked =
      λ x stands.
      let one = subst (λ cs. Walks store id m n b (placed_each store (after_part store id) cs x)
      (in_scope x (after_each store (after_part store id) cs x.names))) (first ∙ second) (walked x stands) in
      let two = subst (λ ss. Walks store id m n b (placed_each store (after_part store id) (plain_parts store f) x) (in_scope x ss))
      (sym (plain_after store (after_part store id) f x.names plain)) one in
      subst (λ ps. Walks store id m n b ps (in_scope x (after_form store (after_part store id) f x.names)))
      (sym (plain_placed store (after_part store id) f x plain)) two

  pub closure_as : (ps qs : List PatId) (body : ExprId) → ps ≡ qs
      → Recorded store id m n a (λ x. (body, in_scope x (pats_scope store ps ∷ x.names)) ∷ [])
      → Recorded store id m n a (λ x. (body, in_scope x (pats_scope store qs ∷ x.names)) ∷ [])
  closure_as ps qs body same recorded =
      subst (λ rs. Recorded store id m n a (λ x. (body, in_scope x (pats_scope store rs ∷ x.names)) ∷ [])) same recorded

  pub match_as : (b : Around) (e : ExprId) (arms others : List MatchArm) → arms ≡ others
      → Walked store id m n a (λ x. (e, x) ∷ flat_map (placed_arm store (after_part store id) (past store (after_part store id) e x)) arms)
      (past store (after_part store id) e) b
      → Walked store id m n a
      (λ x. (e, x) ∷ flat_map (placed_arm store (after_part store id) (past store (after_part store id) e x)) others)
      (past store (after_part store id) e) b
  match_as b e arms others same walked =
      subst (λ es. Walked store id m n a
      (λ x. (e, x) ∷ flat_map (placed_arm store (after_part store id) (past store (after_part store id) e x)) es)
      (past store (after_part store id) e) b) same walked
