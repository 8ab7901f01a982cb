-- What is recorded by two steps, one behind the other.
use Rattle.std.proofs.Common.{arith, ◌≡◌, ◌⊎◌, ◌∙◌, inl, inr, sym, ap, subst, ◌<◌, ◌++◌, Some, None}
use Rattle.std.proofs.Common.{length, slice_get, slice_set}
use Rattle.hir_store.specs.declared.hir.Expr.{Expr}
use Rattle.hir_store.specs.declared.ids.ExprId.{ExprId}
use Rattle.hir_store.specs.Stored.{Store}
use Rattle.hir_scopes.specs.declared.scope.ScopeId.{ScopeId}
use Rattle.hir_scopes.specs.Bounds.{ScopeLists}
use Rattle.hir_scopes.specs.Chains.{Grown, IsChain}
use Rattle.hir_scopes.specs.Records.{Is, Records, SeenFrom, it_is}
use Rattle.spec_scopes.specs.Placed.{Among, Placed, Sees, Spot, after_part, at_root, placed, recorded}
use Rattle.hir_scopes.proofs.Lists.{get_at_set, get_set, length_set, stays_set}
use Rattle.hir_scopes.proofs.ChainLemmas.{chain_grown}
use Rattle.hir_scopes.proofs.SeenLemmas.{among_either, among_left, among_right, placed_found, seen_parts, seen_through}

module _ (store : Store) where
  -- a step that records nothing
  pub records_none : (m n : ScopeLists) (Seen : ExprId → Spot → Type 0) → n.by_expr ≡ m.by_expr → ((e : ExprId) (y : Spot) → Seen e y → ⊥)
      → Records store m n Seen
  records_none m n Seen same none = record {
    exprs = ap length same;
    new = λ e s has. inl (ap (λ xs. slice_get xs e.0) (sym same) ∙ has);
    all = λ e y seen less. elim (none e y seen) [ ];
    kept = λ e s has. (s, ap (λ xs. slice_get xs e.0) same ∙ has);
  }

  -- the same is seen
  pub records_as : (m n : ScopeLists) (P Q : ExprId → Spot → Type 0) → ((e : ExprId) (y : Spot) → P e y → Q e y)
      → ((e : ExprId) (y : Spot) → Q e y → P e y) → Records store m n P → Records store m n Q
  records_as m n P Q there back records = record {
    exprs = records.exprs;
    new = λ e s has. elim (records.new e s has) [ inl it ↦ inl it | inr it ↦ inr (it.0, there e it.0 it.1, it.2) ];
    all = λ e y seen less. records.all e y (back e y seen) less;
    kept = records.kept;
  }

  -- two steps
  pub records_both : (m n o : ScopeLists) (P Q : ExprId → Spot → Type 0) → Grown n o → Records store m n P → Records store n o Q
      → Records store m o (λ e y. P e y ⊎ Q e y)
  records_both m n o P Q grown first second = record {
    exprs = second.exprs ∙ first.exprs;
    new = λ e s has. elim (second.new e s has) [
      | inl it ↦ (elim (first.new e s it) [
        | inl old ↦ inl old
        | inr at ↦ inr (at.0, inl at.1, chain_grown n o grown (Some s) (recorded store e at.0) at.2)
      ])
      | inr it ↦ inr (it.0, inr it.1, it.2)
    ];
    all = λ e y seen less. elim seen [
      | inl it ↦ (let at = first.all e y it less in second.kept e at.0 at.1)
      | inr it ↦ second.all e y it (omega (arith, less, first.exprs))
    ];
    kept = λ e s has. let at = first.kept e s has in second.kept e at.0 at.1;
  }

  -- a step that only adds scopes, before and behind
  pub records_behind : (m n o : ScopeLists) (P : ExprId → Spot → Type 0) → Grown n o → o.by_expr ≡ n.by_expr → Records store m n P
      → Records store m o P
  records_behind m n o P grown same records =
      records_as m o (λ e y. P e y ⊎ ⊥) P (λ e y seen. elim seen [ inl it ↦ it | inr it ↦ elim it [ ] ]) (λ e y seen. inl seen)
      (records_both m n o P (λ e y. ⊥) grown records (records_none n o (λ e y. ⊥) same (λ e y seen. seen)))

  pub records_before : (m n o : ScopeLists) (P : ExprId → Spot → Type 0) → Grown n o → n.by_expr ≡ m.by_expr → Records store n o P
      → Records store m o P
  records_before m n o P grown same records =
      records_as m o (λ e y. ⊥ ⊎ P e y) P (λ e y seen. elim seen [ inl it ↦ elim it [ ] | inr it ↦ it ]) (λ e y seen. inr seen)
      (records_both m n o (λ e y. ⊥) P grown (records_none m n (λ e y. ⊥) same (λ e y seen. seen)) records)

  -- what is placed in two lists
  pub records_append : (w : ExprId) (m n o : ScopeLists) (ps qs : Placed) → Grown n o → Records store m n (SeenFrom store w ps)
      → Records store n o (SeenFrom store w qs) → Records store m o (SeenFrom store w (ps ++ qs))
  records_append w m n o ps qs grown first second =
      records_as m o (λ e y. SeenFrom store w ps e y ⊎ SeenFrom store w qs e y) (SeenFrom store w (ps ++ qs))
      (λ e y seen. elim seen [
        | inl it ↦ (it.0, it.1, among_left it.0 it.1 ps qs it.2, it.3, it.4)
        | inr it ↦ (it.0, it.1, among_right it.0 it.1 ps qs it.2, it.3, it.4)
      ])
      (λ e y seen. elim (among_either seen.0 seen.1 ps qs seen.2) [
        | inl it ↦ inl (seen.0, seen.1, it, seen.3, seen.4)
        | inr it ↦ inr (seen.0, seen.1, it, seen.3, seen.4)
      ])
      (records_both m n o (SeenFrom store w ps) (SeenFrom store w qs) grown first second)

  -- the scope of one expression is written
  pub records_set : (m n : ScopeLists) (r : ExprId) (x : Spot) (s : ScopeId) → n.by_expr ≡ slice_set m.by_expr r.0 (Some s)
      → IsChain n (Some s) (recorded store r x) → Records store m n (Is r x)
  records_set m n r x s written chain = record {
    exprs = ap length written ∙ length_set m.by_expr r.0 (Some s);
    new = λ e t has. elim (get_set m.by_expr r.0 e.0 (Some s) (Some t) (ap (λ xs. slice_get xs e.0) (sym written) ∙ has)) [
      | inl it ↦ inr (
        x,
        is_at e it.0,
        subst (λ b. IsChain n (Some b) (recorded store e x)) (same_scope t it.1)
            (subst (λ b. IsChain n (Some s) (recorded store b x)) (sym (same_id e it.0)) chain),
      )
      | inr it ↦ inl it
    ];
    all = λ e y is less. (s, ap (λ xs. slice_get xs e.0) written ∙ set_at e y is less);
    kept = λ e t has. elim (stays_set m.by_expr r.0 e.0 (Some s) (Some t) has) [
      | inl it ↦ (
        s,
        ap (λ xs. slice_get xs e.0) written
            ∙ (ap (slice_get (slice_set m.by_expr r.0 (Some s))) it.0 ∙ get_at_set m.by_expr r.0 (Some s) it.1),
      )
      | inr it ↦ (t, ap (λ xs. slice_get xs e.0) written ∙ it)
    ];
  }
    where
      same_id : (e : ExprId) → e.0 ≡ r.0 → e ≡ r
      same_id e is = λ i. record { 0 = is i }

      is_at : (e : ExprId) → e.0 ≡ r.0 → Is r x e x
      is_at e is = subst (λ b. Is r x b x) (sym (same_id e is)) it_is

      same_scope : (t : ScopeId) → Some (Some s) ≡ Some (Some t) → s ≡ t
      same_scope t is = grind (arith, is)

      set_at : (e : ExprId) (y : Spot) → Is r x e y → e.0 < length m.by_expr
          → slice_get (slice_set m.by_expr r.0 (Some s)) e.0 ≡ Some (Some s)
      set_at _ _ it_is less = get_at_set m.by_expr r.0 (Some s) less

  at_itself : (r : ExprId) (x : Spot) (e : ExprId) (y : Spot) → Is r x e y → Sees store r x e y
  at_itself r x _ _ it_is = at_root

  -- an expression and its parts
  pub records_whole : (m o : ScopeLists) (r : ExprId) (x : Spot) (f : Expr) → slice_get store.exprs r.0 ≡ Some f
      → Records store m o (λ e y. Is r x e y ⊎ SeenFrom store r (placed store (after_part store r) f x) e y)
      → Records store m o (Sees store r x)
  records_whole m o r x f is records =
      records_as m o (λ e y. Is r x e y ⊎ SeenFrom store r (placed store (after_part store r) f x) e y) (Sees store r x)
      (λ e y seen. elim seen [
        | inl it ↦ at_itself r x e y it
        | inr it ↦ seen_through store r x f is it.0 it.1 it.2 it.3 it.4
      ])
      (λ e y seen. elim (seen_parts store r x seen) [
        | inl it ↦ inl it
        | inr it ↦ inr (it.0, it.1, subst (λ o. Among it.0 it.1 (placed_found store r o x)) is it.2, it.3, it.4)
      ])
      records

  -- an expression that isn't there
  pub records_alone : (m n : ScopeLists) (r : ExprId) (x : Spot) → slice_get store.exprs r.0 ≡ None → Records store m n (Is r x)
      → Records store m n (Sees store r x)
  records_alone m n r x none records =
      records_as m n (Is r x) (Sees store r x) (at_itself r x)
      (λ e y seen. elim (seen_parts store r x seen) [
        | inl it ↦ it
        | inr it ↦ elim (subst (λ o. Among it.0 it.1 (placed_found store r o x)) none it.2) [ ]
      ])
      records
