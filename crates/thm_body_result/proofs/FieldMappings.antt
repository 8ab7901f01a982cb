-- Where the values of fields lead once one more does.
use Rattle.std.proofs.Common.{◌≡◌, ◌∙◌, refl, sym, ap, subst, List, [], ◌∷◌, ◌++◌, Bool, true, false, if◌then◌else◌, Option, Some, None}
use Rattle.std.proofs.Common.{is_some, Contains, ◌⊎◌, inl, inr, ⊎_elim, true≢false}
use Rattle.std.proofs.lemmas.Bool.{eqb-true, eq-eqb}
use Rattle.std.proofs.lemmas.List.Elements.{Contains-append_left, Contains-push, Contains-push_cases}
use Rattle.indexmap.specs.IndexMap.{insert_entry}
use Rattle.hir_store.specs.FirstMap.{found_by, with_first_by}
use Rattle.hir_store.specs.Pointers.{Pointer}
use Rattle.hir_store.specs.StoreSink.{same_expr, same_pat}
use Rattle.hir_store.specs.declared.ids.ExprId.{ExprId}
use Rattle.hir_store.specs.declared.ids.PatId.{PatId}
use Rattle.hir_store.proofs.Arenas.{first_stays}
use Rattle.thm_body_result.specs.Leads.{Mapping, FieldsLead}

-- numbers of expressions, and of patterns

pub expr_is : (i j : ExprId) → same_expr i j ≡ true → i ≡ j
expr_is i j e = let n = eqb-true i.0 j.0 e in λ k. record { 0 = n k }

pub expr_self : (i : ExprId) → same_expr i i ≡ true
expr_self i = eq-eqb i.0 i.0 refl

pub pat_is : (i j : PatId) → same_pat i j ≡ true → i ≡ j
pat_is i j e = let n = eqb-true i.0 j.0 e in λ k. record { 0 = n k }

pub pat_self : (i : PatId) → same_pat i i ≡ true
pat_self i = eq-eqb i.0 i.0 refl

module _ {I : Type 0} (same : I → I → Bool) (is_same : (i j : I) → same i j ≡ true → i ≡ j) (same_self : (i : I) → same i i ≡ true) where
  abbrev Fields : Type 0
  Fields = List (I × Pointer)

  abbrev found : Fields → I → Option Pointer
  found es i = found_by same es i

  -- what was found is found still
  found_behind : (es more : Fields) (i : I) (p : Pointer) → found es i ≡ Some p → found (es ++ more) i ≡ Some p
  found_behind [] more i p h = absurd (true≢false (sym (ap is_some h)))
  found_behind (e ∷ es) more i p h = by (same i e.0) (found_behind es more i p) h
    where
      by : (b : Bool) → (found es i ≡ Some p → found (es ++ more) i ≡ Some p) → (if b then Some e.1 else found es i) ≡ Some p
          → (if b then Some e.1 else found (es ++ more) i) ≡ Some p
      by true k h = h
      by false k h = k h

  module _ (i : I) (p : Pointer) where
    abbrev inserted : Fields → Fields
    inserted es = insert_entry same es i p

    abbrev pub pointed : Fields → Fields
    pointed es = with_first_by same es i p

    inserted_new : (es : Fields) → found (inserted es) i ≡ Some p
    inserted_new [] = ap (λ b. if b then Some p else None) (same_self i)
    inserted_new (e ∷ es) = by (same i e.0) refl (inserted_new es)
      where
        by : (b : Bool) → same i e.0 ≡ b → found (inserted es) i ≡ Some p
            → found (if b then (e.0, p) ∷ es else e ∷ inserted es) i ≡ Some p
        by true h k = ap (λ b. if b then Some p else found es i) h
        by false h k = ap (λ b. if b then Some e.1 else found (inserted es) i) h ∙ k

    inserted_split : (es : Fields) (j : I) (q : Pointer) → found (inserted es) j ≡ Some q
        → (found es j ≡ Some q) ⊎ ((i ≡ j) × (p ≡ q))
    inserted_split [] j q h = by (same j i) refl h
      where
        by : (b : Bool) → same j i ≡ b → (if b then Some p else None) ≡ Some q → (found [] j ≡ Some q) ⊎ ((i ≡ j) × (p ≡ q))
        by true e k = inr (sym (is_same j i e), cc)
        by false e k = inl k
    inserted_split (e ∷ es) j q h = by (inserted_split es j q) (same i e.0) refl (same j e.0) refl h
      where
        by : (found (inserted es) j ≡ Some q → (found es j ≡ Some q) ⊎ ((i ≡ j) × (p ≡ q))) → (b : Bool) → same i e.0 ≡ b
            → (c : Bool) → same j e.0 ≡ c → found (if b then (e.0, p) ∷ es else e ∷ inserted es) j ≡ Some q
            → (found (e ∷ es) j ≡ Some q) ⊎ ((i ≡ j) × (p ≡ q))
        by others true m true n k =
            let w : Some p ≡ Some q = sym (ap (λ b. if b then Some p else found es j) n) ∙ k in
            inr (is_same i e.0 m ∙ sym (is_same j e.0 n), cc)
        by others true m false n k =
            inl (ap (λ b. if b then Some e.1 else found es j) n ∙ (sym (ap (λ b. if b then Some p else found es j) n) ∙ k))
        by others false m true n k =
            inl (ap (λ b. if b then Some e.1 else found es j) n ∙ (sym (ap (λ b. if b then Some e.1 else found (inserted es) j) n) ∙ k))
        by others false m false n k =
            let later = others (sym (ap (λ b. if b then Some e.1 else found (inserted es) j) n) ∙ k) in
            ⊎_elim (λ x. inl (ap (λ b. if b then Some e.1 else found es j) n ∙ x)) (λ x. inr x) later

    pointed_still : (es : Fields) (j : I) (q : Pointer) → found es j ≡ Some q → found (pointed es) j ≡ Some q
    pointed_still es j q h =
        let stays = first_stays same es i p in
        ap (λ fs. found fs j) stays.is ∙ found_behind es stays.more j q h

    pointed_new : (es : Fields) → (q : Pointer) × (found (pointed es) i ≡ Some q)
    pointed_new es = by (found es i) refl
      where
        by : (o : Option Pointer) → found es i ≡ o → (q : Pointer) × (found (if is_some o then es else inserted es) i ≡ Some q)
        by None h = (p, inserted_new es)
        by (Some q) h = (q, h)

    pointed_split : (es : Fields) (j : I) (q : Pointer) → found (pointed es) j ≡ Some q → (found es j ≡ Some q) ⊎ ((i ≡ j) × (p ≡ q))
    pointed_split es j q h = by (is_some (found es i)) h
      where
        by : (b : Bool) → found (if b then es else inserted es) j ≡ Some q → (found es j ≡ Some q) ⊎ ((i ≡ j) × (p ≡ q))
        by true h = inl h
        by false h = inserted_split es j q h

  module _ (mapping : I → Pointer → Mapping) (es : Fields) (ws : List Mapping) (h : FieldsLead same es mapping ws) where
    pub fields_more : ((i j : I) (p q : Pointer) → mapping i p ≡ mapping j q → (i ≡ j) × (p ≡ q)) → (i : I) (p : Pointer)
        → FieldsLead same (pointed i p es) mapping (ws ++ mapping i p ∷ [])
    fields_more split i p = record {
      each = λ j q c. ⊎_elim (λ old. let was = h.each j q old in (was.0, pointed_still i p es j was.0 was.1))
          (λ e. let at : i ≡ j = (split i j p q e).0 in
          let new = pointed_new i p es in (new.0, subst (λ k. found (pointed i p es) k ≡ Some new.0) at new.1))
          (Contains-push_cases ws (mapping i p) (mapping j q) c);
      only = λ j q f. ⊎_elim (λ old. Contains-append_left ws (mapping i p ∷ []) (mapping j q) (h.only j q old))
          (λ e. subst (λ w. Contains (ws ++ mapping i p ∷ []) w) (λ k. mapping (e.0 k) (e.1 k)) (Contains-push ws (mapping i p)))
          (pointed_split i p es j q f);
    }

    pub fields_beside : (w : Mapping) → ((i : I) (p : Pointer) → w ≡ mapping i p → ⊥) → FieldsLead same es mapping (ws ++ w ∷ [])
    fields_beside w other = record {
      each = λ j q c. ⊎_elim (λ old. h.each j q old) (λ e. absurd (other j q e)) (Contains-push_cases ws w (mapping j q) c);
      only = λ j q f. Contains-append_left ws (w ∷ []) (mapping j q) (h.only j q f);
    }

    pub fields_as : (vs : List Mapping) → ((w : Mapping) → Contains ws w → Contains vs w) → ((w : Mapping) → Contains vs w → Contains ws w)
        → FieldsLead same es mapping vs
    fields_as vs forth back = record { each = λ j q c. h.each j q (back _ c); only = λ j q f. forth _ (h.only j q f) }
