-- Where the source map leads once something more comes from the node of what was stored before it: to that, and no more to those.
use Rattle.std.proofs.Common.{arith, ◌≡◌, ◌∙◌, refl, sym, ap, subst, length, map, Bool, true, false, if◌then◌else◌, true≢false}
use Rattle.std.proofs.Common.{List, [], ◌∷◌, ◌++◌, suc, Some, Contains, ◌⊎◌, inl, inr, ⊎_elim}
use Rattle.std.proofs.lemmas.List.Elements.{Contains-append_left, Contains-append_right, Contains-append_cases, Contains-push}
use Rattle.std.proofs.lemmas.List.Elements.{Contains-push_cases}
use Rattle.indexmap.specs.IndexMap.{insert_entry}
use Rattle.hir_store.specs.Pointers.{Pointer, same_pointer, value_at}
use Rattle.hir_store.specs.Stored.{Stored, map_of}
use Rattle.hir_store.specs.StoreSink.{expr_id}
use Rattle.hir_store.proofs.Maps.{found_new, found_other, pointer_is, same_self}
use Rattle.hir_store.specs.declared.hir.Expr.{Expr}
use Rattle.hir_store.specs.declared.ids.ExprId.{ExprId}
use Rattle.thm_logic.proofs.Steps.{with_expr}
use Rattle.thm_body_result.specs.Leads.{Mapping, expr_mapping, label_mapping, unled_mapping, field_mapping, pat_field_mapping}
use Rattle.thm_body_result.specs.Leads.{binding_mapping, label_mappings, mapping_after}
use Rattle.thm_body_result.specs.Leads.{Leads, Led, OneMapping, Overtaken, Mappings, ◌&◌}
use Rattle.thm_body_result.proofs.Leading.{Moved, Shown, moved_then, same_number, shown_new, shown_to}
use Rattle.thm_body_result.proofs.Members.{contains_map, map_contains}
use Rattle.thm_body_result.proofs.OwnersMoved.{owners_as}

-- ways that are overtaken at a node

module _ (p : Pointer) where
  -- one that begins elsewhere stays
  stays : (q : Pointer) (i : ExprId) → same_pointer p q ≡ false → mapping_after p (expr_mapping q i) ≡ expr_mapping q i
  stays q i e = ap (λ b. if b then unled_mapping i else expr_mapping q i) e

  elsewhere : (q : Pointer) (i j : ExprId) → same_pointer p q ≡ false → expr_mapping p i ≡ expr_mapping q j → ⊥
  elsewhere q i j s e = let is : p ≡ q = cc in true≢false (sym (subst (λ r. same_pointer p r ≡ true) is (same_self p)) ∙ s)

  -- what still leads somewhere did so before
  was : (v w : Mapping) → ((i : ExprId) → unled_mapping i ≡ w → ⊥) → mapping_after p v ≡ w → v ≡ w
  was (expr_mapping q i) w none e = by (same_pointer p q) e
    where
      by : (b : Bool) → (if b then unled_mapping i else expr_mapping q i) ≡ w → expr_mapping q i ≡ w
      by true e = absurd (none i e)
      by false e = e
  was (label_mapping q n) w none e = e
  was (unled_mapping i) w none e = e
  was (field_mapping i q) w none e = e
  was (pat_field_mapping i q) w none e = e
  was (binding_mapping b o) w none e = e

  -- what an expression was the end of, it is the end of
  end_stays : (ws : List Mapping) (q : Pointer) (i : ExprId) → Contains ws (mapping_after p (expr_mapping q i))
      → ((r : Pointer) × Contains ws (expr_mapping r i)) ⊎ Contains ws (unled_mapping i)
  end_stays ws q i c = by (same_pointer p q) c
    where
      by : (b : Bool) → Contains ws (if b then unled_mapping i else expr_mapping q i)
          → ((r : Pointer) × Contains ws (expr_mapping r i)) ⊎ Contains ws (unled_mapping i)
      by true c = inr c
      by false c = inl (q, c)

  labels_stay : (vs ws : List Mapping) → label_mappings (map (mapping_after p) vs ++ ws) ≡ label_mappings (vs ++ ws)
  labels_stay [] ws = refl
  labels_stay (expr_mapping q i ∷ vs) ws = by (same_pointer p q) ∙ labels_stay vs ws
    where
      by : (b : Bool) → label_mappings ((if b then unled_mapping i else expr_mapping q i) ∷ (map (mapping_after p) vs ++ ws))
          ≡ label_mappings (map (mapping_after p) vs ++ ws)
      by true = refl
      by false = refl
  labels_stay (label_mapping q n ∷ vs) ws = ap (λ k. suc k) (labels_stay vs ws)
  labels_stay (unled_mapping i ∷ vs) ws = labels_stay vs ws
  labels_stay (field_mapping i q ∷ vs) ws = labels_stay vs ws
  labels_stay (pat_field_mapping i q ∷ vs) ws = labels_stay vs ws
  labels_stay (binding_mapping b o ∷ vs) ws = labels_stay vs ws

  module _ (vs : List Mapping) (k : ExprId) where
    -- those, and the one to what came later
    abbrev later : List Mapping
    later = map (mapping_after p) vs ++ expr_mapping p k ∷ []

    forth : (w : Mapping) → mapping_after p w ≡ w → Contains vs w → Contains later w
    forth w e c = Contains-append_left (map (mapping_after p) vs) (expr_mapping p k ∷ []) w
        (subst (λ x. Contains (map (mapping_after p) vs) x) e (contains_map (mapping_after p) vs w c))

    back : (w : Mapping) → ((i : ExprId) → unled_mapping i ≡ w → ⊥) → (expr_mapping p k ≡ w → ⊥) → Contains later w → Contains vs w
    back w none other c = ⊎_elim
        (λ x. let r = map_contains (mapping_after p) vs w x in subst (λ v. Contains vs v) (was r.0 w none r.2) r.1)
        (λ e. absurd (other e))
        (Contains-push_cases (map (mapping_after p) vs) (expr_mapping p k) w c)

    module _ (before : List Mapping) where
      forth_behind : (w : Mapping) → mapping_after p w ≡ w → Contains (before ++ vs) w → Contains (before ++ later) w
      forth_behind w e c = ⊎_elim (λ x. Contains-append_left before later w x)
          (λ x. Contains-append_right before later w (forth w e x)) (Contains-append_cases before vs w c)

      back_behind : (w : Mapping) → ((i : ExprId) → unled_mapping i ≡ w → ⊥) → (expr_mapping p k ≡ w → ⊥) → Contains (before ++ later) w
          → Contains (before ++ vs) w
      back_behind w none other c = ⊎_elim (λ x. Contains-append_left before vs w x)
          (λ x. Contains-append_right before vs w (back w none other x)) (Contains-append_cases before later w c)

      exprs_lead : (es : List (Pointer × ExprId)) → Leads es expr_mapping (before ++ vs)
          → Leads (insert_entry same_pointer es p k) expr_mapping (before ++ later)
      exprs_lead es h = record {
        each = λ q u c. found_at q u (same_pointer p q) refl c;
        only = λ q u f. led_from q u (same_pointer p q) refl f;
      }
        where
          found_at : (q : Pointer) (u : ExprId) (b : Bool) → same_pointer p q ≡ b → Contains (before ++ later) (expr_mapping q u)
              → (t : ExprId) × (value_at (insert_entry same_pointer es p k) q ≡ Some t)
          found_at q u true s c =
              (k, subst (λ r. value_at (insert_entry same_pointer es p k) r ≡ Some k) (pointer_is p q s) (found_new p k es))
          found_at q u false s c =
              let old = h.each q u (back_behind (expr_mapping q u) (λ i e. cc) (λ e. elsewhere q k u s e) c) in
              (old.0, found_other p k es q s ∙ old.1)

          led_from : (q : Pointer) (u : ExprId) (b : Bool) → same_pointer p q ≡ b → value_at (insert_entry same_pointer es p k) q ≡ Some u
              → Contains (before ++ later) (expr_mapping q u)
          led_from q u true s f =
              let new = found_new p k es in
              let is = pointer_is p q s in
              let same : Some k ≡ Some u = sym new ∙ subst (λ r. value_at (insert_entry same_pointer es p k) r ≡ Some u) (sym is) f in
              let same_end : k ≡ u = cc in
              let one = subst (λ x. Contains (expr_mapping p k ∷ []) x) (λ j. expr_mapping (is j) (same_end j))
              (Contains-push [] (expr_mapping p k)) in
              Contains-append_right before later (expr_mapping q u)
              (Contains-append_right (map (mapping_after p) vs) (expr_mapping p k ∷ []) (expr_mapping q u) one)
          led_from q u false s f = forth_behind (expr_mapping q u) (stays q u s) (h.only q u (sym (found_other p k es q s) ∙ f))

-- one more from this node, which leads no more to those before
module _ (e : Expr) (p : Pointer) (a b : Stored) (vs : List Mapping) (g : Moved a b vs) where
  abbrev last : ExprId
  last = expr_id (length b.exprs.entries)

  abbrev now : List Mapping
  now = later p vs last

  led_later : Led (map_of a) (map_of (with_expr e (Some p) b)) now
  led_later = λ before h. let m = g.led before h in record {
    exprs = exprs_lead p vs last before b.exprs.map m.exprs;
    labels = record {
      each = λ q n c. m.labels.each q n (back_behind p vs last before (label_mapping q n) (λ i e. cc) (λ e. cc) c);
      only = λ q n f. forth_behind p vs last before (label_mapping q n) refl (m.labels.only q n f);
    };
    fields = record {
      each = λ i q c. m.fields.each i q (back_behind p vs last before (field_mapping i q) (λ i e. cc) (λ e. cc) c);
      only = λ i q f. forth_behind p vs last before (field_mapping i q) refl (m.fields.only i q f);
    };
    pat_fields = record {
      each = λ i q c. m.pat_fields.each i q (back_behind p vs last before (pat_field_mapping i q) (λ i e. cc) (λ e. cc) c);
      only = λ i q f. forth_behind p vs last before (pat_field_mapping i q) refl (m.pat_fields.only i q f);
    };
  }

  -- each expression is still the end of one
  ends_stay : (i : ExprId) → ((q : Pointer) × Contains (vs ++ expr_mapping p last ∷ []) (expr_mapping q i))
      ⊎ Contains (vs ++ expr_mapping p last ∷ []) (unled_mapping i) → ((q : Pointer) × Contains now (expr_mapping q i))
      ⊎ Contains now (unled_mapping i)
  ends_stay i = ⊎_elim
      (λ x. ⊎_elim
      (λ c. end_stays p now x.0 i (Contains-append_left (map (mapping_after p) vs) (expr_mapping p last ∷ []) _
      (contains_map (mapping_after p) vs (expr_mapping x.0 i) c)))
      (λ c. inl (x.0, Contains-append_right (map (mapping_after p) vs) (expr_mapping p last ∷ []) (expr_mapping x.0 i) c))
      (Contains-append_cases vs (expr_mapping p last ∷ []) (expr_mapping x.0 i) x.1))
      (λ x. inr (⊎_elim (λ c. forth p vs last (unled_mapping i) refl c)
      (λ c. Contains-append_right (map (mapping_after p) vs) (expr_mapping p last ∷ []) (unled_mapping i) c)
      (Contains-append_cases vs (expr_mapping p last ∷ []) (unled_mapping i) x)))

  other_ends : (w : Mapping) → mapping_after p w ≡ w → Contains (vs ++ expr_mapping p last ∷ []) w → Contains now w
  other_ends w is c = ⊎_elim (λ x. forth p vs last w is x)
      (λ x. Contains-append_right (map (mapping_after p) vs) (expr_mapping p last ∷ []) w x)
      (Contains-append_cases vs (expr_mapping p last ∷ []) w c)

  moved_later : Moved a (with_expr e (Some p) b) now
  moved_later =
      let new = shown_new e p b in
      let m = subst (λ ws. Moved a (with_expr e (Some p) b) (vs ++ ws)) new.shown (moved_then g new.moved) in
      let l = m.labels in
      let s = labels_stay p vs (expr_mapping p last ∷ []) in record {
        covers = λ i from to. ends_stay i (m.covers i from to);
        covers_labels = λ n from to. let x = m.covers_labels n from to in (x.0, other_ends (label_mapping x.0 n) refl x.1);
        covers_bindings = λ x from to. let y = m.covers_bindings x from to in (y.0, other_ends (binding_mapping x y.0) refl y.1);
        led = led_later;
        labels = omega (arith, l, s);
        defined = m.defined;
        owners = λ may. owners_as (λ x o c. Contains-append_left vs (expr_mapping p last ∷ []) (binding_mapping x o)
            (back p vs last (binding_mapping x o) (λ i e. cc) (λ e. cc) c)) (m.owners may);
      }

pub shown_later : {P : Mappings} {a b c : Stored} (e : Expr) (p : Pointer) (i : ExprId) → Shown P a b → i.0 ≡ length b.exprs.entries
    → c ≡ with_expr e (Some p) b → Shown (Overtaken p P & OneMapping p i) a c
shown_later {P = P} {a = a} {b = b} e p i x number is =
    let n = expr_id (length b.exprs.entries) in
    shown_to is (subst (λ k. Shown (Overtaken p P & OneMapping p k) a (with_expr e (Some p) b)) (same_number n i number) (record {
      mappings = map (mapping_after p) x.mappings ++ expr_mapping p n ∷ [];
      shown = record {
        left = map (mapping_after p) x.mappings;
        right = expr_mapping p n ∷ [];
        is = refl;
        first = (x.mappings, refl, x.shown);
        second = refl;
      };
      moved = moved_later e p a b x.mappings x.moved;
    }))
