-- Where the source map leads, and what ways end at, once an expression owns what nothing in it owned.
use Rattle.std.proofs.Common.{◌≡◌, ◌∙◌, ◌+◌, refl, sym, ap, subst, length, map, suc, List, [], ◌∷◌, ◌++◌, Option, Contains, inl, inr}
use Rattle.std.proofs.Common.{⊎_elim}
use Rattle.std.proofs.lemmas.List.Elements.{Contains-append_left, Contains-append_right, Contains-append_cases}
use Rattle.hir_store.specs.Bindings.{owned_else}
use Rattle.hir_store.specs.Stored.{Stored, map_of}
use Rattle.hir_store.specs.declared.ids.BindingId.{BindingId}
use Rattle.hir_store.specs.declared.ids.ExprId.{ExprId}
use Rattle.thm_logic.proofs.Owning.{with_owned}
use Rattle.thm_body_result.specs.Leads.{Mapping, expr_mapping, label_mapping, unled_mapping, field_mapping, pat_field_mapping}
use Rattle.thm_body_result.specs.Leads.{binding_mapping, label_mappings, owned_mapping}
use Rattle.thm_body_result.specs.Leads.{Led, OwnedBy, Mappings}
use Rattle.thm_body_result.proofs.Leading.{Moved, Shown, shown_to}
use Rattle.thm_body_result.proofs.Members.{contains_map, map_contains}
use Rattle.thm_body_result.proofs.OwnersMoved.{owners_owned}

module _ (id : ExprId) where
  abbrev pub owned_mappings : List Mapping → List Mapping
  owned_mappings ws = map (owned_mapping id) ws

  labels_stay : (vs : List Mapping) → label_mappings (owned_mappings vs) ≡ label_mappings vs
  labels_stay [] = refl
  labels_stay (expr_mapping p i ∷ vs) = labels_stay vs
  labels_stay (label_mapping p n ∷ vs) = ap suc (labels_stay vs)
  labels_stay (unled_mapping i ∷ vs) = labels_stay vs
  labels_stay (field_mapping i p ∷ vs) = labels_stay vs
  labels_stay (pat_field_mapping i p ∷ vs) = labels_stay vs
  labels_stay (binding_mapping b o ∷ vs) = labels_stay vs

  -- what ends at no binding is what it was
  was : (v w : Mapping) → ((b : BindingId) (o : Option ExprId) → binding_mapping b o ≡ w → ⊥) → owned_mapping id v ≡ w → v ≡ w
  was (expr_mapping p i) w other e = e
  was (label_mapping p n) w other e = e
  was (unled_mapping i) w other e = e
  was (field_mapping i p) w other e = e
  was (pat_field_mapping i p) w other e = e
  was (binding_mapping b o) w other e = absurd (other b (owned_else id o) e)

  module _ (before vs : List Mapping) where
    forth : (w : Mapping) → owned_mapping id w ≡ w → Contains (before ++ vs) w → Contains (before ++ owned_mappings vs) w
    forth w same c = ⊎_elim
        (λ x. Contains-append_left before (owned_mappings vs) w x)
        (λ x. Contains-append_right before (owned_mappings vs) w
        (subst (λ y. Contains (owned_mappings vs) y) same (contains_map (owned_mapping id) vs w x)))
        (Contains-append_cases before vs w c)

    back : (w : Mapping) → ((b : BindingId) (o : Option ExprId) → binding_mapping b o ≡ w → ⊥) → Contains (before ++ owned_mappings vs) w
        → Contains (before ++ vs) w
    back w other c = ⊎_elim
        (λ x. Contains-append_left before vs w x)
        (λ x. let r = map_contains (owned_mapping id) vs w x in
        Contains-append_right before vs w (subst (λ v. Contains vs v) (was r.0 w other r.2) r.1))
        (Contains-append_cases before (owned_mappings vs) w c)

  module _ (start : BindingId) (a b : Stored) (vs : List Mapping) (g : Moved a b vs) where
    led_owned : Led (map_of a) (map_of (with_owned start id b)) (owned_mappings vs)
    led_owned = λ before h. let m = g.led before h in record {
      exprs = record {
        each = λ q i c. m.exprs.each q i (back before vs (expr_mapping q i) (λ b o e. cc) c);
        only = λ q i f. forth before vs (expr_mapping q i) refl (m.exprs.only q i f);
      };
      labels = record {
        each = λ q n c. m.labels.each q n (back before vs (label_mapping q n) (λ b o e. cc) c);
        only = λ q n f. forth before vs (label_mapping q n) refl (m.labels.only q n f);
      };
      fields = record {
        each = λ i q c. m.fields.each i q (back before vs (field_mapping i q) (λ b o e. cc) c);
        only = λ i q f. forth before vs (field_mapping i q) refl (m.fields.only i q f);
      };
      pat_fields = record {
        each = λ i q c. m.pat_fields.each i q (back before vs (pat_field_mapping i q) (λ b o e. cc) c);
        only = λ i q f. forth before vs (pat_field_mapping i q) refl (m.pat_fields.only i q f);
      };
    }

    pub moved_owned : start.0 ≡ length a.bindings.entries → Moved a (with_owned start id b) (owned_mappings vs)
    moved_owned begins = record {
      covers = λ i from to. ⊎_elim
          (λ x. inl (x.0, contains_map (owned_mapping id) vs (expr_mapping x.0 i) x.1))
          (λ x. inr (contains_map (owned_mapping id) vs (unled_mapping i) x))
          (g.covers i from to);
      covers_labels = λ n from to. let x = g.covers_labels n from to in (x.0, contains_map (owned_mapping id) vs (label_mapping x.0 n) x.1);
      covers_bindings = λ k from to.
          let x = g.covers_bindings k from to in (owned_else id x.0, contains_map (owned_mapping id) vs (binding_mapping k x.0) x.1);
      led = led_owned;
      labels = g.labels ∙ ap (λ n. length a.labels.entries + n) (sym (labels_stay vs));
      defined = g.defined;
      owners = λ may. owners_owned start id vs (begins ∙ sym may) (g.owners may);
    }

-- behind steps at whose beginning this was the number of the next binding
pub shown_owned : {P : Mappings} {a b c : Stored} (start : BindingId) (id : ExprId) → start.0 ≡ length a.bindings.entries → Shown P a b
    → c ≡ with_owned start id b → Shown (OwnedBy id P) a c
shown_owned {a = a} {b = b} start id begins x is = shown_to is (record {
  mappings = owned_mappings id x.mappings;
  shown = (x.mappings, refl, x.shown);
  moved = moved_owned id start a b x.mappings x.moved begins;
})
