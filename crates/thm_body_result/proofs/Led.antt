-- Where the source map leads once one thing more is stored.
use Rattle.std.proofs.Common.{arith, ◌≡◌, ◌∙◌, refl, sym, ap, subst, ◌<◌, length, Bool, true, false, if◌then◌else◌}
use Rattle.std.proofs.Common.{List, [], ◌∷◌, ◌++◌, append_assoc, append-nil, Option, Some, None, Contains, ⊎_elim, true≢false, is_some}
use Rattle.std.proofs.lemmas.List.Elements.{Contains-append_left, Contains-append_right, Contains-append_cases, Contains-push}
use Rattle.std.proofs.lemmas.List.Elements.{Contains-push_cases}
use Rattle.indexmap.specs.IndexMap.{insert_entry}
use Rattle.hir_store.specs.Bindings.{binding_id}
use Rattle.hir_store.specs.Pointers.{Pointer, same_pointer, value_at}
use Rattle.hir_store.specs.Stored.{SourceMap, Stored, map_of}
use Rattle.hir_store.proofs.Maps.{found_new, found_split, same_self}
use Rattle.hir_store.specs.declared.hir.Expr.{Expr}
use Rattle.hir_store.specs.declared.ids.ExprId.{ExprId}
use Rattle.hir_store.specs.declared.ids.LabelId.{LabelId}
use Rattle.hir_store.specs.declared.ids.PatId.{PatId}
use Rattle.hir_store.specs.declared.pat.Binding.{Binding}
use Rattle.hir_store.specs.StoreSink.{expr_id, label_id, same_expr, same_pat}
use Rattle.hir_env.specs.ResolvedTree.{Label}
use Rattle.thm_logic.proofs.MadeSteps.{put_made}
use Rattle.thm_logic.proofs.PatSteps.{with_field_pat, with_new_binding}
use Rattle.thm_logic.proofs.Steps.{pointing, with_expr, with_field, with_label}
use Rattle.thm_body_result.specs.Leads.{Mapping, expr_mapping, label_mapping, unled_mapping, field_mapping, pat_field_mapping}
use Rattle.thm_body_result.specs.Leads.{binding_mapping}
use Rattle.thm_body_result.specs.Leads.{Leads, FieldsLead, MapLeads, Led}
use Rattle.thm_body_result.proofs.FieldMappings.{expr_is, expr_self, pat_is, pat_self, fields_more, fields_beside, fields_as}

-- one node more

module _ {T : Type 0} (p : Pointer) (t : T) where
  abbrev entered : List (Pointer × T) → List (Pointer × T)
  entered es = insert_entry same_pointer es p t

  -- where something was found, something is found
  found_still : (es : List (Pointer × T)) (q : Pointer) (u : T) → value_at es q ≡ Some u → (v : T) × (value_at (entered es) q ≡ Some v)
  found_still [] q u h = absurd (true≢false (sym (ap is_some h)))
  found_still (e ∷ es) q u h = by (found_still es q u) (same_pointer p e.0) (same_pointer q e.0) refl h
    where
      by : (value_at es q ≡ Some u → (v : T) × (value_at (entered es) q ≡ Some v)) → (b c : Bool) → same_pointer q e.0 ≡ c
          → value_at (e ∷ es) q ≡ Some u → (v : T) × (value_at (if b then (e.0, t) ∷ es else e ∷ entered es) q ≡ Some v)
      by others true true n k = (t, ap (λ b. if b then Some t else value_at es q) n)
      by others true false n k =
          (u, ap (λ b. if b then Some t else value_at es q) n ∙ (sym (ap (λ b. if b then Some e.1 else value_at es q) n) ∙ k))
      by others false true n k = (e.1, ap (λ b. if b then Some e.1 else value_at (entered es) q) n)
      by others false false n k =
          let r = others (sym (ap (λ b. if b then Some e.1 else value_at es q) n) ∙ k) in
          (r.0, ap (λ b. if b then Some e.1 else value_at (entered es) q) n ∙ r.1)

module _ {T : Type 0} (mapping : Pointer → T → Mapping) (es : List (Pointer × T)) (ws : List Mapping) (h : Leads es mapping ws) where
  leads_more : ((p q : Pointer) (t u : T) → mapping p t ≡ mapping q u → (p ≡ q) × (t ≡ u)) → (p : Pointer) (t : T)
      → Leads (insert_entry same_pointer es p t) mapping (ws ++ mapping p t ∷ [])
  leads_more split p t = record {
    each = λ q u c. ⊎_elim (λ old. let was = h.each q u old in found_still p t es q was.0 was.1)
        (λ e. (t, subst (λ x. value_at (insert_entry same_pointer es p t) x ≡ Some t) (split p q t u e).0 (found_new p t es)))
        (Contains-push_cases ws (mapping p t) (mapping q u) c);
    only = λ q u f. ⊎_elim (λ old. Contains-append_left ws (mapping p t ∷ []) (mapping q u) (h.only q u old))
        (λ e. subst (λ w. Contains (ws ++ mapping p t ∷ []) w) (λ j. mapping (e.0 j) (e.1 j)) (Contains-push ws (mapping p t)))
        (found_split p t es q u f);
  }

  leads_beside : (w : Mapping) → ((p : Pointer) (t : T) → w ≡ mapping p t → ⊥) → Leads es mapping (ws ++ w ∷ [])
  leads_beside w other = record {
    each = λ q u c. ⊎_elim (λ old. h.each q u old) (λ e. absurd (other q u e)) (Contains-push_cases ws w (mapping q u) c);
    only = λ q u f. Contains-append_left ws (w ∷ []) (mapping q u) (h.only q u f);
  }

  leads_as : (vs : List Mapping) → ((w : Mapping) → Contains ws w → Contains vs w) → ((w : Mapping) → Contains vs w → Contains ws w)
      → Leads es mapping vs
  leads_as vs forth back = record { each = λ q u c. h.each q u (back _ c); only = λ q u f. forth _ (h.only q u f) }

-- steps

nowhere : {T : Type 0} (mapping : Pointer → T → Mapping) → Leads {T = T} [] mapping []
nowhere mapping = record {
  each = λ q u c. let below : c.0 < 0 = c.1 in absurd (omega arith);
  only = λ q u f. absurd (true≢false (sym (ap is_some f)));
}

no_fields : {I : Type 0} (same : I → I → Bool) (mapping : I → Pointer → Mapping) → FieldsLead same [] mapping []
no_fields same mapping = record {
  each = λ i p c. let below : c.0 < 0 = c.1 in absurd (omega arith);
  only = λ i p f. absurd (true≢false (sym (ap is_some f)));
}

-- where nothing is said of any node
pub leads_nowhere : {map : SourceMap} → map.expr_map ≡ [] → map.label_map ≡ [] → map.field_map_back ≡ [] → map.pat_field_map_back ≡ []
    → MapLeads map []
leads_nowhere e l f q =
    record {
      exprs = subst (λ es. Leads es expr_mapping []) (sym e) (nowhere expr_mapping);
      labels = subst (λ ls. Leads ls label_mapping []) (sym l) (nowhere label_mapping);
      fields = subst (λ fs. FieldsLead same_expr fs field_mapping []) (sym f) (no_fields same_expr field_mapping);
      pat_fields = subst (λ fs. FieldsLead same_pat fs pat_field_mapping []) (sym q) (no_fields same_pat pat_field_mapping);
    }

pub led_still : {old new : SourceMap} → new.expr_map ≡ old.expr_map → new.label_map ≡ old.label_map
    → new.field_map_back ≡ old.field_map_back → new.pat_field_map_back ≡ old.pat_field_map_back → Led old new []
led_still {new = new} e l f q = λ before h. subst (λ ws. MapLeads new ws) (sym (append-nil before)) (record {
  exprs = subst (λ es. Leads es expr_mapping before) (sym e) h.exprs;
  labels = subst (λ ls. Leads ls label_mapping before) (sym l) h.labels;
  fields = subst (λ fs. FieldsLead same_expr fs field_mapping before) (sym f) h.fields;
  pat_fields = subst (λ fs. FieldsLead same_pat fs pat_field_mapping before) (sym q) h.pat_fields;
})

-- a way that is none of expressions, of labels or of fields leaves them as they are

module _ (map : SourceMap) (before : List Mapping) (h : MapLeads map before) (w : Mapping) where
  beside_exprs : ((p : Pointer) (i : ExprId) → w ≡ expr_mapping p i → ⊥) → Leads map.expr_map expr_mapping (before ++ w ∷ [])
  beside_exprs other = leads_beside expr_mapping map.expr_map before h.exprs w other

  beside_labels : ((p : Pointer) (n : LabelId) → w ≡ label_mapping p n → ⊥) → Leads map.label_map label_mapping (before ++ w ∷ [])
  beside_labels other = leads_beside label_mapping map.label_map before h.labels w other

  beside_fields : ((i : ExprId) (p : Pointer) → w ≡ field_mapping i p → ⊥)
      → FieldsLead same_expr map.field_map_back field_mapping (before ++ w ∷ [])
  beside_fields other = fields_beside same_expr expr_is expr_self field_mapping map.field_map_back before h.fields w other

  beside_pat_fields : ((i : PatId) (p : Pointer) → w ≡ pat_field_mapping i p → ⊥)
      → FieldsLead same_pat map.pat_field_map_back pat_field_mapping (before ++ w ∷ [])
  beside_pat_fields other = fields_beside same_pat pat_is pat_self pat_field_mapping map.pat_field_map_back before h.pat_fields w other

pub led_expr : (e : Expr) (p : Pointer) (a : Stored)
    → Led (map_of a) (map_of (with_expr e (Some p) a)) (expr_mapping p (expr_id (length a.exprs.entries)) ∷ [])
led_expr e p a = λ before h. record {
  exprs = leads_more expr_mapping a.exprs.map before h.exprs (λ p q t u w. (cc, cc)) p (expr_id (length a.exprs.entries));
  labels = beside_labels (map_of a) before h (expr_mapping p (expr_id (length a.exprs.entries))) (λ q u w. cc);
  fields = beside_fields (map_of a) before h (expr_mapping p (expr_id (length a.exprs.entries))) (λ q u w. cc);
  pat_fields = beside_pat_fields (map_of a) before h (expr_mapping p (expr_id (length a.exprs.entries))) (λ q u w. cc);
}

pub led_point : (p : Pointer) (i : ExprId) (a : Stored) → Led (map_of a) (map_of (pointing p i a)) (expr_mapping p i ∷ [])
led_point p i a = λ before h. record {
  exprs = leads_more expr_mapping a.exprs.map before h.exprs (λ p q t u w. (cc, cc)) p i;
  labels = beside_labels (map_of a) before h (expr_mapping p i) (λ q u w. cc);
  fields = beside_fields (map_of a) before h (expr_mapping p i) (λ q u w. cc);
  pat_fields = beside_pat_fields (map_of a) before h (expr_mapping p i) (λ q u w. cc);
}

pub led_unled : (e : Expr) (a : Stored)
    → Led (map_of a) (map_of (with_expr e None a)) (unled_mapping (expr_id (length a.exprs.entries)) ∷ [])
led_unled e a = λ before h. record {
  exprs = beside_exprs (map_of a) before h (unled_mapping (expr_id (length a.exprs.entries))) (λ q u w. cc);
  labels = beside_labels (map_of a) before h (unled_mapping (expr_id (length a.exprs.entries))) (λ q u w. cc);
  fields = beside_fields (map_of a) before h (unled_mapping (expr_id (length a.exprs.entries))) (λ q u w. cc);
  pat_fields = beside_pat_fields (map_of a) before h (unled_mapping (expr_id (length a.exprs.entries))) (λ q u w. cc);
}

-- one that its node doesn't lead to
pub led_made : (e : Expr) (source : Option Pointer) (a : Stored)
    → Led (map_of a) (map_of (put_made e source a)) (unled_mapping (expr_id (length a.exprs.entries)) ∷ [])
led_made e source a = λ before h. record {
  exprs = beside_exprs (map_of a) before h (unled_mapping (expr_id (length a.exprs.entries))) (λ q u w. cc);
  labels = beside_labels (map_of a) before h (unled_mapping (expr_id (length a.exprs.entries))) (λ q u w. cc);
  fields = beside_fields (map_of a) before h (unled_mapping (expr_id (length a.exprs.entries))) (λ q u w. cc);
  pat_fields = beside_pat_fields (map_of a) before h (unled_mapping (expr_id (length a.exprs.entries))) (λ q u w. cc);
}

-- expressions from one node, which leads to the last of them

-- a node leads to what was entered last
entered_twice : {T : Type 0} (p : Pointer) (t u : T) (es : List (Pointer × T))
    → insert_entry same_pointer (insert_entry same_pointer es p t) p u ≡ insert_entry same_pointer es p u
entered_twice p t u [] = ap (λ b. if b then (p, u) ∷ [] else (p, t) ∷ (p, u) ∷ []) (same_self p)
entered_twice {T = T} p t u (e ∷ es) = by (same_pointer p e.0) refl (entered_twice p t u es)
  where
    by : (b : Bool) → same_pointer p e.0 ≡ b
        → insert_entry same_pointer (insert_entry same_pointer es p t) p u ≡ insert_entry same_pointer es p u
        → insert_entry same_pointer (if b then (e.0, t) ∷ es else e ∷ insert_entry same_pointer es p t) p u
        ≡ (if b then (e.0, u) ∷ es else e ∷ insert_entry same_pointer es p u)
    by true n k = ap (λ b. if b then (e.0, u) ∷ es else (e.0, t) ∷ insert_entry same_pointer es p u) n
    by false n k =
        ap (λ b. if b then (e.0, u) ∷ insert_entry same_pointer es p t
        else e ∷ insert_entry same_pointer (insert_entry same_pointer es p t) p u) n
        ∙ ap (λ xs. e ∷ xs) k

-- one of which no node leads to
led_hidden : (map : SourceMap) (i : ExprId) → Led map map (unled_mapping i ∷ [])
led_hidden map i = λ before h. record {
  exprs = beside_exprs map before h (unled_mapping i) (λ q u w. cc);
  labels = beside_labels map before h (unled_mapping i) (λ q u w. cc);
  fields = beside_fields map before h (unled_mapping i) (λ q u w. cc);
  pat_fields = beside_pat_fields map before h (unled_mapping i) (λ q u w. cc);
}

module _ (d e : Expr) (p : Pointer) (a : Stored) where
  abbrev pub two_more : Stored
  two_more = with_expr e (Some p) (with_expr d (Some p) a)

  abbrev pub third : ExprId
  third = expr_id (length two_more.exprs.entries)

  led_last : (f : Expr) → Led (map_of a) (map_of (with_expr f (Some p) two_more)) (expr_mapping p third ∷ [])
  led_last f = λ before h. record {
    exprs = subst (λ es. Leads es expr_mapping (before ++ expr_mapping p third ∷ []))
        (sym (entered_twice p (expr_id (length (with_expr d (Some p) a).exprs.entries)) third (with_expr d (Some p) a).exprs.map
        ∙ entered_twice p (expr_id (length a.exprs.entries)) third a.exprs.map))
        (leads_more expr_mapping a.exprs.map before h.exprs (λ p q t u w. (cc, cc)) p third);
    labels = beside_labels (map_of a) before h (expr_mapping p third) (λ q u w. cc);
    fields = beside_fields (map_of a) before h (expr_mapping p third) (λ q u w. cc);
    pat_fields = beside_pat_fields (map_of a) before h (expr_mapping p third) (λ q u w. cc);
  }

pub led_binding : (x : Binding) (a : Stored)
    → Led (map_of a) (map_of (with_new_binding x a)) (binding_mapping (binding_id (length a.bindings.entries)) None ∷ [])
led_binding x a = λ before h. record {
  exprs = beside_exprs (map_of a) before h (binding_mapping (binding_id (length a.bindings.entries)) None) (λ q u w. cc);
  labels = beside_labels (map_of a) before h (binding_mapping (binding_id (length a.bindings.entries)) None) (λ q u w. cc);
  fields = beside_fields (map_of a) before h (binding_mapping (binding_id (length a.bindings.entries)) None) (λ q u w. cc);
  pat_fields = beside_pat_fields (map_of a) before h (binding_mapping (binding_id (length a.bindings.entries)) None) (λ q u w. cc);
}

pub led_label : (l : Label) (a : Stored)
    → Led (map_of a) (map_of (with_label l a)) (label_mapping l.pointer (label_id (length a.labels.entries)) ∷ [])
led_label l a = λ before h. record {
  exprs = beside_exprs (map_of a) before h (label_mapping l.pointer (label_id (length a.labels.entries))) (λ q u w. cc);
  labels = leads_more label_mapping a.labels.map before h.labels (λ p q t u w. (cc, cc)) l.pointer (label_id (length a.labels.entries));
  fields = beside_fields (map_of a) before h (label_mapping l.pointer (label_id (length a.labels.entries))) (λ q u w. cc);
  pat_fields = beside_pat_fields (map_of a) before h (label_mapping l.pointer (label_id (length a.labels.entries))) (λ q u w. cc);
}

pub led_field : (i : ExprId) (p : Pointer) (a : Stored) → Led (map_of a) (map_of (with_field i p a)) (field_mapping i p ∷ [])
led_field i p a = λ before h. record {
  exprs = beside_exprs (map_of a) before h (field_mapping i p) (λ q u w. cc);
  labels = beside_labels (map_of a) before h (field_mapping i p) (λ q u w. cc);
  fields = fields_more same_expr expr_is expr_self field_mapping a.field_map_back before h.fields (λ i j p q w. (cc, cc)) i p;
  pat_fields = beside_pat_fields (map_of a) before h (field_mapping i p) (λ q u w. cc);
}

pub led_pat_field : (i : PatId) (p : Pointer) (a : Stored) → Led (map_of a) (map_of (with_field_pat i p a)) (pat_field_mapping i p ∷ [])
led_pat_field i p a = λ before h. record {
  exprs = beside_exprs (map_of a) before h (pat_field_mapping i p) (λ q u w. cc);
  labels = beside_labels (map_of a) before h (pat_field_mapping i p) (λ q u w. cc);
  fields = beside_fields (map_of a) before h (pat_field_mapping i p) (λ q u w. cc);
  pat_fields = fields_more same_pat pat_is pat_self pat_field_mapping a.pat_field_map_back before h.pat_fields (λ i j p q w. (cc, cc)) i p;
}

pub led_then : {a b c : SourceMap} {us vs : List Mapping} → Led a b us → Led b c vs → Led a c (us ++ vs)
led_then {c = c} {us = us} {vs = vs} g k =
    λ before h. subst (λ ws. MapLeads c ws) (append_assoc before us vs) (k (before ++ us) (g before h))

-- three from one node, which leads to the last
pub led_third : (d e f : Expr) (p : Pointer) (a : Stored) (i j : ExprId)
    → Led (map_of a) (map_of (with_expr f (Some p) (two_more d e p a)))
    (unled_mapping i ∷ unled_mapping j ∷ expr_mapping p (third d e p a) ∷ [])
led_third d e f p a i j = led_then (led_hidden (map_of a) i) (led_then (led_hidden (map_of a) j) (led_last d e p a f))

pub contains_swap : (xs ys zs : List Mapping) (w : Mapping) → Contains (xs ++ (ys ++ zs)) w → Contains (ys ++ (xs ++ zs)) w
contains_swap xs ys zs w c = ⊎_elim (λ x. Contains-append_right ys (xs ++ zs) w (Contains-append_left xs zs w x))
    (λ x. ⊎_elim (λ y. Contains-append_left ys (xs ++ zs) w y)
    (λ z. Contains-append_right ys (xs ++ zs) w (Contains-append_right xs zs w z)) (Contains-append_cases ys zs w x))
    (Contains-append_cases xs (ys ++ zs) w c)

behind : (before us vs : List Mapping) → ((w : Mapping) → Contains us w → Contains vs w) → (w : Mapping) → Contains (before ++ us) w
    → Contains (before ++ vs) w
behind before us vs f w c =
    ⊎_elim (λ x. Contains-append_left before vs w x) (λ x. Contains-append_right before vs w (f w x)) (Contains-append_cases before us w c)

pub led_swap : {a b : SourceMap} (xs ys zs : List Mapping) → Led a b (xs ++ (ys ++ zs)) → Led a b (ys ++ (xs ++ zs))
led_swap {b = b} xs ys zs g = λ before h.
    let k = g before h in
    let forth = behind before (xs ++ (ys ++ zs)) (ys ++ (xs ++ zs)) (contains_swap xs ys zs) in
    let back = behind before (ys ++ (xs ++ zs)) (xs ++ (ys ++ zs)) (contains_swap ys xs zs) in
    record {
      exprs = leads_as expr_mapping _ _ k.exprs _ forth back;
      labels = leads_as label_mapping _ _ k.labels _ forth back;
      fields = fields_as same_expr expr_is expr_self field_mapping b.field_map_back _ k.fields _ forth back;
      pat_fields = fields_as same_pat pat_is pat_self pat_field_mapping b.pat_field_map_back _ k.pat_fields _ forth back;
    }
