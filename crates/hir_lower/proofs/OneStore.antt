-- What all calls of a collector left stands in one store, with the ways of each.
use Rattle.std.proofs.Common.{arith, ◌≡◌, refl, sym, subst, ℕ, ◌<◌, ◌≤◌, length, nat_lt, Bool, true, false, List, [], ◌∷◌, ◌++◌}
use Rattle.std.proofs.Common.{append-nil, Option, Some, Contains, ◌⊎◌, inl, inr, ⊎_elim}
use Rattle.std.proofs.Math.Logic.{∥∥₁_map}
use Rattle.std.proofs.lemmas.Bool.{ltb-true, ltb-false}
use Rattle.std.proofs.lemmas.List.Elements.{Contains-append_cases, Contains-append_left, Contains-append_right}
use Rattle.hir_store.specs.Arenas.{Prefix, with_entry}
use Rattle.hir_store.specs.Pointers.{Pointer}
use Rattle.hir_store.specs.Stored.{SourceMap, Store, Stored, store_of, map_of}
use Rattle.hir_store.specs.StoreSink.{Extends, type_id}
use Rattle.hir_store.specs.declared.ids.BindingId.{BindingId}
use Rattle.hir_store.specs.declared.ids.ExprId.{ExprId}
use Rattle.hir_store.specs.declared.ids.LabelId.{LabelId}
use Rattle.hir_store.specs.declared.ids.TypeRefId.{TypeRefId}
use Rattle.hir_store.specs.declared.type_ref.TypeRef.{TypeRef}
use Rattle.hir_store.proofs.Arenas.{continues_refl, nodes_insert, prefix_push, prefix_refl, prefix_trans}
use Rattle.hir_store.proofs.BindingLemmas.{bindings_refl}
use Rattle.hir_store.proofs.Extending.{extends_refl, extends_trans}
use Rattle.thm_body_result.specs.Leads.{Covers, CoversBindings, CoversLabels, Led, OwnersAre, Mapping, binding_mapping, expr_mapping}
use Rattle.thm_body_result.specs.Leads.{label_mapping}
use Rattle.thm_body_result.specs.Leads.{unled_mapping}
use Rattle.thm_body_result.proofs.Lasting.{in_prefix}
use Rattle.thm_body_result.proofs.Led.{leads_nowhere, led_still, led_then}
use Rattle.hir_lower.specs.Collected.{AllStand, Call, Collected, LeftBy, OfCalls, CorrespondsTo, of_constant, of_path, of_type, of_type_ref}
use Rattle.hir_lower.specs.Roots.{new_builder}
use Rattle.hir_lower.specs.Stays.{Stays}

-- ends of ways one behind the other

module _ {I : Type 0} (place : I → ℕ) (End : List Mapping → I → Type 0) (us vs : List Mapping)
    (left : (i : I) → End us i → End (us ++ vs) i)
    (right : (i : I) → End vs i → End (us ++ vs) i) where
  ends_then : (n m k : ℕ) → ((i : I) → n ≤ place i → place i < m → End us i) → ((i : I) → m ≤ place i → place i < k → End vs i)
      → (i : I) → n ≤ place i → place i < k → End (us ++ vs) i
  ends_then n m k g h = λ i from to. by i from to (nat_lt (place i) m) refl
    where
      by : (i : I) → n ≤ place i → place i < k → (t : Bool) → nat_lt (place i) m ≡ t → End (us ++ vs) i
      by i from to true is = left i (g i from (ltb-true (place i) m is))
      by i from to false is = right i (h i (ltb-false (place i) m is) to)

abbrev ExprEnd : List Mapping → ExprId → Type 0
ExprEnd ws i = ((p : Pointer) × Contains ws (expr_mapping p i)) ⊎ Contains ws (unled_mapping i)

abbrev LabelEnd : List Mapping → LabelId → Type 0
LabelEnd ws n = (p : Pointer) × Contains ws (label_mapping p n)

abbrev BindingEnd : List Mapping → BindingId → Type 0
BindingEnd ws b = (o : Option ExprId) × Contains ws (binding_mapping b o)

module _ (us vs : List Mapping) (n m k : ℕ) where
  covers_then : Covers us n m → Covers vs m k → Covers (us ++ vs) n k
  covers_then = ends_then (λ i. i.0) ExprEnd us vs
      (λ i. ⊎_elim (λ x. inl (x.0, Contains-append_left us vs (expr_mapping x.0 i) x.1))
      (λ x. inr (Contains-append_left us vs (unled_mapping i) x)))
      (λ i. ⊎_elim (λ x. inl (x.0, Contains-append_right us vs (expr_mapping x.0 i) x.1))
      (λ x. inr (Contains-append_right us vs (unled_mapping i) x))) n m k

  labels_then : CoversLabels us n m → CoversLabels vs m k → CoversLabels (us ++ vs) n k
  labels_then = ends_then (λ i. i.0) LabelEnd us vs (λ i x. (x.0, Contains-append_left us vs (label_mapping x.0 i) x.1))
      (λ i x. (x.0, Contains-append_right us vs (label_mapping x.0 i) x.1)) n m k

  bindings_then : CoversBindings us n m → CoversBindings vs m k → CoversBindings (us ++ vs) n k
  bindings_then = ends_then (λ i. i.0) BindingEnd us vs (λ i x. (x.0, Contains-append_left us vs (binding_mapping i x.0) x.1))
      (λ i x. (x.0, Contains-append_right us vs (binding_mapping i x.0) x.1)) n m k

-- what stays

record Onto (s final : Stored) : Type 0 where
  extends : Extends s final
  settled : Prefix s.bindings.entries final.bindings.entries
  owners : Prefix s.bindings.owners final.bindings.owners

onto_itself : (s : Stored) → Onto s s
onto_itself s = record { extends = extends_refl s; settled = prefix_refl _; owners = prefix_refl _ }

onto_before : (before s final : Stored) → Stays before s → Onto s final → Onto before final
onto_before before s final h o = record {
  extends = extends_trans h.extends o.extends;
  settled = prefix_trans h.bindings o.settled;
  owners = prefix_trans h.owners o.owners;
}

module _ (before : Stored) (at : Pointer) (t : TypeRef) where
  abbrev more : Stored
  more = record before { types = with_entry type_id before.types t (Some at) }

  type_extends : Extends before more
  type_extends = record {
    exprs = continues_refl before.exprs;
    labels = continues_refl before.labels;
    pats = continues_refl before.pats;
    bindings = bindings_refl before.bindings;
    types = record {
      entries = prefix_push _ _;
      sources = prefix_push _ _;
      nodes = nodes_insert before.types.map at (type_id (length before.types.entries));
      limit = refl;
    };
    lifetimes = continues_refl before.lifetimes;
    roots = prefix_refl _;
    target_nodes = prefix_refl _;
    field_map_back = prefix_refl _;
    pat_field_map_back = prefix_refl _;
    block_scopes = prefix_refl _;
    expansions = prefix_refl _;
    diagnostics = prefix_refl _;
  }

  onto_type : (s final : Stored) → s ≡ more → Onto s final → Onto before final
  onto_type s final is onto =
      let o : Onto more final = subst (λ x. Onto x final) is onto in
      record { extends = extends_trans type_extends o.extends; settled = o.settled; owners = o.owners }

-- one call behind the other

record InOne (cs : List Call) (first s final : Stored) : Type 0 where
  mappings : List Mapping
  stand : AllStand (store_of final) (map_of final) cs mappings
  covers : Covers mappings (length first.exprs.entries) (length s.exprs.entries)
  labels : CoversLabels mappings (length first.labels.entries) (length s.labels.entries)
  bindings : CoversBindings mappings (length first.bindings.entries) (length s.bindings.entries)
  owners : OwnersAre final.bindings.owners mappings
  led : Led (map_of first) (map_of s) mappings

-- what one leaves
record LeftMappings (c : Call) (before s final : Stored) : Type 0 where
  mappings : List Mapping
  corresponds : CorrespondsTo (store_of final) (map_of final) c mappings
  covers : Covers mappings (length before.exprs.entries) (length s.exprs.entries)
  labels : CoversLabels mappings (length before.labels.entries) (length s.labels.entries)
  bindings : CoversBindings mappings (length before.bindings.entries) (length s.bindings.entries)
  owners : OwnersAre s.bindings.owners mappings
  led : Led (map_of before) (map_of s) mappings

owners_later : (s final : Stored) (ws : List Mapping) → Onto s final → OwnersAre s.bindings.owners ws → OwnersAre final.bindings.owners ws
owners_later s final ws o h = λ b x c. in_prefix o.owners b.0 x (h b x c)

owners_both : (os : List (Option ExprId)) (us vs : List Mapping) → OwnersAre os us → OwnersAre os vs → OwnersAre os (us ++ vs)
owners_both os us vs g h = λ b o c. ⊎_elim (λ u. g b o u) (λ v. h b o v) (Contains-append_cases us vs (binding_mapping b o) c)

one_more : (c : Call) (cs : List Call) (first before s final : Stored) → Onto s final → InOne cs first before final
    → LeftMappings c before s final → InOne (c ∷ cs) first s final
one_more c cs first before s final onto x y = record {
  mappings = x.mappings ++ y.mappings;
  stand = record { left = x.mappings; right = y.mappings; is = refl; first = x.stand; second = y.corresponds };
  covers = covers_then x.mappings y.mappings _ (length before.exprs.entries) _ x.covers y.covers;
  labels = labels_then x.mappings y.mappings _ (length before.labels.entries) _ x.labels y.labels;
  bindings = bindings_then x.mappings y.mappings _ (length before.bindings.entries) _ x.bindings y.bindings;
  owners = owners_both final.bindings.owners x.mappings y.mappings x.owners (owners_later s final y.mappings onto y.owners);
  led = led_then x.led y.led;
}

one_type : (at : Pointer) (t : TypeRef) (i : TypeRefId) (cs : List Call) (first before final : Stored) → InOne cs first before final
    → InOne (of_type at t i ∷ cs) first (more before at t) final
one_type at t i cs first before final x = record {
  mappings = x.mappings;
  stand = record { left = x.mappings; right = []; is = sym (append-nil x.mappings); first = x.stand; second = refl };
  covers = x.covers;
  labels = x.labels;
  bindings = x.bindings;
  owners = x.owners;
  led = λ b h. let k = x.led b h in record { exprs = k.exprs; labels = k.labels; fields = k.fields; pat_fields = k.pat_fields };
}

one_none : (s final : Stored) → InOne [] s s final
one_none s final = record {
  mappings = [];
  stand = refl;
  covers = λ i from to. absurd (omega arith);
  labels = λ i from to. absurd (omega arith);
  bindings = λ i from to. absurd (omega arith);
  owners = λ b o c. let below : c.0 < 0 = c.1 in absurd (omega arith);
  led = led_still refl refl refl refl;
}

all_in_one : (cs : List Call) (first s final : Stored) → LeftBy cs first s → Onto s final → InOne cs first s final
all_in_one [] first s final is onto = subst (λ x. InOne [] first x final) (sym is) (one_none first final)
all_in_one (of_constant e i ∷ cs) first s final (before, (left, (rooted, stays))) onto =
    let l = rooted.lives final onto.extends onto.settled in
    one_more (of_constant e i) cs first before s final onto
    (all_in_one cs first before final left (onto_before before s final stays onto))
    (record {
      mappings = l.mappings;
      corresponds = l.corresponds;
      covers = l.reaches.covers;
      labels = l.reaches.covers_labels;
      bindings = l.reaches.covers_bindings;
      owners = l.owner_mappings;
      led = l.reaches.led;
    })
all_in_one (of_path p r ∷ cs) first s final (before, (left, (rooted, stays))) onto =
    let l = rooted.lives final onto.extends onto.settled in
    one_more (of_path p r) cs first before s final onto
    (all_in_one cs first before final left (onto_before before s final stays onto))
    (record {
      mappings = l.mappings;
      corresponds = l.corresponds;
      covers = l.reaches.covers;
      labels = l.reaches.covers_labels;
      bindings = l.reaches.covers_bindings;
      owners = l.owner_mappings;
      led = l.reaches.led;
    })
all_in_one (of_type_ref t i ∷ cs) first s final (before, (left, (rooted, stays))) onto =
    let l = rooted.lives final onto.extends onto.settled in
    one_more (of_type_ref t i) cs first before s final onto
    (all_in_one cs first before final left (onto_before before s final stays onto))
    (record {
      mappings = l.mappings;
      corresponds = l.corresponds;
      covers = l.reaches.covers;
      labels = l.reaches.covers_labels;
      bindings = l.reaches.covers_bindings;
      owners = l.owner_mappings;
      led = l.reaches.led;
    })
all_in_one (of_type at t i ∷ cs) first s final (before, (left, adds)) onto =
    subst (λ x. InOne (of_type at t i ∷ cs) first x final) (sym adds.added) (one_type at t i cs first before final
    (all_in_one cs first before final left (onto_type before at t s final adds.added onto)))

-- from nothing

of_calls : (s : Stored) → Collected s → OfCalls (store_of s) (map_of s)
of_calls s c =
    let o = all_in_one c.calls (new_builder c.limit).stored s s c.left (onto_itself s) in record {
      last = s;
      store_is = refl;
      source_map_is = refl;
      collected = c;
      mappings = o.mappings;
      stand = o.stand;
      covers = o.covers;
      covers_labels = o.labels;
      covers_bindings = o.bindings;
      owner_mappings = o.owners;
      leads = o.led [] (leads_nowhere refl refl refl refl);
    }

pub calls_of : (s : Stored) (store : Store) (source_map : SourceMap) → store ≡ store_of s → source_map ≡ map_of s → ∥ Collected s ∥₁
    → ∥ OfCalls store source_map ∥₁
calls_of s store source_map is map_is h = ∥∥₁_map h (λ c.
    subst (λ x. OfCalls x source_map) (sym is) (subst (λ m. OfCalls (store_of s) m) (sym map_is) (of_calls s c)))
