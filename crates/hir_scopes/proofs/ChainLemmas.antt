-- Chains stay where scopes and entries are added, and a scope that is opened stands in front of its parent's.
use Rattle.std.proofs.Common.{arith, ◌≡◌, ◌∙◌, refl, sym, ap, ◌≤◌, ℕ, List, [], ◌∷◌, ◌++◌, Option, Some, None}
use Rattle.std.proofs.Common.{length, slice_get, length-append}
use Rattle.std.proofs.lemmas.List.{append_assoc, append-nil}
use Rattle.std.specs.List.{flat_map}
use Rattle.hir_store.specs.declared.ids.BindingId.{BindingId}
use Rattle.hir_store.specs.declared.ids.PatId.{PatId}
use Rattle.hir_scopes.specs.declared.scope.ScopeId.{ScopeId}
use Rattle.hir_scopes.specs.declared.scope.ScopeKind.{ScopeKind}
use Rattle.hir_scopes.specs.declared.scope.ScopeKind.TheVariants as kind
use Rattle.hir_scopes.specs.declared.opening.Around.{Around}
use Rattle.hir_scopes.specs.Bounds.{IsWithin, ScopeLists}
use Rattle.hir_scopes.specs.Chains.{Enters, Grown, InRange, IsChain, Opens, Stands, scope_of}
use Rattle.hir_walks.specs.Pats.{taken}
use Rattle.spec_scopes.specs.Placed.{Spot, in_scope}
use Rattle.spec_scopes.specs.Scopes.{NameScope, Scopes, binding_scope}
use Rattle.hir_scopes.proofs.Lists.{get_last, get_more, range_end, range_more}

pub within_more : (k : ScopeKind) (m n : ℕ) → m ≤ n → IsWithin k m → IsWithin k n
within_more (kind.Bindings start end) m n more within = (within.0, omega (arith, more, within.1))
within_more (kind.Block id label) m n more within = tt
within_more (kind.Loop label) m n more within = tt
within_more (kind.MacroDef d) m n more within = tt

pub scope_more : (bs more : List BindingId) (k : ScopeKind) → IsWithin k (length bs) → scope_of (bs ++ more) k ≡ scope_of bs k
scope_more bs more (kind.Bindings start end) within = ap binding_scope (range_more bs more start end within.0 within.1)
scope_more bs more (kind.Block id label) within = refl
scope_more bs more (kind.Loop label) within = refl
scope_more bs more (kind.MacroDef d) within = refl

-- steps

pub grown_same : (m : ScopeLists) → Grown m m
grown_same m = record { scopes = ([], sym (append-nil m.scopes)); entries = ([], sym (append-nil m.entries)) }

both_more : {A : Type 0} (xs ys zs us vs : List A) → ys ≡ xs ++ us → zs ≡ ys ++ vs → zs ≡ xs ++ (us ++ vs)
both_more xs ys zs us vs first second = second ∙ (ap (λ ws. ws ++ vs) first ∙ append_assoc xs us vs)

pub grown_then : (m n o : ScopeLists) → Grown m n → Grown n o → Grown m o
grown_then m n o first second = record {
  scopes = (
    first.scopes.0 ++ second.scopes.0,
    both_more m.scopes n.scopes o.scopes first.scopes.0 second.scopes.0 first.scopes.1 second.scopes.1,
  );
  entries = (
    first.entries.0 ++ second.entries.0,
    both_more m.entries n.entries o.entries first.entries.0 second.entries.0 first.entries.1 second.entries.1,
  );
}

pub scopes_grown : (m n : ScopeLists) → Grown m n → length m.scopes ≤ length n.scopes
scopes_grown m n grown = omega (arith, ap length grown.scopes.1, length-append m.scopes grown.scopes.0)

pub entries_grown : (m n : ScopeLists) → Grown m n → length m.entries ≤ length n.entries
entries_grown m n grown = omega (arith, ap length grown.entries.1, length-append m.entries grown.entries.0)

pub in_range_grown : (m n : ScopeLists) (around : Around) → Grown m n → InRange m around → InRange n around
in_range_grown m n around grown in_range = record {
  scope = omega (arith, in_range.scope, scopes_grown m n grown);
  const_scope = omega (arith, in_range.const_scope, scopes_grown m n grown);
}

pub chain_grown : (m n : ScopeLists) → Grown m n → (s : Option ScopeId) (zs : Scopes) → IsChain m s zs → IsChain n s zs
chain_grown m n grown None [] chain = tt
chain_grown m n grown None (z ∷ zs) chain = elim chain [ ]
chain_grown m n grown (Some s) [] chain = elim chain [ ]
chain_grown m n grown (Some s) (z ∷ zs) chain = (
  chain.0,
  ap (λ ds. slice_get ds s.0) grown.scopes.1 ∙ get_more m.scopes grown.scopes.0 s.0 chain.0 chain.1,
  within_more chain.0.kind (length m.entries) (length n.entries) (entries_grown m n grown) chain.2,
  ap (λ bs. scope_of bs chain.0.kind) grown.entries.1 ∙ (scope_more m.entries grown.entries.0 chain.0.kind chain.2 ∙ chain.3),
  chain_grown m n grown chain.0.parent zs chain.4,
)

pub stands_grown : (m n : ScopeLists) (around : Around) (x : Spot) → Grown m n → Stands m around x → Stands n around x
stands_grown m n around x grown stands = record {
  names = chain_grown m n grown (Some around.scope) x.names stands.names;
  items = chain_grown m n grown (Some around.const_scope) x.items stands.items;
}

-- a scope is opened, and its entries before that

pub opens_by : (m n : ScopeLists) (p id : ScopeId) (k : ScopeKind) (more : List BindingId) (z : NameScope) → id.0 ≡ length m.scopes
    → n.scopes ≡ m.scopes ++ record { parent = Some p; kind = k } ∷ [] → n.entries ≡ m.entries ++ more → n.by_expr ≡ m.by_expr
    → IsWithin k (length n.entries) → scope_of n.entries k ≡ z → Opens m n p z id
opens_by m n p id k more z is scopes entries by_expr within same = record {
  grown = grown;
  by_expr = by_expr;
  in_range = omega (arith, is, ap length scopes, length-append m.scopes (record { parent = Some p; kind = k } ∷ []));
  inside = λ zs chain. (
    record { parent = Some p; kind = k },
    ap (λ ds. slice_get ds id.0) scopes ∙ (ap (slice_get (m.scopes ++ record { parent = Some p; kind = k } ∷ [])) is ∙ get_last m.scopes _),
    within,
    same,
    chain_grown m n grown (Some p) zs chain,
  );
}
  where
    grown : Grown m n
    grown = record { scopes = (record { parent = Some p; kind = k } ∷ [], scopes); entries = (more, entries) }

-- without entries of its own
pub opens_none : (m n : ScopeLists) (p id : ScopeId) (k : ScopeKind) → id.0 ≡ length m.scopes
    → n.scopes ≡ m.scopes ++ record { parent = Some p; kind = k } ∷ [] → n.entries ≡ m.entries → n.by_expr ≡ m.by_expr
    → IsWithin k 0 → Opens m n p (scope_of [] k) id
opens_none m n p id k is scopes entries by_expr within =
    opens_by m n p id k [] (scope_of [] k) is scopes (entries ∙ sym (append-nil m.entries)) by_expr
    (within_more k 0 (length n.entries) (omega arith) within) (scope_more [] n.entries k within)

-- with these entries
pub opens_bindings : (m n : ScopeLists) (p id : ScopeId) (bs : List BindingId) → id.0 ≡ length m.scopes
    → n.scopes ≡ m.scopes ++ record { parent = Some p; kind = kind.Bindings (length m.entries) (length (m.entries ++ bs)) } ∷ []
    → n.entries ≡ m.entries ++ bs → n.by_expr ≡ m.by_expr → Opens m n p (binding_scope bs) id
opens_bindings m n p id bs is scopes entries by_expr =
    opens_by m n p id (kind.Bindings (length m.entries) (length (m.entries ++ bs))) bs (binding_scope bs) is scopes entries by_expr
    (omega (arith, length-append m.entries bs), omega (arith, ap length entries))
    (ap (λ cs. scope_of cs (kind.Bindings (length m.entries) (length (m.entries ++ bs)))) entries
    ∙ ap binding_scope (range_end m.entries bs (length (m.entries ++ bs)) refl))

-- what a sink of entries is handed
pub taken_entries : (bs : List BindingId) (m : ScopeLists)
    → taken (λ n b. record n { entries = n.entries ++ b ∷ [] }) bs m ≡ record m { entries = m.entries ++ bs }
taken_entries [] m = ap {B = ScopeLists} (λ cs. record m { entries = cs }) (sym (append-nil m.entries))
taken_entries (b ∷ bs) m =
    taken_entries bs (record m { entries = m.entries ++ b ∷ [] })
    ∙ ap {B = ScopeLists} (λ cs. record m { entries = cs }) (append_assoc m.entries (b ∷ []) bs)

-- the bindings of one pattern after another
pub entries_next : (g : PatId → List BindingId) (m n : ScopeLists) (left : List PatId) (p : PatId) (rest : List PatId) → left ≡ p ∷ rest
    → n ≡ record m { entries = m.entries ++ g p }
    → record m { entries = m.entries ++ flat_map g left } ≡ record n { entries = n.entries ++ flat_map g rest }
entries_next g m n left p rest is added =
    ap {B = ScopeLists} (λ ps. record m { entries = m.entries ++ flat_map g ps }) is
    ∙ (ap {B = ScopeLists} (λ es. record m { entries = es }) (sym (append_assoc m.entries (g p) (flat_map g rest)))
    ∙ ap (λ (k : ScopeLists). record k { entries = k.entries ++ flat_map g rest }) (sym added))

pub entries_end : (g : PatId → List BindingId) (m : ScopeLists) (left : List PatId) → left ≡ []
    → record m { entries = m.entries ++ flat_map g left } ≡ m
entries_end g m left is =
    ap {B = ScopeLists} (λ ps. record m { entries = m.entries ++ flat_map g ps }) is
    ∙ ap {B = ScopeLists} (λ es. record m { entries = es }) (append-nil m.entries)

-- scopes are opened inside both, or inside the one of names

pub enters_names : (m n : ScopeLists) (around : Around) (id : ScopeId) (z : NameScope) → InRange m around
    → Opens m n around.scope z id
    → Enters m n around (λ x. in_scope x (z ∷ x.names)) (record { scope = id; const_scope = around.const_scope })
enters_names m n around id z in_range opens = record {
  grown = opens.grown;
  by_expr = opens.by_expr;
  in_range = record { scope = opens.in_range; const_scope = omega (arith, in_range.const_scope, scopes_grown m n opens.grown) };
  inside = λ x stands. record {
    names = opens.inside x.names stands.names;
    items = chain_grown m n opens.grown (Some around.const_scope) x.items stands.items;
  };
}

pub enters_both : (m n o : ScopeLists) (around : Around) (s t : ScopeId) (z w : NameScope) → InRange m around
    → Opens m n around.scope z s → Opens n o around.const_scope w t
    → Enters m o around (λ x. record { names = z ∷ x.names; items = w ∷ x.items }) (record { scope = s; const_scope = t })
enters_both m n o around s t z w in_range first second = record {
  grown = grown_then m n o first.grown second.grown;
  by_expr = second.by_expr ∙ first.by_expr;
  in_range = record { scope = omega (arith, first.in_range, scopes_grown n o second.grown); const_scope = second.in_range };
  inside = λ x stands. record {
    names = chain_grown n o second.grown (Some s) (z ∷ x.names) (first.inside x.names stands.names);
    items = second.inside x.items (chain_grown m n first.grown (Some around.const_scope) x.items stands.items);
  };
}

-- entries are added, and then the scope that has them
pub opens_added : (m k n : ScopeLists) (p id : ScopeId) (bs : List BindingId) (start : ℕ) → k ≡ record m { entries = m.entries ++ bs }
    → start ≡ length m.entries → id.0 ≡ length k.scopes
    → n.scopes ≡ k.scopes ++ record { parent = Some p; kind = kind.Bindings start (length k.entries) } ∷ [] → n.entries ≡ k.entries
    → n.by_expr ≡ k.by_expr → Opens m n p (binding_scope bs) id
opens_added m k n p id bs start added begins is scopes entries by_expr =
    opens_bindings m n p id bs (is ∙ ap (λ (x : ScopeLists). length x.scopes) added)
    (scopes
    ∙ (ap (λ (x : ScopeLists). x.scopes ++ record { parent = Some p; kind = kind.Bindings start (length x.entries) } ∷ []) added
    ∙ ap (λ a. m.scopes ++ record { parent = Some p; kind = kind.Bindings a (length (m.entries ++ bs)) } ∷ []) begins))
    (entries ∙ ap (λ (x : ScopeLists). x.entries) added) (by_expr ∙ ap (λ (x : ScopeLists). x.by_expr) added)
