-- What a name means in the chain of a scope, scope by scope.
use Rattle.std.proofs.Common.{◌≡◌, ◌∙◌, refl, sym, ap, subst, List, [], ◌∷◌, ◌++◌, Option, Some, None, true, false, if◌then◌else◌}
use Rattle.std.proofs.Common.{slice_get}
use Rattle.hir_env.specs.Answers.{Contexts}
use Rattle.hir_lower_scope.specs.ScopeRibs.{Rib, Sought, Target, macro_rib, number_found, reachable, search}
use Rattle.hir_store.specs.declared.ids.BindingId.{BindingId}
use Rattle.hir_store.specs.declared.ids.MacroDefId.{MacroDefId}
use Rattle.hir_store.specs.declared.name.Name.{Name}
use Rattle.hir_store.specs.declared.pat.Binding.{Binding}
use Rattle.hir_store.specs.Stored.{Store}
use Rattle.hir_scopes.specs.declared.scope.ScopeId.{ScopeId}
use Rattle.hir_scopes.specs.declared.scope.ScopeKind.{ScopeKind}
use Rattle.hir_scopes.specs.declared.scope.ScopeKind.TheVariants as kind
use Rattle.hir_scopes.specs.Bounds.{ScopeLists}
use Rattle.hir_scopes.specs.Chains.{IsChain, scope_of}
use Rattle.hir_scopes.specs.Lookup.{is_binding_for, is_entry_for, or_else, past_def}
use Rattle.hir_scopes.specs.Parts.{entries_in, macro_def_in, parent_in}
use Rattle.spec_scopes.specs.Scopes.{Scopes, binding_rib, binding_ribs}
use Rattle.spec_scopes.specs.Scopes.{ribs_of}

module _ (store : Store) (contexts : Contexts) (name : Name) (s : Sought) where
  abbrev seek : List (Rib BindingId) → Target BindingId
  seek rs = search contexts name s rs

  -- entry by entry
  entry_is : (b : BindingId) (bs : List BindingId) (rs : List (Rib BindingId)) (o : Option Binding)
      → seek ((binding_rib store b o ++ binding_ribs store bs) ++ rs)
      ≡ (if is_binding_for name s o then reachable b else seek (binding_ribs store bs ++ rs))
  entry_is b bs rs None = refl
  entry_is b bs rs (Some x) = refl

  entry_first : (left : List BindingId) (b : BindingId) (bs : List BindingId) (rs : List (Rib BindingId)) → left ≡ b ∷ bs
      → seek (binding_ribs store left ++ rs)
      ≡ (if is_entry_for store name s b then reachable b else seek (binding_ribs store bs ++ rs))
  entry_first left b bs rs is =
      ap (λ cs. seek (binding_ribs store cs ++ rs)) is ∙ entry_is b bs rs (slice_get store.bindings b.0)

  pub entry_other : (left : List BindingId) (b : BindingId) (bs : List BindingId) (rs : List (Rib BindingId)) → left ≡ b ∷ bs
      → is_entry_for store name s b ≡ false → seek (binding_ribs store left ++ rs) ≡ seek (binding_ribs store bs ++ rs)
  entry_other left b bs rs is other =
      entry_first left b bs rs is ∙ ap (λ t. if t then reachable b else seek (binding_ribs store bs ++ rs)) other

  pub entry_found : (left : List BindingId) (b : BindingId) (bs : List BindingId) (rs : List (Rib BindingId)) → left ≡ b ∷ bs
      → is_entry_for store name s b ≡ true → seek (binding_ribs store left ++ rs) ≡ reachable b
  entry_found left b bs rs is same =
      entry_first left b bs rs is ∙ ap (λ t. if t then reachable b else seek (binding_ribs store bs ++ rs)) same

  pub entry_end : (left : List BindingId) (rs : List (Rib BindingId)) → left ≡ [] → seek (binding_ribs store left ++ rs) ≡ seek rs
  entry_end left rs is = ap (λ cs. seek (binding_ribs store cs ++ rs)) is

  -- scope by scope

  abbrev rest_of : Option BindingId → Option MacroDefId → Scopes → Target BindingId
  rest_of found def zs = or_else found (search contexts name (past_def contexts s def) (ribs_of store zs))

  scope_kind : (bs : List BindingId) (k : ScopeKind) (p : Option ScopeId) (zs : Scopes) (found : Option BindingId)
      → ((rs : List (Rib BindingId))
      → seek (binding_ribs store (entries_in bs (Some (record { parent = p; kind = k }))) ++ rs) ≡ or_else found (seek rs))
      → seek (ribs_of store (scope_of bs k ∷ zs)) ≡ rest_of found (macro_def_in (Some (record { parent = p; kind = k }))) zs
  scope_kind bs (kind.Bindings start end) p zs found look = look (ribs_of store zs)
  scope_kind bs (kind.Block id label) p zs found look = look (ribs_of store zs)
  scope_kind bs (kind.Loop label) p zs found look = look (ribs_of store zs)
  scope_kind bs (kind.MacroDef d) p zs found look = look (macro_rib d ∷ ribs_of store zs)

  -- the chain of a scope is looked through
  pub scope_step : (m : ScopeLists) (id : ScopeId) (zs : Scopes) (found : Option BindingId) → IsChain m (Some id) zs
      → ((rs : List (Rib BindingId))
      → seek (binding_ribs store (entries_in m.entries (slice_get m.scopes id.0)) ++ rs) ≡ or_else found (seek rs))
      → (ys : Scopes) × IsChain m (parent_in (slice_get m.scopes id.0)) ys
      × (seek (ribs_of store zs) ≡ rest_of found (macro_def_in (slice_get m.scopes id.0)) ys)
  scope_step m id [] found chain look = elim chain [ ]
  scope_step m id (z ∷ zs) found chain look = (
    zs,
    subst (λ o. IsChain m (parent_in o) zs) (sym chain.1) chain.4,
    ap (λ y. seek (ribs_of store (y ∷ zs))) (sym chain.3)
        ∙ (scope_kind m.entries chain.0.kind chain.0.parent zs found
        (λ rs. ap (λ o. seek (binding_ribs store (entries_in m.entries o) ++ rs)) (sym chain.1) ∙ look rs)
        ∙ ap (λ o. rest_of found (macro_def_in o) zs) (sym chain.1)),
  )

module _ (store : Store) (contexts : Contexts) (name : Name) (w : Sought) (m : ScopeLists) (next : Option ScopeId) (id : ScopeId)
    (entries : List BindingId) (zs : Scopes) (here : next ≡ Some id) (chain : IsChain m next zs)
    (all : entries ≡ entries_in m.entries (slice_get m.scopes id.0)) where
  abbrev from_here : IsChain m (Some id) zs
  from_here = subst (λ s. IsChain m s zs) here chain

  pub resolve_next : (v : Sought) (def : Option MacroDefId) (after : Option ScopeId)
      → ((rs : List (Rib BindingId)) → search contexts name w (binding_ribs store entries ++ rs) ≡ search contexts name w rs)
      → def ≡ macro_def_in (slice_get m.scopes id.0) → v ≡ past_def contexts w def → after ≡ parent_in (slice_get m.scopes id.0)
      → (ys : Scopes) × IsChain m after ys × (search contexts name w (ribs_of store zs) ≡ search contexts name v (ribs_of store ys))
  resolve_next v def after none is_def is_sought is_after =
      let step = scope_step store contexts name w m id zs None from_here
      (λ rs. ap (λ bs. search contexts name w (binding_ribs store bs ++ rs)) (sym all) ∙ none rs) in (
        step.0,
        subst (λ s. IsChain m s step.0) (sym is_after) step.1,
        step.2
            ∙ ap (λ s. search contexts name s (ribs_of store step.0)) (ap (past_def contexts w) (sym is_def) ∙ sym is_sought),
      )

  pub resolve_found : (b : BindingId)
      → ((rs : List (Rib BindingId)) → search contexts name w (binding_ribs store entries ++ rs) ≡ reachable b)
      → number_found (search contexts name w (ribs_of store zs)) ≡ Some b
  resolve_found b found =
      let step = scope_step store contexts name w m id zs (Some b) from_here
      (λ rs. ap (λ bs. search contexts name w (binding_ribs store bs ++ rs)) (sym all) ∙ found rs) in
      ap number_found step.2

pub resolve_end : (store : Store) (contexts : Contexts) (name : Name) (w : Sought) (m : ScopeLists) (next : Option ScopeId) (zs : Scopes)
    → next ≡ None → IsChain m next zs → number_found (search contexts name w (ribs_of store zs)) ≡ None
resolve_end store contexts name w m next zs end chain = at_end zs (subst (λ s. IsChain m s zs) end chain)
  where
    at_end : (ys : Scopes) → IsChain m None ys → number_found (search contexts name w (ribs_of store ys)) ≡ None
    at_end [] chain = refl
    at_end (y ∷ ys) chain = elim chain [ ]
