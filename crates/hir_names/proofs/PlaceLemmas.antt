-- Bindings come in scope one by one, the last one first, and leave the other way round.
use Rattle.std.proofs.Common.{◌≡◌, ◌∙◌, refl, sym, ap, List, [], ◌∷◌, ◌++◌, Option, Some, None, slice_get}
use Rattle.std.proofs.lemmas.List.{append_assoc, append-nil}
use Rattle.std.specs.Prelude.{drop}
use Rattle.hir_lower_scope.specs.ScopeRibs.{Rib, label_rib}
use Rattle.hir_store.specs.Stored.{Store}
use Rattle.hir_store.specs.declared.ids.BindingId.{BindingId}
use Rattle.hir_store.specs.declared.ids.MacroDefId.{MacroDefId}
use Rattle.hir_store.specs.declared.pat.Binding.{Binding}
use Rattle.hir_names.specs.Walk.{macro_ribs}
use Rattle.spec_scopes.specs.Scopes.{binding_rib, binding_ribs}

module _ (store : Store) where
  -- one binding

  pub entered_binding : (b : BindingId) (o : Option Binding) (x : Binding) (rs us : List (Rib BindingId)) → o ≡ Some x
      → us ≡ label_rib x.name x.hygiene b ∷ rs → us ≡ binding_rib store b o ++ rs
  entered_binding b o x rs us is entered = entered ∙ ap (λ p. binding_rib store b p ++ rs) (sym is)

  pub no_binding_entered : (b : BindingId) (o : Option Binding) (rs : List (Rib BindingId)) → o ≡ None → rs ≡ binding_rib store b o ++ rs
  no_binding_entered b o rs is = ap (λ p. binding_rib store b p ++ rs) (sym is)

  pub binding_left : (b : BindingId) (o : Option Binding) (x : Binding) (rs us vs : List (Rib BindingId)) → o ≡ Some x → vs ≡ drop 1 us
      → binding_rib store b o ++ rs ≡ us → vs ≡ rs
  binding_left b o x rs us vs is left were =
      left ∙ (ap (drop 1) (sym were) ∙ ap (λ p. drop 1 (binding_rib store b p ++ rs)) is)

  pub no_binding_left : (b : BindingId) (o : Option Binding) (rs us : List (Rib BindingId)) → o ≡ None → binding_rib store b o ++ rs ≡ us
      → us ≡ rs
  no_binding_left b o rs us is were = sym were ∙ ap (λ p. binding_rib store b p ++ rs) is

  -- several

  ribs_push : (bs : List BindingId) (b : BindingId) → binding_ribs store (bs ++ b ∷ [])
      ≡ binding_ribs store bs ++ binding_rib store b (slice_get store.bindings b.0)
  ribs_push [] b = append-nil (binding_rib store b (slice_get store.bindings b.0))
  ribs_push (c ∷ bs) b =
      ap (λ rs. binding_rib store c (slice_get store.bindings c.0) ++ rs) (ribs_push bs b)
      ∙ sym (append_assoc (binding_rib store c (slice_get store.bindings c.0)) (binding_ribs store bs)
      (binding_rib store b (slice_get store.bindings b.0)))

  -- the last of these is entered
  pub last_entered : (left rest : List BindingId) (b : BindingId) (rs us : List (Rib BindingId)) → left ≡ rest ++ b ∷ []
      → us ≡ binding_rib store b (slice_get store.bindings b.0) ++ rs → binding_ribs store left ++ rs ≡ binding_ribs store rest ++ us
  last_entered left rest b rs us is entered =
      ap (λ bs. binding_ribs store bs ++ rs) is
      ∙ (ap (λ vs. vs ++ rs) (ribs_push rest b)
      ∙ (append_assoc (binding_ribs store rest) (binding_rib store b (slice_get store.bindings b.0)) rs
      ∙ ap (λ vs. binding_ribs store rest ++ vs) (sym entered)))

  pub none_entered : (left : List BindingId) (rs : List (Rib BindingId)) → left ≡ [] → binding_ribs store left ++ rs ≡ rs
  none_entered left rs none = ap (λ bs. binding_ribs store bs ++ rs) none

  -- the first of these is left
  pub first_left : (left rest : List BindingId) (b : BindingId) (rs us vs : List (Rib BindingId)) → left ≡ b ∷ rest
      → ((ws : List (Rib BindingId)) → binding_rib store b (slice_get store.bindings b.0) ++ ws ≡ us → vs ≡ ws)
      → us ≡ binding_ribs store left ++ rs → vs ≡ binding_ribs store rest ++ rs
  first_left left rest b rs us vs is leaves were =
      leaves (binding_ribs store rest ++ rs)
      (sym (append_assoc (binding_rib store b (slice_get store.bindings b.0)) (binding_ribs store rest) rs)
      ∙ (ap (λ bs. binding_ribs store bs ++ rs) (sym is) ∙ sym were))

  -- a scope, which has bindings or is that of a definition

  pub scope_entered : (bs cs : List BindingId) (d e : Option MacroDefId) (rs us vs : List (Rib BindingId)) → cs ≡ bs → e ≡ d
      → us ≡ macro_ribs e ++ rs → vs ≡ binding_ribs store cs ++ us → vs ≡ (binding_ribs store bs ++ macro_ribs d) ++ rs
  scope_entered bs cs d e rs us vs same same_def first second =
      second
      ∙ (ap (λ ws. binding_ribs store cs ++ ws) first
      ∙ (ap (λ xs. binding_ribs store xs ++ (macro_ribs e ++ rs)) same
      ∙ (ap (λ f. binding_ribs store bs ++ (macro_ribs f ++ rs)) same_def
      ∙ sym (append_assoc (binding_ribs store bs) (macro_ribs d) rs))))

  pub scope_left : (bs cs : List BindingId) (d e : Option MacroDefId) (rs os us vs : List (Rib BindingId)) → cs ≡ bs → e ≡ d
      → ((ws : List (Rib BindingId)) → binding_ribs store cs ++ ws ≡ os → us ≡ ws)
      → ((ws : List (Rib BindingId)) → macro_ribs e ++ ws ≡ us → vs ≡ ws)
      → (binding_ribs store bs ++ macro_ribs d) ++ rs ≡ os → vs ≡ rs
  scope_left bs cs d e rs os us vs same same_def first second were =
      second rs (sym (first (macro_ribs e ++ rs)
      (ap (λ xs. binding_ribs store xs ++ (macro_ribs e ++ rs)) same
      ∙ (ap (λ f. binding_ribs store bs ++ (macro_ribs f ++ rs)) same_def
      ∙ (sym (append_assoc (binding_ribs store bs) (macro_ribs d) rs) ∙ were)))))
