-- What is in scope stays right where a scope is entered from the one around it, and where it is left for that.
use Rattle.std.proofs.Common.{arith, ◌≡◌, ◌∙◌, refl, sym, ap, subst, ◌+◌, ◌<◌, ℕ, zero, suc}
use Rattle.std.proofs.Common.{List, [], ◌∷◌, ◌++◌, Option, Some, None, length, slice_get}
use Rattle.std.proofs.lemmas.List.{append_assoc, append-nil}
use Rattle.std.specs.List.{flat_map}
use Rattle.std.specs.Prelude.{Result, Ok, Err, IfOk}
use Rattle.hir_lower_scope.specs.ScopeRibs.{Rib}
use Rattle.hir_scopes.specs.Bounds.{IsBefore, ScopeLists}
use Rattle.hir_scopes.specs.Chains.{IsChain, scope_of}
use Rattle.hir_scopes.specs.Parts.{entries_in, macro_def_in, parent_in}
use Rattle.hir_scopes.specs.declared.scope.ScopeData.{ScopeData}
use Rattle.hir_scopes.specs.declared.scope.ScopeId.{ScopeId}
use Rattle.hir_scopes.specs.declared.scope.ScopeKind.{ScopeKind}
use Rattle.hir_scopes.specs.declared.scope.ScopeKind.TheVariants as kind
use Rattle.hir_store.specs.Stored.{Store}
use Rattle.hir_store.specs.declared.ids.BindingId.{BindingId}
use Rattle.hir_names.specs.Walk.{Ends, IsInScope, Leads, how_far, macro_ribs, own_ribs, ribs_to}
use Rattle.spec_scopes.specs.Scopes.{Scopes, binding_ribs, ribs_of}

flat_push : {A B : Type 0} (f : A → List B) (xs : List A) (x : A) (ys : List B)
    → flat_map f (xs ++ x ∷ []) ++ ys ≡ flat_map f xs ++ (f x ++ ys)
flat_push f [] x ys = ap (λ zs. zs ++ ys) (append-nil (f x))
flat_push f (z ∷ xs) x ys =
    append_assoc (f z) (flat_map f (xs ++ x ∷ [])) ys
    ∙ (ap (λ zs. f z ++ zs) (flat_push f xs x ys) ∙ sym (append_assoc (f z) (flat_map f xs) (f x ++ ys)))

module _ (store : Store) (m : ScopeLists) where
  nothing_in_scope : IsInScope store m None []
  nothing_in_scope zero ends = refl
  nothing_in_scope (suc n) ends = refl

  entered : (s : ScopeId) (rs : List (Rib BindingId)) → IsInScope store m (parent_in (slice_get m.scopes s.0)) rs
      → IsInScope store m (Some s) (own_ribs store m s ++ rs)
  entered s rs at zero ends = elim ends [ ]
  entered s rs at (suc n) ends = ap (λ us. own_ribs store m s ++ us) (at n ends)

  -- a scope is left for the one around it
  pub scope_left : (s : ScopeId) (p : Option ScopeId) (rs us : List (Rib BindingId)) → p ≡ parent_in (slice_get m.scopes s.0)
      → ((vs : List (Rib BindingId)) → own_ribs store m s ++ vs ≡ rs → us ≡ vs) → IsInScope store m (Some s) rs → IsInScope store m p us
  scope_left s p rs us is leaves at =
      subst (λ o. IsInScope store m o us) (sym is)
      (λ n ends. leaves (ribs_to store m n (parent_in (slice_get m.scopes s.0))) (sym (at (suc n) ends)))

  pub empty_in_scope : (rs : List (Rib BindingId)) → rs ≡ [] → IsInScope store m None rs
  empty_in_scope rs none = subst (IsInScope store m None) (sym none) nothing_in_scope

  pub leads_at : (to there : Option ScopeId) (s : ScopeId) (way : List ScopeId) → there ≡ Some s → Leads store m to there way
      → Leads store m to (Some s) way
  leads_at to there s way is leads = subst (λ o. Leads store m to o way) is leads

  -- one more is on the way
  pub leads_more : (to : Option ScopeId) (s : ScopeId) (p : Option ScopeId) (way : List ScopeId)
      → p ≡ parent_in (slice_get m.scopes s.0) → Leads store m to (Some s) way → Leads store m to p (way ++ s ∷ [])
  leads_more to s p way is leads rs at =
      subst (IsInScope store m to) (sym (flat_push (own_ribs store m) way s rs))
      (leads (own_ribs store m s ++ rs) (entered s rs (subst (λ o. IsInScope store m o rs) is at)))

  -- the last of these is entered
  pub last_entered : (left rest : List ScopeId) (s : ScopeId) (rs us : List (Rib BindingId)) → left ≡ rest ++ s ∷ []
      → us ≡ own_ribs store m s ++ rs → flat_map (own_ribs store m) left ++ rs ≡ flat_map (own_ribs store m) rest ++ us
  last_entered left rest s rs us is entered =
      ap (λ ss. flat_map (own_ribs store m) ss ++ rs) is
      ∙ (flat_push (own_ribs store m) rest s rs ∙ ap (λ vs. flat_map (own_ribs store m) rest ++ vs) (sym entered))

  pub none_entered : (left : List ScopeId) (rs : List (Rib BindingId)) → left ≡ [] → flat_map (own_ribs store m) left ++ rs ≡ rs
  none_entered left rs none = ap (λ ss. flat_map (own_ribs store m) ss ++ rs) none

  pub no_way : (to : Option ScopeId) (way : List ScopeId) → way ≡ [] → Leads store m to to way
  no_way to way none rs at = subst (λ ss. IsInScope store m to (flat_map (own_ribs store m) ss ++ rs)) (sym none) at

  -- where the two meet
  pub way_entered : (to here there : Option ScopeId) (way : List ScopeId) (rs us : List (Rib BindingId)) {E : Type 0}
      (r : Result (Unit {0}) E) → here ≡ there → IfOk r (λ _. us ≡ flat_map (own_ribs store m) way ++ rs) → IsInScope store m here rs
      → Leads store m to there way → IfOk r (λ _. IsInScope store m to us)
  way_entered to here there way rs us (Ok v) met entered at leads =
      subst (IsInScope store m to) (sym entered) (leads rs (subst (λ o. IsInScope store m o rs) met at))
  way_entered to here there way rs us (Err e) met entered at leads = tt

  -- along a chain

  kind_ribs : (p : Option ScopeId) (k : ScopeKind) (zs : Scopes)
      → (binding_ribs store (entries_in m.entries (Some (record { parent = p; kind = k })))
      ++ macro_ribs (macro_def_in (Some (record { parent = p; kind = k })))) ++ ribs_of store zs
      ≡ ribs_of store (scope_of m.entries k ∷ zs)
  kind_ribs p (kind.Bindings start end) zs =
      ap (λ rs. rs ++ ribs_of store zs)
      (append-nil (binding_ribs store (entries_in m.entries (Some (record { parent = p; kind = kind.Bindings start end })))))
  kind_ribs p (kind.Block id label) zs = refl
  kind_ribs p (kind.Loop label) zs = refl
  kind_ribs p (kind.MacroDef d) zs = refl

  own_as : (s : ScopeId) (d : ScopeData) (zs : Scopes) → slice_get m.scopes s.0 ≡ Some d
      → own_ribs store m s ++ ribs_of store zs ≡ ribs_of store (scope_of m.entries d.kind ∷ zs)
  own_as s d zs is =
      ap (λ o. (binding_ribs store (entries_in m.entries o) ++ macro_ribs (macro_def_in o)) ++ ribs_of store zs) is
      ∙ kind_ribs d.parent d.kind zs

  chain_ends : (s : Option ScopeId) (zs : Scopes) → IsChain m s zs → Ends store m (length zs) s
  chain_ends None [] chain = tt
  chain_ends None (z ∷ zs) chain = elim chain [ ]
  chain_ends (Some s) [] chain = elim chain [ ]
  chain_ends (Some s) (z ∷ zs) chain =
      subst (λ o. Ends store m (length zs) (parent_in o)) (sym chain.1) (chain_ends chain.0.parent zs chain.4)

  chain_ribs : (s : Option ScopeId) (zs : Scopes) → IsChain m s zs → ribs_to store m (length zs) s ≡ ribs_of store zs
  chain_ribs None [] chain = refl
  chain_ribs None (z ∷ zs) chain = elim chain [ ]
  chain_ribs (Some s) [] chain = elim chain [ ]
  chain_ribs (Some s) (z ∷ zs) chain =
      ap (λ o. own_ribs store m s ++ ribs_to store m (length zs) (parent_in o)) chain.1
      ∙ (ap (λ rs. own_ribs store m s ++ rs) (chain_ribs chain.0.parent zs chain.4)
      ∙ (own_as s chain.0 zs chain.1 ∙ ap (λ y. ribs_of store (y ∷ zs)) chain.3))

  pub in_scope_chain : (s : Option ScopeId) (rs : List (Rib BindingId)) (zs : Scopes) → IsInScope store m s rs → IsChain m s zs
      → rs ≡ ribs_of store zs
  in_scope_chain s rs zs at chain = at (length zs) (chain_ends s zs chain) ∙ chain_ribs s zs chain

-- outward it gets nearer

pub nearer_here : (p here there : Option ScopeId) (s : ScopeId) → here ≡ Some s → IsBefore p s.0
    → how_far p + how_far there < how_far here + how_far there
nearer_here None here there s is before = let far = ap how_far is in omega (arith, far)
nearer_here (Some q) here there s is before = let far = ap how_far is in omega (arith, far, before)

pub nearer_there : (p here there : Option ScopeId) (s : ScopeId) → there ≡ Some s → IsBefore p s.0
    → how_far here + how_far p < how_far here + how_far there
nearer_there None here there s is before = let far = ap how_far is in omega (arith, far)
nearer_there (Some q) here there s is before = let far = ap how_far is in omega (arith, far, before)
