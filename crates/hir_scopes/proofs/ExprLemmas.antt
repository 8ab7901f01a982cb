-- An expression with its parts, and a body.
use Rattle.std.proofs.Common.{arith, ◌≡◌, ◌⊎◌, ◌∙◌, inl, inr, refl, sym, ap, subst, ◌<◌, List, [], ◌∷◌, ◌++◌, Option, Some, None}
use Rattle.std.proofs.Common.{ℕ, Bool, false, length, length-append, slice_get, slice_set}
use Rattle.std.specs.List.{flat_map}
use Rattle.std.specs.Option.{option_to_list}
use Rattle.std.proofs.lemmas.List.{append-nil}
use Rattle.hir_store.specs.declared.hir.Expr.{Expr}
use Rattle.hir_store.specs.declared.hir.Expr.TheVariants as hir
use Rattle.hir_store.specs.declared.hir.Statement.{Statement}
use Rattle.hir_store.specs.declared.ids.BindingId.{BindingId}
use Rattle.hir_store.specs.declared.ids.BlockId.{BlockId}
use Rattle.hir_store.specs.declared.ids.ExprId.{ExprId}
use Rattle.hir_store.specs.declared.ids.LabelId.{LabelId}
use Rattle.hir_store.specs.declared.ids.PatId.{PatId}
use Rattle.hir_store.specs.Stored.{Store}
use Rattle.hir_scopes.specs.declared.scope.ScopeData.{ScopeData}
use Rattle.hir_scopes.specs.declared.scope.ScopeId.{ScopeId}
use Rattle.hir_scopes.specs.declared.scope.ScopeKind.TheVariants as kind
use Rattle.hir_scopes.specs.declared.opening.Around.{Around}
use Rattle.hir_scopes.specs.Bounds.{ScopeLists}
use Rattle.hir_scopes.specs.Chains.{Enters, Grown, InRange, IsChain, Stands, in_block}
use Rattle.hir_scopes.specs.Forms.{is_block}
use Rattle.hir_scopes.specs.Records.{HasScope, Is, Recorded, Records, SeenFrom, Walked}
use Rattle.hir_walks.specs.Pats.{bindings_in}
use Rattle.spec_scopes.specs.Placed.{Sees, Spot, after, after_form, after_part, in_scope, outermost, own_scopes, placed, placed_block}
use Rattle.spec_scopes.specs.Placed.{recorded}
use Rattle.spec_scopes.specs.Scopes.{binding_scope, block_scope}
use Rattle.hir_scopes.proofs.AfterLemmas.{after_is, after_none}
use Rattle.hir_scopes.proofs.ChainLemmas.{grown_then, stands_grown}
use Rattle.hir_scopes.proofs.Lists.{range_end}
use Rattle.hir_scopes.proofs.RecordLemmas.{records_alone, records_before, records_both, records_set, records_whole}

pub grown_equal : (m n : ScopeLists) → n.scopes ≡ m.scopes → n.entries ≡ m.entries → Grown m n
grown_equal m n scopes entries = record {
  scopes = ([], scopes ∙ sym (append-nil m.scopes));
  entries = ([], entries ∙ sym (append-nil m.entries));
}

pub in_range_equal : (m n : ScopeLists) (a : Around) → n.scopes ≡ m.scopes → InRange m a → InRange n a
in_range_equal m n a scopes in_range = record {
  scope = omega (arith, in_range.scope, ap length scopes);
  const_scope = omega (arith, in_range.const_scope, ap length scopes);
}

module _ (store : Store) where
  -- of another expression than a block the scope is recorded that it stands in
  pub recorded_as : (e : ExprId) (f : Expr) (x : Spot) → slice_get store.exprs e.0 ≡ Some f → is_block f ≡ false
      → x.names ≡ recorded store e x
  recorded_as e f x is other = sym (ap (λ o. own_scopes store o x.names) is ∙ own f other)
    where
      own : (g : Expr) → is_block g ≡ false → own_scopes store (Some g) x.names ≡ x.names
      own (hir.Block is_unsafe label id statements tail) other = absurd (grind (arith, other))
      own _ other = refl

  pub recorded_none : (e : ExprId) (x : Spot) → slice_get store.exprs e.0 ≡ None → x.names ≡ recorded store e x
  recorded_none e x is = sym (ap (λ o. own_scopes store o x.names) is)

  -- a block
  pub block_recorded : (m n o q : ScopeLists) (a r : Around) (id : ExprId) (block : Option BlockId) (label : Option LabelId)
      (statements : List Statement) (tail : Option ExprId) → Enters m n a (in_block block label) r → o.scopes ≡ n.scopes
      → o.entries ≡ n.entries → o.by_expr ≡ slice_set n.by_expr id.0 (Some r.scope) → Grown o q
      → Recorded store id o q r (placed_block store (after_part store id) statements tail) → (x : Spot) → Stands m a x
      → recorded store id x ≡ block_scope block label ∷ x.names → Records store m q (λ e y. Is id x e y
      ⊎ SeenFrom store id (placed_block store (after_part store id) statements tail (in_block block label x)) e y)
  block_recorded m n o q a r id block label statements tail enters scopes entries written more inside x stands own =
      let at = enters.inside x stands in
      let same = grown_equal n o scopes entries in
      let there = stands_grown n o r (in_block block label x) same at in
      records_before store m n q _ (grown_then n o q same more) enters.by_expr
      (records_both store n o q (Is id x)
      (SeenFrom store id (placed_block store (after_part store id) statements tail (in_block block label x))) more
      (records_set store n o id x r.scope written (subst (λ ss. IsChain o (Some r.scope) ss) (sym own) there.names))
      (inside (in_block block label x) there))

  pub block_own : (id : ExprId) (is_unsafe : Bool) (label : Option LabelId) (block : Option BlockId) (statements : List Statement)
      (tail : Option ExprId) (x : Spot) → slice_get store.exprs id.0 ≡ Some (hir.Block is_unsafe label block statements tail)
      → recorded store id x ≡ block_scope block label ∷ x.names
  block_own id is_unsafe label block statements tail x is = ap (λ o. own_scopes store o x.names) is

  pub block_whole : (m q : ScopeLists) (id : ExprId) (is_unsafe : Bool) (label : Option LabelId) (block : Option BlockId)
      (ss statements : List Statement) (tail : Option ExprId) (x : Spot)
      → slice_get store.exprs id.0 ≡ Some (hir.Block is_unsafe label block statements tail) → ss ≡ statements
      → (recorded store id x ≡ block_scope block label ∷ x.names → Records store m q (λ e y. Is id x e y
      ⊎ SeenFrom store id (placed_block store (after_part store id) ss tail (in_block block label x)) e y))
      → Records store m q (Sees store id x)
  block_whole m q id is_unsafe label block ss statements tail x is same records =
      records_whole store m q id x (hir.Block is_unsafe label block statements tail) is
      (subst (λ cs. Records store m q (λ e y. Is id x e y
      ⊎ SeenFrom store id (placed_block store (after_part store id) cs tail (in_block block label x)) e y)) same
      (records (block_own id is_unsafe label block statements tail x is)))

  -- another expression
  pub form_recorded : (m n o : ScopeLists) (a b : Around) (id : ExprId) (f : Expr) (g : Spot → Spot) → slice_get store.exprs id.0 ≡ Some f
      → is_block f ≡ false → n.scopes ≡ m.scopes → n.entries ≡ m.entries → n.by_expr ≡ slice_set m.by_expr id.0 (Some a.scope)
      → Grown n o → Walked store id n o a (placed store (after_part store id) f) g b → (x : Spot) → Stands m a x
      → Records store m o (Sees store id x)
  form_recorded m n o a b id f g is other scopes entries written more walked x stands =
      let there = stands_grown m n a x (grown_equal m n scopes entries) stands in
      records_whole store m o id x f is
      (records_both store m n o (Is id x) (SeenFrom store id (placed store (after_part store id) f x)) more
      (records_set store m n id x a.scope written (subst (λ ss. IsChain n (Some a.scope) ss) (recorded_as id f x is other) there.names))
      (walked x there).records)

  pub form_behind : (m n o : ScopeLists) (a b : Around) (id : ExprId) (f : Expr) (ps : Spot → List (ExprId × Spot))
      → slice_get store.exprs id.0 ≡ Some f → n.scopes ≡ m.scopes → n.entries ≡ m.entries
      → Walked store id n o a ps (λ x. in_scope x (after_form store (after_part store id) f x.names)) b → (x : Spot) → Stands m a x
      → Stands o b (in_scope x (after store id x.names))
  form_behind m n o a b id f ps is scopes entries walked x stands =
      let there = stands_grown m n a x (grown_equal m n scopes entries) stands in
      subst (λ ss. Stands o b (in_scope x ss)) (sym (after_is store id f x.names is)) (walked x there).stands

  -- behind a block the scopes are those in front of it
  pub block_behind : (m q : ScopeLists) (a : Around) (id : ExprId) (is_unsafe : Bool) (label : Option LabelId) (block : Option BlockId)
      (statements : List Statement) (tail : Option ExprId)
      → slice_get store.exprs id.0 ≡ Some (hir.Block is_unsafe label block statements tail) → Grown m q → (x : Spot) → Stands m a x
      → Stands q a (in_scope x (after store id x.names))
  block_behind m q a id is_unsafe label block statements tail is more x stands =
      subst (λ ss. Stands q a (in_scope x ss)) (sym (after_is store id (hir.Block is_unsafe label block statements tail) x.names is))
      (stands_grown m q a x more stands)

  -- an expression that isn't there
  pub none_recorded : (m n : ScopeLists) (a : Around) (id : ExprId) → slice_get store.exprs id.0 ≡ None → n.scopes ≡ m.scopes
      → n.entries ≡ m.entries → n.by_expr ≡ slice_set m.by_expr id.0 (Some a.scope) → (x : Spot) → Stands m a x
      → Records store m n (Sees store id x)
  none_recorded m n a id none scopes entries written x stands =
      let there = stands_grown m n a x (grown_equal m n scopes entries) stands in
      records_alone store m n id x none
      (records_set store m n id x a.scope written (subst (λ ss. IsChain n (Some a.scope) ss) (recorded_none id x none) there.names))

  pub none_behind : (m n : ScopeLists) (a : Around) (id : ExprId) → slice_get store.exprs id.0 ≡ None → n.scopes ≡ m.scopes
      → n.entries ≡ m.entries → (x : Spot) → Stands m a x → Stands n a (in_scope x (after store id x.names))
  none_behind m n a id none scopes entries x stands =
      subst (λ ss. Stands n a (in_scope x ss)) (sym (after_none store id x.names none))
      (stands_grown m n a x (grown_equal m n scopes entries) stands)

-- the outermost scope
pub outermost_chain : (n : ScopeLists) (id : ScopeId) (end : ℕ)
    → n.scopes ≡ record { parent = None; kind = kind.Bindings 0 end } ∷ [] → id.0 ≡ 0 → end ≡ length n.entries
    → IsChain n (Some id) (binding_scope n.entries ∷ [])
outermost_chain n id end scopes is whole = (
  record { parent = None; kind = kind.Bindings 0 end },
  ap (λ ds. slice_get ds id.0) scopes ∙ ap (slice_get (record { parent = None; kind = kind.Bindings 0 end } ∷ [])) is,
  (omega arith, omega (arith, whole)),
  ap binding_scope (range_end [] n.entries end whole),
  tt,
)

-- `self` and the parameters are entries, and then the outermost scope is opened
module _ (store : Store) (m k l n : ScopeLists) (self_param : Option BindingId) (params : List PatId) (id : ScopeId)
    (no_scopes : m.scopes ≡ []) (no_entries : m.entries ≡ [])
    (with_self : k ≡ record m { entries = m.entries ++ option_to_list self_param })
    (with_params : l ≡ record k { entries = k.entries ++ flat_map (bindings_in store) params }) (is : id.0 ≡ length l.scopes)
    (scopes : n.scopes ≡ l.scopes ++ record { parent = None; kind = kind.Bindings 0 (length l.entries) } ∷ [])
    (entries : n.entries ≡ l.entries) (by_expr : n.by_expr ≡ l.by_expr) where
  all_entries : n.entries ≡ option_to_list self_param ++ flat_map (bindings_in store) params
  all_entries =
      entries
      ∙ (ap (λ (x : ScopeLists). x.entries) with_params
      ∙ ap (λ bs. bs ++ flat_map (bindings_in store) params)
      (ap (λ (x : ScopeLists). x.entries) with_self ∙ ap (λ bs. bs ++ option_to_list self_param) no_entries))

  first_scope : l.scopes ≡ []
  first_scope = ap (λ (x : ScopeLists). x.scopes) with_params ∙ (ap (λ (x : ScopeLists). x.scopes) with_self ∙ no_scopes)

  outermost_is : IsChain n (Some id) (binding_scope (option_to_list self_param ++ flat_map (bindings_in store) params) ∷ [])
  outermost_is =
      subst (λ bs. IsChain n (Some id) (binding_scope bs ∷ [])) all_entries
      (outermost_chain n id (length l.entries)
      (scopes ∙ ap (λ ds. ds ++ record { parent = None; kind = kind.Bindings 0 (length l.entries) } ∷ []) first_scope)
      (is ∙ ap length first_scope) (sym (ap length entries)))

  pub outermost_stands : Stands n (record { scope = id; const_scope = id }) (outermost store self_param params)
  outermost_stands = record { names = outermost_is; items = outermost_is }

  pub outermost_in_range : InRange n (record { scope = id; const_scope = id })
  outermost_in_range =
      let within : id.0 < length n.scopes = omega (arith, is, ap length scopes, length-append l.scopes (outer ∷ [])) in
      record { scope = within; const_scope = within }
    where
      outer : ScopeData
      outer = record { parent = None; kind = kind.Bindings 0 (length l.entries) }

  pub outermost_by_expr : n.by_expr ≡ m.by_expr
  outermost_by_expr = by_expr ∙ (ap (λ (x : ScopeLists). x.by_expr) with_params ∙ ap (λ (x : ScopeLists). x.by_expr) with_self)

-- where no scope was recorded before
pub all_new : (store : Store) (m n : ScopeLists) (Seen : ExprId → Spot → Type 0)
    → ((e : ℕ) (s : ScopeId) → slice_get m.by_expr e ≡ Some (Some s) → ⊥) → Records store m n Seen → (e : ExprId) (s : ScopeId)
    → HasScope n e s → (y : Spot) × Seen e y × IsChain n (Some s) (recorded store e y)
all_new store m n Seen none records e s has = elim (records.new e s has) [ inl old ↦ elim (none e.0 s old) [ ] | inr it ↦ it ]
