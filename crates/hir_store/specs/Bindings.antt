-- Bindings, each with the patterns that make it.
use Rattle.std.specs.Prelude.{◌≡◌, ◌≢◌, ◌≤◌, ℕ, zero, suc, nat_lt, if◌then◌else◌}
use Rattle.std.specs.Prelude.{List, [], ◌∷◌, ◌++◌, length, map, Option, Some, None, Result, Ok, Err}
use Rattle.hir_store.specs.Arenas.{Prefix}
use Rattle.hir_store.specs.declared.error.StoreError.{StoreError}
use Rattle.hir_store.specs.declared.error.StoreError.TheVariants.{Memory, Full}
use Rattle.hir_store.specs.declared.ids.BindingId.{BindingId}
use Rattle.hir_store.specs.declared.ids.ExprId.{ExprId}
use Rattle.hir_store.specs.declared.ids.PatId.{PatId}
use Rattle.hir_store.specs.declared.pat.Binding.{Binding}
use Rattle.hir_binding.specs.declared.binding.BindingProblems.{BindingProblems}

-- Entry i of `entries` has number i; entry i of `definitions` has the patterns that make it, in the order in which they came, and
-- entry i of `owners` what owns it, where something does.
pub record Bindings : Type 0 where
  pub entries : List Binding
  pub definitions : List (List PatId)
  pub owners : List (Option ExprId)
  pub limit : ℕ

-- these parts as one
abbrev pub bindings_of : List Binding → List (List PatId) → List (Option ExprId) → ℕ → Bindings
bindings_of entries definitions owners limit =
    record { entries = entries; definitions = definitions; owners = owners; limit = limit }

abbrev pub none_bound : ℕ → Bindings
none_bound limit = record { entries = []; definitions = []; owners = []; limit = limit }

-- each binding has its patterns and may have an owner, and no more are there than there may be
pub record KeptBindings (a : Bindings) : Type 0 where
  pub as_many : length a.definitions ≡ length a.entries
  pub as_many_owners : length a.owners ≡ length a.entries
  pub fits : length a.entries ≤ a.limit

abbrev pub binding_id : ℕ → BindingId
binding_id n = record { 0 = n }

-- the entry at this place is another, where there is one
abbrev pub at_place : {A : Type 0} → ℕ → (A → A) → List A → List A
at_place n f [] = []
at_place zero f (x ∷ xs) = f x ∷ xs
at_place (suc n) f (x ∷ xs) = x ∷ at_place n f xs

-- the binding, with this wrong about it
abbrev pub problem_set : Option BindingProblems → Binding → Binding
problem_set problem b = record b { problems = problem }

-- a pattern more at the end
abbrev pub pattern_added : PatId → List PatId → List PatId
pattern_added p ps = ps ++ p ∷ []

-- a binding more, which no pattern makes yet, and which nothing owns
abbrev pub with_binding : Bindings → Binding → Bindings
with_binding a x = record a { entries = a.entries ++ x ∷ []; definitions = a.definitions ++ [] ∷ []; owners = a.owners ++ None ∷ [] }

abbrev pub with_definition : Bindings → BindingId → PatId → Bindings
with_definition a id p = record a { definitions = at_place id.0 (pattern_added p) a.definitions }

abbrev pub with_problem : Bindings → BindingId → Option BindingProblems → Bindings
with_problem a id problem = record a { entries = at_place id.0 (problem_set problem) a.entries }

-- what owns it, or else this
abbrev pub owned_else : ExprId → Option ExprId → Option ExprId
owned_else id None = Some id
owned_else id (Some owner) = Some owner

-- of those from this place on what owns each, or else this
abbrev pub own_from : ℕ → ExprId → List (Option ExprId) → List (Option ExprId)
own_from n id [] = []
own_from zero id (o ∷ os) = owned_else id o ∷ own_from zero id os
own_from (suc n) id (o ∷ os) = o ∷ own_from n id os

-- the places, of which the first has this number, that nothing owns
abbrev pub unowned_from : ℕ → List (Option ExprId) → List ℕ
unowned_from n [] = []
unowned_from n (None ∷ os) = n ∷ unowned_from (suc n) os
unowned_from n (Some owner ∷ os) = unowned_from (suc n) os

-- from this binding on this owns each that nothing owned
abbrev pub with_owner : Bindings → BindingId → ExprId → Bindings
with_owner a start id = record a { owners = own_from start.0 id a.owners }

-- what owns the binding at this place, where something does
abbrev pub owner_at : List (Option ExprId) → ℕ → Option ExprId
owner_at [] n = None
owner_at (o ∷ os) zero = o
owner_at (o ∷ os) (suc n) = owner_at os n

abbrev pub add_binding : Binding → Bindings → Result BindingId StoreError × Bindings
add_binding x a =
    if nat_lt (length a.entries) a.limit then (Ok (binding_id (length a.entries)), with_binding a x) else (Err Full, a)

-- what stays

-- what is settled of a binding as soon as it is stored
abbrev pub without_problem : Binding → Binding
without_problem = problem_set None

-- each list goes on
abbrev pub EachGoesOn : {A : Type 0} → List (List A) → List (List A) → Type 0
EachGoesOn [] yss = Unit {0}
EachGoesOn (xs ∷ xss) [] = ⊥
EachGoesOn (xs ∷ xss) (ys ∷ yss) = Prefix xs ys × EachGoesOn xss yss

-- what is owned stays owned by the same
abbrev pub StayOwned : List (Option ExprId) → List (Option ExprId) → Type 0
StayOwned [] ps = Unit {0}
StayOwned (o ∷ os) [] = ⊥
StayOwned (None ∷ os) (p ∷ ps) = StayOwned os ps
StayOwned (Some id ∷ os) (p ∷ ps) = (p ≡ Some id) × StayOwned os ps

-- Bindings stay, except for their problems, and so do the patterns that make them and what owns them.
pub record BindingsContinue (a b : Bindings) : Type 0 where
  pub entries : Prefix (map without_problem a.entries) (map without_problem b.entries)
  pub definitions : EachGoesOn a.definitions b.definitions
  pub owners : StayOwned a.owners b.owners
  pub limit : b.limit ≡ a.limit

-- no more may be there
abbrev pub BindingsAtLimit : Bindings → Type 0
BindingsAtLimit a = a.limit ≤ length a.entries

-- outcomes

-- The outcome of `alloc`, unless memory was refused, and then nothing changes.
abbrev pub AddsBinding : Binding → Bindings → Result BindingId StoreError → Bindings → Type 0
AddsBinding x old (Ok id) new =
    (add_binding x old ≡ (Ok id, new)) × BindingsContinue old new
    × (new ≡ with_binding old x) × (id ≡ binding_id (length old.entries))
AddsBinding x old (Err e) new = (new ≡ old) × (e ≢ Memory → (add_binding x old ≡ (Err e, new)) × BindingsAtLimit new)
