-- What lowering leaves as it was.
use Rattle.std.specs.Prelude.{◌≡◌, ◌≤◌, ◌⊎◌, ◌+◌, ℕ, true, nat_eq, if◌then◌else◌, List, [], ◌∷◌, length, map, slice_get}
use Rattle.std.specs.Prelude.{Option, Some, None, option_map, Ok, Err}
use Rattle.hir_store.specs.Arenas.{MapsBack, Sourced}
use Rattle.hir_store.specs.Pointers.{Pointer, value_at}
use Rattle.hir_store.specs.Stored.{Store, Stored, store_of}
use Rattle.hir_store.specs.StoreSink.{Checked, Extends}
use Rattle.hir_store.specs.declared.hir.ClosureKind.TheVariants as closure
use Rattle.hir_store.specs.declared.hir.Expr.{Expr}
use Rattle.hir_store.specs.declared.hir.Expr.TheVariants as hir
use Rattle.hir_store.specs.declared.hir.Label.{Label}
use Rattle.hir_store.specs.declared.ids.ExprId.{ExprId}
use Rattle.hir_store.specs.declared.ids.PatId.{PatId}
use Rattle.hir_store.specs.declared.name.Name.{Name}
use Rattle.hir_store.specs.declared.name.Name.TheVariants as name
use Rattle.hir_store.specs.declared.pat.Binding.{Binding}
use Rattle.hir_store.specs.declared.pat.Pat.{Pat}
use Rattle.hir_store.specs.declared.pat.Pat.TheVariants as pat
use Rattle.hir_env.specs.ResolvedTree.{Binder, OptionType, OptionPath, OptionExpr}
use Rattle.hir_lower_builder.specs.Builder.{Builder}
use Rattle.hir_lower_builder.specs.Lower.{type_part, lower_path, lower_part}

-- each entry has its source: an empty store is so, and stays so
pub record Paired (s : Stored) : Type 0 where
  pub exprs : length s.exprs.sources ≡ length s.exprs.entries
  pub labels : length s.labels.sources ≡ length s.labels.entries
  pub pats : length s.pats.sources ≡ length s.pats.entries
  pub types : length s.types.sources ≡ length s.types.entries
  pub lifetimes : length s.lifetimes.sources ≡ length s.lifetimes.entries

-- the node leads to an entry
pub record LeadsSomewhere {T I : Type 0} (a : Sourced T I) (p : Pointer) : Type 0 where
  pub id : I
  pub is : value_at a.map p ≡ Some id

-- Where an entry came from a node, that leads to one: to this or to another one, since the node of a call leads to what the call stands
-- for, which came from another node.
pub record EachLeads {T I : Type 0} (a : Sourced T I) : Type 0 where
  pub to_entry : (n : ℕ) (p : Pointer) → slice_get a.sources n ≡ Some (Some p) → LeadsSomewhere a p

-- The nodes of types and lifetimes lead to them, where of the types of one node one is led to, and no other node leads to a lifetime: so
-- it is in an empty store, and stays. A pattern may come from a node that leads nowhere: the macro call that is assigned to.
pub record Mapped (s : Stored) : Type 0 where
  pub types : EachLeads s.types
  pub lifetimes : MapsBack (λ i. i.0) s.lifetimes

pub record KeepsAll (b b' : Builder) : Type 0 where
  pub scopes : b'.scopes ≡ b.scopes
  pub in_root : b'.in_root ≡ b.in_root
  -- inside of a root none is recorded
  pub roots : b.in_root ≡ true → b'.stored.roots ≡ b.stored.roots
  pub paired : Paired b.stored → Paired b'.stored
  pub mapped : Paired b.stored → Mapped b.stored → Mapped b'.stored
  pub stays : Extends b.stored b'.stored

-- after a refusal something may be open, but nothing is lost
abbrev pub Keeps : {A : Type 0} → Builder → Checked A → Builder → Type 0
Keeps b (Ok a) b' = KeepsAll b b'
Keeps b (Err e) b' = Extends b.stored b'.stored

abbrev pub Keeping : Type 0
Keeping = (e : OptionExpr) (b : Builder) → Keeps b (lower_part e b).0 (lower_part e b).1

-- so it is of types and paths by themselves

abbrev pub TypesKeep : Type 0
TypesKeep = (binder : Option Binder) (t : OptionType) (b : Builder) → Keeps b (type_part binder t b).0 (type_part binder t b).1

abbrev pub PathsKeep : Type 0
PathsKeep = (p : OptionPath) (b : Builder) → Keeps b (lower_path p b).0 (lower_path p b).1

-- names that are made up

-- how often the name is the made one of this number
abbrev pub times_named : ℕ → Name → ℕ
times_named k (name.Generated n) = if nat_eq n k then 1 else 0
times_named k _ = 0

abbrev pub times_bound : ℕ → List Binding → ℕ
times_bound k [] = 0
times_bound k (b ∷ bs) = times_named k b.name + times_bound k bs

abbrev pub times_labelled : ℕ → List Label → ℕ
times_labelled k [] = 0
times_labelled k (l ∷ ls) = times_named k l.name + times_labelled k ls

-- how often it stands in bindings and labels
abbrev pub times_made : ℕ → Stored → ℕ
times_made k s = times_bound k s.bindings.entries + times_labelled k s.labels.entries

abbrev pub times_among : ℕ → List Name → ℕ
times_among k [] = 0
times_among k (n ∷ ns) = times_named k n + times_among k ns

-- the name that a pattern binds, where it is that alone
abbrev pub alone_in : List Binding → Option Pat → Option Name
alone_in bs (Some (pat.Bind id None)) = option_map (λ b. b.name) (slice_get bs id.0)
alone_in bs _ = None

abbrev pub name_alone : Store → PatId → Option Name
name_alone store p = alone_in store.bindings (slice_get store.pats p.0)

-- what a closure whose body is a coroutine is handed its arguments by
abbrev pub formals_in : Option Expr → List PatId
formals_in (Some (hir.Closure args types ret body (closure.CoroutineClosure which) by)) = args
formals_in _ = []

abbrev pub formals_of : Store → ℕ → List PatId
formals_of store n = formals_in (slice_get store.exprs n)

-- Each of these patterns is a name alone, and the made name of this number is that of just one.
pub record IsOneOf (k : ℕ) (store : Store) (formals : List PatId) : Type 0 where
  pub names : List Name
  pub are : map (name_alone store) formals ≡ map Some names
  pub once : times_among k names ≡ 1

-- the name of two bindings and of no label
pub record IsOfTwo (k : ℕ) (bindings : List Binding) (labels : List Label) : Type 0 where
  pub bound : times_bound k bindings ≡ 2
  pub labelled : times_labelled k labels ≡ 0

-- The closure of some number is handed an argument by that name: it is of two bindings, one of which is just one of its formal parameters.
pub record IsHanded (k : ℕ) (store : Store) : Type 0 where
  pub number : ℕ
  pub formal : IsOneOf k store (formals_of store number)
  pub two : IsOfTwo k store.bindings store.labels

-- Where so many names are made up, each of them is the name of one binding or label at most, or of two bindings where one of them is a
-- formal parameter of a closure whose body is a coroutine. No other made name is of any.
pub record MadeApart (names : ℕ) (s : Stored) : Type 0 where
  pub once : (k : ℕ) → (times_made k s ≤ 1) ⊎ IsHanded k (store_of s)
  pub later : (k : ℕ) → names ≤ k → times_made k s ≡ 0

-- so it stays
abbrev pub KeepsApart : Type 0
KeepsApart = (e : OptionExpr) (b b' : Builder) (i : ExprId) → Paired b.stored → lower_part e b ≡ (Ok i, b')
    → MadeApart b.names b.stored → MadeApart b'.names b'.stored
