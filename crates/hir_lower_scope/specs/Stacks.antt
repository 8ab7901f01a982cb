-- What the code keeps stands for the list of what is open, innermost first.
use Rattle.std.specs.Prelude.{◌≡◌, ◌≤◌, ℕ, nat_eq, Bool, false, if◌then◌else◌, List, [], ◌∷◌, length}
use Rattle.std.specs.Prelude.{Option, Some, None, unwrap_or}
use Rattle.std.specs.BTreeMap.{is_at}
use Rattle.std.specs.BTreeSet.{BTreeSet, contains}
use Rattle.std.specs.Map.{lookup}
use Rattle.std.specs.Ordering.{ordering_then, nat_cmp}
use Rattle.std.specs.declared.cmp.Ordering.{Ordering}
use Rattle.hir_store.specs.NameOrder.{name_cmp}
use Rattle.hir_store.specs.declared.name.Name.{Name}
use Rattle.hir_store.specs.declared.name.Name.TheVariants as name
use Rattle.hir_store.specs.declared.ids.LabelId.{LabelId}
use Rattle.hir_store.specs.declared.ids.HygieneId.{HygieneId}
use Rattle.hir_store.specs.declared.ids.MacroDefId.{MacroDefId}
use Rattle.hir_lower_scope.specs.ScopeRibs.{Rib, label_rib, try_rib, macro_rib, barrier_rib}
use Rattle.hir_lower_scope.specs.declared.stacks.Opened.{Opened}
use Rattle.hir_lower_scope.specs.declared.stacks.Opened.TheVariants as opened
use Rattle.hir_lower_scope.specs.declared.stacks.OpenTry.{OpenTry}
use Rattle.hir_lower_scope.specs.Depths.{by_key}
use Rattle.hir_lower_scope.specs.Ribs.{tries_of, barriers_of, rib_at, is_label, is_outer}

-- the name whose number this is
abbrev pub name_in : List (Name × ℕ) → ℕ → Option Name
name_in [] k = None
name_in (e ∷ es) k = if nat_eq e.1 k then Some e.0 else name_in es k

abbrev pub name_at : List (Name × ℕ) → ℕ → Name
name_at es k = unwrap_or (name_in es k) name.Missing

-- what was opened, where these are the names
abbrev pub rib_of : List (Name × ℕ) → Opened → Rib LabelId
rib_of es (opened.Label k h a) = label_rib (name_at es k) h a
rib_of es (opened.Try a typed) = try_rib a typed
rib_of es (opened.MacroDef d) = macro_rib d
rib_of es opened.Barrier = barrier_rib

abbrev pub ribs_of : List (Name × ℕ) → List Opened → List (Rib LabelId)
ribs_of es [] = []
ribs_of es (o ∷ os) = rib_of es o ∷ ribs_of es os

-- the number of a name
abbrev pub number_of : Name → List (Name × ℕ) → Option ℕ
number_of name es = lookup (is_at (name_cmp name)) es

-- Each name has a number of its own, and the next number is free.
pub record Known (es : List (Name × ℕ)) : Type 0 where
  pub named : (n : Name) (k : ℕ) → number_of n es ≡ Some k → name_in es k ≡ Some n
  pub free : (k : ℕ) → length es ≤ k → name_in es k ≡ None

-- Each label is noted by the number of its name.
abbrev pub Numbered : List (Name × ℕ) → List Opened → Type 0
Numbered es [] = Unit {0}
Numbered es (opened.Label k h a ∷ os) = (number_of (name_at es k) es ≡ Some k) × Numbered es os
Numbered es (opened.Try a typed ∷ os) = Numbered es os
Numbered es (opened.MacroDef d ∷ os) = Numbered es os
Numbered es (opened.Barrier ∷ os) = Numbered es os

abbrev pub label_cmp : ℕ × HygieneId → ℕ × HygieneId → Ordering
label_cmp x y = ordering_then (nat_cmp x.0 y.0) (nat_cmp x.1.0 y.1.0)

abbrev pub macro_cmp : MacroDefId → MacroDefId → Ordering
macro_cmp x y = nat_cmp x.0 y.0

-- whether the set has a name of this number and this hygiene at this depth
abbrev pub is_marked : BTreeSet ((ℕ × HygieneId) × ℕ) → Option ℕ → HygieneId → ℕ → Bool
is_marked ls None h q = false
is_marked ls (Some k) h q = contains (by_key label_cmp) ls ((k, h), q)

-- the sets and stacks are what is open
pub record Sorted (es : List (Name × ℕ)) (ls : BTreeSet ((ℕ × HygieneId) × ℕ)) (ms : BTreeSet (MacroDefId × ℕ)) (os : List Opened)
    (ts : List OpenTry) (bs : List ℕ) : Type 0 where
  pub labels : (n : Name) (h : HygieneId) (q : ℕ) → is_marked ls (number_of n es) h q ≡ is_label n h (rib_at q (ribs_of es os))
  pub macros : (d : MacroDefId) (q : ℕ) → contains (by_key macro_cmp) ms (d, q) ≡ is_outer (Some d) (rib_at q (ribs_of es os))
  pub unnamed : (k : ℕ) (h : HygieneId) (q : ℕ) → name_in es k ≡ None → contains (by_key label_cmp) ls ((k, h), q) ≡ false
  pub tries : ts ≡ tries_of (ribs_of es os)
  pub barriers : bs ≡ barriers_of (ribs_of es os)
  pub numbered : Numbered es os
  pub known : Known es

-- maybe with a name more
pub record Grown (es : List (Name × ℕ)) (fs : List (Name × ℕ)) : Type 0 where
  pub numbers : (n : Name) (k : ℕ) → number_of n es ≡ Some k → number_of n fs ≡ Some k
  pub others : (n : Name) (k : ℕ) → number_of n es ≡ None → number_of n fs ≡ Some k → name_in es k ≡ None
  pub unnamed : (k : ℕ) → name_in fs k ≡ None → name_in es k ≡ None
  pub known : Known fs
