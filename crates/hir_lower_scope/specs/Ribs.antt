-- What is open, by kind and by depth, that is by how many ribs lie outside of it.
use Rattle.std.specs.Prelude.{ℕ, suc, nat_eq, nat_lt, Bool, false, ◌&&◌, ◌||◌, if◌then◌else◌, List, [], ◌∷◌, length, Option, Some, None}
use Rattle.hir_store.specs.Names.{same_name}
use Rattle.hir_store.specs.declared.name.Name.{Name}
use Rattle.hir_store.specs.declared.ids.LabelId.{LabelId}
use Rattle.hir_store.specs.declared.ids.HygieneId.{HygieneId}
use Rattle.hir_store.specs.declared.ids.MacroDefId.{MacroDefId}
use Rattle.hir_lower_scope.specs.ScopeRibs.{Rib, label_rib, try_rib, macro_rib, barrier_rib, Try, is_the}
use Rattle.hir_lower_scope.specs.declared.stacks.OpenTry.{OpenTry}

-- the labels of this name, innermost first
abbrev pub labels_of : Name → List (Rib LabelId) → List LabelId
labels_of name [] = []
labels_of name (label_rib n h a ∷ rs) = if same_name n name then a ∷ labels_of name rs else labels_of name rs
labels_of name (try_rib a typed ∷ rs) = labels_of name rs
labels_of name (macro_rib d ∷ rs) = labels_of name rs
labels_of name (barrier_rib ∷ rs) = labels_of name rs

abbrev pub macros_of : List (Rib LabelId) → List MacroDefId
macros_of [] = []
macros_of (label_rib n h a ∷ rs) = macros_of rs
macros_of (try_rib a typed ∷ rs) = macros_of rs
macros_of (macro_rib d ∷ rs) = d ∷ macros_of rs
macros_of (barrier_rib ∷ rs) = macros_of rs

-- with its depth
abbrev pub tries_of : List (Rib LabelId) → List OpenTry
tries_of [] = []
tries_of (label_rib n h a ∷ rs) = tries_of rs
tries_of (try_rib a typed ∷ rs) = record { depth = length rs; label = a; typed = typed } ∷ tries_of rs
tries_of (macro_rib d ∷ rs) = tries_of rs
tries_of (barrier_rib ∷ rs) = tries_of rs

-- one more than the depth of each border
abbrev pub barriers_of : List (Rib LabelId) → List ℕ
barriers_of [] = []
barriers_of (label_rib n h a ∷ rs) = barriers_of rs
barriers_of (try_rib a typed ∷ rs) = barriers_of rs
barriers_of (macro_rib d ∷ rs) = barriers_of rs
barriers_of (barrier_rib ∷ rs) = suc (length rs) ∷ barriers_of rs

-- the first, and 0 where there is none
abbrev pub first_or_zero : List ℕ → ℕ
first_or_zero [] = 0
first_or_zero (n ∷ ns) = n

-- one more than the depth of the innermost border, and 0 where there is none
abbrev pub past_barrier : List (Rib LabelId) → ℕ
past_barrier rs = first_or_zero (barriers_of rs)

-- the first of these, where no border is deeper
abbrev pub last_try : ℕ → List OpenTry → Option (Try LabelId)
last_try barrier [] = None
last_try barrier (t ∷ ts) = if nat_lt t.depth barrier then None else Some (record { place = t.label; typed = t.typed })

-- what is open at a depth

abbrev pub rib_at : ℕ → List (Rib LabelId) → Option (Rib LabelId)
rib_at q [] = None
rib_at q (r ∷ rs) = if nat_eq q (length rs) then Some r else rib_at q rs

-- whether it is a label of this name and hygiene
abbrev pub is_label : Name → HygieneId → Option (Rib LabelId) → Bool
is_label name h (Some (label_rib n y a)) = same_name n name && nat_eq y.0 h.0
is_label name h (Some (try_rib a typed)) = false
is_label name h (Some (macro_rib d)) = false
is_label name h (Some barrier_rib) = false
is_label name h None = false

-- whether it is the definition of this macro
abbrev pub is_outer : Option MacroDefId → Option (Rib LabelId) → Bool
is_outer outer (Some (label_rib n y a)) = false
is_outer outer (Some (try_rib a typed)) = false
is_outer outer (Some (macro_rib d)) = is_the outer d
is_outer outer (Some barrier_rib) = false
is_outer outer None = false

abbrev pub is_met : Name → HygieneId → Option MacroDefId → Option (Rib LabelId) → Bool
is_met name h outer r = is_label name h r || is_outer outer r

-- the label that it is
abbrev pub label_in : Option (Rib LabelId) → Option LabelId
label_in (Some (label_rib n h a)) = Some a
label_in (Some (try_rib a typed)) = None
label_in (Some (macro_rib d)) = None
label_in (Some barrier_rib) = None
label_in None = None
