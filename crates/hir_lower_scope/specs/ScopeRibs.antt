-- Which label a jump by name is for (Rust Reference, loop labels; rust-analyzer, `resolve_label`). All that asks for
-- it asks here: how a written body runs, what its faults are, which number its stored jumps have, and what lowering
-- finds.
use Rattle.std.specs.Prelude.{Bool, false, ◌&&◌, nat_eq, List, [], ◌∷◌, Option, Some, None, if◌then◌else◌}
use Rattle.hir_store.specs.Names.{same_name}
use Rattle.hir_store.specs.declared.name.Name.{Name}
use Rattle.hir_store.specs.declared.ids.HygieneId.{HygieneId}
use Rattle.hir_store.specs.declared.ids.CtxId.{CtxId}
use Rattle.hir_store.specs.declared.ids.MacroDefId.{MacroDefId}
use Rattle.hir_env.specs.Answers.{Contexts}
use Rattle.hir_env.specs.ResolvedTree.{Jump}

-- What such a jump meets on its way out: an open label, of which something is known (A), a `try`, of which the same is known and
-- whether its type is written, the definition of a macro, and the border of a closure, a coroutine or a constant.
pub data Rib (A : Type 0) : Type 0 where
  label_rib : Name → HygieneId → A → Rib A
  try_rib : A → Bool → Rib A
  macro_rib : MacroDefId → Rib A
  barrier_rib : Rib A

-- the hygiene that the label is to have, and the context that it is of; None: of a context that came from no macro
pub record Sought : Type 0 where
  pub hygiene : HygieneId
  pub context : Option CtxId

-- A hygiene is that of the context of its number. The root's came from no macro.
abbrev pub sought_first : HygieneId → Sought
sought_first h = record { hygiene = h; context = if nat_eq h.0 0 then None else Some (record { 0 = h.0 }) }

-- whether the label has the name, and the hygiene that is sought
abbrev pub is_for : Name → Sought → Name → HygieneId → Bool
is_for name s n h = same_name n name && nat_eq h.0 s.hygiene.0

abbrev pub is_the : Option MacroDefId → MacroDefId → Bool
is_the None d = false
is_the (Some m) d = nat_eq m.0 d.0

-- the label that is found; or one that would be, but lies behind a border; or none
pub data Target (A : Type 0) : Type 0 where
  reachable : A → Target A
  unreachable : Target A
  undeclared : Target A

abbrev pub behind : {A : Type 0} → Target A → Target A
behind (reachable a) = unreachable
behind unreachable = unreachable
behind undeclared = undeclared

module _ (contexts : Contexts) where
  -- as in the context that c was made in
  abbrev pub climbed : CtxId → Sought
  climbed c = record { hygiene = contexts.opaque (contexts.parent c); context = Some (contexts.parent c) }

  -- A macro may name the labels that were open where it was defined: out there its own hygiene is given up.
  abbrev pub past_macro : MacroDefId → Sought → Option CtxId → Sought
  past_macro d s None = s
  past_macro d s (Some c) = if is_the (contexts.outer_macro c) d then climbed c else s

  -- Outward, one rib after another. So it ends, whatever is answered of contexts.
  abbrev pub search : {A : Type 0} → Name → Sought → List (Rib A) → Target A
  search name s [] = undeclared
  search name s (label_rib n h a ∷ rs) = if is_for name s n h then reachable a else search name s rs
  -- a `try` has no name
  search name s (try_rib a typed ∷ rs) = search name s rs
  search name s (macro_rib d ∷ rs) = search name (past_macro d s s.context) rs
  search name s (barrier_rib ∷ rs) = behind (search name s rs)

abbrev pub target : {A : Type 0} → Jump → List (Rib A) → Target A
target j rs = search j.contexts j.name (sought_first j.hygiene) rs

-- the number that a stored jump has: that of its target, or none
abbrev pub number_found : {A : Type 0} → Target A → Option A
number_found (reachable n) = Some n
number_found unreachable = None
number_found undeclared = None

abbrev pub jump_number : {A : Type 0} → List (Rib A) → Option Jump → Option A
jump_number rs None = None
jump_number rs (Some j) = number_found (target j rs)

-- the innermost `try`

-- what is known of it, and whether its type is written
pub record Try (A : Type 0) : Type 0 where
  pub place : A
  pub typed : Bool

-- the one that a residual is for; no border of a body is passed for it
abbrev pub innermost_try_rib : {A : Type 0} → List (Rib A) → Option (Try A)
innermost_try_rib [] = None
innermost_try_rib (label_rib n h a ∷ rs) = innermost_try_rib rs
innermost_try_rib (try_rib a typed ∷ rs) = Some (record { place = a; typed = typed })
innermost_try_rib (macro_rib d ∷ rs) = innermost_try_rib rs
innermost_try_rib (barrier_rib ∷ rs) = None

abbrev pub map_try : {A B : Type 0} → (A → B) → Try A → Try B
map_try f t = record { place = f t.place; typed = t.typed }

-- what is known of the labels, told otherwise

abbrev pub map_rib : {A B : Type 0} → (A → B) → Rib A → Rib B
map_rib f (label_rib n h a) = label_rib n h (f a)
map_rib f (try_rib a typed) = try_rib (f a) typed
map_rib f (macro_rib d) = macro_rib d
map_rib f barrier_rib = barrier_rib

abbrev pub map_ribs : {A B : Type 0} → (A → B) → List (Rib A) → List (Rib B)
map_ribs f [] = []
map_ribs f (r ∷ rs) = map_rib f r ∷ map_ribs f rs

abbrev pub map_target : {A B : Type 0} → (A → B) → Target A → Target B
map_target f (reachable a) = reachable (f a)
map_target f unreachable = unreachable
map_target f undeclared = undeclared
