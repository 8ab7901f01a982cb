-- What encloses an expression, innermost first, with the numbers of its labels.
use Rattle.std.proofs.Common.{◌≡◌, ℕ, ◌<◌, ◌≤◌, Bool, List, [], ◌∷◌, Some, None, refl, ap, arith}
use Rattle.hir_store.specs.Pointers.{Pointer}
use Rattle.hir_store.specs.declared.ids.LabelId.{LabelId}
use Rattle.hir_store.specs.declared.ids.MacroDefId.{MacroDefId}
use Rattle.hir_env.specs.ResolvedTree.{Label}
use Rattle.hir_lower_scope.specs.ScopeRibs.{Rib, label_rib, try_rib, macro_rib, barrier_rib}
use Rattle.hir_lower_scope.specs.Scopes.{Scope, loop_scope, block_scope, try_scope, macro_scope, barrier}

pub data Frame : Type 0 where
  plain_loop : Frame
  loop_at : Label → LabelId → Frame
  block_at : Label → LabelId → Frame
  -- whether its type is written
  try_at : LabelId → Bool → Frame
  macro_at : MacroDefId → Frame
  barrier_at : Frame

-- A body inside runs in no scope of those around it.
abbrev pub inside : Frame → List Scope → List Scope
inside plain_loop ss = loop_scope None ∷ ss
inside (loop_at l n) ss = loop_scope (Some l) ∷ ss
inside (block_at l n) ss = block_scope l ∷ ss
inside (try_at n typed) ss = try_scope typed ∷ ss
inside (macro_at d) ss = macro_scope d ∷ ss
inside barrier_at ss = []

abbrev pub scopes : List Frame → List Scope
scopes [] = []
scopes (p ∷ ps) = inside p (scopes ps)

-- Its faults are judged by all that is around.
abbrev pub within : Frame → List Scope → List Scope
within barrier_at ss = barrier ∷ ss
within plain_loop ss = loop_scope None ∷ ss
within (loop_at l n) ss = loop_scope (Some l) ∷ ss
within (block_at l n) ss = block_scope l ∷ ss
within (try_at n typed) ss = try_scope typed ∷ ss
within (macro_at d) ss = macro_scope d ∷ ss

abbrev pub around : List Frame → List Scope
around [] = []
around (p ∷ ps) = within p (around ps)

-- what lowering keeps of them
abbrev pub rib : Label → LabelId → Rib LabelId
rib l n = label_rib l.name l.hygiene n

abbrev pub ribs : List Frame → List (Rib LabelId)
ribs [] = []
ribs (plain_loop ∷ ps) = ribs ps
ribs (loop_at l n ∷ ps) = rib l n ∷ ribs ps
ribs (block_at l n ∷ ps) = rib l n ∷ ribs ps
ribs (try_at n typed ∷ ps) = try_rib n typed ∷ ribs ps
ribs (macro_at d ∷ ps) = macro_rib d ∷ ribs ps
ribs (barrier_at ∷ ps) = barrier_rib ∷ ribs ps

-- Numbers fall going outward, and all are below b.
abbrev pub Falls : ℕ → List Frame → Type 0
Falls b [] = Unit {0}
Falls b (plain_loop ∷ ps) = Falls b ps
Falls b (loop_at l n ∷ ps) = (n.0 < b) × Falls n.0 ps
Falls b (block_at l n ∷ ps) = (n.0 < b) × Falls n.0 ps
Falls b (try_at n typed ∷ ps) = (n.0 < b) × Falls n.0 ps
Falls b (macro_at d ∷ ps) = Falls b ps
Falls b (barrier_at ∷ ps) = Unit {0}

pub falls_more : (ps : List Frame) (b c : ℕ) → b ≤ c → Falls b ps → Falls c ps
falls_more [] b c le f = tt
falls_more (plain_loop ∷ ps) b c le f = falls_more ps b c le f
falls_more (loop_at l n ∷ ps) b c le f = let lt : n.0 < b = f.0 in (omega arith, f.1)
falls_more (block_at l n ∷ ps) b c le f = let lt : n.0 < b = f.0 in (omega arith, f.1)
falls_more (try_at n typed ∷ ps) b c le f = let lt : n.0 < b = f.0 in (omega arith, f.1)
falls_more (macro_at d ∷ ps) b c le f = falls_more ps b c le f
falls_more (barrier_at ∷ ps) b c le f = tt

-- whatever is open, there are frames for it

abbrev somewhere : Pointer
somewhere = record { file_id = record { 0 = 0 }; value = record { node = record { 0 = 0 }; range = record { start = 0; end = 0 } } }

abbrev pub frames : List (Rib LabelId) → List Frame
frames [] = []
frames (label_rib name hygiene label ∷ rs) =
    loop_at (record { pointer = somewhere; name = name; hygiene = hygiene }) label ∷ frames rs
frames (try_rib label typed ∷ rs) = try_at label typed ∷ frames rs
frames (macro_rib d ∷ rs) = macro_at d ∷ frames rs
frames (barrier_rib ∷ rs) = barrier_at ∷ frames rs

pub ribs_frames : (rs : List (Rib LabelId)) → rs ≡ ribs (frames rs)
ribs_frames [] = refl
ribs_frames (label_rib name hygiene label ∷ rs) = ap (λ qs. label_rib name hygiene label ∷ qs) (ribs_frames rs)
ribs_frames (try_rib label typed ∷ rs) = ap (λ qs. try_rib label typed ∷ qs) (ribs_frames rs)
ribs_frames (macro_rib d ∷ rs) = ap (λ qs. macro_rib d ∷ qs) (ribs_frames rs)
ribs_frames (barrier_rib ∷ rs) = ap (λ qs. barrier_rib ∷ qs) (ribs_frames rs)
