-- Labels that are found exist, and a jump without a target is a fault.
use Rattle.std.proofs.Common.{arith, ◌≡◌, ◌∙◌, ◌≤◌, List, [], ◌∷◌, length, Option, Some, Result, Ok, Err, refl, subst}
use Rattle.hir_store.specs.Stored.{Stored}
use Rattle.hir_store.specs.declared.ids.LabelId.{LabelId}
use Rattle.hir_store.specs.Range.{HasLabel, HasLabelOption}
use Rattle.hir_env.specs.ResolvedTree.{Jump}
use Rattle.hir_env.specs.Answers.{Answers}
use Rattle.hir_env.specs.Answering.{jump}
use Rattle.hir_lower_scope.specs.ScopeRibs.{Rib, label_rib, try_rib, macro_rib, barrier_rib, innermost_try_rib}
use Rattle.hir_lower_scope.specs.ScopeRibs.{Target, reachable, unreachable, undeclared, target, search, sought_first}
use Rattle.hir_lower_scope.proofs.Ribs.{InReach, IfFound, target_in_reach}
use Rattle.hir_store.specs.Pointers.{Pointer}
use Rattle.hir_store.specs.declared.name.Name.{Name}
use Rattle.hir_store.specs.declared.ids.HygieneId.{HygieneId}
use Rattle.hir_lower_scope.specs.declared.labels.NoTarget.{NoTarget}
use Rattle.hir_lower_scope.specs.Labels.{answer}
use Rattle.hir_lower_builder.specs.Builder.{Builder, RibsExist, past_ribs}
use Rattle.hir_lower_builder.specs.Lowering.{Checked, HasTry, Lowering, Lowers, jump_target, found_or_fault, no_target}

all_exist : (s : Stored) (rs : List (Rib LabelId)) → past_ribs rs ≤ length s.labels.entries → InReach (HasLabel s) rs
all_exist s [] h = tt
all_exist s (label_rib name hygiene label ∷ rs) h = (omega arith, all_exist s rs (omega arith))
all_exist s (try_rib label typed ∷ rs) h = (omega arith, all_exist s rs (omega arith))
all_exist s (macro_rib d ∷ rs) h = all_exist s rs h
all_exist s (barrier_rib ∷ rs) h = tt

abbrev JumpResolved : Builder → Jump → Target LabelId → Result LabelId NoTarget → Type 0
JumpResolved b j t (Ok n) = (found_or_fault j t b ≡ (Ok (Some n), b)) × HasLabel b.stored n
JumpResolved b j t (Err x) = Unit {0}

pub found_lowers : (b : Builder) (env : Answers) (source : Pointer) (name : Name) (hygiene : HygieneId) (n : LabelId)
    → answer (search env.contexts name (sought_first hygiene) b.scopes) ≡ Ok n → RibsExist b
    → (jump_target (Some (jump env source name hygiene)) b ≡ (Ok (Some n), b)) × HasLabel b.stored n
unfolding jump_target
found_lowers b env source name hygiene n e exist =
    let j : Jump = jump env source name hygiene in
    let reach = target_in_reach (HasLabel b.stored) j b.scopes (all_exist b.stored b.scopes exist) in
    subst (JumpResolved b j (target j b.scopes)) e (by j (target j b.scopes) reach)
  where
    by : (j : Jump) (t : Target LabelId) → IfFound (HasLabel b.stored) t → JumpResolved b j t (answer t)
    by j (reachable k) h = (refl, h)
    by j unreachable h = tt
    by j undeclared h = tt

-- the innermost `try` exists

pub try_exists : (s : Stored) (rs : List (Rib LabelId)) → past_ribs rs ≤ length s.labels.entries → HasTry s (innermost_try_rib rs)
try_exists s [] h = omega arith
try_exists s (label_rib name hygiene label ∷ rs) h = try_exists s rs (omega arith)
try_exists s (try_rib label typed ∷ rs) h = omega arith
try_exists s (macro_rib d ∷ rs) h = try_exists s rs h
try_exists s (barrier_rib ∷ rs) h = omega arith

-- a jump without a target

-- what steps answer and leave where they start at this builder is what equal steps do
lowers_as : {A : Type 0} (Has : Stored → A → Type 0) (p q : Lowering A) (b : Builder) → p b ≡ q b
    → (r : Checked A) (new : Builder) → Lowers Has q b r new → Lowers Has p b r new
lowers_as Has p q b e (Ok a) new h = (e ∙ h.0, h.1, h.2)
lowers_as Has p q b e (Err x) new h = λ k. (e ∙ (h k).0, (h k).1)

abbrev JumpMissed : Builder → Jump → Target LabelId → Result LabelId NoTarget → Type 0
JumpMissed b j t (Ok n) = Unit {0}
JumpMissed b j t (Err cause) = found_or_fault j t b ≡ no_target cause j.pointer j.name b

pub missed_lowers : (b : Builder) (env : Answers) (source : Pointer) (name : Name) (hygiene : HygieneId) (cause : NoTarget)
    → answer (search env.contexts name (sought_first hygiene) b.scopes) ≡ Err cause
    → (r : Checked (Option LabelId)) (new : Builder) → Lowers HasLabelOption (no_target cause source name) b r new
    → Lowers HasLabelOption (jump_target (Some (jump env source name hygiene))) b r new
unfolding jump_target
missed_lowers b env source name hygiene cause e r new h =
    let j : Jump = jump env source name hygiene in
    let is : found_or_fault j (target j b.scopes) b ≡ no_target cause source name b =
    subst (JumpMissed b j (target j b.scopes)) e (by j (target j b.scopes)) in
    lowers_as HasLabelOption (jump_target (Some j)) (no_target cause source name) b is r new h
  where
    by : (j : Jump) (t : Target LabelId) → JumpMissed b j t (answer t)
    by j (reachable k) = tt
    by j unreachable = refl
    by j undeclared = refl
