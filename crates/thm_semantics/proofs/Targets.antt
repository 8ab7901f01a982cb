-- The number that lowering gives a jump stands for the target that the jump has as it is written.
use Rattle.std.proofs.Common.{◌≡◌, inl, inr, ℕ, ◌<◌, ◌≤◌, Bool, false, true, nat_eq, List, [], ◌∷◌, Option, Some, None, refl, sym, ap}
use Rattle.std.proofs.Common.{◌∙◌, arith}
use Rattle.std.proofs.lemmas.Bool.Decides.{nat_tests}
use Rattle.hir_store.specs.declared.ids.LabelId.{LabelId}
use Rattle.hir_store.specs.declared.ids.MacroDefId.{MacroDefId}
use Rattle.hir_env.specs.ResolvedTree.{Label, Jump}
use Rattle.hir_lower_scope.specs.ScopeRibs.{Rib, label_rib, try_rib, macro_rib, barrier_rib, Target, reachable, unreachable, undeclared}
use Rattle.hir_lower_scope.specs.ScopeRibs.{target}
use Rattle.hir_lower_scope.specs.ScopeRibs.{Try, innermost_try_rib}
use Rattle.hir_lower_scope.specs.ScopeRibs.{number_found, jump_number, map_ribs, map_target}
use Rattle.hir_lower_scope.specs.Scopes.{count_further, Bearer, a_loop, a_block, one_out, ribs as scope_ribs, innermost_loop}
use Rattle.hir_lower_scope.specs.Scopes.{further_try, innermost_try}
use Rattle.hir_lower_scope.specs.Scopes.{break_found, continue_found, break_target, continue_target}
use Rattle.hir_lower_scope.proofs.Ribs.{target_map, InReach, IfFound, target_in_reach, in_reach_map, map_ribs_twice}
use Rattle.hir_lower_scope.proofs.Within.{within, target_within}
use Rattle.thm_logic.proofs.Frames.{Frame, plain_loop, loop_at, block_at, try_at, macro_at, barrier_at, scopes, rib, ribs, Falls}
use Rattle.spec_semantics.specs.Jumps.{Among, NamesAmong}
use Rattle.thm_semantics.proofs.Views.{count_break, count_continue, numbers}

-- targets

pub plain_target : (ps : List Frame)
    → (count_break ps None ≡ innermost_loop (scopes ps)) × (count_continue ps None ≡ innermost_loop (scopes ps))
plain_target [] = (refl, refl)
plain_target (plain_loop ∷ ps) = (refl, refl)
plain_target (loop_at l n ∷ ps) = (refl, refl)
plain_target (block_at l n ∷ ps) = (ap count_further (plain_target ps).0, ap count_further (plain_target ps).1)
plain_target (try_at n typed ∷ ps) = (ap count_further (plain_target ps).0, ap count_further (plain_target ps).1)
plain_target (macro_at d ∷ ps) = plain_target ps
plain_target (barrier_at ∷ ps) = (refl, refl)

differs : (n k : LabelId) → k.0 < n.0 → (nat_eq n.0 k.0) ≡ false
differs n k lt = grind (arith, nat_tests)

is_same : (n : LabelId) → (nat_eq n.0 n.0) ≡ true
is_same n = grind (arith, nat_tests)

none_left : (ps : List Frame) (b : ℕ) (k : LabelId) → Falls b ps → b ≤ k.0 → count_continue ps (Some k) ≡ None
none_left [] b k f le = refl
none_left (plain_loop ∷ ps) b k f le = ap count_further (none_left ps b k f le)
none_left (loop_at l n ∷ ps) b k f le =
    let lt : n.0 < b = f.0 in
    let ne : (nat_eq n.0 k.0) ≡ false = grind (arith, nat_tests) in
    let le' : n.0 ≤ k.0 = omega arith in
    rw ne (ap count_further (none_left ps n.0 k f.1 le'))
none_left (block_at l n ∷ ps) b k f le =
    let lt : n.0 < b = f.0 in
    let le' : n.0 ≤ k.0 = omega arith in
    ap count_further (none_left ps n.0 k f.1 le')
none_left (try_at n typed ∷ ps) b k f le =
    let lt : n.0 < b = f.0 in
    let le' : n.0 ≤ k.0 = omega arith in
    ap count_further (none_left ps n.0 k f.1 le')
none_left (macro_at d ∷ ps) b k f le = none_left ps b k f le
none_left (barrier_at ∷ ps) b k f le = refl

-- the labels that are in reach: their numbers, and what bears them

abbrev pub Reached : Type 0
Reached = LabelId × Bearer

abbrev outer : Reached → Reached
outer x = (x.0, one_out x.1)

abbrev number_of : Reached → LabelId
number_of x = x.0

abbrev bearer_of : Reached → Bearer
bearer_of x = x.1

abbrev pub reach : List Frame → List (Rib Reached)
reach [] = []
reach (plain_loop ∷ ps) = map_ribs outer (reach ps)
reach (loop_at l n ∷ ps) = label_rib l.name l.hygiene (n, a_loop 0) ∷ map_ribs outer (reach ps)
reach (block_at l n ∷ ps) = label_rib l.name l.hygiene (n, a_block 0) ∷ map_ribs outer (reach ps)
reach (try_at n typed ∷ ps) = try_rib (n, a_block 0) typed ∷ map_ribs outer (reach ps)
reach (macro_at d ∷ ps) = macro_rib d ∷ reach ps
reach (barrier_at ∷ ps) = []

same_numbers : (rs : List (Rib LabelId)) (xs : List (Rib Reached)) → within rs ≡ map_ribs number_of xs
    → within rs ≡ map_ribs number_of (map_ribs outer xs)
same_numbers rs xs e = e ∙ sym (map_ribs_twice outer number_of xs)

-- what lowering keeps, as far as it is in reach
ribs_reach : (ps : List Frame) → within (ribs ps) ≡ map_ribs number_of (reach ps)
ribs_reach [] = refl
ribs_reach (plain_loop ∷ ps) = same_numbers (ribs ps) (reach ps) (ribs_reach ps)
ribs_reach (loop_at l n ∷ ps) = ap (λ x. rib l n ∷ x) (same_numbers (ribs ps) (reach ps) (ribs_reach ps))
ribs_reach (block_at l n ∷ ps) = ap (λ x. rib l n ∷ x) (same_numbers (ribs ps) (reach ps) (ribs_reach ps))
ribs_reach (try_at n typed ∷ ps) = ap (λ x. try_rib n typed ∷ x) (same_numbers (ribs ps) (reach ps) (ribs_reach ps))
ribs_reach (macro_at d ∷ ps) = ap (λ x. macro_rib d ∷ x) (ribs_reach ps)
ribs_reach (barrier_at ∷ ps) = refl

farther : (rs : List (Rib Bearer)) (xs : List (Rib Reached)) → rs ≡ map_ribs bearer_of xs
    → map_ribs one_out rs ≡ map_ribs bearer_of (map_ribs outer xs)
farther rs xs e = ap (map_ribs one_out) e ∙ (map_ribs_twice bearer_of one_out xs ∙ sym (map_ribs_twice outer bearer_of xs))

-- and what the syntax sees
scopes_reach : (ps : List Frame) → scope_ribs (scopes ps) ≡ map_ribs bearer_of (reach ps)
scopes_reach [] = refl
scopes_reach (plain_loop ∷ ps) = farther (scope_ribs (scopes ps)) (reach ps) (scopes_reach ps)
scopes_reach (loop_at l n ∷ ps) =
    ap (λ x. label_rib l.name l.hygiene (a_loop 0) ∷ x) (farther (scope_ribs (scopes ps)) (reach ps) (scopes_reach ps))
scopes_reach (block_at l n ∷ ps) =
    ap (λ x. label_rib l.name l.hygiene (a_block 0) ∷ x) (farther (scope_ribs (scopes ps)) (reach ps) (scopes_reach ps))
scopes_reach (try_at n typed ∷ ps) =
    ap (λ x. try_rib (a_block 0) typed ∷ x) (farther (scope_ribs (scopes ps)) (reach ps) (scopes_reach ps))
scopes_reach (macro_at d ∷ ps) = ap (λ x. macro_rib d ∷ x) (scopes_reach ps)
scopes_reach (barrier_at ∷ ps) = refl

-- So the number that lowering finds and the construct that the syntax finds are those of one label.
pub record Joined (ps : List Frame) (j : Jump) : Type 0 where
  pub number : number_found (target j (ribs ps)) ≡ number_found (map_target number_of (target j (reach ps)))
  pub bearer : target j (scope_ribs (scopes ps)) ≡ map_target bearer_of (target j (reach ps))

pub joined : (ps : List Frame) (j : Jump) → Joined ps j
joined ps j = record {
  number = target_within j (ribs ps) ∙ ap number_found (ap (target j) (ribs_reach ps) ∙ target_map number_of j (reach ps));
  bearer = ap (target j) (scopes_reach ps) ∙ target_map bearer_of j (reach ps);
}

-- a number stands for what bears it

-- the number is one below b, of what bears it and of nothing nearer
abbrev pub Right : ℕ → List Frame → Reached → Type 0
Right b ps (n, a_loop k) = (n.0 < b) × (count_break ps (Some n) ≡ Some k) × (count_continue ps (Some n) ≡ Some k)
Right b ps (n, a_block k) = (n.0 < b) × (count_break ps (Some n) ≡ Some k) × (count_continue ps (Some n) ≡ None)

out_of_loop : (b : ℕ) (ps : List Frame) (x : Reached) → Right b ps x → Right b (plain_loop ∷ ps) (outer x)
out_of_loop b ps (n, a_loop k) h = (h.0, ap count_further h.1, ap count_further h.2)
out_of_loop b ps (n, a_block k) h = (h.0, ap count_further h.1, ap count_further h.2)

out_of_loop_at : (b : ℕ) (l : Label) (m : LabelId) (ps : List Frame) → m.0 < b → (x : Reached) → Right m.0 ps x
    → Right b (loop_at l m ∷ ps) (outer x)
out_of_loop_at b l m ps lt (n, a_loop k) h =
    let n_lt : n.0 < m.0 = h.0 in let ne = differs m n h.0 in (omega arith, rw ne (ap count_further h.1), rw ne (ap count_further h.2))
out_of_loop_at b l m ps lt (n, a_block k) h =
    let n_lt : n.0 < m.0 = h.0 in let ne = differs m n h.0 in (omega arith, rw ne (ap count_further h.1), rw ne (ap count_further h.2))

out_of_block_at : (b : ℕ) (l : Label) (m : LabelId) (ps : List Frame) → m.0 < b → (x : Reached) → Right m.0 ps x
    → Right b (block_at l m ∷ ps) (outer x)
out_of_block_at b l m ps lt (n, a_loop k) h =
    let n_lt : n.0 < m.0 = h.0 in let ne = differs m n h.0 in (omega arith, rw ne (ap count_further h.1), ap count_further h.2)
out_of_block_at b l m ps lt (n, a_block k) h =
    let n_lt : n.0 < m.0 = h.0 in let ne = differs m n h.0 in (omega arith, rw ne (ap count_further h.1), ap count_further h.2)

out_of_try_at : (b : ℕ) (m : LabelId) (typed : Bool) (ps : List Frame) → m.0 < b → (x : Reached) → Right m.0 ps x
    → Right b (try_at m typed ∷ ps) (outer x)
out_of_try_at b m typed ps lt (n, a_loop k) h =
    let n_lt : n.0 < m.0 = h.0 in let ne = differs m n h.0 in (omega arith, rw ne (ap count_further h.1), ap count_further h.2)
out_of_try_at b m typed ps lt (n, a_block k) h =
    let n_lt : n.0 < m.0 = h.0 in let ne = differs m n h.0 in (omega arith, rw ne (ap count_further h.1), ap count_further h.2)

past_macro_at : (b : ℕ) (d : MacroDefId) (ps : List Frame) (x : Reached) → Right b ps x → Right b (macro_at d ∷ ps) x
past_macro_at b d ps (n, a_loop k) h = h
past_macro_at b d ps (n, a_block k) h = h

abbrev itself : Reached → Reached
itself x = x

map_itself : (rs : List (Rib Reached)) → map_ribs itself rs ≡ rs
map_itself [] = refl
map_itself (label_rib n h a ∷ rs) = ap (λ x. label_rib n h a ∷ x) (map_itself rs)
map_itself (try_rib a typed ∷ rs) = ap (λ x. try_rib a typed ∷ x) (map_itself rs)
map_itself (macro_rib d ∷ rs) = ap (λ x. macro_rib d ∷ x) (map_itself rs)
map_itself (barrier_rib ∷ rs) = ap (λ x. barrier_rib ∷ x) (map_itself rs)

all_right : (ps : List Frame) (b : ℕ) → Falls b ps → InReach (Right b ps) (reach ps)
all_right [] b f = tt
all_right (plain_loop ∷ ps) b f =
    in_reach_map outer (Right b ps) (Right b (plain_loop ∷ ps)) (reach ps) (out_of_loop b ps) (all_right ps b f)
all_right (loop_at l n ∷ ps) b f = let e = is_same n in (
  (f.0, rw e refl, rw e refl),
  in_reach_map outer (Right n.0 ps) (Right b (loop_at l n ∷ ps)) (reach ps) (out_of_loop_at b l n ps f.0) (all_right ps n.0 f.1),
)
all_right (block_at l n ∷ ps) b f = let e = is_same n in let le : n.0 ≤ n.0 = omega arith in (
  (f.0, rw e refl, ap count_further (none_left ps n.0 n f.1 le)),
  in_reach_map outer (Right n.0 ps) (Right b (block_at l n ∷ ps)) (reach ps) (out_of_block_at b l n ps f.0) (all_right ps n.0 f.1),
)
all_right (try_at n typed ∷ ps) b f = let e = is_same n in let le : n.0 ≤ n.0 = omega arith in (
  (f.0, rw e refl, ap count_further (none_left ps n.0 n f.1 le)),
  in_reach_map outer (Right n.0 ps) (Right b (try_at n typed ∷ ps)) (reach ps) (out_of_try_at b n typed ps f.0) (all_right ps n.0 f.1),
)
all_right (macro_at d ∷ ps) b f =
    rw (← map_itself (reach ps))
    (in_reach_map itself (Right b ps) (Right b (macro_at d ∷ ps)) (reach ps) (past_macro_at b d ps) (all_right ps b f))
all_right (barrier_at ∷ ps) b f = tt

breaks : (b : ℕ) (ps : List Frame) (t : Target Reached) → IfFound (Right b ps) t
    → count_break ps (number_found (map_target number_of t)) ≡ break_found (scopes ps) (map_target bearer_of t)
breaks b ps (reachable (n, a_loop k)) h = h.1
breaks b ps (reachable (n, a_block k)) h = h.1
breaks b ps unreachable h = (plain_target ps).0
breaks b ps undeclared h = (plain_target ps).0

continues : (b : ℕ) (ps : List Frame) (t : Target Reached) → IfFound (Right b ps) t
    → count_continue ps (number_found (map_target number_of t)) ≡ continue_found (scopes ps) (map_target bearer_of t)
continues b ps (reachable (n, a_loop k)) h = h.2
continues b ps (reachable (n, a_block k)) h = h.2
continues b ps unreachable h = (plain_target ps).1
continues b ps undeclared h = (plain_target ps).1

pub break_meets : (b : ℕ) (ps : List Frame) (j : Option Jump) → Falls b ps
    → count_break ps (jump_number (ribs ps) j) ≡ break_target (scopes ps) j
break_meets b ps None f = (plain_target ps).0
break_meets b ps (Some j) f = let h = joined ps j in
    rw (h.number, h.bearer) (breaks b ps (target j (reach ps))
    (target_in_reach (Right b ps) j (reach ps) (all_right ps b f)))

pub continue_meets : (b : ℕ) (ps : List Frame) (j : Option Jump) → Falls b ps
    → count_continue ps (jump_number (ribs ps) j) ≡ continue_target (scopes ps) j
continue_meets b ps None f = (plain_target ps).1
continue_meets b ps (Some j) f = let h = joined ps j in
    rw (h.number, h.bearer) (continues b ps (target j (reach ps))
    (target_in_reach (Right b ps) j (reach ps) (all_right ps b f)))

-- labels around

abbrev NumberAmong : List LabelId → Reached → Type 0
NumberAmong ls x = Among ls x.0

further_out : (n : LabelId) (ls : List LabelId) (x : Reached) → NumberAmong ls x → NumberAmong (n ∷ ls) (outer x)
further_out n ls x h = inr h

all_among : (ps : List Frame) → InReach (NumberAmong (numbers ps)) (reach ps)
all_among [] = tt
all_among (plain_loop ∷ ps) = in_reach_map outer (NumberAmong (numbers ps)) (NumberAmong (numbers ps)) (reach ps) (λ x h. h) (all_among ps)
all_among (loop_at l n ∷ ps) = (
  inl refl,
  in_reach_map outer (NumberAmong (numbers ps)) (NumberAmong (n ∷ numbers ps)) (reach ps) (further_out n (numbers ps)) (all_among ps),
)
all_among (block_at l n ∷ ps) = (
  inl refl,
  in_reach_map outer (NumberAmong (numbers ps)) (NumberAmong (n ∷ numbers ps)) (reach ps) (further_out n (numbers ps)) (all_among ps),
)
all_among (try_at n typed ∷ ps) = (
  inl refl,
  in_reach_map outer (NumberAmong (numbers ps)) (NumberAmong (n ∷ numbers ps)) (reach ps) (further_out n (numbers ps)) (all_among ps),
)
all_among (macro_at d ∷ ps) = all_among ps
all_among (barrier_at ∷ ps) = tt

found_among : (ls : List LabelId) (t : Target Reached) → IfFound (NumberAmong ls) t → NamesAmong ls (number_found (map_target number_of t))
found_among ls (reachable x) h = h
found_among ls unreachable h = tt
found_among ls undeclared h = tt

-- A number that lowering gives a jump is that of a label around it.
pub among : (ps : List Frame) (j : Option Jump) → NamesAmong (numbers ps) (jump_number (ribs ps) j)
among ps None = tt
among ps (Some j) =
    rw (joined ps j).number (found_among (numbers ps) (target j (reach ps))
    (target_in_reach (NumberAmong (numbers ps)) j (reach ps) (all_among ps)))

-- the innermost `try`

-- What lowering knows of one, and what the syntax does: it has a number below b, for which a break leaves as many scopes.
abbrev pub OneTry : ℕ → List Frame → Option (Try LabelId) → Option (Try ℕ) → Type 0
OneTry b ps None None = Unit {0}
OneTry b ps None (Some u) = ⊥
OneTry b ps (Some t) None = ⊥
OneTry b ps (Some t) (Some u) = (t.typed ≡ u.typed) × (t.place.0 < b) × (count_break ps (Some t.place) ≡ Some u.place)

out_of_plain : (b : ℕ) (ps : List Frame) (t : Option (Try LabelId)) (u : Option (Try ℕ)) → OneTry b ps t u
    → OneTry b (plain_loop ∷ ps) t (further_try u)
out_of_plain b ps None None h = tt
out_of_plain b ps None (Some u) h = absurd h
out_of_plain b ps (Some t) None h = absurd h
out_of_plain b ps (Some t) (Some u) h = (h.0, h.1, ap count_further h.2)

out_of_loop_label : (b : ℕ) (l : Label) (n : LabelId) (ps : List Frame) → n.0 < b → (t : Option (Try LabelId)) (u : Option (Try ℕ))
    → OneTry n.0 ps t u → OneTry b (loop_at l n ∷ ps) t (further_try u)
out_of_loop_label b l n ps lt None None h = tt
out_of_loop_label b l n ps lt None (Some u) h = absurd h
out_of_loop_label b l n ps lt (Some t) None h = absurd h
out_of_loop_label b l n ps lt (Some t) (Some u) h =
    let below : t.place.0 < n.0 = h.1 in (h.0, omega arith, rw (differs n t.place h.1) (ap count_further h.2))

out_of_block_label : (b : ℕ) (l : Label) (n : LabelId) (ps : List Frame) → n.0 < b → (t : Option (Try LabelId)) (u : Option (Try ℕ))
    → OneTry n.0 ps t u → OneTry b (block_at l n ∷ ps) t (further_try u)
out_of_block_label b l n ps lt None None h = tt
out_of_block_label b l n ps lt None (Some u) h = absurd h
out_of_block_label b l n ps lt (Some t) None h = absurd h
out_of_block_label b l n ps lt (Some t) (Some u) h =
    let below : t.place.0 < n.0 = h.1 in (h.0, omega arith, rw (differs n t.place h.1) (ap count_further h.2))

past_macro_def : (b : ℕ) (d : MacroDefId) (ps : List Frame) (t : Option (Try LabelId)) (u : Option (Try ℕ)) → OneTry b ps t u
    → OneTry b (macro_at d ∷ ps) t u
past_macro_def b d ps None None h = tt
past_macro_def b d ps None (Some u) h = absurd h
past_macro_def b d ps (Some t) None h = absurd h
past_macro_def b d ps (Some t) (Some u) h = h

pub try_meets : (b : ℕ) (ps : List Frame) → Falls b ps → OneTry b ps (innermost_try_rib (ribs ps)) (innermost_try (scopes ps))
try_meets b [] f = tt
try_meets b (plain_loop ∷ ps) f = out_of_plain b ps (innermost_try_rib (ribs ps)) (innermost_try (scopes ps)) (try_meets b ps f)
try_meets b (loop_at l n ∷ ps) f =
    out_of_loop_label b l n ps f.0 (innermost_try_rib (ribs ps)) (innermost_try (scopes ps)) (try_meets n.0 ps f.1)
try_meets b (block_at l n ∷ ps) f =
    out_of_block_label b l n ps f.0 (innermost_try_rib (ribs ps)) (innermost_try (scopes ps)) (try_meets n.0 ps f.1)
try_meets b (try_at n typed ∷ ps) f = (refl, f.0, rw (is_same n) refl)
try_meets b (macro_at d ∷ ps) f = past_macro_def b d ps (innermost_try_rib (ribs ps)) (innermost_try (scopes ps)) (try_meets b ps f)
try_meets b (barrier_at ∷ ps) f = tt

-- the label of a `try` is one around it
abbrev pub TryAmong : List LabelId → Option (Try LabelId) → Type 0
TryAmong ls None = Unit {0}
TryAmong ls (Some t) = Among ls t.place

one_more_around : (n : LabelId) (ls : List LabelId) (t : Option (Try LabelId)) → TryAmong ls t → TryAmong (n ∷ ls) t
one_more_around n ls None h = tt
one_more_around n ls (Some t) h = inr h

pub try_among : (ps : List Frame) → TryAmong (numbers ps) (innermost_try_rib (ribs ps))
try_among [] = tt
try_among (plain_loop ∷ ps) = try_among ps
try_among (loop_at l n ∷ ps) = one_more_around n (numbers ps) (innermost_try_rib (ribs ps)) (try_among ps)
try_among (block_at l n ∷ ps) = one_more_around n (numbers ps) (innermost_try_rib (ribs ps)) (try_among ps)
try_among (try_at n typed ∷ ps) = inl refl
try_among (macro_at d ∷ ps) = try_among ps
try_among (barrier_at ∷ ps) = tt
