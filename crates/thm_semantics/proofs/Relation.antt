-- Runs of the store that go as runs of the syntax.
use Rattle.std.proofs.Common.{◌≡◌, ◌≤◌, ℕ, zero, suc, Bool, true, false, if◌then◌else◌, List, [], ◌∷◌, Option, Some, None, refl, ap, ◌∙◌}
use Rattle.std.proofs.Common.{subst, sym}
use Rattle.hir_base.specs.declared.op.LogicOp.{LogicOp}
use Rattle.hir_base.specs.declared.op.LogicOp.TheVariants as logic
use Rattle.hir_store.specs.declared.ids.BlockId.{BlockId}
use Rattle.hir_store.specs.declared.ids.HygieneId.{HygieneId}
use Rattle.hir_store.specs.declared.ids.LabelId.{LabelId}
use Rattle.hir_store.specs.declared.ids.MacroDefId.{MacroDefId}
use Rattle.hir_env.specs.NodeMap.{Site}
use Rattle.spec_data.specs.Data.{PathData, path_data, item_path, OptionTypeData, PatData, pattern_site}
use Rattle.spec_semantics.specs.Run.{Value, reply, unit, truth, Operation, enter, tuple, Test, test, Outcome, value, break, continue}
use Rattle.spec_semantics.specs.Run.{Leave, leave, cut, World, ends, pure, after, ◌>>=◌, event, ask, tests, in_block_scope, made_tuple}
use Rattle.spec_semantics.specs.Run.{lazy_logic}
use Rattle.spec_semantics.specs.Run.{item, read, matches, bound, assigned, temps, ends_temps, tests_pattern, binds, assigns, read_path}
use Rattle.spec_semantics.specs.Catching.{Step, again, done, Outward, iteration, iteration_end, goes_on, loop, block, block_end}
use Rattle.hir_lower_scope.specs.Scopes.{Count, scope_out, continue_past_block}
use Rattle.spec_semantics.specs.Syntax.{SyntaxRun}
use Rattle.spec_semantics.specs.Store.{JumpLabel, RunTable, StoreRun, past_loop, past_block}
use Rattle.thm_logic.proofs.Frames.{Frame, block_at, try_at}
use Rattle.thm_semantics.proofs.Views.{Numbered, number, view, view_step, iteration_ends, block_ends, plain_block_ends}
use Rattle.thm_semantics.proofs.Views.{frames_behind, loop_frame, try_ends, view_behind}
use Rattle.thm_semantics.proofs.NamesKept.{KeepsBelow, keeps_ends, keeps_event, keeps_bind, keeps_loop, keeps_block, keeps_fewer}

-- without the values of names that lowering made up
abbrev pub bare : World RunTable → World (Unit {0})
bare w = record { answers = w.answers; events = w.events; table = tt }

pub record Agrees {A : Type 0} (ps : List Frame) (o : Outcome JumpLabel A) (w : World RunTable)
    (o' : Outcome Count A) (w' : World (Unit {0})) : Type 0 where
  pub outcome : view ps o ≡ o'
  pub world : bare w ≡ w'

-- From each world the same, whatever made names stand for there, with jumps by number read as jumps by scope. The names below `names`
-- stand for what they did afterwards.
pub record SameWhere {A : Type 0} (names : ℕ) (ps : List Frame) (m : StoreRun A) (n : SyntaxRun A) : Type 0 where
  pub same : (w : World RunTable) → Agrees ps (m w).0 (m w).1 (n (bare w)).0 (n (bare w)).1
  pub keeps : KeepsBelow names m

pub same_fewer : {A : Type 0} {names names' : ℕ} {ps : List Frame} {m : StoreRun A} {n : SyntaxRun A} → names' ≤ names
    → SameWhere names ps m n → SameWhere names' ps m n
same_fewer le h = record { same = h.same; keeps = keeps_fewer le h.keeps }

pub agrees_as : {A S : Type 0} {ps : List Frame} {o : Outcome JumpLabel A} {w : World RunTable}
    (k : S → World (Unit {0}) → Outcome Count A × World (Unit {0}))
    {s s' : S} {v v' : World (Unit {0})}
    → s ≡ s' → v ≡ v' → Agrees ps o w (k s v).0 (k s v).1 → Agrees ps o w (k s' v').0 (k s' v').1
agrees_as {ps = ps} {o = o} {w = w} k {s = s} {s' = s'} {v = v} e e' h =
    subst (λ u. Agrees ps o w (k s' u).0 (k s' u).1) e' (subst (λ t. Agrees ps o w (k t v).0 (k t v).1) e h)

abbrev is_leave : {J A : Type 0} → Outcome J A → Type 0
is_leave (leave x) = Unit {0}
is_leave _ = ⊥

abbrev leave_of : {J A : Type 0} → Outcome J A → Leave
leave_of (leave x) = x
leave_of _ = cut

-- steps

stopped : {A B : Type 0} {ps : List Frame} (f : A → StoreRun B) (x : Leave) (o : Outcome JumpLabel A) (w : World RunTable)
    (w' : World (Unit {0}))
    → view ps o ≡ leave x → bare w ≡ w' → Agrees ps (after o w f).0 (after o w f).1 (leave x) w'
stopped f x (value a) w w' e e' = absurd (subst is_leave (sym e) tt)
stopped f x (break j v) w w' e e' = absurd (subst is_leave (sym e) tt)
stopped f x (continue j) w w' e e' = absurd (subst is_leave (sym e) tt)
stopped f x (leave y) w w' e e' = record { outcome = ap (λ o. leave (leave_of o)) e; world = e' }

stopped_still : {A B : Type 0} (ps : List Frame) (f : A → StoreRun B) (x : Leave) (o : Outcome JumpLabel A) (w : World RunTable) (k : ℕ)
    → view ps o ≡ leave x → (after o w f).1.table k ≡ w.table k
stopped_still ps f x (value a) w k e = absurd (subst is_leave (sym e) tt)
stopped_still ps f x (break j v) w k e = absurd (subst is_leave (sym e) tt)
stopped_still ps f x (continue j) w k e = absurd (subst is_leave (sym e) tt)
stopped_still ps f x (leave y) w k e = refl

module _ {names : ℕ} {ps : List Frame} where
  pub same_ends : {A : Type 0} (o : Outcome JumpLabel A) {o' : Outcome Count A} → view ps o ≡ o' → SameWhere names ps (ends o) (ends o')
  unfolding ends
  same_ends o e = record { same = λ w. record { outcome = e; world = refl }; keeps = keeps_ends o }

  pub same_pure : {A : Type 0} (a : A) → SameWhere names ps (pure a) (pure a)
  same_pure a = same_ends (value a) refl

  pub same_event : (o : Operation) (vs : List Value) (site : Option Site) → SameWhere names ps (event o vs site) (event o vs site)
  unfolding event
  same_event o vs site = record { same = λ w. record { outcome = refl; world = refl }; keeps = keeps_event o vs site }

  after_same : {A B : Type 0} {f : A → StoreRun B} {g : A → SyntaxRun B} → ((a : A) → SameWhere names ps (f a) (g a))
      → (o : Outcome JumpLabel A) (w : World RunTable)
      → Agrees ps (after o w f).0 (after o w f).1 (after (view ps o) (bare w) g).0 (after (view ps o) (bare w) g).1
  after_same h (value a) w = (h a).same w
  after_same h (break j v) w = record { outcome = refl; world = refl }
  after_same h (continue j) w = record { outcome = refl; world = refl }
  after_same h (leave x) w = record { outcome = refl; world = refl }

  pub same_bind : {A B : Type 0} {m : StoreRun A} {n : SyntaxRun A} {f : A → StoreRun B} {g : A → SyntaxRun B}
      → SameWhere names ps m n → ((a : A) → SameWhere names ps (f a) (g a)) → SameWhere names ps (m >>= f) (n >>= g)
  unfolding ◌>>=◌
  same_bind {m = m} {g = g} p h = record {
    same = λ w.
        let a = p.same w in
        agrees_as (λ o v. after o v g) a.outcome a.world (after_same h (m w).0 (m w).1);
    keeps = keeps_bind p.keeps (λ a. (h a).keeps);
  }

  pub same_ask : (o : Operation) (vs : List Value) (site : Option Site) → SameWhere names ps (ask o vs site) (ask o vs site)
  same_ask o vs site = same_bind (same_event o vs site) (λ a. same_pure (reply a.value))

  pub same_tests : (t : Test) (v : Value) (site : Option Site) → SameWhere names ps (tests t v site) (tests t v site)
  same_tests t v site = same_bind (same_event (test t) (v ∷ []) site) (λ a. same_pure a.yes)

  pub same_tests_pattern : (p : PatData) (v : Value) → SameWhere names ps (tests_pattern p v) (tests_pattern p v)
  same_tests_pattern p v = same_tests (matches p) v (pattern_site p)

  pub same_binds : (p : PatData) (t : OptionTypeData) (vs : List Value) → SameWhere names ps (binds p t vs) (binds p t vs)
  same_binds p t vs = same_bind (same_event (bound p t) vs (pattern_site p)) (λ a. same_pure a.yes)

  -- where temporaries end
  pub same_temps : {A : Type 0} {m : StoreRun A} {n : SyntaxRun A} → SameWhere names ps m n
      → SameWhere names ps (ends_temps m) (ends_temps n)
  same_temps h = same_bind (same_event temps [] None) (λ a. h)

  pub same_assigns : (p : PatData) (vs : List Value) (site : Option Site) → SameWhere names ps (assigns p vs site) (assigns p vs site)
  same_assigns p vs site = same_bind (same_event (assigned p) vs site) (λ a. same_pure unit)

  pub same_read_path : (p : PathData) (h : HygieneId) (site : Option Site) → SameWhere names ps (read_path p h site) (read_path p h site)
  same_read_path (path_data k anchor ns bare) h site = same_ask (read (path_data k anchor ns bare) h) [] site
  same_read_path (item_path i) h site = same_pure (item i)

  pub same_if : {A : Type 0} (b : Bool) {m m' : StoreRun A} {n n' : SyntaxRun A} → SameWhere names ps m n → SameWhere names ps m' n'
      → SameWhere names ps (if b then m else m') (if b then n else n')
  same_if true h h' = h
  same_if false h h' = h'

  pub same_entering : {A : Type 0} (is_unsafe : Bool) (b : Option BlockId) (site : Option Site) {m : StoreRun A} {n : SyntaxRun A}
      → SameWhere names ps m n → SameWhere names ps (in_block_scope is_unsafe b site m) (in_block_scope is_unsafe b site n)
  same_entering false None site h = h
  same_entering false (Some b) site h = same_bind (same_event (enter (Some b) false) [] site) (λ a. h)
  same_entering true None site h = same_bind (same_event (enter None true) [] site) (λ a. h)
  same_entering true (Some b) site h = same_bind (same_event (enter (Some b) true) [] site) (λ a. h)

  pub same_made_tuple : (vs : List Value) (site : Option Site) → SameWhere names ps (made_tuple vs site) (made_tuple vs site)
  same_made_tuple [] site = same_pure unit
  same_made_tuple (v ∷ vs) site = same_ask tuple (v ∷ vs) site

  pub same_lazily : (op : LogicOp) (holds : Bool) {m : StoreRun Value} {n : SyntaxRun Value} → SameWhere names ps m n
      → SameWhere names ps (lazy_logic op holds m) (lazy_logic op holds n)
  same_lazily logic.And true h = h
  same_lazily logic.And false h = same_pure (truth false)
  same_lazily logic.Or true h = same_pure (truth true)
  same_lazily logic.Or false h = h

  -- what leaves the body leaves out what is behind it
  pub same_stop : {A B : Type 0} (f : A → StoreRun B) (x : Leave) {m : StoreRun A} → SameWhere names ps m (ends (leave x))
      → SameWhere names ps (m >>= f) (ends (leave x))
  unfolding ends ◌>>=◌
  same_stop f x {m = m} h = record {
    same = λ w. let a = h.same w in stopped f x (m w).0 (m w).1 (bare w) a.outcome a.world;
    keeps = record {
      still = λ w k lt. let a = h.same w in stopped_still ps f x (m w).0 (m w).1 k a.outcome ∙ h.keeps.still w k lt;
    };
  }

-- loops and blocks

pub record FuelAgree (ps : List Frame) (s : Step JumpLabel) (w : World RunTable) (s' : Step Count) (w' : World (Unit {0})) : Type 0 where
  pub step : view_step ps s ≡ s'
  pub world : bare w ≡ w'

-- the turns of a loop that catches what it is to catch
pub record SameFuel (names : ℕ) (ps : List Frame) (leaves : Outward JumpLabel) (m : StoreRun (Option Value))
    (n : SyntaxRun (Option Value)) : Type 0 where
  pub same : (w : World RunTable)
      → FuelAgree ps (iteration_end leaves (m w).0) (m w).1 (iteration_end scope_out (n (bare w)).0) (n (bare w)).1
  pub keeps : KeepsBelow names m

-- To a loop a turn that runs the one is the other.
pub record FuelAlike (m : SyntaxRun Value) (n : SyntaxRun (Option Value)) : Type 0 where
  pub steps : (w : World (Unit {0})) → iteration_end scope_out (iteration m w).0 ≡ iteration_end scope_out (n w).0
  pub worlds : (w : World (Unit {0})) → (iteration m w).1 ≡ (n w).1

module _ {names : ℕ} {ps : List Frame} where
  pub same_fuel : (x : Option Numbered) {m : StoreRun (Option Value)} {n : SyntaxRun (Option Value)}
      → SameWhere names (loop_frame x ∷ ps) m n
      → SameFuel names ps (past_loop (number x)) m n
  same_fuel x {m = m} h = record {
    same = λ w. let a = h.same w in record {
      step = iteration_ends x ps (m w).0 ∙ ap (iteration_end scope_out) a.outcome;
      world = a.world;
    };
    keeps = h.keeps;
  }

  pub same_fuel_as : {leaves : Outward JumpLabel} {m : StoreRun (Option Value)} {n : SyntaxRun Value} {n' : SyntaxRun (Option Value)}
      → FuelAlike n n' → SameFuel names ps leaves m (iteration n) → SameFuel names ps leaves m n'
  same_fuel_as alike h = record {
    same = λ w. let a = h.same w in record { step = a.step ∙ alike.steps (bare w); world = a.world ∙ alike.worlds (bare w) };
    keeps = h.keeps;
  }

  goes_same : {f : StoreRun Value} {g : SyntaxRun Value} → SameWhere names ps f g → (s : Step JumpLabel) (w : World RunTable)
      → let r = goes_on g (view_step ps s) (bare w) in Agrees ps (goes_on f s w).0 (goes_on f s w).1 r.0 r.1
  goes_same h again w = h.same w
  goes_same h (done o) w = record { outcome = refl; world = refl }

  pub same_loop : {leaves : Outward JumpLabel} {m : StoreRun (Option Value)} {n : SyntaxRun (Option Value)} → SameFuel names ps leaves m n
      → (fuel : ℕ) → SameWhere names ps (loop leaves fuel m) (loop scope_out fuel n)
  unfolding loop
  same_loop h zero = same_ends (leave cut) refl
  same_loop {leaves = leaves} {m = m} {n = n} h (suc k) = record {
    same = λ w.
        let a = h.same w in
        agrees_as (λ s v. goes_on (loop scope_out k n) s v) a.step a.world
        (goes_same (same_loop h k) (iteration_end leaves (m w).0) (m w).1);
    keeps = keeps_loop leaves h.keeps (suc k);
  }

  pub same_block : (n : Numbered) {m : StoreRun Value} {m' : SyntaxRun Value} → SameWhere names (block_at n.label n.number ∷ ps) m m'
      → SameWhere names ps (block (past_block (Some n.number)) (λ j. j) m) (block scope_out continue_past_block m')
  unfolding block
  same_block n {m = m} h = record {
    same = λ w. let a = h.same w in record {
      outcome = block_ends n ps (m w).0 ∙ ap (block_end scope_out continue_past_block) a.outcome;
      world = a.world;
    };
    keeps = keeps_block _ _ h.keeps;
  }

  pub same_try : (n : LabelId) (typed : Bool) {m : StoreRun Value} {m' : SyntaxRun Value} → SameWhere names (try_at n typed ∷ ps) m m'
      → SameWhere names ps (block (past_block (Some n)) (λ j. j) m) (block scope_out continue_past_block m')
  unfolding block
  same_try n typed {m = m} h = record {
    same = λ w. let a = h.same w in record {
      outcome = try_ends n typed ps (m w).0 ∙ ap (block_end scope_out continue_past_block) a.outcome;
      world = a.world;
    };
    keeps = keeps_block _ _ h.keeps;
  }

  -- a block without a label catches nothing
  pub same_plain_block : {m : StoreRun Value} {m' : SyntaxRun Value} → SameWhere names ps m m'
      → SameWhere names ps (block (past_block None) (λ j. j) m) m'
  unfolding block
  same_plain_block {m = m} h = record {
    same = λ w. let a = h.same w in record {
      outcome = ap (view ps) (plain_block_ends (m w).0) ∙ a.outcome;
      world = a.world;
    };
    keeps = keeps_block _ _ h.keeps;
  }

-- The definition of a macro catches nothing.
module _ {A : Type 0} {names : ℕ} {ps : List Frame} (def : Option MacroDefId) {m : StoreRun A} {n : SyntaxRun A} where
  pub same_outside : SameWhere names (frames_behind def ps) m n → SameWhere names ps m n
  same_outside h = record {
    same = λ w. let a = h.same w in record { outcome = sym (view_behind def ps (m w).0) ∙ a.outcome; world = a.world };
    keeps = h.keeps;
  }

  pub same_inside : SameWhere names ps m n → SameWhere names (frames_behind def ps) m n
  same_inside h = record {
    same = λ w. let a = h.same w in record { outcome = view_behind def ps (m w).0 ∙ a.outcome; world = a.world };
    keeps = h.keeps;
  }
