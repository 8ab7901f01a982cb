-- What a `for` becomes runs as it is written: its turns begin where the made name stands for the iterator, which it does behind each of
-- them, since what the body binds was made later.
use Rattle.std.proofs.Common.{◌≡◌, refl, ap, subst, ◌∙◌, ℕ, zero, suc, ◌≤◌, Bool, true, false, if◌then◌else◌, List, [], ◌∷◌, Option}
use Rattle.std.proofs.Common.{Some, None, option_map, arith, slice_get}
use Rattle.hir_binding.specs.declared.binding.BindingAnnotation.TheVariants.{Mutable}
use Rattle.hir_store.specs.Pointers.{Pointer}
use Rattle.hir_store.specs.Stored.{Stored, store_of, map_of}
use Rattle.hir_store.specs.declared.hir.Expr.{Expr as HirExpr}
use Rattle.hir_store.specs.declared.hir.Expr.TheVariants as hir
use Rattle.hir_store.specs.declared.hir.LoopSource.TheVariants.{ForLoop}
use Rattle.hir_store.specs.declared.hir.MatchArm.{MatchArm}
use Rattle.hir_store.specs.declared.hir.Mutability.TheVariants.{Mut}
use Rattle.hir_store.specs.declared.hir.Rawness.TheVariants.{Ref}
use Rattle.hir_store.specs.declared.ids.ExprId.{ExprId}
use Rattle.hir_store.specs.declared.ids.LangItemId.{LangItemId}
use Rattle.hir_store.specs.declared.ids.PatId.{PatId}
use Rattle.hir_env.specs.NodeMap.{Site}
use Rattle.hir_env.specs.Answering.{site_of}
use Rattle.hir_env.specs.ResolvedTree.{ForItems, Label, OptionPat}
use Rattle.spec_data.specs.Data.{PatData}
use Rattle.spec_data.specs.Patterns.{written_pat}
use Rattle.spec_data.specs.Reading.{stored_pat}
use Rattle.spec_data.proofs.GeneratedNames.{Unmade, written_unmade}
use Rattle.hir_lower_builder.specs.Forms.{ExprSteps, root_hygiene}
use Rattle.hir_lower_builder.specs.Lower.{lower_top}
use Rattle.hir_lower_builder.specs.Made.{arm_for, done_arm_form, for_form, for_iteration_form, gives_arm_form, item_call_form}
use Rattle.hir_lower_builder.specs.Made.{item_or_missing}
use Rattle.hir_lower_builder.specs.Made.{made_call, made_loop_form, made_path, made_path_form, made_reference_form, next_form, only_tail}
use Rattle.spec_semantics.specs.Catching.{Outward, Step, again, block, done, goes_on, loop, iteration, iteration_end}
use Rattle.spec_semantics.specs.Jumps.{EnclosedTo, StoredEnclosed}
use Rattle.spec_semantics.specs.Run.{Value, break, call, ends, item, leave, mutable_to, pure, unit, unmatched, value, cut}
use Rattle.spec_semantics.specs.Run.{World, ◌>>=◌, ask}
use Rattle.spec_semantics.specs.Store.{JumpLabel, RunTable, StoreRun, fits_or_takes, made_expr, past_block, past_loop, refers_or_asks}
use Rattle.spec_semantics.specs.Store.{run_to}
use Rattle.spec_semantics.specs.Store.{takes, with_name}
use Rattle.spec_semantics.specs.Syntax.{SyntaxRun, done_pattern, for_iteration, gives_pattern, run_for, run_item}
use Rattle.hir_lower_scope.specs.Scopes.{loop_scope, scope_out}
use Rattle.thm_round_trip.proofs.Made.{BindsMade, item_path_reads, item_reads, made_path_read, made_reads, pat_in_full}
use Rattle.thm_round_trip.proofs.Layers.{within}
use Rattle.thm_round_trip.proofs.Pats.{a_pat}
use Rattle.thm_round_trip.proofs.PatTree.{top_reads}
use Rattle.thm_logic.proofs.Frames.{Frame, Falls, falls_more, inside, loop_at, scopes}
use Rattle.thm_logic.proofs.MadeSteps.{AllocatedMade, correct_alloc_desugared, correct_made_number}
use Rattle.thm_logic.proofs.Steps.{AllocatedBy, Correct, Grows, Mark, Put, Rel, correct_alloc, correct_as, correct_bind}
use Rattle.thm_logic.proofs.Steps.{correct_in_store, correct_opened, correct_pure}
use Rattle.thm_semantics.proofs.Forms.{correct_in_loop, falls_new}
use Rattle.thm_semantics.proofs.Knowing.{GoesKnowing, SameKnowing, known_at, known_bind, known_call, known_ends, known_from, known_item}
use Rattle.thm_semantics.proofs.Knowing.{known_like, known_path, known_within}
use Rattle.thm_semantics.proofs.NamesKept.{KeepsBelow, keeps_block, keeps_loop, other_name}
use Rattle.thm_semantics.proofs.Questions.{made_call_goes, made_item_goes, through_walk, with_it}
use Rattle.thm_semantics.proofs.Relation.{Agrees, SameWhere, FuelAgree, FuelAlike, agrees_as, bare, same_bind}
use Rattle.thm_semantics.proofs.Senses.{Base, Goes, Runs, Under, Walk, base_of, goes_at, goes_within, node_in, one, run_in, under_grown}
use Rattle.thm_semantics.proofs.Senses.{under_refl, under_trans, wider_of}
use Rattle.thm_semantics.proofs.Fuel.{asked_next, for_alike, out}
use Rattle.thm_semantics.proofs.Tries.{whole_of}
use Rattle.thm_semantics.proofs.Unmade.{all_of, fits_same, inside_made, made_whole}
use Rattle.thm_semantics.proofs.Views.{Numbered, count_break, loop_frame, loop_numbers, number, numbers}
use Rattle.thm_semantics.proofs.Views.{plain_block_ends, iteration_ends, view}
use Rattle.thm_semantics.proofs.Views.{view_step}

-- steps from where a name stands for a value

module _ {n : ℕ} {v : Value} {ps : List Frame} where
  known_if : {A : Type 0} (b : Bool) {m m' : StoreRun A} {s s' : SyntaxRun A} → SameKnowing n v ps m s → SameKnowing n v ps m' s'
      → SameKnowing n v ps (if b then m else m') (if b then s else s')
  known_if true h h' = h
  known_if false h h' = h'

  -- a block without a label catches nothing
  known_plain_block : {m : StoreRun Value} {s : SyntaxRun Value} → SameKnowing n v ps m s
      → SameKnowing n v ps (block (past_block None) (λ j. j) m) s
  unfolding block
  known_plain_block {m = m} h = record {
    same = λ w k. let a = h.same w k in record { outcome = ap (view ps) (plain_block_ends (m w).0) ∙ a.outcome; world = a.world };
    keeps = keeps_block _ _ h.keeps;
  }

-- a loop, whose name stands for the value at each turn

record KnownFuel (n : ℕ) (v : Value) (ps : List Frame) (leaves : Outward JumpLabel) (m : StoreRun (Option Value))
    (s : SyntaxRun (Option Value)) : Type 0 where
  same : (w : World RunTable) → w.table n ≡ Some v
      → FuelAgree ps (iteration_end leaves (m w).0) (m w).1 (iteration_end scope_out (s (bare w)).0) (s (bare w)).1
  keeps : KeepsBelow (suc n) m

module _ {n : ℕ} {v : Value} {ps : List Frame} where
  known_fuel : (x : Option Numbered) {m : StoreRun (Option Value)} {s : SyntaxRun Value} {t : SyntaxRun (Option Value)}
      → FuelAlike s t → SameKnowing n v (loop_frame x ∷ ps) m (iteration s) → KnownFuel n v ps (past_loop (number x)) m t
  known_fuel x {m = m} alike h = record {
    same = λ w k. let a = h.same w k in record {
      step = iteration_ends x ps (m w).0 ∙ (ap (iteration_end scope_out) a.outcome ∙ alike.steps (bare w));
      world = a.world ∙ alike.worlds (bare w);
    };
    keeps = h.keeps;
  }

  known_on : {f : StoreRun Value} {g : SyntaxRun Value} → SameKnowing n v ps f g → (s : Step JumpLabel) (w : World RunTable)
      → w.table n ≡ Some v
      → let r = goes_on g (view_step ps s) (bare w) in Agrees ps (goes_on f s w).0 (goes_on f s w).1 r.0 r.1
  known_on h again w k = h.same w k
  known_on h (done o) w k = record { outcome = refl; world = refl }

  known_loop : {leaves : Outward JumpLabel} {m : StoreRun (Option Value)} {t : SyntaxRun (Option Value)} → KnownFuel n v ps leaves m t
      → (fuel : ℕ) → SameKnowing n v ps (loop leaves fuel m) (loop scope_out fuel t)
  unfolding loop
  known_loop h zero = known_ends (leave cut) refl
  known_loop {leaves = leaves} {m = m} {t = t} h (suc i) = record {
    same = λ w k.
        let a = h.same w k in
        agrees_as (λ s u. goes_on (loop scope_out i t) s u) a.step a.world
        (known_on (known_loop h i) (iteration_end leaves (m w).0) (m w).1 (h.keeps.still w n (omega arith) ∙ k));
    keeps = keeps_loop leaves h.keeps (suc i);
  }

-- what takes the value of a name that is the whole pattern

module _ {n names : ℕ} (le : names ≤ n) {ps : List Frame} {m : StoreRun Value} (m' : StoreRun Value) {s : Value → SyntaxRun Value}
    (h : (v : Value) → SameKnowing n v ps m (s v)) where
  taken : (v : Value) → SameWhere names ps ((takes n v >>= (λ u. pure true)) >>= (λ holds. if holds then m else m')) (s v)
  unfolding ends ◌>>=◌ takes
  taken v = record {
    same = λ w. (h v).same (record w { table = with_name n v w.table }) (with_it n v w.table);
    keeps = record {
      still = λ w k lt. (h v).keeps.still (record w { table = with_name n v w.table }) k (omega (arith, lt, le))
          ∙ other_name n v w.table k le lt;
    };
  }

  taken_whole : (a b : Option ℕ) → a ≡ Some n → (d : PatData) (v : Value)
      → SameWhere names ps (fits_or_takes a b d v >>= (λ holds. if holds then m else m')) (s v)
  taken_whole a b e d v = rw e (taken v)

-- nodes, of walks

-- what stands at i is x from where the name of this number stands for this value
record Holding (base : Base) (nodes n : ℕ) (v : Value) (x : Walk Value) (final : Stored) (ps : List Frame) (i : ExprId) : Type 0 where
  same : (fuel d : ℕ) → nodes ≤ d → Falls base.labels ps → SameKnowing n v ps (run_in final d fuel i) (x fuel (scopes ps))
  jumps : (d : ℕ) → nodes ≤ d → EnclosedTo (store_of final) d (numbers ps) i

holding_at : {base : Base} {n : ℕ} {v : Value} {m m' : Mark} {e : HirExpr} {source : Option Pointer} {x : Walk Value} {final : Stored}
    {ps qs : List Frame} {i : ExprId} {put : Put} → AllocatedBy put e source final qs m m' i
    → ((fuel d : ℕ) → m.nodes ≤ d → Falls base.labels ps
    → SameKnowing n v ps (node_in final d fuel e (option_map site_of source)) (x fuel (scopes ps)))
    → ((d : ℕ) → m.nodes ≤ d → StoredEnclosed (store_of final) (EnclosedTo (store_of final) d) (numbers ps) e)
    → Holding base m'.nodes n v x final ps i
unfolding run_to EnclosedTo
holding_at {base = base} {n = n} {v = v} {m = m} {m' = m'} {x = x} {final = final} {ps = ps} {i = i} at same jumps =
    record { same = λ fuel d le f. at_depth fuel d le f; jumps = jumps_at }
  where
    at_depth : (fuel d : ℕ) → m'.nodes ≤ d → Falls base.labels ps → SameKnowing n v ps (run_in final d fuel i) (x fuel (scopes ps))
    at_depth fuel zero le f = absurd (omega (arith, at.next))
    at_depth fuel (suc d) le f = rw (at.number, at.here, at.from) (same fuel d (omega (arith, at.next)) f)

    jumps_at : (d : ℕ) → m'.nodes ≤ d → EnclosedTo (store_of final) d (numbers ps) i
    jumps_at zero le = tt
    jumps_at (suc d) le = rw (at.number, at.here) (jumps d (omega (arith, at.next)))

holding_within : {base base' : Base} {nodes nodes' n : ℕ} {v : Value} {x : Walk Value} {final : Stored} {ps : List Frame} {i : ExprId}
    → Under base' base → nodes ≤ nodes' → Holding base nodes n v x final ps i → Holding base' nodes' n v x final ps i
holding_within {base = base} {base' = base'} {ps = ps} u le h = record {
  same = λ fuel d ge f. h.same fuel d (omega (arith, le, ge)) (falls_more ps base'.labels base.labels u.labels f);
  jumps = λ d ge. h.jumps d (omega (arith, le, ge));
}

-- what was made later runs anywhere
holding_later : {base : Base} {nodes n : ℕ} {v : Value} {x : Walk Value} {final : Stored} {ps : List Frame} {i : ExprId}
    → suc n ≤ base.names → Goes base nodes one x final ps i → Holding base nodes n v x final ps i
holding_later le h = record { same = λ fuel d ge f. known_from le (h.same fuel d ge f); jumps = λ d ge. h.jumps d ge }

-- the reference to the iterator, and what it is asked for

module _ (at : Pointer) where
  abbrev here : Option Site
  here = Some (site_of at)

  abbrev NextIs : LangItemId → ℕ → Rel ExprId
  NextIs next n final ps m m' i = (v : Value)
      → GoesKnowing (base_of m) m'.nodes n v (ask call (item next ∷ mutable_to v ∷ []) here) final ps i

  refers_known : {n : ℕ} {v : Value} {ps : List Frame} {r : StoreRun Value} (a : Option ℕ) → a ≡ Some n → SameKnowing n v ps r (pure v)
      → SameKnowing n v ps (refers_or_asks a Ref Mut r here) (pure (mutable_to v))
  unfolding ends ◌>>=◌
  refers_known {v = v} a e h = rw e (known_like (λ w. refl) (known_bind h (λ x. known_ends (value (mutable_to x)) refl)))

  reference_known : {base : Base} {n : ℕ} {v : Value} {m m1 m' : Mark} {final : Stored} {ps qs rs : List Frame} {e i : ExprId}
      → AllocatedMade (hir.Path (made_path n) root_hygiene) (Some at) final qs m m1 e
      → AllocatedMade (hir.Ref Ref Mut e) (Some at) final rs m1 m' i
      → GoesKnowing base m'.nodes n v (pure (mutable_to v)) final ps i
  reference_known {base = base} {n = n} {v = v} {m1 = m1} {final = final} {ps = ps} {e = e} a b =
      let name = known_path {base = base} {v = v} {ps = ps} a in known_at b
      (λ fuel d le f. refers_known (made_expr (store_of final) (map_of final) e) (made_is final n e a.number a.here)
      (name.same fuel d le f))
      (λ d le. name.jumps d le)
    where
      made_is : (final : Stored) (n : ℕ) (e : ExprId) {k : ℕ} → e.0 ≡ k
          → slice_get final.exprs.entries k ≡ Some (hir.Path (made_path n) root_hygiene)
          → made_expr (store_of final) (map_of final) e ≡ Some n
      made_is final n e is entry = rw (is, entry) (made_path_read final n)

  next_row : (next : LangItemId) (v : Value) (w : World (Unit {0}))
      → (run_item (Some next) >>= (λ u. pure (mutable_to v) >>= (λ x. ask call (u ∷ x ∷ []) here))) w
      ≡ ask call (item next ∷ mutable_to v ∷ []) here w
  unfolding ends ◌>>=◌
  next_row next v w = refl

  next_is : (next : LangItemId) (n : ℕ) → Correct (next_form at next n) (NextIs next n)
  unfolding next_form made_reference_form made_path_form item_call_form
  next_is next n = correct_as (correct_bind (correct_bind (correct_alloc_desugared (hir.Path (made_path n) root_hygiene) (Some at))
      (λ e. correct_alloc_desugared (hir.Ref Ref Mut e) (Some at)))
      (λ r. correct_bind (correct_alloc_desugared (item_or_missing (Some next)) (Some at))
      (λ f. correct_alloc_desugared (made_call f r) (Some at))))
      (λ final ps m m' i g row v.
      let s = row.second in
      let r = known_within {base = base_of m} {base' = base_of m} (under_refl (base_of m)) s.before.nodes
      (reference_known {base = base_of m} {v = v} {ps = ps} row.first.first row.first.second) in
      let called = known_call (known_item {n = n} {v = v} (Some next) s.first) r s.second in record {
        same = λ fuel d le f. known_like (next_row next v) (called.same fuel d le f);
        jumps = called.jumps;
      })

  -- the arms

  -- the break where the iterator has no more
  record DoneIs (chosen : LangItemId) (final : Stored) (ps : List Frame) (m m' : Mark) (a : MatchArm) : Type 0 where
    pattern : PatId
    body : ExprId
    is : a ≡ arm_for pattern body
    reads : stored_pat (store_of final) (map_of final) pattern ≡ done_pattern chosen
    breaks : count_break ps None ≡ Some 0 → (base : Base) (n : ℕ) (v : Value) → GoesKnowing base m'.nodes n v out final ps body

  breaks_known : {base : Base} {n : ℕ} {v : Value} {m m' : Mark} {final : Stored} {ps qs : List Frame} {i : ExprId}
      → count_break ps None ≡ Some 0 → AllocatedMade (hir.Break None None) (Some at) final qs m m' i
      → GoesKnowing base m'.nodes n v out final ps i
  breaks_known e a = known_at a
      (λ fuel d le f. known_bind (known_ends (value unit) refl) (λ x. known_ends (break None x) (ap (λ c. break c x) e)))
      (λ d le. (tt, tt))

  done_arm_is : (chosen : LangItemId) → Correct (done_arm_form at chosen) (DoneIs chosen)
  unfolding done_arm_form
  done_arm_is chosen = correct_as (correct_bind (correct_in_store (item_path_reads chosen)) (λ p.
      correct_bind (correct_alloc_desugared (hir.Break None None) (Some at)) (λ e. correct_pure (arm_for p e))))
      (λ final ps m m' a g row. let s = row.second in rw s.second.still (record {
        pattern = row.one;
        body = s.one;
        is = s.second.is;
        reads = pat_in_full final row.one (done_pattern chosen) (row.first.rel.is (all_of final) row.first.entries);
        breaks = λ e base n v. breaks_known e s.first;
      }))

  -- the body where it has one that fits
  record GivesIs (chosen : LangItemId) (part : PatId) (y : Walk Value) (final : Stored) (ps : List Frame) (m m' : Mark) (a : MatchArm)
      : Type 0 where
    pattern : PatId
    body : ExprId
    start : Mark
    is : a ≡ arm_for pattern body
    reads : (x : PatData) → ((d : ℕ) → m.entries ≤ d → a_pat final (within final d) part ≡ x)
        → stored_pat (store_of final) (map_of final) pattern ≡ gives_pattern chosen x
    grown : Grows m start
    goes : Goes (base_of start) m'.nodes one y final ps body

  gives_arm_is : (chosen : LangItemId) (part : PatId) {b : ExprSteps} {y : Walk Value} → Correct b (Runs one y)
      → Correct (gives_arm_form chosen part b) (GivesIs chosen part y)
  unfolding gives_arm_form
  gives_arm_is chosen part h = correct_as (correct_bind (correct_in_store (item_reads chosen part))
      (λ q. correct_bind h (λ e. correct_pure (arm_for q e))))
      (λ final ps m m' a g row. let s = row.second in rw s.second.still (record {
        pattern = row.one;
        body = s.one;
        start = row.middle;
        is = s.second.is;
        reads = λ x k. pat_in_full final row.one (gives_pattern chosen x) (row.first.rel.reads x k (all_of final) row.first.entries);
        grown = row.before;
        goes = s.first;
      }))

  -- a turn

  unmade_done : (i : LangItemId) → Unmade (done_pattern i)
  unmade_done i = record { whole = refl; part = refl }

  unmade_gives : (i : LangItemId) (p : OptionPat) → Unmade (gives_pattern i (written_pat p))
  unmade_gives i p = record { whole = refl; part = written_unmade p }

  abbrev iteration_walk : ForItems → PatData → Value → Walk Value → Walk Value
  iteration_walk items d v y fuel ss = asked_next items d v (y fuel ss) here

  -- wherever the pattern reads back, in a loop, and the name was made before
  abbrev IterationIs : ForItems → ℕ → PatId → OptionPat → Walk Value → Rel ExprId
  IterationIs items n part p y final ps m m' i =
      ((d : ℕ) → m.entries ≤ d → a_pat final (within final d) part ≡ written_pat p) → count_break ps None ≡ Some 0 → suc n ≤ m.names
      → (v : Value) → Holding (base_of m) m'.nodes n v (iteration_walk items (written_pat p) v y) final ps i

  holds_match : {base : Base} {n : ℕ} {v : Value} {m m' : Mark} {final : Stored} {ps qs : List Frame} {i c e f : ExprId} {q r : PatId}
      {put : Put} (items : ForItems) (p : OptionPat) (y : Walk Value)
      → GoesKnowing base m.nodes n v (ask call (item items.next ∷ mutable_to v ∷ []) here) final ps c
      → stored_pat (store_of final) (map_of final) q ≡ done_pattern items.is_done → GoesKnowing base m.nodes n v out final ps e
      → stored_pat (store_of final) (map_of final) r ≡ gives_pattern items.gives (written_pat p) → Holding base m.nodes n v y final ps f
      → AllocatedBy put (hir.Match c (arm_for q e ∷ arm_for r f ∷ [])) (Some at) final qs m m' i
      → Holding base m'.nodes n v (iteration_walk items (written_pat p) v y) final ps i
  holds_match {n = n} {final = final} {q = q} {r = r} items p y next reads breaks reads' body a = holding_at a
      (λ fuel d le f. known_bind (next.same fuel d le f) (λ x.
      known_bind (known_from {names = suc n} (omega arith)
      (fits_same final q (done_pattern items.is_done) reads (unmade_done items.is_done) x)) (λ is_done.
      known_if is_done (breaks.same fuel d le f)
      (known_bind (known_from {names = suc n} (omega arith)
      (fits_same final r (gives_pattern items.gives (written_pat p)) reads' (unmade_gives items.gives p) x)) (λ holds.
      known_if holds (body.same fuel d le f) (known_ends (leave unmatched) refl))))))
      (λ d le. (next.jumps d le, (tt, breaks.jumps d le, (tt, body.jumps d le, tt))))

  holds_block : {base : Base} {n : ℕ} {v : Value} {m m' : Mark} {final : Stored} {ps qs : List Frame} {i e : ExprId} {x : Walk Value}
      {put : Put} → Holding base m.nodes n v x final ps e → AllocatedBy put (only_tail e) (Some at) final qs m m' i
      → Holding base m'.nodes n v x final ps i
  holds_block h a = holding_at a (λ fuel d le f. known_plain_block (h.same fuel d le f)) (λ d le. (tt, h.jumps d le))

  iteration_is : (items : ForItems) (n : ℕ) (part : PatId) (p : OptionPat) {b : ExprSteps} {y : Walk Value} → Correct b (Runs one y)
      → Correct (for_iteration_form at items n part b) (IterationIs items n part p y)
  unfolding for_iteration_form
  iteration_is items n part p {y = y} h = correct_as (correct_bind (next_is items.next n) (λ c. correct_bind (done_arm_is items.is_done)
      (λ a. correct_bind (gives_arm_is items.gives part h) (λ b. correct_bind
      (correct_alloc_desugared (hir.Match c (a ∷ b ∷ [])) (Some at)) (λ e. correct_alloc_desugared (only_tail e) (Some at))))))
      (λ final ps m m' i g row reads in_loop made v.
      let s = row.second in let u = s.second in let t = u.second in let a = s.first in let b = u.first in
      let base = base_of m in
      let grown = under_trans (under_grown row.before) (under_trans (under_grown s.before) (under_grown b.grown)) in
      let next = known_within {base' = base} (under_refl base) (omega (arith, s.before.nodes, u.before.nodes)) (row.first v) in
      let breaks = known_within {base = base} {base' = base} (under_refl base) u.before.nodes (a.breaks in_loop base n v) in
      let body = holding_within grown (omega arith)
      (holding_later {v = v} (omega (arith, made, grown.names)) b.goes) in
      let gives = b.reads (written_pat p) (λ d le. reads d (omega (arith, le, row.before.entries, s.before.entries))) in
      holds_block (holds_match items p y next a.reads breaks gives body
      (subst (λ z. AllocatedMade (hir.Match row.one (arm_for a.pattern a.body ∷ z ∷ [])) (Some at) final ps u.middle t.middle t.one) b.is
      (subst (λ z. AllocatedMade (hir.Match row.one (z ∷ u.one ∷ [])) (Some at) final ps u.middle t.middle t.one) a.is t.first)))
      t.second)

  -- the loop

  abbrev loop_walk : ForItems → PatData → Value → Option Label → Walk Value → Walk Value
  loop_walk items d v l y fuel ss = loop scope_out fuel (for_iteration items d v (y fuel (loop_scope l ∷ ss)) here)

  holds_loop : {base base' : Base} {n : ℕ} {v : Value} {m m' : Mark} {final : Stored} {ps qs : List Frame} {i b : ExprId} {put : Put}
      (x : Option Numbered) (items : ForItems) (d : PatData) (y : Walk Value)
      → (Falls base.labels ps → Falls base'.labels (loop_frame x ∷ ps))
      → Holding base' m.nodes n v (iteration_walk items d v y) final (loop_frame x ∷ ps) b
      → AllocatedBy put (hir.Loop b (number x) ForLoop) (Some at) final qs m m' i
      → Holding base m'.nodes n v
      (λ fuel ss. loop scope_out fuel (for_iteration items d v (y fuel (inside (loop_frame x) ss)) here)) final ps i
  holds_loop {v = v} {ps = ps} x items d y falls h a = holding_at a
      (λ fuel k le f. known_loop (known_fuel x (for_alike items d v (y fuel (inside (loop_frame x) (scopes ps))) here)
      (known_bind (h.same fuel k le (falls f)) (λ u. known_ends (value None) refl))) fuel)
      (λ k le. let r = h.jumps k le in rw (loop_numbers x ps) at r)

  abbrev LoopIs : ForItems → ℕ → PatId → OptionPat → Option Label → Walk Value → Rel ExprId
  LoopIs items n part p l y final ps m m' i =
      ((d : ℕ) → m.entries ≤ d → a_pat final (within final d) part ≡ written_pat p) → suc n ≤ m.names
      → (v : Value) → Holding (base_of m) m'.nodes n v (loop_walk items (written_pat p) v l y) final ps i

  loop_is : (items : ForItems) (n : ℕ) (part : PatId) (p : OptionPat) (l : Option Label) {b : ExprSteps} (y : Walk Value)
      → Correct b (IterationIs items n part p y) → Correct (made_loop_form at l b) (LoopIs items n part p l y)
  unfolding made_loop_form
  loop_is items n part p None y h = correct_as
      (correct_bind (correct_in_loop h) (λ i. correct_alloc_desugared (hir.Loop i None ForLoop) (Some at)))
      (λ final ps m m' i g row reads made v.
      holds_loop {base' = base_of m} None items (written_pat p) y (λ f. f) (row.first.rel reads refl made v) row.second)
  loop_is items n part p (Some l) y h = correct_as
      (correct_opened loop_at l (λ n ps. refl) (λ k. h) (λ k i. correct_alloc_desugared (hir.Loop i (Some k) ForLoop) (Some at)))
      (λ final ps m m' i g row reads made v.
      holds_loop {base = base_of m} {base' = base_of row.entered} (Some (record { label = l; number = row.number })) items (written_pat p) y
      (falls_new m.labels row.entered.labels l row.number ps row.new row.labels)
      (row.first (λ d le. reads d (omega (arith, le, row.entries))) refl (omega (arith, made, row.names)) v) row.second)

  -- the whole

  abbrev for_walk : Pointer → ForItems → PatData → Option Label → Walk Value → Walk Value → Walk Value
  for_walk head_at items d l x y fuel ss =
      run_for fuel items d (x fuel ss) (Some (site_of head_at)) (y fuel (loop_scope l ∷ ss)) here

  goes_for : {base : Base} {m m' : Mark} {final : Stored} {ps qs : List Frame} {i c e : ExprId} {q : PatId} {put : Put} (head_at : Pointer)
      (items : ForItems) (d : PatData) (l : Option Label) (n : ℕ) (x y : Walk Value)
      → Goes base m.nodes one (through_walk head_at (Some items.into_iter) x) final ps c → base.names ≤ n → BindsMade n final q
      → ((v : Value) → Holding base m.nodes n v (loop_walk items d v l y) final ps e)
      → AllocatedBy put (hir.Match c (arm_for q e ∷ [])) (Some at) final qs m m' i
      → Goes base m'.nodes one (for_walk head_at items d l x y) final ps i
  goes_for {final = final} {q = q} head_at items d l n x y head few binds body a = goes_at a
      (λ fuel k le f. same_bind (head.same fuel k le f) (λ v. taken_whole few (ends (leave unmatched)) (λ u. (body u).same fuel k le f)
      (made_whole final q) (inside_made final q) (whole_of final n q binds) (stored_pat (store_of final) (map_of final) q) v))
      (λ k le. (head.jumps k le, (tt, (body unit).jumps k le, tt)))

  pub for_fine : (head_at : Pointer) (items : ForItems) (l : Option Label) (p : OptionPat) {h b : ExprSteps} {x y : Walk Value}
      → Correct h (Runs one x) → Correct b (Runs one y)
      → Correct (for_form at head_at items l h (lower_top p) b) (Runs one (for_walk head_at items (written_pat p) l x y))
  unfolding for_form item_call_form
  for_fine head_at items l p {x = x} {y = y} hh hb = correct_as (correct_bind hh (λ h. correct_bind (correct_bind
      (correct_alloc_desugared (item_or_missing (Some items.into_iter)) (Some head_at))
      (λ f. correct_alloc_desugared (made_call f h) (Some head_at)))
      (λ c. correct_bind (top_reads p) (λ part. correct_bind correct_made_number (λ n. correct_bind (made_reads Mutable n)
      (λ q. correct_bind (loop_is items n part p l y (iteration_is items n part p hb))
      (λ e. correct_alloc (hir.Match c (arm_for q e ∷ [])) (Some at))))))))
      (λ final ps m m' i g row.
      let s = row.second in let t = s.second in let k = t.second in let u = k.second in let z = u.second in
      let base = base_of m in
      let head = goes_within (wider_of (under_refl base) s.first.before.nodes) row.first in
      let called = made_call_goes (Some items.into_iter) (made_item_goes {base = base} (Some items.into_iter) s.first.first) head
      s.first.second in
      let past : Under base (base_of u.middle) = under_trans (under_grown row.before) (under_trans (under_grown s.before)
      (under_trans (under_grown t.before) (under_trans (under_grown k.before) (under_grown u.before)))) in
      goes_for head_at items (written_pat p) l k.one x y
      (goes_within (wider_of (under_refl base) (omega (arith, t.before.nodes, k.before.nodes, u.before.nodes, z.before.nodes))) called)
      (omega (arith, row.before.names, s.before.names, t.before.names, k.first.is)) u.first.binds
      (λ v. holding_within past (omega arith) (z.first (λ d le. t.first.is d
      (omega (arith, le, k.before.entries, u.before.entries)))
      (omega (arith, u.before.names, k.first.is, k.first.names)) v)) z.second)
