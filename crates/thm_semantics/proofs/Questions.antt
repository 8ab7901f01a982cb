-- What a `?` becomes runs as it is written.
use Rattle.std.proofs.Common.{◌≡◌, ◌∙◌, refl, sym, ap, subst, ℕ, ◌≤◌, Bool, true, false, if◌then◌else◌, List, [], ◌∷◌, Option, Some, None}
use Rattle.std.proofs.Common.{arith, slice_get}
use Rattle.std.proofs.lemmas.Bool.{eq-eqb}
use Rattle.hir_binding.specs.declared.binding.BindingAnnotation.TheVariants.{Unannotated}
use Rattle.hir_store.specs.Pointers.{Pointer}
use Rattle.hir_store.specs.Stored.{Stored, store_of, map_of}
use Rattle.hir_store.specs.declared.hir.Expr.TheVariants as hir
use Rattle.hir_store.specs.declared.hir.MatchArm.{MatchArm}
use Rattle.hir_store.specs.declared.ids.ExprId.{ExprId}
use Rattle.hir_store.specs.declared.ids.LabelId.{LabelId}
use Rattle.hir_store.specs.declared.ids.LangItemId.{LangItemId}
use Rattle.hir_store.specs.declared.ids.PatId.{PatId}
use Rattle.hir_env.specs.NodeMap.{Site}
use Rattle.hir_env.specs.Answering.{site_of}
use Rattle.hir_env.specs.ResolvedTree.{QuestionItems}
use Rattle.spec_data.specs.Data.{PatData, pattern_site}
use Rattle.spec_data.specs.Reading.{stored_pat}
use Rattle.hir_lower_builder.specs.Forms.{ExprSteps, root_hygiene}
use Rattle.hir_lower_builder.specs.Made.{conversion, flow_arm_form, item_call_form, item_or_missing, leaving_node, made_call, made_path}
use Rattle.hir_lower_builder.specs.Made.{item_pat, made_path_form, question_form, residual_form}
use Rattle.spec_semantics.specs.Run.{Value, reply, matches, test, call, item, returned, unit, unmatched, Outcome, value, break, continue}
use Rattle.spec_semantics.specs.Run.{leave, World, after, ends, pure, ◌>>=◌, event, ask}
use Rattle.spec_semantics.specs.Store.{RunTable, StoreRun, fits, fits_or_takes, takes, with_name}
use Rattle.spec_semantics.specs.Syntax.{SyntaxRun, item_pattern, leaves_try, residual_item, run_item, run_question, run_residual}
use Rattle.spec_semantics.specs.Syntax.{through_item}
use Rattle.hir_lower_scope.specs.ScopeRibs.{Try}
use Rattle.hir_lower_scope.specs.Scopes.{Count, innermost_try}
use Rattle.thm_round_trip.proofs.Made.{BindsMade, item_reads, made_pattern, made_reads, pat_in_full}
use Rattle.thm_logic.proofs.Frames.{Frame, Falls, scopes}
use Rattle.thm_logic.proofs.MadeSteps.{AllocatedMade, correct_alloc_desugared, correct_made_number, correct_try_target}
use Rattle.thm_logic.proofs.Steps.{Allocated, AllocatedBy, Correct, Mark, Put, Rel, correct_alloc, correct_as, correct_bind}
use Rattle.thm_logic.proofs.Steps.{correct_in_store, correct_pure}
use Rattle.thm_semantics.proofs.Knowing.{GoesKnowing, SameKnowing, known_at, known_bind, known_call, known_ends, known_item, known_like}
use Rattle.thm_semantics.proofs.Knowing.{known_path, known_within}
use Rattle.thm_semantics.proofs.Nodes
use Rattle.thm_semantics.proofs.Ranges.{goes_item}
use Rattle.thm_semantics.proofs.NamesKept.{other_name}
use Rattle.thm_semantics.proofs.Relation.{SameWhere, same_ask, same_bind, same_ends, same_event}
use Rattle.thm_semantics.proofs.Rows.{stored_pure, stored_row, written_apart, written_value}
use Rattle.thm_semantics.proofs.Senses.{Base, Under, base_of, under_grown, under_refl, under_trans, wider_of}
use Rattle.thm_semantics.proofs.Senses.{Goes, Runs, Walk, goes_at, goes_within, one, run_in}
use Rattle.thm_semantics.proofs.Targets.{OneTry, TryAmong, try_among, try_meets}
use Rattle.thm_semantics.proofs.Unmade.{all_of, inside_made, made_whole}
use Rattle.thm_semantics.proofs.Views.{numbers, view}

-- items

pub made_item_goes : {base : Base} {m m' : Mark} {final : Stored} {ps qs : List Frame} {i : ExprId} {put : Put} {source : Option Pointer}
    (o : Option LangItemId) → AllocatedBy put (item_or_missing o) source final qs m m' i
    → Goes base m'.nodes one (λ fuel ss. run_item o) final ps i
made_item_goes None a = Nodes.goes_missing a
made_item_goes (Some j) a = goes_item j a

-- what goes through a call of the item
abbrev pub through_walk : Pointer → Option LangItemId → Walk Value → Walk Value
through_walk at o y fuel ss = through_item o (Some (site_of at)) (y fuel ss)

pub made_call_goes : {base : Base} {m m' : Mark} {final : Stored} {ps qs : List Frame} {i f e : ExprId} {put : Put} {at : Pointer}
    {y : Walk Value} (o : Option LangItemId) → Goes base m.nodes one (λ fuel ss. run_item o) final ps f
    → Goes base m.nodes one y final ps e → AllocatedBy put (made_call f e) (Some at) final qs m m' i
    → Goes base m'.nodes one (through_walk at o y) final ps i
made_call_goes {at = at} o h k a = goes_at a
    (λ fuel d le falls. same_bind (h.same fuel d le falls) (λ u. stored_row _ _ _ (same_bind (k.same fuel d le falls)
    (λ w. stored_row _ _ _ (stored_pure _ (stored_pure _ (same_ask call (u ∷ w ∷ []) (Some (site_of at)))))))))
    (λ d le. (h.jumps d le, (k.jumps d le, tt)))

-- an arm, whose pattern takes what the test is answered

-- The pattern of the item, in which the name of this number is bound.
pub record TakesBy (chosen : LangItemId) (n : ℕ) (final : Stored) (q : PatId) : Type 0 where
  pub whole : made_whole final q ≡ None
  pub part : inside_made final q ≡ Some n
  pub reads : stored_pat (store_of final) (map_of final) q ≡ item_pattern chosen

pub with_it : (n : ℕ) (v : Value) (table : RunTable) → with_name n v table n ≡ Some v
with_it n v table = rw (eq-eqb n n refl) refl

module _ {n : ℕ} {ps : List Frame} {m m' : StoreRun Value} {s : Value → SyntaxRun Value} {s' : SyntaxRun Value}
    {names : ℕ} (le : names ≤ n) (h : (v : Value) → SameKnowing n v ps m (s v)) (k : SameWhere names ps m' s') where
  taken : (t : Bool) (x : Value)
      → SameWhere names ps (((if t then takes n x else pure tt) >>= (λ u. pure t)) >>= (λ holds. if holds then m else m'))
      (if t then s x else s')
  unfolding ends ◌>>=◌ takes
  taken true x = record {
    same = λ w. (h x).same (record w { table = with_name n x w.table }) (with_it n x w.table);
    keeps = record {
      still = λ w k lt. (h x).keeps.still (record w { table = with_name n x w.table }) k (omega (arith, lt, le))
          ∙ other_name n x w.table k le lt;
    };
  }
  taken false x = record {
    same = λ w. k.same w;
    keeps = record { still = λ w i lt. k.keeps.still w i lt };
  }

  taken_by : (a b : Option ℕ) → a ≡ None → b ≡ Some n → (d : PatData) (v : Value)
      → SameWhere names ps (fits_or_takes a b d v >>= (λ holds. if holds then m else m'))
      (event (test (matches d)) (v ∷ []) (pattern_site d) >>= (λ a. if a.yes then s (reply a.value) else s'))
  taken_by a b e e' d v = rw (e, e') (stored_row _ _ _ (same_bind (same_event (test (matches d)) (v ∷ []) (pattern_site d))
      (λ a. taken a.yes (reply a.value))))

  takes_then : (final : Stored) (chosen : LangItemId) (q : PatId) → TakesBy chosen n final q → (v : Value)
      → SameWhere names ps (fits (store_of final) (map_of final) q v >>= (λ holds. if holds then m else m'))
      (event (test (matches (item_pattern chosen))) (v ∷ []) None >>= (λ a. if a.yes then s (reply a.value) else s'))
  takes_then final chosen q t v = subst (λ d. SameWhere names ps (fits (store_of final) (map_of final) q v
      >>= (λ holds. if holds then m else m'))
      (event (test (matches d)) (v ∷ []) (pattern_site d) >>= (λ a. if a.yes then s (reply a.value) else s'))) t.reads
      (taken_by (made_whole final q) (inside_made final q) t.whole t.part (stored_pat (store_of final) (map_of final) q) v)

takes_made : (final : Stored) (chosen : LangItemId) (n : ℕ) (p q : PatId) → BindsMade n final p
    → slice_get final.pats.entries q.0 ≡ Some (item_pat chosen p) → stored_pat (store_of final) (map_of final) q ≡ item_pattern chosen
    → TakesBy chosen n final q
takes_made final chosen n p q binds here reads = record {
  whole = rw here refl;
  part = rw (here, binds.here, binds.found) refl;
  reads = reads;
}

-- what an arm of `?` became
pub record FlowIs (chosen : LangItemId) (R : ℕ → Rel ExprId) (final : Stored) (ps : List Frame) (m m' : Mark) (a : MatchArm) : Type 0 where
  pub name : ℕ
  pub pattern : PatId
  pub body : ExprId
  pub start : Mark
  pub number : m.names ≤ name
  pub is : a ≡ record { pat = pattern; guard = None; expr = body }
  pub takes : TakesBy chosen name final pattern
  pub grown : Under (base_of m) (base_of start)
  pub rel : R name final ps start m' body

flow_arm_is : (chosen : LangItemId) {body : ℕ → ExprSteps} {R : ℕ → Rel ExprId} → ((n : ℕ) → Correct (body n) (R n))
    → Correct (flow_arm_form chosen body) (FlowIs chosen R)
unfolding flow_arm_form
flow_arm_is chosen h = correct_as (correct_bind correct_made_number (λ n. correct_bind (made_reads Unannotated n) (λ p. correct_bind
    (correct_in_store (item_reads chosen p)) (λ q. correct_bind (h n) (λ e. correct_pure (record { pat = q; guard = None; expr = e }))))))
    (λ final ps m m' a g row. let p = row.second in let q = p.second in let e = q.second in
    let entries = q.first.entries in
    let reads = q.first.rel.reads made_pattern p.first.reads (all_of final) entries in
    rw e.second.still (record {
      name = row.one;
      pattern = q.one;
      body = e.one;
      start = q.middle;
      is = e.second.is;
      takes = takes_made final chosen row.one p.one q.one p.first.binds q.first.rel.here
          (pat_in_full final q.one (item_pattern chosen) reads);
      number = omega (arith, row.first.is);
      grown = under_trans (under_grown row.before) (under_trans (under_grown p.before) (under_grown q.before));
      rel = e.first;
    }))

-- the residual

module _ (at : Pointer) where
  abbrev here : Option Site
  here = Some (site_of at)

  walk_row : {A B C : Type 0} (p : SyntaxRun A) (f : A → SyntaxRun B) (g : B → SyntaxRun C) (w : World (Unit {0}))
      → ((p >>= f) >>= g) w ≡ (p >>= (λ a. f a >>= g)) w
  unfolding ◌>>=◌
  walk_row {A = A} p f g w = by (p w).0 (p w).1
    where
      by : (o : Outcome Count A) (w : World (Unit {0})) → after (after o w f).0 (after o w f).1 g ≡ after o w (λ a. f a >>= g)
      by (value a) w = refl
      by (break j v) w = refl
      by (continue j) w = refl
      by (leave x) w = refl

  -- what leaves for the `try` that lowering knows, or else returns
  leaving_known : {base : Base} {n : ℕ} {v : Value} {m m' : Mark} {final : Stored} {ps qs : List Frame} {i c : ExprId} {x : SyntaxRun Value}
      (t : Option (Try LabelId)) (u : Option (Try ℕ)) → (Falls base.labels ps → OneTry base.labels ps t u) → TryAmong (numbers ps) t
      → GoesKnowing base m.nodes n v x final ps c → AllocatedMade (leaving_node t c) (Some at) final qs m m' i
      → GoesKnowing base m'.nodes n v (x >>= (λ w. ends (leaves_try u w))) final ps i
  leaving_known {base = base} {ps = ps} None u meets around h a = known_at a
      (λ fuel d le f. known_bind (h.same fuel d le f) (λ w. known_ends (leave (returned w)) (returns u (meets f) w)))
      (λ d le. h.jumps d le)
    where
      returns : (u : Option (Try ℕ)) → OneTry base.labels ps None u → (w : Value) → leave (returned w) ≡ leaves_try u w
      returns None e w = refl
      returns (Some t) e w = absurd e
  leaving_known {base = base} {ps = ps} (Some t) u meets around h a = known_at a
      (λ fuel d le f. known_bind (h.same fuel d le f) (λ w. known_ends (break (Some t.place) w) (breaks u (meets f) w)))
      (λ d le. (around, h.jumps d le))
    where
      breaks : (u : Option (Try ℕ)) → OneTry base.labels ps (Some t) u → (w : Value) → view ps (break (Some t.place) w) ≡ leaves_try u w
      breaks None e w = absurd e
      breaks (Some x) e w = ap (λ c. break c w) e.2

  same_conversion : (b : ℕ) (ps : List Frame) (items : QuestionItems) (t : Option (Try LabelId)) (u : Option (Try ℕ)) → OneTry b ps t u
      → conversion items t ≡ residual_item items u
  same_conversion b ps items None None e = refl
  same_conversion b ps items None (Some u) e = absurd e
  same_conversion b ps items (Some t) None e = absurd e
  same_conversion b ps items (Some t) (Some u) e = ap (λ typed. if typed then items.from_residual else items.into_try_type) e.0

  -- the same steps, as they are written
  residual_row : (o : Option LangItemId) (u : Option (Try ℕ)) (v : Value) (w : World (Unit {0}))
      → ((run_item o >>= (λ f. pure v >>= (λ x. ask call (f ∷ x ∷ []) here))) >>= (λ x. ends (leaves_try u x))) w
      ≡ (run_item o >>= (λ f. ask call (f ∷ v ∷ []) here >>= (λ x. ends (leaves_try u x)))) w
  unfolding ends ◌>>=◌
  residual_row o u v w = walk_row (run_item o) (λ f. ask call (f ∷ v ∷ []) here) (λ x. ends (leaves_try u x)) w

  -- for each value that the name may stand for
  abbrev ResidualIs : QuestionItems → ℕ → Rel ExprId
  ResidualIs items n final ps m m' i = (v : Value)
      → GoesKnowing (base_of m) m'.nodes n v (run_residual items (innermost_try (scopes ps)) v here) final ps i

  residual_is : (items : QuestionItems) (n : ℕ) → Correct (residual_form at items n) (ResidualIs items n)
  unfolding residual_form made_path_form item_call_form
  residual_is items n = correct_as (correct_bind (correct_alloc_desugared (hir.Path (made_path n) root_hygiene) (Some at))
      (λ r. correct_bind correct_try_target (λ t. correct_bind (correct_bind
      (correct_alloc_desugared (item_or_missing (conversion items t)) (Some at)) (λ f. correct_alloc_desugared (made_call f r) (Some at)))
      (λ e. correct_alloc_desugared (leaving_node t e) (Some at)))))
      (λ final ps m m' i g row v.
      let s = row.second in let t = s.one in let c = s.second in let u = innermost_try (scopes ps) in
      let meets : Falls m.labels ps → OneTry m.labels ps t u =
      λ f. subst (λ k. OneTry m.labels ps k u) (sym s.first.is) (try_meets m.labels ps f) in
      let around : TryAmong (numbers ps) t = subst (TryAmong (numbers ps)) (sym s.first.is) (try_among ps) in
      let name = known_within {base = base_of m} {base' = base_of m} (under_refl (base_of m))
      (omega (arith, s.before.nodes, c.first.before.nodes)) (known_path {base = base_of m} {v = v} {ps = ps} row.first) in
      let called = known_call (known_item (conversion items t) c.first.first) name c.first.second in
      let all = leaving_known t u meets around called c.second in record {
        same = λ fuel d le f. subst (λ o. SameKnowing n v ps (run_in final d fuel i)
            (run_item o >>= (λ k. ask call (k ∷ v ∷ []) here >>= (λ x. ends (leaves_try u x)))))
            (same_conversion m.labels ps items t u (meets f))
            (known_like (residual_row (conversion items t) u v) (all.same fuel d le f));
        jumps = all.jumps;
      })

  abbrev NameIs : ℕ → Rel ExprId
  NameIs n final ps m m' i = (v : Value) → GoesKnowing (base_of m) m'.nodes n v (pure v) final ps i

  name_is : (n : ℕ) → Correct (made_path_form at n) (NameIs n)
  unfolding made_path_form
  name_is n =
      correct_as (correct_alloc_desugared (hir.Path (made_path n) root_hygiene) (Some at)) (λ final ps m m' i g row v. known_path row)

  -- the whole

  abbrev arm_of : PatId → ExprId → MatchArm
  arm_of q e = record { pat = q; guard = None; expr = e }

  goes_question : {base : Base} {m m' : Mark} {final : Stored} {ps qs : List Frame} {i b : ExprId} {put : Put}
      (x : Walk Value) (items : QuestionItems) (g h : ℕ) (q r : PatId) (e f : ExprId)
      → Goes base m.nodes one (through_walk at (Some items.branch) x) final ps b → base.names ≤ g → TakesBy items.goes_on g final q
      → ((v : Value) → GoesKnowing base m.nodes g v (pure v) final ps e) → base.names ≤ h → TakesBy items.breaks h final r
      → ((v : Value) → GoesKnowing base m.nodes h v (run_residual items (innermost_try (scopes ps)) v here) final ps f)
      → AllocatedBy put (hir.Match b (arm_of q e ∷ arm_of r f ∷ [])) (Some at) final qs m m' i
      → Goes base m'.nodes one (λ fuel ss. run_question items (innermost_try ss) (x fuel ss) here) final ps i
  goes_question {final = final} {ps = ps} x items g h q r e f branch le goes_on name le' breaks residual a = goes_at a
      (λ fuel d deep falls.
      let second = takes_then le' (λ v. (residual v).same fuel d deep falls)
      (same_ends (leave unmatched) refl) final items.breaks r breaks in
      let none = item items.branch in
      written_apart (x fuel (scopes ps)) (λ v. ask call (none ∷ v ∷ []) here) _
      (same_bind
      (written_value none (λ k. x fuel (scopes ps) >>= (λ v. ask call (k ∷ v ∷ []) here)) (branch.same fuel d deep falls))
      (λ w. takes_then le (λ v. (name v).same fuel d deep falls) (second w) final items.goes_on q goes_on w)))
      (λ d le. (branch.jumps d le, (tt, (name unit).jumps d le, (tt, (residual unit).jumps d le, tt))))

  pub question_fine : (items : QuestionItems) {p : ExprSteps} {x : Walk Value} → Correct p (Runs one x)
      → Correct (question_form at items p) (Runs one (λ fuel ss. run_question items (innermost_try ss) (x fuel ss) here))
  unfolding question_form item_call_form
  question_fine items {x = x} hp = correct_as (correct_bind hp (λ e. correct_bind (correct_bind
      (correct_alloc_desugared (item_or_missing (Some items.branch)) (Some at)) (λ f. correct_alloc_desugared (made_call f e) (Some at)))
      (λ b. correct_bind (flow_arm_is items.goes_on name_is) (λ a. correct_bind (flow_arm_is items.breaks (residual_is items))
      (λ c. correct_alloc (hir.Match b (a ∷ c ∷ [])) (Some at))))))
      (λ final ps m m' i g row.
      let s = row.second in let u = s.second in let t = u.second in let a = u.first in let c = t.first in
      let operand = goes_within (wider_of (under_refl (base_of m)) s.first.before.nodes) row.first in
      let branch = made_call_goes (Some items.branch) (made_item_goes {base = base_of m} (Some items.branch) s.first.first) operand
      s.first.second in
      goes_question x items a.name c.name a.pattern c.pattern a.body c.body
      (goes_within (wider_of (under_refl (base_of m)) (omega (arith, u.before.nodes, t.before.nodes))) branch)
      (omega (arith, row.before.names, s.before.names, a.number)) a.takes
      (λ v. known_within (under_trans (under_grown row.before) (under_trans (under_grown s.before) a.grown)) t.before.nodes (a.rel v))
      (omega (arith, row.before.names, s.before.names, u.before.names, c.number)) c.takes
      (λ v. known_within (under_trans (under_grown row.before) (under_trans (under_grown s.before) (under_trans (under_grown u.before)
      c.grown))) (omega arith) (c.rel v))
      (subst (λ z. Allocated (hir.Match s.one (arm_of a.pattern a.body ∷ z ∷ [])) (Some at) final ps t.middle m' i) c.is
      (subst (λ z. Allocated (hir.Match s.one (z ∷ t.one ∷ [])) (Some at) final ps t.middle m' i) a.is t.second)))
