-- What forms with patterns become runs as they are written: `let` as a condition, `match`, `let` statements and assignments.
use Rattle.std.proofs.Common.{◌≡◌, ℕ, ◌≤◌, if◌then◌else◌, List, [], ◌∷◌, Option, Some, None, refl, subst}
use Rattle.std.proofs.Common.{arith}
use Rattle.hir_store.specs.Pointers.{Pointer}
use Rattle.hir_store.specs.Stored.{Stored, store_of, map_of}
use Rattle.hir_store.specs.declared.hir.Expr.TheVariants as hir
use Rattle.hir_store.specs.declared.hir.MatchArm.{MatchArm}
use Rattle.hir_store.specs.declared.hir.Statement.{Statement}
use Rattle.hir_store.specs.declared.hir.Statement.TheVariants as statement
use Rattle.hir_store.specs.declared.ids.ExprId.{ExprId}
use Rattle.hir_store.specs.declared.ids.PatId.{PatId}
use Rattle.hir_env.specs.NodeMap.{Site}
use Rattle.hir_env.specs.Answering.{site_of}
use Rattle.hir_env.specs.ResolvedTree as tree
use Rattle.hir_env.specs.ResolvedTree.{OptionPat, OptionType, OptionExpr, OptionBlock}
use Rattle.hir_lower_builder.specs.Forms.{ExprSteps, push_some, some, let_form, match_form, arm_form, let_stmt_form}
use Rattle.hir_lower_builder.specs.Lower.{lower_top, present_type}
use Rattle.hir_lower_builder.specs.Lowering.{Lowering}
use Rattle.hir_lower_builder.specs.Lowering.{pure as gives}
use Rattle.thm_logic.proofs.Frames.{Frame, scopes, Falls, falls_more}
use Rattle.thm_logic.proofs.Steps.{Mark, Grows, Rel, Correct, Allocated, correct_bind, correct_as, correct_pure, correct_alloc}
use Rattle.spec_data.specs.Data.{PatData}
use Rattle.spec_data.specs.Patterns.{written_pat}
use Rattle.spec_data.specs.Reading.{stored_pat}
use Rattle.spec_data.proofs.GeneratedNames.{Unmade}
use Rattle.thm_round_trip.proofs.Now.{option_type_now}
use Rattle.thm_round_trip.proofs.PatTree.{top_now}
use Rattle.spec_semantics.specs.Run.{Value, truth, is_true, leave, unmatched, ends, pure, ◌>>=◌, tests, tests_pattern}
use Rattle.spec_semantics.specs.Jumps.{EachArm, EnclosedTo}
use Rattle.spec_semantics.specs.Store.{StoreRun, run_arms, run_guarded}
use Rattle.spec_semantics.specs.Syntax.{SyntaxRun, run_present}
use Rattle.hir_lower_scope.specs.Each.{IfPresent}
use Rattle.hir_lower_scope.specs.Scopes.{Scope}
use Rattle.thm_semantics.proofs.Views.{numbers}
use Rattle.thm_semantics.proofs.Relation.{SameWhere, same_ends, same_fewer, same_pure, same_bind, same_tests, same_if}
use Rattle.thm_semantics.proofs.Senses.{Base, Under, base_of, under_refl, wider_of}
use Rattle.thm_semantics.proofs.Senses.{Walk, run_in, one, present, Goes, Runs, goes_within, goes_at}
use Rattle.thm_semantics.proofs.Blocks.{StoredLet, let_of, LetIs, ElseIs}
use Rattle.thm_semantics.proofs.Unmade.{fits_same, written_is_unmade}
use Rattle.thm_semantics.proofs.Forms.{Pushed, pushed_one}

abbrev pub pat_in : Stored → PatId → PatData
pat_in final i = stored_pat (store_of final) (map_of final) i

-- `let` as a condition

abbrev pub condition : PatData → Walk Value → Walk Value
condition d x fuel ss = x fuel ss >>= (λ v. tests_pattern d v >>= (λ fits. pure (truth fits)))

goes_let : {base : Base} {m m' : Mark} {at : Pointer} {final : Stored} {ps qs : List Frame} {i e : ExprId} {x : Walk Value} (p : PatId)
    (d : PatData) → pat_in final p ≡ d → Unmade d → Goes base m.nodes one x final ps e
    → Allocated (hir.Let p e) (Some at) final qs m m' i → Goes base m'.nodes one (condition d x) final ps i
goes_let {final = final} p d is u h a = goes_at a
    (λ fuel n le f. same_bind (h.same fuel n le f) (λ v. same_bind (fits_same final p d is u v) (λ holds. same_pure (truth holds))))
    (λ n le. h.jumps n le)

pub let_fine : (at : Pointer) (p : OptionPat) {q : ExprSteps} {x : Walk Value} → Correct q (Runs one x)
    → Correct (let_form at (lower_top p) q) (Runs one (condition (written_pat p) x))
unfolding let_form
let_fine at p h = correct_as (correct_bind (top_now p) (λ i. correct_bind h (λ e. correct_alloc (hir.Let i e) (Some at))))
    (λ final ps m m' k g row. let r = row.second in
    goes_let row.one (written_pat p) row.first.is (written_is_unmade p) (goes_within (omega arith) r.first) r.second)

-- `match`

-- what the arms do with a value, at the site of the `match`
abbrev pub ArmsWalk : Type 0
ArmsWalk = Value → Option Site → Walk Value

pub record ArmsGo (base : Base) (nodes : ℕ) (x : ArmsWalk) (final : Stored) (ps : List Frame) (arms : List MatchArm) : Type 0 where
  pub same : (fuel d : ℕ) → nodes ≤ d → Falls base.labels ps → (v : Value) (site : Option Site)
      → SameWhere base.names ps (run_arms (store_of final) (map_of final) fuel (run_in final d fuel) arms v site) (x v site fuel
      (scopes ps))
  pub jumps : (d : ℕ) → nodes ≤ d → EachArm (EnclosedTo (store_of final) d (numbers ps)) arms

abbrev pub ArmsAre : ArmsWalk → Rel (List MatchArm)
ArmsAre x final ps m m' arms = ArmsGo (base_of m) m'.nodes x final ps arms

-- a guard, where one is written
abbrev pub GuardIs : Base → ℕ → Stored → List Frame → Option (Walk Value) → Option ExprId → Type 0
GuardIs base nodes final ps None None = Unit {0}
GuardIs base nodes final ps None (Some i) = ⊥
GuardIs base nodes final ps (Some x) None = ⊥
GuardIs base nodes final ps (Some x) (Some i) = Goes base nodes one x final ps i

-- the body of an arm, or the others where its guard doesn't hold
abbrev pub guarded : Option (Walk Value) → Option Site → SyntaxRun Value → SyntaxRun Value → ℕ → List Scope → SyntaxRun Value
guarded None site body others fuel ss = body
guarded (Some x) site body others fuel ss =
    x fuel ss >>= (λ v. tests is_true v site >>= (λ holds. if holds then body else others))

abbrev pub arm_walk : PatData → Option (Walk Value) → Walk Value → ArmsWalk → ArmsWalk
arm_walk d g x y v site fuel ss = tests_pattern d v
    >>= (λ fits. if fits then guarded g site (x fuel ss) (y v site fuel ss) fuel ss else y v site fuel ss)

pub no_guard_fine : Correct (gives None) (λ final ps m m' o. GuardIs (base_of m) m'.nodes final ps None o)
no_guard_fine = correct_as (correct_pure None) (λ final ps m m' o g row. rw row.is tt)

pub guard_fine : {p : ExprSteps} {x : Walk Value} → Correct p (Runs one x)
    → Correct (some p) (λ final ps m m' o. GuardIs (base_of m) m'.nodes final ps (Some x) o)
guard_fine h = correct_as (correct_bind h (λ i. correct_pure (Some i)))
    (λ final ps m m' o g row. rw (row.second.is, row.second.still) row.first)

-- what an arm became
pub record ArmIs (d : PatData) (g : Option (Walk Value)) (x : Walk Value) (final : Stored) (ps : List Frame) (m m' : Mark)
    (o : Option MatchArm) : Type 0 where
  pub arm : MatchArm
  pub is : o ≡ Some arm
  pub pattern : pat_in final arm.pat ≡ d
  pub unmade : Unmade d
  pub guard : GuardIs (base_of m) m'.nodes final ps g arm.guard
  pub body : Goes (base_of m) m'.nodes one x final ps arm.expr

pub arm_fine : (p : OptionPat) {q : ExprSteps} {r : Lowering (Option ExprId)} {g : Option (Walk Value)} {x : Walk Value}
    → Correct q (Runs one x) → Correct r (λ final ps m m' o. GuardIs (base_of m) m'.nodes final ps g o)
    → Correct (arm_form (lower_top p) q r) (ArmIs (written_pat p) g x)
unfolding arm_form
arm_fine p {g = g} hq hr = correct_as (correct_bind (top_now p) (λ i. correct_bind hq (λ e. correct_bind hr
    (λ o. correct_pure (Some (record { pat = i; guard = o; expr = e }))))))
    (λ final ps m m' a u row. let s = row.second in let v = s.second in record {
      arm = record { pat = row.one; guard = v.one; expr = s.one };
      is = v.second.is;
      pattern = row.first.is;
      unmade = written_is_unmade p;
      guard = rw v.second.still (guard_within final ps g v.one (omega arith) (omega arith) v.first);
      body = rw v.second.still (goes_within (omega arith) s.first);
    })
  where
    guard_within : {base base' : Base} {nodes nodes' : ℕ} (final : Stored) (ps : List Frame) (g : Option (Walk Value)) (o : Option ExprId)
        → Under base' base → nodes ≤ nodes' → GuardIs base nodes final ps g o → GuardIs base' nodes' final ps g o
    guard_within final ps None None le le' h = tt
    guard_within final ps None (Some i) le le' h = absurd h
    guard_within final ps (Some x) None le le' h = absurd h
    guard_within final ps (Some x) (Some i) le le' h = goes_within (wider_of le le') h

pub no_arms_are : {final : Stored} {ps : List Frame} (m m' : Mark) → ArmsAre (λ v site fuel ss. ends (leave unmatched)) final ps m m' []
no_arms_are m m' = record { same = λ fuel d le f v site. same_ends (leave unmatched) refl; jumps = λ d le. tt }

module _ (base : Base) (nodes : ℕ) (final : Stored) (ps : List Frame) where
  same_guarded : (fuel d : ℕ) → nodes ≤ d → Falls base.labels ps → (g : Option (Walk Value)) (o : Option ExprId) (site : Option Site)
      → GuardIs base nodes final ps g o → {m m' : StoreRun Value} {n n' : SyntaxRun Value} → SameWhere base.names ps m n
      → SameWhere base.names ps m' n'
      → SameWhere base.names ps (run_guarded fuel (run_in final d fuel) o site m m') (guarded g site n n' fuel (scopes ps))
  same_guarded fuel d le f None None site h k l = k
  same_guarded fuel d le f None (Some i) site h k l = absurd h
  same_guarded fuel d le f (Some x) None site h k l = absurd h
  same_guarded fuel d le f (Some x) (Some i) site h k l = same_bind (h.same fuel d le f)
      (λ v. same_bind (same_tests is_true v site) (λ holds. same_if holds k l))

  guard_jumps : (d : ℕ) → nodes ≤ d → (g : Option (Walk Value)) (o : Option ExprId) → GuardIs base nodes final ps g o
      → IfPresent (EnclosedTo (store_of final) d (numbers ps)) o
  guard_jumps d le None None h = tt
  guard_jumps d le None (Some i) h = absurd h
  guard_jumps d le (Some x) None h = absurd h
  guard_jumps d le (Some x) (Some i) h = h.jumps d le

module _ {base : Base} {nodes : ℕ} {final : Stored} {ps : List Frame} where
  arms_go : {x : Walk Value} {y : ArmsWalk} {arms : List MatchArm} (d : PatData) (g : Option (Walk Value)) (a : MatchArm)
      → pat_in final a.pat ≡ d → Unmade d → GuardIs base nodes final ps g a.guard → Goes base nodes one x final ps a.expr
      → ArmsGo base nodes y final ps arms → ArmsGo base nodes (arm_walk d g x y) final ps (a ∷ arms)
  arms_go {x = x} {y = y} {arms = arms} d g a is u h k l = record {
    same = λ fuel n le f v site. same_bind (fits_same final a.pat d is u v) (λ holds. same_if holds
        (same_guarded base nodes final ps fuel n le f g a.guard site h (k.same fuel n le f) (l.same fuel n le f v site))
        (l.same fuel n le f v site));
    jumps = λ n le. (guard_jumps base nodes final ps n le g a.guard h, k.jumps n le, l.jumps n le);
  }

arms_within : {base base' : Base} {nodes nodes' : ℕ} {y : ArmsWalk} {final : Stored} {ps : List Frame} {arms : List MatchArm}
    → Under base' base → nodes ≤ nodes' → ArmsGo base nodes y final ps arms → ArmsGo base' nodes' y final ps arms
arms_within {base = base} {base' = base'} {ps = ps} le le' h = record {
  same = λ fuel d ge f v site. same_fewer le.names (h.same fuel d (omega (ge, le', arith)) (falls_from f) v site);
  jumps = λ d ge. h.jumps d (omega (ge, le', arith));
}
  where
    falls_from : Falls base'.labels ps → Falls base.labels ps
    falls_from f = falls_more ps base'.labels base.labels le.labels f

-- an arm that is left out
pub arms_skip : {final : Stored} {ps : List Frame} {m m1 m' : Mark} {y : ArmsWalk} {r : List MatchArm} (done : List MatchArm)
    (o : Option MatchArm) → o ≡ None → Grows m m1 → Pushed (push_some done o) (ArmsAre y) final ps m1 m' r
    → Pushed done (ArmsAre y) final ps m m' r
arms_skip {final = final} {ps = ps} {m = m} {m1 = m1} {m' = m'} {y = y} {r = r} done o e g p =
    let q = subst (λ z. Pushed (push_some done z) (ArmsAre y) final ps m1 m' r) e p in
    record { new = q.new; is = q.is; rel = arms_within (omega arith) (omega arith) q.rel }

pub arms_more : {final : Stored} {ps : List Frame} {m m1 m' : Mark} {d : PatData} {g : Option (Walk Value)} {x : Walk Value}
    {y : ArmsWalk} {r : List MatchArm} (done : List MatchArm) (o : Option MatchArm) → Grows m m1 → Grows m1 m'
    → ArmIs d g x final ps m m1 o → Pushed (push_some done o) (ArmsAre y) final ps m1 m' r
    → Pushed done (ArmsAre (arm_walk d g x y)) final ps m m' r
arms_more {final = final} {ps = ps} {m = m} {m1 = m1} {m' = m'} {d = d} {g = g} {y = y} {r = r} done o u u' h p =
    let q = subst (λ z. Pushed (push_some done z) (ArmsAre y) final ps m1 m' r) h.is p in record {
      new = h.arm ∷ q.new;
      is = pushed_one done h.arm q.new q.is;
      rel = arms_go d g h.arm h.pattern h.unmade (guard_to (base_of m) final ps g h.arm.guard (omega arith) h.guard)
          (goes_within (omega arith) h.body) (arms_within (omega arith) (omega arith) q.rel);
    }
  where
    guard_to : {nodes nodes' : ℕ} (base : Base) (final : Stored) (ps : List Frame) (g : Option (Walk Value)) (o : Option ExprId)
        → nodes ≤ nodes' → GuardIs base nodes final ps g o → GuardIs base nodes' final ps g o
    guard_to base final ps None None le h = tt
    guard_to base final ps None (Some i) le h = absurd h
    guard_to base final ps (Some x) None le h = absurd h
    guard_to base final ps (Some x) (Some i) le h = goes_within (wider_of (under_refl base) le) h

pub match_fine : (at : Pointer) {p : ExprSteps} {q : Lowering (List MatchArm)} {x : Walk Value} {y : ArmsWalk} → Correct p (Runs one x)
    → Correct q (Pushed [] (ArmsAre y))
    → Correct (match_form at p q) (Runs one (λ fuel ss. x fuel ss >>= (λ v. y v (Some (site_of at)) fuel ss)))
unfolding match_form
match_fine at {y = y} hp hq = correct_as (correct_bind hp (λ e. correct_bind hq (λ arms. correct_alloc (hir.Match e arms) (Some at))))
    (λ final ps m m' i g row. let s = row.second in
    let h = goes_within (omega arith) row.first in
    let k = arms_within {base = base_of row.middle} {base' = base_of m} {nodes = s.middle.nodes} {nodes' = s.middle.nodes} {y = y}
    {final = final} {ps = ps} {arms = s.one} (omega arith) (omega arith) (rw s.first.is s.first.rel) in
    goes_at s.second
    (λ fuel d le f. same_bind (h.same fuel d le f) (λ v. k.same fuel d le f v (Some (site_of at))))
    (λ d le. (h.jumps d le, k.jumps d le)))

-- `let` statements

pub record AsLet (p : OptionPat) (t : OptionType) (e : OptionExpr) (b : OptionBlock) (final : Stored) (ps : List Frame) (m m' : Mark)
    (o : Option Statement) : Type 0 where
  pub held : StoredLet
  pub is : o ≡ Some (let_of held)
  pub rel : LetIs (base_of m) m'.nodes final ps p t e b held

pub let_stmt_fine : (p : OptionPat) (t : OptionType) (e : OptionExpr) (b : OptionBlock) {q r : Lowering (Option ExprId)}
    → Correct q (Runs present (λ fuel. run_present fuel e))
    → Correct r (λ final ps m m' o. ElseIs (base_of m) m'.nodes final ps b o)
    → Correct (let_stmt_form (lower_top p) (present_type t) q r) (AsLet p t e b)
unfolding let_stmt_form
let_stmt_fine p t e b hq hr = correct_as (correct_bind (top_now p) (λ i. correct_bind (option_type_now t) (λ k. correct_bind hq
    (λ j. correct_bind hr (λ l. correct_pure (Some (statement.Let i k j l)))))))
    (λ final ps m m' o g row. let s = row.second in let u = s.second in let v = u.second in record {
      held = record { pattern = row.one; type_ref = s.one; initializer = u.one; else_branch = v.one };
      is = v.second.is;
      rel = record {
        pattern = row.first.is;
        type_ref = s.first.is;
        initializer = rw v.second.still (goes_within (omega arith) u.first);
        else_branch = rw v.second.still (else_to final ps b v.one (omega arith) (omega arith) v.first);
      };
    })
  where
    else_to : {base base' : Base} {nodes nodes' : ℕ} (final : Stored) (ps : List Frame) (b : OptionBlock) (o : Option ExprId)
        → Under base' base → nodes ≤ nodes' → ElseIs base nodes final ps b o → ElseIs base' nodes' final ps b o
    else_to final ps tree.no_block None le le' h = tt
    else_to final ps tree.no_block (Some i) le le' h = absurd h
    else_to final ps (tree.some_block b) None le le' h = absurd h
    else_to final ps (tree.some_block b) (Some i) le le' h = goes_within (wider_of le le') h
