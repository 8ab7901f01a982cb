-- What each form becomes runs as the form is written, where its parts do.
use Rattle.std.proofs.Common.{◌≡◌, ℕ, suc, ◌≤◌, Bool, true, false, if◌then◌else◌, List, [], ◌∷◌, ◌++◌, append-nil}
use Rattle.std.proofs.Common.{append_assoc, Option, Some, None, Ok, Err, option_map, refl, sym, subst, ◌∙◌, arith}
use Rattle.hir_syntax.specs.declared.ast.Literal.{Literal as AstLiteral}
use Rattle.hir_store.specs.Pointers.{Pointer}
use Rattle.hir_store.specs.Stored.{Stored, store_of, map_of}
use Rattle.hir_store.specs.declared.hir.Expr.TheVariants as hir
use Rattle.hir_store.specs.declared.hir.LoopSource.{LoopSource}
use Rattle.hir_store.specs.declared.hir.Statement.{Statement}
use Rattle.hir_store.specs.declared.hir.Statement.TheVariants as statement
use Rattle.hir_store.specs.declared.path.Path.{Path}
use Rattle.hir_store.specs.declared.ids.ExprId.{ExprId}
use Rattle.hir_store.specs.declared.ids.LabelId.{LabelId}
use Rattle.hir_store.specs.declared.ids.MacroDefId.{MacroDefId}
use Rattle.hir_store.specs.declared.ids.BlockId.{BlockId}
use Rattle.hir_store.specs.declared.ids.HygieneId.{HygieneId}
use Rattle.hir_env.specs.ResolvedTree as tree
use Rattle.hir_env.specs.ResolvedTree.{OptionPath, OptionPat, OptionType, OptionBlock, Label, Jump, Called, Gone, Expr, OptionExpr, Stmts}
use Rattle.hir_env.specs.NodeMap.{Site}
use Rattle.hir_env.specs.Answering.{site_of}
use Rattle.hir_lower_builder.specs.Builder.{Builder}
use Rattle.hir_lower_builder.specs.Calls.{defined, track_gone}
use Rattle.hir_lower_builder.specs.Lowering.{Checked, Lowering, ◌>>=◌, pure, alloc_expr}
use Rattle.hir_lower_builder.specs.Lower.{ExprSteps, StoredContents, push_some, missing, some, if_form, loop_form, iteration_form}
use Rattle.hir_lower_builder.specs.Lower.{call_form}
use Rattle.hir_lower_builder.specs.Lower.{continue_form, break_form}
use Rattle.hir_lower_builder.specs.Lower.{called_form, uncalled_form}
use Rattle.hir_lower_builder.specs.Lower.{paren_form, stored_literal, path_or_missing, path_form, lower_path, settled}
use Rattle.hir_lower_builder.specs.Lower.{settled_block, block_form, labelled, kept}
use Rattle.spec_data.specs.Data.{PathData}
use Rattle.spec_data.specs.GeneratedNames.{generated_name}
use Rattle.spec_data.proofs.GeneratedNames.{PathUnmade, path_unmade}
use Rattle.spec_data.specs.Reading.{stored_path}
use Rattle.spec_data.specs.Written.{written_path}
use Rattle.thm_round_trip.proofs.Now.{path_now}
use Rattle.thm_round_trip.proofs.Lookup.{looked_up}
use Rattle.spec_data.specs.Lookup.{lookup_hygiene}
use Rattle.spec_semantics.specs.Data.{literal_data}
use Rattle.spec_semantics.specs.Run.{Value, unit, is_true, literal, call, break, continue, leave, missing as is_missing}
use Rattle.spec_semantics.specs.Run.{ends, pure as gives, ◌>>=◌ as ◌then◌, ask, tests, in_block_scope, read_path}
use Rattle.spec_semantics.specs.Catching.{iteration, loop}
use Rattle.hir_lower_scope.specs.Scopes.{Scope, loop_scope, break_target, continue_target, scope_out, scopes_in_block}
use Rattle.spec_semantics.specs.Left.{is_kept, is_left}
use Rattle.spec_semantics.specs.Store.{read_or_look}
use Rattle.spec_semantics.specs.Syntax.{SyntaxRun, as_it_is, run_path, run_stmts, run_tail, catch_label}
use Rattle.thm_logic.proofs.Frames.{Frame, plain_loop, loop_at, block_at, try_at, scopes, Falls}
use Rattle.thm_logic.proofs.Steps.{Mark, Grows, Rel, Holds, Correct, Allocated, correct_bind, correct_as, correct_pure}
use Rattle.thm_logic.proofs.Calls.{correct_emitted, correct_track_gone}
use Rattle.thm_logic.proofs.Steps.{correct_point, correct_enter_block, correct_alloc, correct_opened, correct_target}
use Rattle.thm_semantics.proofs.Targets.{break_meets, continue_meets, among}
use Rattle.thm_semantics.proofs.Relation.{SameWhere, FuelAlike, same_read_path}
use Rattle.thm_semantics.proofs.Views.{frames_behind}
use Rattle.thm_semantics.proofs.Fuel.{alike_same, branched}
use Rattle.thm_semantics.proofs.Senses.{Base, Under, base_of}
use Rattle.thm_semantics.proofs.Senses.{Walk, one, optional, many, contents, Goes, Runs, Wider, goes_within, goes_at}
use Rattle.thm_semantics.proofs.Nodes
use Rattle.thm_semantics.proofs.Strict.{event0_fine, event2_fine}
use Rattle.thm_semantics.proofs.Blocks.{part_walk, KeptIs, Stored1, ContentsAre, contents_go, StoredLet, let_of, LetIs, let_within}

-- parts

pub missing_fine : Correct missing (Runs one (λ fuel ss. ends (leave is_missing)))
unfolding missing
missing_fine = correct_as (correct_alloc hir.Missing None) (λ final ps m m' i g at. Nodes.goes_missing at)

pub none_fine : Correct (pure None) (Runs optional (λ fuel ss. gives unit))
none_fine = correct_as (correct_pure None) (λ final ps m m' i g r. rw r.is Nodes.goes_none)

pub some_fine : {p : ExprSteps} {x : Walk Value} → Correct p (Runs one x) → Correct (some p) (Runs optional x)
some_fine h = correct_as (correct_bind h (λ i. correct_pure (Some i)))
    (λ final ps m m' i g row. rw (row.second.is, row.second.still) (Nodes.goes_some row.first))

-- a new label is above those around it
pub falls_new : (b c : ℕ) (l : Label) (n : LabelId) (ps : List Frame) → n.0 ≡ b → c ≡ suc b → Falls b ps → Falls c (loop_at l n ∷ ps)
falls_new b c l n ps e e' f = (omega arith, rw e f)

pub falls_try : (b c : ℕ) (n : LabelId) (typed : Bool) (ps : List Frame) → n.0 ≡ b → c ≡ suc b → Falls b ps
    → Falls c (try_at n typed ∷ ps)
falls_try b c n typed ps e e' f = (omega arith, rw e f)

-- inside a loop without a label, of which lowering knows nothing

pub record InLoop {A : Type 0} (R : Rel A) (final : Stored) (ps : List Frame) (m m' : Mark) (a : A) : Type 0 where
  pub rel : R final (plain_loop ∷ ps) m m' a

pub correct_in_loop : {A : Type 0} {p : Lowering A} {R : Rel A} → Correct p R → Correct p (InLoop R)
correct_in_loop {A = A} {p = p} {R = R} h =
    record { holds = λ final ps b r. go final ps b (p b).0 (p b).1 (h.holds final (plain_loop ∷ ps) b r) }
  where
    go : (final : Stored) (ps : List Frame) (b : Builder) (o : Checked A) (c : Builder) → Holds R final (plain_loop ∷ ps) b o c
        → Holds (InLoop R) final ps b o c
    go final ps b (Ok a) c y = record { kept = y.kept; grows = y.grows; in_final = λ d pre. record { rel = y.in_final d pre } }
    go final ps b (Err e) c y = y

-- forms

module _ (at : Pointer) where
  abbrev here : Option Site
  here = Some (site_of at)

  pub literal_fine : (l : AstLiteral)
      → Correct (alloc_expr (hir.Literal (stored_literal l)) (Some at)) (Runs one (λ fuel ss. ask (literal (literal_data l)) [] here))
  literal_fine l = event0_fine at (record { runs = λ w. refl; jumps = λ s P ls. tt })

  pub call_fine : {p : ExprSteps} {q : Lowering (List ExprId)} {x : Walk Value} {y : Walk (List Value)} → Correct p (Runs one x)
      → Correct q (Runs many y)
      → Correct (call_form at p q) (Runs one (λ fuel ss. ◌then◌ (x fuel ss) (λ v. ◌then◌ (y fuel ss) (λ vs. ask call (v ∷ vs) here))))
  unfolding call_form
  call_fine hf hs = event2_fine at (record { runs = λ w f xs. refl; jumps = λ s P ls f xs h. h }) hf hs

  pub if_fine : {c t : ExprSteps} {e : Lowering (Option ExprId)} {x y z : Walk Value} → Correct c (Runs one x) → Correct t (Runs one y)
      → Correct e (Runs optional z)
      → Correct (if_form at c t e) (Runs one (λ fuel ss.
      ◌then◌ (x fuel ss) (λ v. ◌then◌ (tests is_true v here) (λ holds. if holds then y fuel ss else z fuel ss))))
  unfolding if_form
  if_fine hc ht he = correct_as
      (correct_bind ht (λ i. correct_bind he (λ j. correct_bind hc (λ k. correct_alloc (hir.If k i j) (Some at)))))
      (λ final ps m m' i g row. let r = row.second in let q = r.second in
      Nodes.goes_if (goes_within (omega arith) q.first) (goes_within (omega arith) row.first) (goes_within (omega arith) r.first) q.second)

  -- a loop whose body goes as a turn that is one of the loop, in its scope
  pub fuel_fine : (from : LoopSource) (l : Option Label) (y : Walk (Option Value)) {p : ExprSteps} {x : Walk Value}
      → ((fuel : ℕ) (ss : List Scope) → FuelAlike (x fuel (loop_scope l ∷ ss)) (y fuel (loop_scope l ∷ ss)))
      → Correct p (Runs one x)
      → Correct (loop_form at from l p) (Runs one (λ fuel ss. loop scope_out fuel (y fuel (loop_scope l ∷ ss))))
  unfolding loop_form
  fuel_fine from None y alike h = correct_as
      (correct_bind (correct_in_loop h) (λ i. correct_alloc (hir.Loop i None from) (Some at)))
      (λ final ps m m' i g row.
      Nodes.goes_loop {base' = base_of m} None y (λ fuel. alike fuel (scopes ps)) (λ f. f) (omega arith)
      (goes_within (omega arith) row.first.rel) row.second)
  fuel_fine from (Some l) y alike h = correct_as
      (correct_opened loop_at l (λ n ps. refl) (λ n. h) (λ n i. correct_alloc (hir.Loop i (Some n) from) (Some at)))
      (λ final ps m m' i g row.
      Nodes.goes_loop {base' = base_of row.entered} (Some (record { label = l; number = row.number })) y
      (λ fuel. alike fuel (scopes ps)) (falls_new m.labels row.entered.labels l row.number ps row.new row.labels)
      (omega (arith, row.names)) (goes_within (omega arith) row.first) row.second)

  pub loop_fine : (from : LoopSource) (l : Option Label) {p : ExprSteps} {x : Walk Value} → Correct p (Runs one x)
      → Correct (loop_form at from l p) (Runs one (λ fuel ss. loop scope_out fuel (iteration (x fuel (loop_scope l ∷ ss)))))
  loop_fine from l {x = x} h =
      fuel_fine from l (λ fuel ss. iteration (x fuel ss)) (λ fuel ss. alike_same (x fuel (loop_scope l ∷ ss))) h

  -- the body where the condition holds, else a break of the innermost loop
  abbrev pub iteration_walk : Walk Value → Walk Value → Walk Value
  iteration_walk x y fuel ss = branched (x fuel ss) (y fuel ss) (◌then◌ (gives unit) (λ v. ends (break (break_target ss None) v))) here

  pub iteration_fine : {c b : ExprSteps} {x y : Walk Value} → Correct c (Runs one x) → Correct b (Runs one y)
      → Correct (iteration_form at c b) (Runs one (iteration_walk x y))
  unfolding iteration_form
  iteration_fine hc hb = correct_as
      (correct_bind hb (λ j. correct_bind hc (λ k. correct_bind (correct_alloc (hir.Break None None) (Some at))
      (λ o. correct_alloc (hir.If k j (Some o)) (Some at)))))
      (λ final ps m m' i g row. let r = row.second in let q = r.second in
      let out = Nodes.goes_break {base = base_of m} None (break_meets m.labels ps None) (among ps None) Nodes.goes_none q.first in
      Nodes.goes_if (goes_within (omega arith) r.first) (goes_within (omega arith) row.first)
      (Nodes.goes_some (goes_within (omega arith) out)) q.second)

  pub break_fine : (j : Option Jump) {p : Lowering (Option ExprId)} {x : Walk Value} → Correct p (Runs optional x)
      → Correct (break_form at j p) (Runs one (λ fuel ss. ◌then◌ (x fuel ss) (λ v. ends (break (break_target ss j) v))))
  unfolding break_form
  break_fine j h = correct_as (correct_bind (correct_target j) (λ n. correct_bind h (λ e. correct_alloc (hir.Break n e) (Some at))))
      (λ final ps m m' i g row. let r = row.second in let t = row.first in
      Nodes.goes_break j (λ f. rw t.is (break_meets m.labels ps j f)) (rw t.is (among ps j)) (goes_within (omega arith) r.first) r.second)

  pub continue_fine : (j : Option Jump) → Correct (continue_form at j) (Runs one (λ fuel ss. ends (continue (continue_target ss j))))
  unfolding continue_form
  continue_fine j = correct_as (correct_bind (correct_target j) (λ n. correct_alloc (hir.Continue n) (Some at)))
      (λ final ps m m' i g row. let t = row.first in
      Nodes.goes_continue j (λ f. rw t.is (continue_meets m.labels ps j f)) (rw t.is (among ps j)) row.second)

  pub paren_fine : {p : ExprSteps} {x : Walk Value} → Correct p (Runs one x) → Correct (paren_form at p) (Runs one x)
  unfolding paren_form
  paren_fine h = correct_as (correct_bind h (λ i. correct_bind (correct_point at i) (λ _. correct_pure i)))
      (λ final ps m m' i g row. rw row.second.second.is (goes_within (omega arith) row.first))

  -- a call runs as what it stands for, and one that stands for nothing is missing
  pub called_fine : (c : Called) {p : ExprSteps} {x : Walk Value} → Correct p (Runs one x) → Correct (called_form at c p) (Runs one x)
  unfolding called_form
  called_fine c h = correct_as (correct_bind (correct_emitted c) (λ u. paren_fine h))
      (λ final ps m m' i g row. goes_within (omega arith) row.second)

  pub uncalled_fine : (c : Called) → Correct (uncalled_form at c) (Runs one (λ fuel ss. ends (leave is_missing)))
  unfolding uncalled_form
  uncalled_fine c = correct_as (correct_bind (correct_emitted c) (λ u. correct_alloc hir.Missing (Some at)))
      (λ final ps m m' i g row. Nodes.goes_missing row.second)

-- paths

-- how a path is read in a final store
abbrev path_in : Stored → Path → PathData
path_in final p = stored_path (store_of final) (map_of final) p

-- a path that is no made name
pub looks_unmade : {names : ℕ} {ps : List Frame} (o : Option ℕ) → o ≡ None → (d : PathData) (h : HygieneId) (site : Option Site)
    → SameWhere names ps (read_or_look o d h site) (read_path d h site)
looks_unmade o e d h site = rw e (same_read_path d h site)

-- what is stored for a path is read as this
goes_path : {base : Base} {m m' : Mark} {final : Stored} {ps qs : List Frame} {i : ExprId} (at : Pointer) (h : HygieneId)
    (r : Option Path) (d : Option PathData) → option_map (path_in final) r ≡ d → PathUnmade d
    → Allocated (path_or_missing h r) (Some at) final qs m m' i
    → Goes base m'.nodes one (λ fuel ss. run_path d h (Some (site_of at))) final ps i
goes_path {base = base} {m = m} {m' = m'} {final = final} {ps = ps} {qs = qs} {i = i} at h r d is u a =
    subst (λ k. Goes base m'.nodes one (λ fuel ss. run_path k h (Some (site_of at))) final ps i) is
    (by r (subst PathUnmade (sym is) u) a)
  where
    by : (r : Option Path) → PathUnmade (option_map (path_in final) r) → Allocated (path_or_missing h r) (Some at) final qs m m' i
        → Goes base m'.nodes one (λ fuel ss. run_path (option_map (path_in final) r) h (Some (site_of at))) final ps i
    by None u a = Nodes.goes_missing a
    by (Some p) u a = goes_at a
        (λ fuel d le f. rw (looked_up (store_of final) (map_of final) p h)
        (looks_unmade (generated_name (path_in final p)) u (path_in final p) (lookup_hygiene (path_in final p) h) (Some (site_of at))))
        (λ d le. tt)

pub path_fine : (at : Pointer) (p : OptionPath) (h : HygieneId)
    → Correct (path_form at h (lower_path p)) (Runs one (λ fuel ss. run_path (written_path p) h (Some (site_of at))))
unfolding path_form
path_fine at p h = correct_as
    (correct_bind (path_now p) (λ r. correct_alloc (path_or_missing h r) (Some at)))
    (λ final ps m m' i g row. goes_path at h row.one (written_path p) row.first.is (path_unmade p) row.second)

-- what is kept

pub kept_fine : (e : Expr) {p : ExprSteps} {x : Walk Value} → Correct p (Runs one x)
    → Correct (kept e p) (λ final ps m m' o. KeptIs (base_of m) m'.nodes final ps (is_kept e) x o)
kept_fine (tree.disabled_expr why e) h = correct_as (correct_bind (correct_track_gone why) (λ u. correct_pure None))
    (λ final ps m m' o g row. rw row.second.is tt)
kept_fine e h = correct_as (correct_bind h (λ i. correct_pure (Some i)))
    (λ final ps m m' o g row. rw (row.second.is, row.second.still) row.first)

-- what is pushed on a list that grows
pub record Pushed {A : Type 0} (done : List A) (R : Rel (List A))
    (final : Stored) (ps : List Frame) (m m' : Mark) (r : List A) : Type 0 where
  pub new : List A
  pub is : r ≡ done ++ new
  pub rel : R final ps m m' new

pub pushed_none : {A : Type 0} {R : Rel (List A)} (done : List A) {final : Stored} {ps : List Frame} {m m' : Mark} {r : List A} → r ≡ done
    → R final ps m m' [] → Pushed done R final ps m m' r
pushed_none done e h = record { new = []; is = e ∙ sym (append-nil done); rel = h }

pub pushed_one : {A : Type 0} (done : List A) (a : A) (new : List A) {r : List A} → r ≡ (done ++ a ∷ []) ++ new → r ≡ done ++ a ∷ new
pushed_one done a new e = e ∙ append_assoc done (a ∷ []) new

-- lists of expressions

-- the value before those of the others
abbrev consed : SyntaxRun Value → SyntaxRun (List Value) → SyntaxRun (List Value)
consed x y = ◌then◌ x (λ v. ◌then◌ y (λ vs. gives (v ∷ vs)))

pub each_more : {final : Stored} {ps : List Frame} {m m1 m' : Mark} {r : List ExprId} (t : Bool) (x : Walk Value)
    (y : Walk (List Value)) (done : List ExprId) (o : Option ExprId)
    → Grows m m1 → Grows m1 m' → KeptIs (base_of m) m1.nodes final ps t x o → Pushed (push_some done o) (Runs many y) final ps m1 m' r
    → Pushed done (Runs many (λ fuel ss. if t then consed (x fuel ss) (y fuel ss) else y fuel ss)) final ps m m' r
each_more true x y done None g g' h p = absurd h
each_more true x y done (Some i) g g' h p = record {
  new = i ∷ p.new;
  is = pushed_one done i p.new p.is;
  rel = Nodes.goes_cons (goes_within (omega arith) h) (goes_within (omega arith) p.rel);
}
each_more false x y done None g g' h p = record { new = p.new; is = p.is; rel = goes_within (omega arith) p.rel }
each_more false x y done (Some i) g g' h p = absurd h

-- statements

kept_within : {base base' : Base} {nodes nodes' : ℕ} (final : Stored) (ps : List Frame) (t : Bool) (x : Walk Value) (o : Option ExprId)
    → Wider base nodes base' nodes' → KeptIs base nodes final ps t x o → KeptIs base' nodes' final ps t x o
kept_within final ps true x None w h = absurd h
kept_within final ps true x (Some i) w h = goes_within w h
kept_within final ps false x None w h = tt
kept_within final ps false x (Some i) w h = absurd h

-- what became of an expression, as a statement
pub record AsStatement (semi : Bool) (R : Rel (Option ExprId))
    (final : Stored) (ps : List Frame) (m m' : Mark) (o : Option Statement) : Type 0 where
  pub value : Option ExprId
  pub is : o ≡ option_map (λ i. statement.Expr i semi) value
  pub rel : R final ps m m' value

pub correct_statement : (semi : Bool) {p : Lowering (Option ExprId)} {R : Rel (Option ExprId)} → Correct p R
    → Correct (p >>= (λ x. pure (option_map (λ i. statement.Expr i semi) x))) (AsStatement semi R)
correct_statement semi h = correct_as (correct_bind h (λ x. correct_pure (option_map (λ i. statement.Expr i semi) x)))
    (λ final ps m m' o g row. record { value = row.one; is = row.second.is; rel = rw row.second.still row.first })

-- the statements with the tail behind them
abbrev pub ContentsRel : Bool → Walk Value → Stmts → Rel StoredContents
ContentsRel t x ss final ps m m' r =
    (base : Base) (nodes : ℕ) → Under base (base_of m) → m'.nodes ≤ nodes → ContentsAre base nodes final t x ps ss r.0 r.1

-- the statements are pushed on those that stand
pub record Filled (done : List Statement) (R : Rel StoredContents) (final : Stored) (ps : List Frame) (m m' : Mark)
    (r : StoredContents) : Type 0 where
  pub new : List Statement
  pub is : r.0 ≡ done ++ new
  pub rel : R final ps m m' (new, r.1)

pub filled_end : {final : Stored} {ps : List Frame} {m m' : Mark} {r : StoredContents} (t : Bool) (x : Walk Value)
    (done : List Statement) (o : Option ExprId) → r ≡ (done, o)
    → KeptIs (base_of m) m'.nodes final ps t x o → Filled done (ContentsRel t x tree.no_stmts) final ps m m' r
filled_end {final = final} {ps = ps} t x done o e h = rw e (record {
  new = [];
  is = sym (append-nil done);
  rel = λ base nodes le le'. (tt, kept_within final ps t x o (omega arith) h);
})

pub filled_item : {final : Stored} {ps : List Frame} {m m' : Mark} {r : StoredContents} (t : Bool) (x : Walk Value)
    (ss : Stmts) (done : List Statement)
    → Filled (done ++ statement.Item ∷ []) (ContentsRel t x ss) final ps m m' r
    → Filled done (ContentsRel t x (tree.more_stmts tree.item_stmt ss)) final ps m m' r
filled_item t x ss done p = record {
  new = statement.Item ∷ p.new;
  is = pushed_one done statement.Item p.new p.is;
  rel = λ base nodes le le'. (refl, p.rel base nodes le le');
}

pub filled_def : {final : Stored} {ps : List Frame} {m m' : Mark} {r : StoredContents} (t : Bool) (x : Walk Value) (k : ℕ)
    (def : Option MacroDefId) (ss : Stmts) (done : List Statement)
    → Filled (done ++ defined def ∷ []) (ContentsRel t x ss) final (frames_behind def ps) m m' r
    → Filled done (ContentsRel t x (tree.more_stmts (tree.macro_stmt k def) ss)) final ps m m' r
filled_def t x k def ss done p = record {
  new = defined def ∷ p.new;
  is = pushed_one done (defined def) p.new p.is;
  rel = λ base nodes le le'. (refl, p.rel base nodes le le');
}

-- nothing of a statement
pub filled_nothing : {final : Stored} {ps : List Frame} {m m1 m' : Mark} {r : StoredContents} (t : Bool) (x : Walk Value)
    (ss : Stmts) (done : List Statement) → Grows m m1
    → Filled done (ContentsRel t x ss) final ps m1 m' r
    → Filled done (ContentsRel t x ss) final ps m m' r
filled_nothing t x ss done g p =
    record { new = p.new; is = p.is; rel = λ base nodes le le'. p.rel base nodes (omega arith) (omega arith) }

-- a `let` statement
pub filled_let : {final : Stored} {ps : List Frame} {m m1 m' : Mark} {r : StoredContents} (t : Bool) (x : Walk Value)
    (p : OptionPat) (ty : OptionType) (e : OptionExpr) (b : OptionBlock) (ss : Stmts) (done : List Statement) (s : StoredLet)
    → Grows m m1 → Grows m1 m' → LetIs (base_of m) m1.nodes final ps p ty e b s
    → Filled (done ++ let_of s ∷ []) (ContentsRel t x ss) final ps m1 m' r
    → Filled done (ContentsRel t x (tree.more_stmts (tree.let_stmt p ty e b) ss)) final ps m m' r
filled_let {final = final} {ps = ps} t x p ty e b ss done s g g' h q = record {
  new = let_of s ∷ q.new;
  is = pushed_one done (let_of s) q.new q.is;
  rel = λ base nodes le le'. (let_within final ps p ty e b s (omega arith) h, q.rel base nodes (omega arith) (omega arith));
}

pub filled_expr : {final : Stored} {ps : List Frame} {m m1 m' : Mark} {r : StoredContents} (t : Bool) (x : Walk Value)
    (e : OptionExpr) (semi : Bool) (ss : Stmts) (done : List Statement) (o : Option ExprId)
    → Grows m m1 → Grows m1 m' → KeptIs (base_of m) m1.nodes final ps (is_left e) (part_walk e) o
    → Filled (push_some done (option_map (λ i. statement.Expr i semi) o)) (ContentsRel t x ss) final ps m1 m' r
    → Filled done (ContentsRel t x (tree.more_stmts (tree.expr_stmt e semi) ss)) final ps m m' r
filled_expr {final = final} {ps = ps} {m = m} {m1 = m1} {m' = m'} {r = r} t x e semi ss done o g g' h p =
    go (is_left e) (part_walk e) o h p
  where
    go : (k : Bool) (y : Walk Value) (o : Option ExprId) → KeptIs (base_of m) m1.nodes final ps k y o
        → Filled (push_some done (option_map (λ i. statement.Expr i semi) o)) (ContentsRel t x ss) final ps m1 m' r
        → Filled done (λ final ps m m' r. (base : Base) (nodes : ℕ) → Under base (base_of m) → m'.nodes ≤ nodes
        → Stored1 base nodes final ps k y semi (λ more. ContentsAre base nodes final t x ps ss more r.1) r.0) final ps m m' r
    go true y None h p = absurd h
    go true y (Some i) h p = record {
      new = statement.Expr i semi ∷ p.new;
      is = pushed_one done (statement.Expr i semi) p.new p.is;
      rel = λ base nodes le le'. (refl, goes_within (omega arith) h, p.rel base nodes (omega arith) (omega arith));
    }
    go false y None h p = record { new = p.new; is = p.is; rel = λ base nodes le le'. p.rel base nodes (omega arith) (omega arith) }
    go false y (Some i) h p = absurd h

-- blocks

pub record BlockIs (at : Pointer) (is_unsafe : Bool) (label : Option LabelId) (number : Option BlockId) (x : Walk Value)
    (final : Stored) (ps : List Frame) (m m' : Mark) (i : ExprId) : Type 0 where
  pub middle : Mark
  pub held : List Statement × Option ExprId
  pub goes : Goes (base_of m) middle.nodes (contents final) x final ps held
  pub here : Allocated (hir.Block is_unsafe label number held.0 held.1) (Some at) final ps middle m' i

-- what is in a block, as it runs
abbrev pub block_walk : Stmts → OptionExpr → Walk Value
block_walk ss e fuel qs = run_stmts fuel ss (is_left e) as_it_is (run_tail fuel e) qs

abbrev pub BlockRel : Stmts → OptionExpr → Rel StoredContents
BlockRel ss e = Filled [] (ContentsRel (is_left e) (part_walk e) ss)

pub settled_go : {final : Stored} {ps : List Frame} {m m' : Mark} {r : StoredContents} (base : Base) (ss : Stmts) (e : OptionExpr)
    → Under base (base_of m) → BlockRel ss e final ps m m' r
    → Goes base m'.nodes (contents final) (block_walk ss e) final ps (settled r.0 r.1)
settled_go {m' = m'} {r = r} base ss e le h = rw h.is (contents_go ss e h.new r.1 (h.rel base m'.nodes le (omega arith)))

block_form_fine : (at : Pointer) (is_unsafe : Bool) (label : Option LabelId) (number : Option BlockId) (ss : Stmts) (e : OptionExpr)
    {p : Lowering StoredContents} → Correct p (BlockRel ss e)
    → Correct (block_form at is_unsafe label number p) (BlockIs at is_unsafe label number (block_walk ss e))
unfolding block_form
block_form_fine at is_unsafe label number ss e hp = correct_as
    (correct_bind (correct_enter_block number)
    (λ u. correct_bind hp (λ r. correct_alloc (settled_block is_unsafe label number (settled r.0 r.1)) (Some at))))
    (λ final ps m m' i g row. let r = row.second in record {
      middle = r.middle;
      held = settled r.one.0 r.one.1;
      goes = settled_go (base_of m) ss e (omega arith) r.first;
      here = r.second;
    })

pub block_fine : (at : Pointer) (is_unsafe : Bool) (label : Option Label) (number : Option BlockId) (ss : Stmts) (e : OptionExpr)
    {p : Lowering StoredContents} → Correct p (BlockRel ss e)
    → Correct (labelled label (λ n. block_form at is_unsafe n number p))
    (Runs one (λ fuel qs. in_block_scope is_unsafe number (Some (site_of at))
    (catch_label label (block_walk ss e fuel (scopes_in_block label qs)))))
unfolding labelled
block_fine at is_unsafe None number ss e hp = correct_as (block_form_fine at is_unsafe None number ss e hp)
    (λ final ps m m' i g row. Nodes.goes_plain_block is_unsafe number row.goes row.here)
block_fine at is_unsafe (Some l) number ss e hp = correct_as
    (correct_opened block_at l (λ n ps. refl) (λ n. block_form_fine at is_unsafe (Some n) number ss e hp) (λ n i. correct_pure i))
    (λ final ps m m' i g row. rw (row.second.is, row.second.still)
    (Nodes.goes_block {base' = base_of row.entered} is_unsafe number l row.number
    (falls_new m.labels row.entered.labels l row.number ps row.new row.labels) (omega (arith, row.names)) row.first.goes row.first.here))

-- what is not kept

pub disabled_fine : (why : Gone) → Correct (track_gone why >>= (λ u. missing)) (Runs one (λ fuel ss. ends (leave is_missing)))
disabled_fine why = correct_as (correct_bind (correct_track_gone why) (λ u. missing_fine))
    (λ final ps m m' i g row. goes_within (omega arith) row.second)

pub nothing_fine : (x : Walk Value) → Correct (pure None) (λ final ps m m' o. KeptIs (base_of m) m'.nodes final ps false x o)
nothing_fine x = correct_as (correct_pure None) (λ final ps m m' o g row. rw row.is tt)

pub pushed_all : {p : Lowering (List ExprId)} {y : Walk (List Value)} → Correct p (Pushed [] (Runs many y)) → Correct p (Runs many y)
pushed_all h = correct_as h (λ final ps m m' r g row. rw row.is row.rel)
