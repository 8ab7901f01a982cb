-- What each node of the store stands for, given what its parts stand for.
use Rattle.std.proofs.Common.{◌≡◌, ◌≤◌, ℕ, Bool, false, if◌then◌else◌, List, [], ◌∷◌, Option, Some, None, option_map, refl, ap}
use Rattle.hir_base.specs.declared.op.LogicOp.{LogicOp}
use Rattle.hir_base.specs.declared.op.BinaryOp.TheVariants as ast
use Rattle.hir_store.specs.Pointers.{Pointer}
use Rattle.hir_store.specs.Stored.{Stored}
use Rattle.hir_store.specs.declared.hir.Expr.TheVariants as hir
use Rattle.hir_store.specs.declared.hir.LoopSource.{LoopSource}
use Rattle.hir_store.specs.declared.hir.RecordSpread.TheVariants as spread
use Rattle.hir_store.specs.declared.hir.Statement.{Statement}
use Rattle.hir_store.specs.declared.ids.ExprId.{ExprId}
use Rattle.hir_store.specs.declared.ids.LabelId.{LabelId}
use Rattle.hir_store.specs.declared.ids.BlockId.{BlockId}
use Rattle.hir_env.specs.ResolvedTree.{Label, Jump}
use Rattle.hir_env.specs.Answering.{site_of}
use Rattle.spec_semantics.specs.Run.{Value, unit, is_true, break, continue, leave, missing}
use Rattle.spec_semantics.specs.Run.{ends, pure, ◌>>=◌, tests, in_block_scope}
use Rattle.spec_semantics.specs.Catching.{loop, block}
use Rattle.hir_lower_scope.specs.Scopes.{block_scope, try_scope, break_target, continue_target, scope_out, continue_past_block}
use Rattle.spec_semantics.specs.Syntax.{run_lazy}
use Rattle.spec_semantics.specs.Jumps.{NamesAmong}
use Rattle.thm_logic.proofs.Frames.{Frame, block_at, try_at, inside, scopes, Falls}
use Rattle.thm_logic.proofs.Steps.{Mark, AllocatedBy, Put}
use Rattle.thm_semantics.proofs.Views.{Numbered, number, numbers, loop_frame, loop_numbers, count_break, count_continue}
use Rattle.thm_semantics.proofs.Relation.{same_ends, same_fewer, same_pure, same_bind, same_tests, same_if, same_fuel, same_loop}
use Rattle.thm_semantics.proofs.Relation.{FuelAlike, same_fuel_as}
use Rattle.thm_semantics.proofs.Relation.{same_lazily, same_stop, same_block, same_plain_block, same_entering, same_try}
use Rattle.thm_semantics.proofs.Senses.{Base}
use Rattle.thm_semantics.proofs.Senses.{Walk, one, optional, many, others, present, contents, Goes, goes_at}

module _ {base : Base} {m m' : Mark} {at : Option Pointer} {final : Stored} {ps qs : List Frame} {i : ExprId} {put : Put} where
  pub goes_missing : AllocatedBy put hir.Missing at final qs m m' i → Goes base m'.nodes one (λ fuel ss. ends (leave missing)) final ps i
  goes_missing h = goes_at h (λ fuel d le f. same_ends (leave missing) refl) (λ d le. tt)

  -- whatever it came from
  pub goes_plain_block : {r : List Statement × Option ExprId} {x : Walk Value} (is_unsafe : Bool) (number : Option BlockId)
      → Goes base m.nodes (contents final) x final ps r
      → AllocatedBy put (hir.Block is_unsafe None number r.0 r.1) at final qs m m' i
      → Goes base m'.nodes one (λ fuel ss. in_block_scope is_unsafe number (option_map site_of at) (x fuel ss)) final ps i
  goes_plain_block is_unsafe number h a = goes_at a
      (λ fuel d le f. same_entering is_unsafe number (option_map site_of at) (same_plain_block (h.same fuel d le f)))
      (λ d le. h.jumps d le)

module _ {base : Base} {m m' : Mark} {at : Pointer} {final : Stored} {ps qs : List Frame} {i : ExprId} {put : Put} where
  pub goes_if : {c t : ExprId} {e : Option ExprId} {x y z : Walk Value} → Goes base m.nodes one x final ps c
      → Goes base m.nodes one y final ps t → Goes base m.nodes optional z final ps e
      → AllocatedBy put (hir.If c t e) (Some at) final qs m m' i
      → Goes base m'.nodes one (λ fuel ss. x fuel ss >>=
      (λ v. tests is_true v (Some (site_of at)) >>= (λ holds. if holds then y fuel ss else z fuel ss))) final ps i
  goes_if c t e a = goes_at a
      (λ fuel d le f. same_bind (c.same fuel d le f)
      (λ v. same_bind (same_tests is_true v (Some (site_of at)))
      (λ b. same_if b (t.same fuel d le f) (e.same fuel d le f))))
      (λ d le. (c.jumps d le, t.jumps d le, e.jumps d le))

  pub goes_lazy : {op : LogicOp} {a b : ExprId} {x y : Walk Value} → Goes base m.nodes one x final ps a
      → Goes base m.nodes one y final ps b → AllocatedBy put (hir.BinaryOp (Some (ast.LogicOp op)) a b) (Some at) final qs m m' i
      → Goes base m'.nodes one (λ fuel ss. run_lazy op (x fuel ss) (y fuel ss) (Some (site_of at))) final ps i
  goes_lazy {op = op} a b here = goes_at here
      (λ fuel d le f. same_bind (a.same fuel d le f)
      (λ v. same_bind (same_tests is_true v (Some (site_of at)))
      (λ holds. same_lazily op holds (b.same fuel d le f))))
      (λ d le. (a.jumps d le, b.jumps d le))

  -- a tuple whose first element is missing
  pub goes_front_missing : {first : ExprId} {es : List ExprId} {x : Walk (List Value)}
      → Goes base m.nodes one (λ fuel ss. ends (leave missing)) final ps first → Goes base m.nodes many x final ps es
      → AllocatedBy put (hir.Tuple (first ∷ es)) (Some at) final qs m m' i
      → Goes base m'.nodes one (λ fuel ss. ends (leave missing)) final ps i
  goes_front_missing h hs here = goes_at here
      (λ fuel d le f. same_stop _ missing (same_stop _ missing (h.same fuel d le f)))
      (λ d le. (h.jumps d le, hs.jumps d le))

  pub goes_break : {n : Option LabelId} {e : Option ExprId} {x : Walk Value} (j : Option Jump)
      → (Falls base.labels ps → count_break ps n ≡ break_target (scopes ps) j) → NamesAmong (numbers ps) n
      → Goes base m.nodes optional x final ps e → AllocatedBy put (hir.Break n e) (Some at) final qs m m' i
      → Goes base m'.nodes one (λ fuel ss. x fuel ss >>= (λ v. ends (break (break_target ss j) v))) final ps i
  goes_break {n = n} j meets named e a = goes_at a
      (λ fuel d le f. same_bind (e.same fuel d le f) (λ v. same_ends (break n v) (ap (λ c. break c v) (meets f))))
      (λ d le. (named, e.jumps d le))

  pub goes_continue : {n : Option LabelId} (j : Option Jump) → (Falls base.labels ps → count_continue ps n ≡ continue_target (scopes ps) j)
      → NamesAmong (numbers ps) n
      → AllocatedBy put (hir.Continue n) (Some at) final qs m m' i
      → Goes base m'.nodes one (λ fuel ss. ends (continue (continue_target ss j))) final ps i
  goes_continue {n = n} j meets named a = goes_at a (λ fuel d le f. same_ends (continue n) (ap continue (meets f))) (λ d le. named)

  -- where the body goes as a turn that is one of the loop
  pub goes_loop : {from : LoopSource} {base' : Base} {b : ExprId} {x : Walk Value} (n : Option Numbered) (y : Walk (Option Value))
      → ((fuel : ℕ) → FuelAlike (x fuel (inside (loop_frame n) (scopes ps))) (y fuel (inside (loop_frame n) (scopes ps))))
      → (Falls base.labels ps → Falls base'.labels (loop_frame n ∷ ps)) → base.names ≤ base'.names
      → Goes base' m.nodes one x final (loop_frame n ∷ ps) b
      → AllocatedBy put (hir.Loop b (number n) from) (Some at) final qs m m' i
      → Goes base m'.nodes one (λ fuel ss. loop scope_out fuel (y fuel (inside (loop_frame n) ss))) final ps i
  goes_loop n y alike falls few h a = goes_at a
      (λ fuel d le f. same_loop (same_fuel_as (alike fuel)
      (same_fuel n (same_bind (same_fewer few (h.same fuel d le (falls f))) (λ v. same_pure None)))) fuel)
      (λ d le. let r = h.jumps d le in rw (loop_numbers n ps) at r)

  pub goes_block : {base' : Base} {r : List Statement × Option ExprId} {x : Walk Value} (is_unsafe : Bool) (number : Option BlockId)
      (l : Label) (n : LabelId) → (Falls base.labels ps → Falls base'.labels (block_at l n ∷ ps)) → base.names ≤ base'.names
      → Goes base' m.nodes (contents final) x final (block_at l n ∷ ps) r
      → AllocatedBy put (hir.Block is_unsafe (Some n) number r.0 r.1) (Some at) final qs m m' i
      → Goes base m'.nodes one (λ fuel ss. in_block_scope is_unsafe number (Some (site_of at))
      (block scope_out continue_past_block (x fuel (block_scope l ∷ ss)))) final ps i
  goes_block is_unsafe number l n falls few h a = goes_at a
      (λ fuel d le f. same_entering is_unsafe number (Some (site_of at))
      (same_block (record { label = l; number = n }) (same_fewer few (h.same fuel d le (falls f)))))
      (λ d le. h.jumps d le)

  pub goes_try : {base' : Base} {r : List Statement × Option ExprId} {x : Walk Value} (number : Option BlockId) (n : LabelId) (typed : Bool)
      → (Falls base.labels ps → Falls base'.labels (try_at n typed ∷ ps)) → base.names ≤ base'.names
      → Goes base' m.nodes (contents final) x final (try_at n typed ∷ ps) r
      → AllocatedBy put (hir.Block false (Some n) number r.0 r.1) (Some at) final qs m m' i
      → Goes base m'.nodes one (λ fuel ss. in_block_scope false number (Some (site_of at))
      (block scope_out continue_past_block (x fuel (try_scope typed ∷ ss)))) final ps i
  goes_try number n typed falls few h a = goes_at a
      (λ fuel d le f. same_entering false number (Some (site_of at)) (same_try n typed (same_fewer few (h.same fuel d le (falls f)))))
      (λ d le. h.jumps d le)

-- parts

module _ {base : Base} {nodes : ℕ} {final : Stored} {ps : List Frame} where
  pub goes_none : Goes base nodes optional (λ fuel ss. pure unit) final ps None
  goes_none = record { same = λ fuel d le f. same_pure unit; jumps = λ d le. tt }

  pub goes_some : {x : Walk Value} {i : ExprId} → Goes base nodes one x final ps i → Goes base nodes optional x final ps (Some i)
  goes_some h = record { same = h.same; jumps = h.jumps }

  pub goes_nil : Goes base nodes many (λ fuel ss. pure []) final ps []
  goes_nil = record { same = λ fuel d le f. same_pure []; jumps = λ d le. tt }

  pub goes_cons : {x : Walk Value} {y : Walk (List Value)} {i : ExprId} {is : List ExprId} → Goes base nodes one x final ps i
      → Goes base nodes many y final ps is
      → Goes base nodes many (λ fuel ss. x fuel ss >>= (λ v. y fuel ss >>= (λ vs. pure (v ∷ vs)))) final ps (i ∷ is)
  goes_cons h hs = record {
    same = λ fuel d le f. same_bind (h.same fuel d le f) (λ v. same_bind (hs.same fuel d le f) (λ vs. same_pure (v ∷ vs)));
    jumps = λ d le. (h.jumps d le, hs.jumps d le);
  }

  pub goes_absent : Goes base nodes present (λ fuel ss. pure []) final ps None
  goes_absent = record { same = λ fuel d le f. same_pure []; jumps = λ d le. tt }

  pub goes_present : {x : Walk Value} {i : ExprId} → Goes base nodes one x final ps i
      → Goes base nodes present (λ fuel ss. x fuel ss >>= (λ v. pure (v ∷ []))) final ps (Some i)
  goes_present h = record { same = λ fuel d le f. same_bind (h.same fuel d le f) (λ v. same_pure (v ∷ [])); jumps = h.jumps }

  pub goes_no_others : Goes base nodes others (λ fuel ss. pure []) final ps spread.None
  goes_no_others = record { same = λ fuel d le f. same_pure []; jumps = λ d le. tt }

  pub goes_defaults : Goes base nodes others (λ fuel ss. pure []) final ps spread.FieldDefaults
  goes_defaults = record { same = λ fuel d le f. same_pure []; jumps = λ d le. tt }

  pub goes_other : {x : Walk Value} {i : ExprId} → Goes base nodes one x final ps i
      → Goes base nodes others (λ fuel ss. x fuel ss >>= (λ v. pure (v ∷ []))) final ps (spread.Expr i)
  goes_other h = record { same = λ fuel d le f. same_bind (h.same fuel d le f) (λ v. same_pure (v ∷ [])); jumps = h.jumps }
