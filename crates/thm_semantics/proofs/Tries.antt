-- What a `try` becomes runs as it is written, with a written type and without.
use Rattle.std.proofs.Common.{◌≡◌, ◌∙◌, refl, ap, subst, ℕ, ◌≤◌, Bool, true, false, List, [], ◌∷◌, Option, Some, None, arith}
use Rattle.hir_binding.specs.declared.binding.BindingAnnotation.TheVariants.{Unannotated}
use Rattle.hir_store.specs.Pointers.{Pointer}
use Rattle.hir_store.specs.Stored.{Stored, store_of, map_of}
use Rattle.hir_store.specs.declared.hir.Expr.TheVariants as hir
use Rattle.hir_store.specs.declared.ids.BlockId.{BlockId}
use Rattle.hir_store.specs.declared.ids.ExprId.{ExprId}
use Rattle.hir_store.specs.declared.ids.LabelId.{LabelId}
use Rattle.hir_store.specs.declared.ids.LangItemId.{LangItemId}
use Rattle.hir_store.specs.declared.ids.PatId.{PatId}
use Rattle.hir_store.specs.declared.ids.TypeRefId.{TypeRefId}
use Rattle.hir_env.specs.NodeMap.{Site}
use Rattle.hir_env.specs.Answering.{site_of}
use Rattle.hir_env.specs.ResolvedTree as tree
use Rattle.hir_env.specs.ResolvedTree.{OptionExpr, Stmts, Type_}
use Rattle.spec_data.specs.Data.{OptionTypeData, PatData, TypeData, some_type}
use Rattle.spec_data.specs.Reading.{stored_option_type, stored_pat, stored_type}
use Rattle.spec_data.specs.Written.{written_option_type, written_type}
use Rattle.hir_lower_builder.specs.Forms.{ExprSteps, StoredContents, root_hygiene, settled, settled_block}
use Rattle.hir_lower_builder.specs.Lower.{lower_type}
use Rattle.hir_lower_builder.specs.Lowering.{Lowering}
use Rattle.hir_lower_builder.specs.Made.{bound_block, item_or_missing, made_call, made_path, made_path_form, try_block_form}
use Rattle.hir_lower_builder.specs.Made.{typed_try_form, value_or_unit, wrapped_form}
use Rattle.hir_lower_builder.specs.Made.{condition_form, held_block, held_form, hold_form}
use Rattle.hir_lower_builder.specs.Lower.{loop_form, iteration_form}
use Rattle.hir_store.specs.declared.hir.LoopSource.{LoopSource}
use Rattle.hir_env.specs.ResolvedTree.{Label}
use Rattle.hir_lower_scope.specs.Scopes.{loop_scope}
use Rattle.spec_semantics.specs.Syntax.{SyntaxRun, run_while, while_iteration}
use Rattle.spec_data.specs.Data.{no_type}
use Rattle.thm_semantics.proofs.Forms
use Rattle.thm_semantics.proofs.Fuel.{while_alike, with_ends}
use Rattle.spec_semantics.specs.Catching.{block}
use Rattle.spec_semantics.specs.Jumps.{EnclosedTo}
use Rattle.spec_semantics.specs.Left.{is_left}
use Rattle.spec_semantics.specs.Run.{Value, reply, bound, unit, ends, ends_temps, in_block_scope, event, pure, ◌>>=◌}
use Rattle.spec_semantics.specs.Store.{StoreRun, binds_or_takes, takes, with_name}
use Rattle.spec_semantics.specs.Syntax.{run_stmts, run_tail, run_typed, through_item, unnamed_pattern}
use Rattle.hir_lower_scope.specs.Each.{IfPresent}
use Rattle.hir_lower_scope.specs.Scopes.{continue_past_block, scope_out, try_scope}
use Rattle.thm_round_trip.proofs.Made.{BindsMade, made_pattern, made_reads, pat_in_full}
use Rattle.thm_round_trip.proofs.Now.{type_now}
use Rattle.thm_logic.proofs.Frames.{Frame, try_at}
use Rattle.thm_logic.proofs.MadeSteps.{correct_alloc_desugared, correct_made_number, correct_opened_try}
use Rattle.thm_logic.proofs.Steps.{Allocated, AllocatedBy, Correct, Mark, Put, correct_alloc, correct_as, correct_bind}
use Rattle.thm_logic.proofs.Steps.{correct_enter_block, correct_in_store, correct_pure}
use Rattle.thm_semantics.proofs.Blocks.{Closing, contents_close}
use Rattle.thm_semantics.proofs.Forms.{BlockRel, falls_try}
use Rattle.thm_semantics.proofs.Knowing.{GoesKnowing, SameKnowing, known_path, known_temps, known_within}
use Rattle.thm_semantics.proofs.Nodes
use Rattle.thm_semantics.proofs.Questions.{made_call_goes, made_item_goes, with_it}
use Rattle.thm_semantics.proofs.NamesKept.{other_name}
use Rattle.thm_semantics.proofs.Relation.{SameWhere, same_bind, same_event, same_plain_block}
use Rattle.thm_semantics.proofs.Rows.{stored_pure, stored_row}
use Rattle.thm_semantics.proofs.Senses.{Base, base_of, under_grown, under_refl, under_trans, wider_of}
use Rattle.thm_semantics.proofs.Senses.{Goes, Runs, Walk, enclosed_at, goes_at, goes_within, one, optional}
use Rattle.thm_semantics.proofs.Unmade.{all_of, made_whole}
use Rattle.thm_semantics.proofs.Views.{numbers}

module _ (at : Pointer) where
  abbrev here : Option Site
  here = Some (site_of at)

  -- what a block ends with

  -- the value of the tail, or unit
  record ValueIs (tail : Option ExprId) (final : Stored) (ps : List Frame) (m m' : Mark) (i : ExprId) : Type 0 where
    goes : (base : Base) (nodes : ℕ) → nodes ≤ m.nodes → (qs : List Frame) (y : Walk Value) → Goes base nodes optional y final qs tail
        → Goes base m'.nodes one y final qs i
    jumps : (nodes : ℕ) → nodes ≤ m.nodes → (ls : List LabelId)
        → ((d : ℕ) → nodes ≤ d → IfPresent (EnclosedTo (store_of final) d ls) tail)
        → (d : ℕ) → m'.nodes ≤ d → EnclosedTo (store_of final) d ls i

  value_is : (tail : Option ExprId) → Correct (value_or_unit at tail) (ValueIs tail)
  unfolding value_or_unit ends ◌>>=◌
  value_is (Some e) = correct_as (correct_pure e) (λ final ps m m' i g row. rw (row.is, row.still) (record {
    goes = λ base nodes le qs y h. record {
      same = λ fuel d ge f. h.same fuel d (omega (arith, le, ge)) f;
      jumps = λ d ge. h.jumps d (omega (arith, le, ge));
    };
    jumps = λ nodes le ls h d ge. h d (omega (arith, le, ge));
  }))
  value_is None = correct_as (correct_alloc_desugared (hir.Tuple []) (Some at)) (λ final ps m m' i g row. record {
    goes = λ base nodes le qs y h. goes_at row
        (λ fuel d ge f. let k = h.same fuel d (omega (arith, le, ge)) f in
        record { same = λ w. k.same w; keeps = record { still = λ w. k.keeps.still w } }) (λ d ge. tt);
    jumps = λ nodes le ls h. enclosed_at row ls (λ d ge. tt);
  })

  -- the value goes through a call of the item, wherever it is looked at
  record Wrapped (o : Option LangItemId) (tail : Option ExprId) (final : Stored) (ps : List Frame) (m m' : Mark) (i : ExprId)
      : Type 0 where
    closes : (base : Base) (nodes : ℕ) → nodes ≤ m.nodes → (qs : List Frame)
        → Closing base nodes m'.nodes (through_item o here) final qs tail (Some i)

  wrapped_is : (o : Option LangItemId) (tail : Option ExprId) → Correct (wrapped_form at o tail) (Wrapped o tail)
  unfolding wrapped_form
  wrapped_is o tail = correct_as (correct_bind (correct_alloc_desugared (item_or_missing o) (Some at))
      (λ f. correct_bind (value_is tail) (λ v. correct_alloc_desugared (made_call f v) (Some at))))
      (λ final ps m m' i g row. let s = row.second in record {
        closes = λ base nodes le qs.
            let f = made_item_goes {base = base} {ps = qs} o row.first in
            let callee = goes_within (wider_of (under_refl base) s.before.nodes) f in
            let past : nodes ≤ row.middle.nodes = omega (arith, le, row.before.nodes) in record {
              same = λ fuel d ge falls y h.
                  (made_call_goes o callee (s.first.goes base nodes past qs y h) s.second).same fuel d ge falls;
              jumps = λ h. enclosed_at s.second (numbers qs)
                  (λ d ge. (callee.jumps d ge, (s.first.jumps nodes past (numbers qs) h d ge, tt)));
            };
      })

  -- without a written type

  -- the walk of the block
  abbrev pub try_walk : Option LangItemId → Bool → Option BlockId → Stmts → OptionExpr → Walk Value
  try_walk o typed number ss e fuel qs = in_block_scope false number here (block scope_out continue_past_block
      (run_stmts fuel ss (is_left e) (through_item o here) (run_tail fuel e) (try_scope typed ∷ qs)))

  pub try_fine : (o : Option LangItemId) (typed : Bool) (number : Option BlockId) (ss : Stmts) (e : OptionExpr)
      {p : Lowering StoredContents} → Correct p (BlockRel ss e)
      → Correct (try_block_form at o typed number p) (Runs one (try_walk o typed number ss e))
  unfolding try_block_form
  try_fine o typed number ss e hp = correct_as (correct_opened_try at typed (correct_enter_block number) hp
      (λ n r. correct_bind (wrapped_is o (settled r.0 r.1).1)
      (λ v. correct_alloc (settled_block false (Some n) number ((settled r.0 r.1).0, Some v)) (Some at))))
      (λ final ps m m' i g row.
      let r = row.one in let inner = row.first in let held = inner.second in let s = row.second in
      let frame = try_at row.number typed in
      let base = base_of row.entered in
      let new = held.new in
      let closing = s.first.closes base row.left.nodes (omega arith) (frame ∷ ps) in
      let contents = contents_close (through_item o here) ss e new r.1 (Some s.one) s.before.nodes
      (subst (λ ks. Closing base row.left.nodes s.middle.nodes (through_item o here) final (frame ∷ ps) (settled ks r.1).1 (Some s.one))
      held.is closing)
      (held.rel base row.left.nodes (under_grown inner.before) (omega arith)) in
      Nodes.goes_try {base' = base} number row.number typed (falls_try m.labels row.entered.labels row.number typed ps row.new row.labels)
      (omega (arith, row.names)) contents
      (subst (λ ks. Allocated (settled_block false (Some row.number) number ((settled ks r.1).0, Some s.one)) (Some at) final ps
      s.middle m' i) held.is s.second))

-- with one

module _ {n names : ℕ} (le : names ≤ n) {ps : List Frame} {m : StoreRun Value} {s : Value → SyntaxRun Value}
    (h : (v : Value) → SameKnowing n v ps m (s v)) where
  taken : (t : Bool) (v : Value) → SameWhere names ps ((takes n v >>= (λ u. pure t)) >>= (λ holds. m)) (s v)
  unfolding ends ◌>>=◌ takes
  taken t v = record {
    same = λ w. (h v).same (record w { table = with_name n v w.table }) (with_it n v w.table);
    keeps = record {
      still = λ w k lt. (h v).keeps.still (record w { table = with_name n v w.table }) k (omega (arith, lt, le))
          ∙ other_name n v w.table k le lt;
    };
  }

  -- the name takes what the `let` is answered
  bound_by : (a : Option ℕ) → a ≡ Some n → (d : PatData) → d ≡ made_pattern → (x : OptionTypeData) (t : TypeData) → x ≡ some_type t
      → (v : Value)
      → SameWhere names ps (binds_or_takes a d x (v ∷ []) >>= (λ holds. m))
      (event (bound unnamed_pattern (some_type t)) (v ∷ []) None >>= (λ k. s (reply k.value)))
  bound_by a e d is x t same v = rw (e, is, same) (stored_row (event (bound unnamed_pattern (some_type t)) (v ∷ []) None)
      (λ k. takes n (reply k.value) >>= (λ u. pure k.yes)) (λ holds. m)
      (same_bind (same_event (bound unnamed_pattern (some_type t)) (v ∷ []) None) (λ k. taken k.yes (reply k.value))))

  -- of a `let` without a type, which is silent
  held_by : (a : Option ℕ) → a ≡ Some n → (d : PatData) (v : Value)
      → SameWhere names ps (binds_or_takes a d no_type (v ∷ []) >>= (λ holds. m)) (s v)
  held_by a e d v = rw e (taken true v)

type_of : (final : Stored) (i : TypeRefId) (x : TypeData) → stored_type (store_of final) (map_of final) i ≡ x
    → stored_option_type (store_of final) (map_of final) (Some i) ≡ some_type x
unfolding stored_type stored_option_type
type_of final i x e = ap some_type e

pub whole_of : (final : Stored) (n : ℕ) (p : PatId) → BindsMade n final p → made_whole final p ≡ Some n
whole_of final n p b = rw (b.here, b.found) refl

module _ (at : Pointer) where
  goes_typed : {base : Base} {m m' : Mark} {final : Stored} {ps qs : List Frame} {i b e : ExprId} {put : Put} {x : Walk Value}
      (n : ℕ) (p : PatId) (t : TypeRefId) (y : TypeData) → BindsMade n final p
      → stored_pat (store_of final) (map_of final) p ≡ made_pattern → stored_type (store_of final) (map_of final) t ≡ y
      → Goes base m.nodes one x final ps b → base.names ≤ n → ((v : Value) → GoesKnowing base m.nodes n v (pure v) final ps e)
      → AllocatedBy put (bound_block p t b e) (Some at) final qs m m' i
      → Goes base m'.nodes one (λ fuel ss. run_typed (some_type y) (x fuel ss)) final ps i
  goes_typed {final = final} n p t y binds is same block few name a = goes_at a
      (λ fuel d le f. same_plain_block (stored_row _ _ _ (same_bind (block.same fuel d le f) (λ v. stored_pure _
      (bound_by few (λ u. known_temps ((name u).same fuel d le f)) (made_whole final p) (whole_of final n p binds)
      (stored_pat (store_of final) (map_of final) p) is (stored_option_type (store_of final) (map_of final) (Some t)) y
      (type_of final t y same) v)))))
      (λ d le. ((block.jumps d le, tt, tt), (name unit).jumps d le))

  pub typed_try_fine : (t : Type_) {p : ExprSteps} {x : Walk Value} → Correct p (Runs one x)
      → Correct (typed_try_form at p (lower_type None t))
      (Runs one (λ fuel ss. run_typed (written_option_type (tree.some_type t)) (x fuel ss)))
  unfolding typed_try_form made_path_form
  typed_try_fine t hp = correct_as (correct_bind hp (λ b. correct_bind correct_made_number (λ n. correct_bind (type_now (tree.some_type t))
      (λ k. correct_bind (correct_in_store (made_reads Unannotated n)) (λ p.
      correct_bind (correct_alloc_desugared (hir.Path (made_path n) root_hygiene) (Some at))
      (λ e. correct_alloc_desugared (bound_block p k b e) (Some at)))))))
      (λ final ps m m' i g row.
      let s = row.second in let u = s.second in let q = u.second in let r = q.second in
      goes_typed s.one q.one u.one (written_type (tree.some_type t)) q.first.rel.binds
      (pat_in_full final q.one made_pattern (q.first.rel.reads (all_of final) q.first.entries)) u.first.is
      (goes_within (wider_of (under_refl (base_of m))
      (omega (arith, s.before.nodes, u.before.nodes, q.before.nodes, r.before.nodes))) row.first)
      (omega (arith, row.before.names, s.first.is))
      (λ v. known_within (under_trans (under_grown row.before) (under_trans (under_grown s.before) (under_trans (under_grown u.before)
      (under_grown q.before)))) (omega arith)
      (known_path {base = base_of q.middle} {v = v} {ps = ps} r.first)) r.second)

-- a condition whose temporaries end

module _ (at : Pointer) where
  goes_held : {base : Base} {m m' : Mark} {final : Stored} {ps qs : List Frame} {i b e : ExprId} {put : Put} {x : Walk Value}
      (n : ℕ) (p : PatId) → BindsMade n final p
      → Goes base m.nodes one x final ps b → base.names ≤ n → ((v : Value) → GoesKnowing base m.nodes n v (pure v) final ps e)
      → AllocatedBy put (held_block p b e) (Some at) final qs m m' i
      → Goes base m'.nodes one (λ fuel ss. x fuel ss >>= (λ v. ends_temps (pure v))) final ps i
  unfolding stored_option_type
  goes_held {final = final} n p binds block few name a = goes_at a
      (λ fuel d le f. same_plain_block (stored_row _ _ _ (same_bind (block.same fuel d le f) (λ v. stored_pure _
      (held_by few (λ u. known_temps ((name u).same fuel d le f)) (made_whole final p) (whole_of final n p binds)
      (stored_pat (store_of final) (map_of final) p) v)))))
      (λ d le. ((block.jumps d le, tt, tt), (name unit).jumps d le))

  held_fine : {p : ExprSteps} {x : Walk Value} → Correct p (Runs one x)
      → Correct (held_form at p) (Runs one (λ fuel ss. x fuel ss >>= (λ v. ends_temps (pure v))))
  unfolding held_form hold_form made_path_form
  held_fine hp = correct_as (correct_bind hp (λ b. correct_bind correct_made_number (λ n.
      correct_bind (correct_in_store (made_reads Unannotated n)) (λ p.
      correct_bind (correct_alloc_desugared (hir.Path (made_path n) root_hygiene) (Some at))
      (λ e. correct_alloc_desugared (held_block p b e) (Some at))))))
      (λ final ps m m' i g row.
      let s = row.second in let q = s.second in let r = q.second in
      goes_held s.one q.one q.first.rel.binds
      (goes_within (wider_of (under_refl (base_of m)) (omega (arith, s.before.nodes, q.before.nodes, r.before.nodes))) row.first)
      (omega (arith, row.before.names, s.first.is))
      (λ v. known_within (under_trans (under_grown row.before) (under_trans (under_grown s.before) (under_grown q.before)))
      (omega arith) (known_path {base = base_of q.middle} {v = v} {ps = ps} r.first)) r.second)

  condition_fine : (lets : Bool) {p : ExprSteps} {x : Walk Value} → Correct p (Runs one x)
      → Correct (condition_form lets at p) (Runs one (λ fuel ss. with_ends lets (x fuel ss)))
  condition_fine true h = h
  condition_fine false h = held_fine h

  pub while_fine : (from : LoopSource) (l : Option Label) (lets : Bool) {c b : ExprSteps} {x y : Walk Value} → Correct c (Runs one x)
      → Correct b (Runs one y)
      → Correct (loop_form at from l (iteration_form at (condition_form lets at c) b))
      (Runs one (λ fuel ss. run_while fuel lets (x fuel (loop_scope l ∷ ss)) (y fuel (loop_scope l ∷ ss)) (here at)))
  while_fine from l lets {x = x} {y = y} hc hb =
      Forms.fuel_fine at from l (λ fuel ss. while_iteration lets (x fuel ss) (y fuel ss) (here at))
      (λ fuel ss. while_alike lets (x fuel (loop_scope l ∷ ss)) (y fuel (loop_scope l ∷ ss)) (here at))
      (Forms.iteration_fine at (condition_fine lets hc) hb)
