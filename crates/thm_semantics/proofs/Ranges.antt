-- A range runs as the record or the call that it is made as.
use Rattle.std.proofs.Common.{◌≡◌, ℕ, ◌≤◌, List, [], ◌∷◌, ◌++◌, map, append-nil, Option, Some, None, refl, arith}
use Rattle.hir_store.specs.Pointers.{Pointer}
use Rattle.hir_store.specs.Stored.{Stored, store_of, map_of}
use Rattle.hir_store.specs.declared.hir.Expr.TheVariants as hir
use Rattle.hir_store.specs.declared.hir.RecordSpread.TheVariants as spread
use Rattle.hir_store.specs.declared.ids.ExprId.{ExprId}
use Rattle.hir_store.specs.declared.ids.LangItemId.{LangItemId}
use Rattle.hir_store.specs.declared.name.Name.{Name}
use Rattle.hir_store.specs.declared.path.Path.TheVariants.{LangItem}
use Rattle.hir_env.specs.Answering.{site_of}
use Rattle.hir_env.specs.ResolvedTree as tree
use Rattle.hir_env.specs.ResolvedTree.{OptionExpr, RangeForm}
use Rattle.hir_lower_builder.specs.Lowering.{Lowering}
use Rattle.hir_lower_builder.specs.Ranges.{range_fields, end_operand, item_expr, made_range, range_form}
use Rattle.spec_data.specs.Data.{item_path}
use Rattle.spec_data.specs.Reading.{stored_path}
use Rattle.spec_semantics.specs.Jumps.{EnclosedTo}
use Rattle.spec_semantics.specs.Run.{Value, item, call, made_record, no_spread, leave, missing}
use Rattle.spec_semantics.specs.Run.{pure, ends, ◌>>=◌, ask}
use Rattle.spec_semantics.specs.Store.{StoreRun}
use Rattle.spec_semantics.specs.Store.{run_each as stored_each}
use Rattle.spec_semantics.specs.Syntax.{SyntaxRun, run_expr, run_present, range_names, run_range}
use Rattle.hir_lower_scope.specs.Each.{Each}
use Rattle.thm_logic.proofs.Frames.{Frame, scopes, Falls}
use Rattle.thm_logic.proofs.Steps.{AllocatedBy, Mark, Put, Rel, Correct, Allocated, correct_bind, correct_as, correct_alloc}
use Rattle.thm_semantics.proofs.Nodes
use Rattle.thm_semantics.proofs.Relation.{SameWhere, same_pure, same_bind, same_ask, same_stop}
use Rattle.thm_semantics.proofs.Rows.{stored_pure, stored_row, written_pure, written_row, written_value}
use Rattle.thm_semantics.proofs.Senses.{Base, base_of, under_refl, wider_of}
use Rattle.thm_semantics.proofs.Senses.{Walk, run_in, one, Goes, Runs, Wider, goes_within, goes_at}
use Rattle.thm_semantics.proofs.Views.{numbers}

-- ends

-- what an end became: nothing where it is absent
abbrev pub EndIs : Base → ℕ → Stored → List Frame → OptionExpr → Option ExprId → Type 0
EndIs base nodes final ps tree.no_expr None = Unit {0}
EndIs base nodes final ps tree.no_expr (Some i) = ⊥
EndIs base nodes final ps (tree.some_expr e) None = ⊥
EndIs base nodes final ps (tree.some_expr e) (Some i) = Goes base nodes one (λ fuel. run_expr fuel e) final ps i

abbrev pub EndRel : OptionExpr → Rel (Option ExprId)
EndRel e final ps m m' o = EndIs (base_of m) m'.nodes final ps e o

end_within : {base base' : Base} {nodes nodes' : ℕ} (final : Stored) (ps : List Frame) (e : OptionExpr) (o : Option ExprId)
    → Wider base nodes base' nodes' → EndIs base nodes final ps e o → EndIs base' nodes' final ps e o
end_within final ps tree.no_expr None w h = tt
end_within final ps tree.no_expr (Some i) w h = absurd h
end_within final ps (tree.some_expr e) None w h = absurd h
end_within final ps (tree.some_expr e) (Some i) w h = goes_within w h

same_labels : {nodes nodes' : ℕ} (base : Base) → nodes ≤ nodes' → Wider base nodes base nodes'
same_labels base le = wider_of (under_refl base) le

module _ (base : Base) {nodes : ℕ} (final : Stored) {ps : List Frame} (fuel d : ℕ) (le : nodes ≤ d) (f : Falls base.labels ps)
    {k : List Value → StoreRun Value} {l : List Value → SyntaxRun Value} where
  -- both ends, and then the same
  same_ends_of : ((vs : List Value) → SameWhere base.names ps (k vs) (l vs)) → (start end : OptionExpr) (s e : Option ExprId)
      → EndIs base nodes final ps start s → EndIs base nodes final ps end e
      → SameWhere base.names ps (stored_each fuel (run_in final d fuel) (end_operand s ++ end_operand e) >>= k)
      (run_present fuel start (scopes ps) >>= (λ vs. run_present fuel end (scopes ps) >>= (λ ws. l (vs ++ ws))))
  same_ends_of same tree.no_expr tree.no_expr None None h h' = stored_pure _ (written_pure _ (written_pure _ (same [])))
  same_ends_of same tree.no_expr (tree.some_expr y) None (Some e) h h' =
      stored_row _ _ _ (written_pure _ (written_row _ _ _ (same_bind (h'.same fuel d le f)
      (λ v. stored_row _ _ _ (stored_pure _ (stored_pure _ (written_pure _ (same (v ∷ [])))))))))
  same_ends_of same (tree.some_expr x) tree.no_expr (Some s) None h h' =
      stored_row _ _ _ (written_row _ _ _ (same_bind (h.same fuel d le f)
      (λ v. stored_row _ _ _ (stored_pure _ (stored_pure _ (written_pure _ (written_pure _ (same (v ∷ [])))))))))
  same_ends_of same (tree.some_expr x) (tree.some_expr y) (Some s) (Some e) h h' =
      stored_row _ _ _ (written_row _ _ _ (same_bind (h.same fuel d le f)
      (λ v. stored_row _ _ _ (stored_row _ _ _ (written_pure _ (written_row _ _ _ (same_bind (h'.same fuel d le f)
      (λ w. stored_row _ _ _ (stored_pure _ (stored_pure _ (stored_pure _ (written_pure _ (same (v ∷ w ∷ []))))))))))))))
  same_ends_of same tree.no_expr end (Some s) e h h' = absurd h
  same_ends_of same (tree.some_expr x) end None e h h' = absurd h
  same_ends_of same start tree.no_expr s (Some e) h h' = absurd h'
  same_ends_of same start (tree.some_expr y) s None h h' = absurd h'

module _ (base : Base) (nodes : ℕ) (final : Stored) (ps : List Frame) where
  ends_jump : (d : ℕ) → nodes ≤ d → (start end : OptionExpr) (s e : Option ExprId)
      → EndIs base nodes final ps start s → EndIs base nodes final ps end e
      → Each (EnclosedTo (store_of final) d (numbers ps)) (end_operand s ++ end_operand e)
  ends_jump d le tree.no_expr tree.no_expr None None h h' = tt
  ends_jump d le tree.no_expr (tree.some_expr y) None (Some e) h h' = (h'.jumps d le, tt)
  ends_jump d le (tree.some_expr x) tree.no_expr (Some s) None h h' = (h.jumps d le, tt)
  ends_jump d le (tree.some_expr x) (tree.some_expr y) (Some s) (Some e) h h' = (h.jumps d le, (h'.jumps d le, tt))
  ends_jump d le tree.no_expr end (Some s) e h h' = absurd h
  ends_jump d le (tree.some_expr x) end None e h h' = absurd h
  ends_jump d le start tree.no_expr s (Some e) h h' = absurd h'
  ends_jump d le start (tree.some_expr y) s None h h' = absurd h'

  names_are : (last : Name) (start end : OptionExpr) (s e : Option ExprId)
      → EndIs base nodes final ps start s → EndIs base nodes final ps end e
      → map (λ f. f.name) (range_fields last s e) ≡ range_names last start end
  names_are last tree.no_expr tree.no_expr None None h h' = refl
  names_are last tree.no_expr (tree.some_expr y) None (Some e) h h' = refl
  names_are last (tree.some_expr x) tree.no_expr (Some s) None h h' = refl
  names_are last (tree.some_expr x) (tree.some_expr y) (Some s) (Some e) h h' = refl
  names_are last tree.no_expr end (Some s) e h h' = absurd h
  names_are last (tree.some_expr x) end None e h h' = absurd h
  names_are last start tree.no_expr s (Some e) h h' = absurd h'
  names_are last start (tree.some_expr y) s None h h' = absurd h'

fields_are : (last : Name) (s e : Option ExprId) → map (λ f. f.expr) (range_fields last s e) ≡ end_operand s ++ end_operand e
fields_are last None None = refl
fields_are last None (Some e) = refl
fields_are last (Some s) None = refl
fields_are last (Some s) (Some e) = refl

-- what it is made as

pub item_is : (final : Stored) (i : LangItemId) → stored_path (store_of final) (map_of final) (LangItem i) ≡ item_path i
unfolding stored_path
item_is final i = refl

pub goes_item : {base : Base} {m m' : Mark} {final : Stored} {ps qs : List Frame} {i : ExprId} {put : Put} {source : Option Pointer}
    (item' : LangItemId) → AllocatedBy put (item_expr (Some item')) source final qs m m' i
    → Goes base m'.nodes one (λ fuel ss. pure (item item')) final ps i
goes_item {final = final} item' a = goes_at a (λ fuel d le f. rw (item_is final item') (same_pure (item item'))) (λ d le. tt)

module _ (at : Pointer) (start end : OptionExpr) where
  abbrev range_walk : RangeForm → Walk Value
  range_walk form fuel ss = run_range form start end (run_present fuel start ss) (run_present fuel end ss) (Some (site_of at))

  goes_record_range : {base : Base} {m m' : Mark} {final : Stored} {ps qs : List Frame} {i : ExprId} (named : LangItemId) (last : Name)
      (s e : Option ExprId) → EndIs base m.nodes final ps start s → EndIs base m.nodes final ps end e
      → Allocated (hir.RecordLit (LangItem named) (range_fields last s e) spread.None) (Some at) final qs m m' i
      → Goes base m'.nodes one (range_walk (tree.record_range named last)) final ps i
  goes_record_range {base = base} {m = m} {final = final} {ps = ps} named last s e h h' a = goes_at a
      (λ fuel d le f. rw (item_is final named, fields_are last s e, names_are base m.nodes final ps last start end s e h h')
      (same_ends_of base final fuel d le f (λ vs. stored_pure _ (of_all (range_names last start end) vs)) start end s e h h'))
      (λ d le. rw (fields_are last s e) (ends_jump base m.nodes final ps d le start end s e h h', tt))
    where
      of_all : (names : List Name) (vs : List Value)
          → SameWhere base.names ps (ask (made_record (item_path named) names no_spread) (vs ++ []) (Some (site_of at)))
          (ask (made_record (item_path named) names no_spread) vs (Some (site_of at)))
      of_all names vs = rw (append-nil vs) (same_ask (made_record (item_path named) names no_spread) vs (Some (site_of at)))

  goes_call_range : {base : Base} {m m1 m' : Mark} {final : Stored} {ps qs : List Frame} {c i : ExprId} (called : Option LangItemId)
      (s e : Option ExprId) → EndIs base m1.nodes final ps start s → EndIs base m1.nodes final ps end e
      → Allocated (item_expr called) None final qs m m1 c
      → Allocated (hir.Call c (end_operand s ++ end_operand e)) (Some at) final qs m1 m' i
      → Goes base m'.nodes one (range_walk (tree.call_range called)) final ps i
  goes_call_range {base = base} {m1 = m1} {final = final} {ps = ps} {c = c} None s e h h' b a =
      let callee : Goes base m1.nodes one (λ fuel ss. ends (leave missing)) final ps c = Nodes.goes_missing b in goes_at a
      (λ fuel d le f. same_stop _ missing (callee.same fuel d le f))
      (λ d le. (callee.jumps d le, ends_jump base m1.nodes final ps d le start end s e h h'))
  goes_call_range {base = base} {m1 = m1} {final = final} {ps = ps} {c = c} (Some item') s e h h' b a =
      let callee : Goes base m1.nodes one (λ fuel ss. pure (item item')) final ps c = goes_item item' b in goes_at a
      (λ fuel d le f. written_value (item item') (λ v. run_present fuel start (scopes ps)
      >>= (λ vs. run_present fuel end (scopes ps) >>= (λ ws. ask call (v ∷ (vs ++ ws)) (Some (site_of at)))))
      (same_bind (callee.same fuel d le f)
      (λ v. same_ends_of base final fuel d le f (λ vs. same_ask call (v ∷ vs) (Some (site_of at))) start end s e h h')))
      (λ d le. (callee.jumps d le, ends_jump base m1.nodes final ps d le start end s e h h'))

  -- whatever its ends became
  abbrev MadeOf : RangeForm → Option ExprId → Option ExprId → Rel ExprId
  MadeOf form s e final ps m m' i =
      (base : Base) → EndIs base m.nodes final ps start s → EndIs base m.nodes final ps end e
      → Goes base m'.nodes one (range_walk form) final ps i

  made_fine : (form : RangeForm) (s e : Option ExprId) → Correct (made_range at form s e) (MadeOf form s e)
  made_fine (tree.record_range named last) s e =
      correct_as (correct_alloc (hir.RecordLit (LangItem named) (range_fields last s e) spread.None) (Some at))
      (λ final ps m m' i g a base h h'. goes_record_range named last s e h h' a)
  made_fine (tree.call_range called) s e = correct_as
      (correct_bind (correct_alloc (item_expr called) None)
      (λ c. correct_alloc (hir.Call c (end_operand s ++ end_operand e)) (Some at)))
      (λ final ps m m' i g row base h h'. goes_call_range called s e
      (end_within final ps start s (same_labels base row.before.nodes) h)
      (end_within final ps end e (same_labels base row.before.nodes) h') row.first row.second)
  made_fine tree.itemless_range s e =
      correct_as (correct_alloc hir.Missing (Some at)) (λ final ps m m' i g a base h h'. Nodes.goes_missing a)

  pub range_fine : (form : RangeForm) {q r : Lowering (Option ExprId)} → Correct q (EndRel start) → Correct r (EndRel end)
      → Correct (range_form at form q r) (Runs one (range_walk form))
  unfolding range_form
  range_fine form hq hr = correct_as (correct_bind hq (λ s. correct_bind hr (λ e. made_fine form s e)))
      (λ final ps m m' i g row. let u = row.second in
      u.second (base_of m) (end_within final ps start row.one (omega arith) row.first)
      (end_within final ps end u.one (omega arith) u.first))
