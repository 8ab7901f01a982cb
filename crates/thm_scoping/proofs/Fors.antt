-- The parts of a `for` and of a `try` see what the written ones do.
use Rattle.std.proofs.Common.{arith, ◌≡◌, ◌∙◌, refl, sym, ap, subst, inl, inr, ◌⊎◌, ◌<◌, ℕ, Bool, true, false, List, [], ◌∷◌, ◌++◌}
use Rattle.std.proofs.Common.{append-nil, length}
use Rattle.std.proofs.Common.{Option, Some, None, option_to_list, slice_get}
use Rattle.std.specs.List.{flat_map}
use Rattle.hir_store.specs.Children.{statement_children}
use Rattle.hir_store.specs.Pointers.{Pointer}
use Rattle.hir_store.specs.Stored.{Store, SourceMap}
use Rattle.hir_store.specs.declared.hir.Expr.{Expr as StoredExpr}
use Rattle.hir_store.specs.declared.hir.Expr.TheVariants as hir
use Rattle.hir_store.specs.declared.hir.MatchArm.{MatchArm}
use Rattle.hir_store.specs.declared.hir.Statement.{Statement}
use Rattle.hir_store.specs.declared.ids.BindingId.{BindingId}
use Rattle.hir_store.specs.declared.ids.BlockId.{BlockId}
use Rattle.hir_store.specs.declared.ids.ExprId.{ExprId}
use Rattle.hir_store.specs.declared.ids.LabelId.{LabelId}
use Rattle.hir_store.specs.declared.ids.LangItemId.{LangItemId}
use Rattle.hir_store.specs.declared.ids.PatId.{PatId}
use Rattle.hir_lower_scope.specs.ScopeRibs.{try_rib}
use Rattle.hir_env.specs.ResolvedTree as tree
use Rattle.hir_env.specs.ResolvedTree.{ForItems, OptionExpr, OptionPat, Stmts}
use Rattle.hir_walks.specs.Pats.{bindings_in}
use Rattle.spec_scopes.specs.Placed.{Among, Placed, Sees, Spot, after, after_part, block_items, in_scope, inside, past, placed, placed_arm}
use Rattle.spec_scopes.specs.Placed.{placed_block, placed_option}
use Rattle.spec_scopes.specs.Scopes.{Scopes, binding_ribs, block_scope, loop_scope, pat_scope, ribs_of}
use Rattle.spec_scoping.specs.Bound.{InScope, with_each, with_top}
use Rattle.spec_scoping.specs.Scoping.{Standing, Where, behind_part, contents, in_turn, lets_of_part, naming, part}
use Rattle.spec_semantics.specs.Contents.{BlockContents}
use Rattle.spec_semantics.specs.Left.{gives_value, is_left}
use Rattle.thm_body_result.specs.Corresponds.{Corresponds, CorrespondsContents, CorrespondsKept, CorrespondsPart, CorrespondsPatPart}
use Rattle.thm_body_result.specs.Corresponds.{InLabel, Open, opened}
use Rattle.thm_body_result.specs.Corresponds.{WithNames}
use Rattle.thm_body_result.specs.CorrespondsMade.{CorrespondsNext, CorrespondsToIteration, CorrespondsToLoop, CorrespondsTry}
use Rattle.thm_body_result.specs.CorrespondsMade.{CorrespondsWrapped}
use Rattle.thm_body_result.specs.Leads.{Mapping}
use Rattle.thm_scoping.specs.Meant.{SameAt, SameRibs}
use Rattle.thm_scoping.proofs.Named.{EachBelow}
use Rattle.thm_scoping.proofs.Orderly.{Orderly}
use Rattle.thm_scoping.proofs.Afters.{part_is, part_passed}
use Rattle.thm_scoping.proofs.Contents.{block_end, block_see, block_split}
use Rattle.thm_scoping.proofs.Forms.{go_in}
use Rattle.thm_scoping.proofs.Operands.{Same, each_below_left, each_below_right, item_after, lets_in_part, plain_behind, silent_after}
use Rattle.thm_scoping.proofs.Plain.{item_call_plain}
use Rattle.thm_scoping.proofs.Steps.{AllSee, At, Inside, all-append, all_behind, among_both, among_left, among_right, binds_nothing}
use Rattle.thm_scoping.proofs.Steps.{items_same}
use Rattle.thm_scoping.proofs.Steps.{part_see, plain_see, step}
use Rattle.thm_scoping.proofs.Tops.{inside_item, same_made, same_top}

each_below-append : (n : ℕ) (is js : List ExprId) → EachBelow n is → EachBelow n js → EachBelow n (is ++ js)
each_below-append n [] js p q = q
each_below-append n (i ∷ is) js p q = (p.0, each_below-append n is js p.1 q)

module _ (store : Store) (source_map : SourceMap) (self : Option BindingId) (o : Orderly store) (root : ExprId) (start : Spot) where
  abbrev All : List Standing → Type 0
  All l = AllSee store source_map self o root start l

  abbrev StandsAt : ExprId → Where → Type 0
  StandsAt i w = At store source_map self o root start i w

  -- `&mut` of a name that is made up, and the call with it, bind nothing
  next_after : (at : Pointer) (item : LangItemId) (n : ℕ) (i : ExprId) (ms : List Mapping) → CorrespondsNext store source_map at item n i ms
      → (ss : Scopes) → after store i ss ≡ ss
  next_after at item n i ms h =
      let name_found = h.2.first.first.0.stored in
      let name : (ss : Scopes) → after store h.0 ss ≡ ss = silent_after store source_map self h.0 _ name_found (λ g ss. refl) in
      let ref : (ss : Scopes) → after store h.1 ss ≡ ss = binds_nothing store source_map self o h.1 _ (h.0 ∷ []) h.2.first.second.0.stored
      (λ g ss. refl) (name, tt) in
      let call = h.2.second in
      binds_nothing store source_map self o i _ (call.0 ∷ h.1 ∷ []) call.1.second.0.stored (λ g ss. refl)
      (item_after store source_map self (Some item) call.0 call.1.first.0.stored, (ref, tt))

  -- the turn of a `for`
  turn_see : (rs inner : Open) (at : Pointer) (items : ForItems) (n : ℕ) (top : OptionPat) (p : PatId) (b : OptionExpr) (it : ExprId)
      (ms ns : List Mapping) (v : Where)
      → WithNames store source_map top (λ ks. CorrespondsPatPart store source_map ks rs top [] p) p ns
      → CorrespondsToIteration store source_map at items n p (λ x. CorrespondsPart store source_map inner b x) it ms → StandsAt it v
      → All (in_turn (part b) (naming v (with_top top v.names)))
  turn_see rs inner at items n top p b it ms ns v names h a =
      let next = h.0 in
      let choice = h.3 in
      let all = h.4 in
      let is_done = all.second.first in
      let gives = all.second.second.first in
      let made = all.second.second.second in
      let block_found = made.second.0.stored in
      let done_arm : MatchArm = record { pat = is_done.0; guard = None; expr = is_done.1 } in
      let arm : MatchArm = record { pat = gives.0; guard = None; expr = gives.1 } in
      let f : StoredExpr = hir.Match next (done_arm ∷ arm ∷ []) in
      let found : slice_get store.exprs choice.0 ≡ Some f = made.first.0.stored
      ∙ (ap (λ (m : MatchArm). Some (hir.Match next (m ∷ h.2 ∷ []))) is_done.2
      ∙ ap (λ (m : MatchArm). Some (hir.Match next (done_arm ∷ m ∷ []))) gives.2) in
      let lower = o.parts choice f found in
      let there = o.patterns_there choice f found in
      let at_choice : StandsAt choice v = go_in store source_map self o root start it choice _ v v a block_found
      (o.parts it _ block_found).0
      (record { names = block_scope None None ∷ a.spot.names; items = a.spot.items }) (inl refl)
      (record { names = a.same.names; items = a.same.items }) in
      let x = at_choice.spot in
      let g = after_part store choice in
      let y = past store g next x in
      let held = inside_item store source_map self o _ gives.0 p gives.3.stored there.1.0 in
      let outer = subst (λ ts. Same store source_map self ts v.names)
      (sym (part_passed store choice next x.names (next_after at items.next n next all.left all.first x.names))) at_choice.same.names in
      let binds = same_top store source_map self o rs top p ns held.0 names (ribs_of store (g next x.names)) v.names outer in
      let z : Spot = in_scope y (pat_scope store gives.0 ∷ y.names) in
      let body : StandsAt gives.1 (naming v (with_top top v.names)) = go_in store source_map self o root start choice gives.1 f v
      (naming v (with_top top v.names)) at_choice found lower.1.1.0 z (inr (inr (inl refl)))
      (record {
        names = subst (λ l. SameRibs store source_map self (binding_ribs store l ++ ribs_of store (g next x.names)) (with_top top v.names))
            (sym held.1) binds;
        items = at_choice.same.items;
      }) in
      part_see store source_map self o root start inner b gives.1 all.second.second.left (naming v (with_top top v.names)) gives.4 body

  -- what stands for the loop of a `for`, by its label
  abbrev ForLoops : Open → Pointer → ForItems → Option tree.Label → ℕ → PatId → OptionExpr → ExprId → List Mapping → Type 0
  ForLoops rs at items label n q b l ms = InLabel store source_map rs label (λ inner k. CorrespondsToLoop store source_map at k
      (λ t. CorrespondsToIteration store source_map at items n q (λ x. CorrespondsPart store source_map inner b x) t) l) ms

  -- the loop of a `for`
  turns_see : (rs inner : Open) (at : Pointer) (k : Option LabelId) (items : ForItems) (n : ℕ) (top : OptionPat) (p : PatId)
      (b : OptionExpr)
      (l : ExprId) (ms ns : List Mapping) (v : Where)
      → WithNames store source_map top (λ ks. CorrespondsPatPart store source_map ks rs top [] p) p ns
      → CorrespondsToLoop store source_map at k
      (λ t. CorrespondsToIteration store source_map at items n p (λ x. CorrespondsPart store source_map inner b x) t) l ms → StandsAt l v
      → All (in_turn (part b) (naming v (with_top top v.names)))
  turns_see rs inner at k items n top p b l ms ns v names h a =
      let found = h.1.second.0.stored in
      let turn : StandsAt h.0 v = go_in store source_map self o root start l h.0 _ v v a found (o.parts l _ found).0
      (in_scope a.spot (loop_scope k ∷ a.spot.names)) (inl refl) (record { names = a.same.names; items = a.same.items }) in
      turn_see rs inner at items n top p b h.0 h.1.left ns v names h.1.first turn

  pub for_see : (rs : Open) (at : Pointer) (items : ForItems) (label : Option tree.Label) (w' : tree.IsWrittenLabel label) (top : OptionPat)
      (head b : OptionExpr) (i : ExprId) (ms : List Mapping) (w : Where)
      → Corresponds store source_map rs (tree.for_expr at items label w' top head b) i ms → StandsAt i w
      → All (in_turn (part head) w ++ in_turn (part b) (naming w (with_top top (behind_part head w).names)))
  for_see rs at items label w' top head b i ms w h a =
      let iterator = h.1 in
      let found = h.6.stored in
      let lower = o.parts i _ found in
      let there = o.patterns_there i _ found in
      let x = a.spot in
      let g = after_part store i in
      let all = h.7 in
      let call = item_call_plain store source_map self o _ (Some items.into_iter) rs head h.0 iterator all.left all.second.left all.first
      all.second.first in
      let names = all.second.second.first in
      let made = all.second.second.second.first in
      let last = all.second.second.second.second in
      let at_iterator : StandsAt iterator w = go_in store source_map self o root start i iterator _ w w a found lower.0 x
      (inl refl) a.same in
      let outer = subst (λ ts. Same store source_map self ts (with_each (lets_of_part head) w.names))
      (sym (part_is store i iterator x.names lower.0))
      (plain_behind store source_map self iterator (part head) (lets_of_part head) call (all_behind store source_map self o (part head))
      (lets_in_part head) x.names w.names a.same.names) in
      let y = past store g iterator x in
      let at_loop : StandsAt h.5 (behind_part head w) = go_in store source_map self o root start i h.5 _ w
      (behind_part head w) a found lower.1.0
      (in_scope y (pat_scope store h.4 ∷ y.names)) (inr (inl refl))
      (record {
        names = same_made store source_map self o _ h.3 h.4 all.second.second.second.left there.0 made (ribs_of store (g iterator x.names))
            (with_each (lets_of_part head) w.names) outer;
        items = a.same.items;
      }) in
      all-append store source_map self o root start (in_turn (part head) w)
      (in_turn (part b) (naming w (with_top top (behind_part head w).names)))
      (plain_see store source_map self o root start iterator (part head) w call at_iterator)
      (by label w' last.first at_loop names)
    where
      by : (label : Option tree.Label) (w' : tree.IsWrittenLabel label)
          → ForLoops rs at items label h.3 h.2 b h.5 h.7.second.second.second.second.left
          → StandsAt h.5 (behind_part head w)
          → WithNames store source_map top (λ ks. CorrespondsPatPart store source_map ks rs top [] h.2) h.2 h.7.second.second.left
          → All (in_turn (part b) (naming w (with_top top (behind_part head w).names)))
      by None w' l at_loop names = turns_see rs rs at None items h.3 top h.2 b h.5 _ _ (behind_part head w) names l at_loop
      by (Some k) w' l at_loop names =
          turns_see rs (opened k l.0 rs) at (Some l.0) items h.3 top h.2 b h.5 l.2.right _ (behind_part head w) names l.2.second at_loop

  -- `try`

  -- The tail of what is written stands inside of the call of the item.
  try_inside : (at : Pointer) (item : Option LangItemId) (p v : ExprId) (r : List Statement × Option ExprId) (ms : List Mapping) (x : Spot)
      → CorrespondsWrapped store source_map at item r.1 v ms → v.0 < p.0
      → Inside store source_map self o root start p (placed_block store (after_part store p) r.0 (Some v) x)
      → Inside store source_map self o root start p (placed_block store (after_part store p) r.0 r.1 x)
  try_inside at item p v r ms x h less ins = by r.1 h
    where
      g : ExprId → Scopes → Scopes
      g = after_part store p

      whole : Inside store source_map self o root start p
          (placed_block store g r.0 None x ++ placed_option store g (Some v) (block_end store source_map self o g r.0 x))
      whole = subst (λ l. Inside store source_map self o root start p l) (block_split store source_map self o g r.0 (Some v) x) ins

      by : (t : Option ExprId) → CorrespondsWrapped store source_map at item t v ms
          → Inside store source_map self o root start p (placed_block store g r.0 t x)
      by None h = λ c y lower among. whole c y lower (among_left c y (placed_block store g r.0 None x)
          ((v, block_end store source_map self o g r.0 x) ∷ []) among)
      by (Some e) h = λ c y lower among. split c y lower
          (among_both c y (placed_block store g r.0 None x) ((e, block_end store source_map self o g r.0 x) ∷ [])
          (subst (λ l. Among c y l) (block_split store source_map self o g r.0 (Some e) x) among))
        where
          end : Spot
          end = block_end store source_map self o g r.0 x

          sees : Sees store root start v end
          sees = whole v end less (among_right v end (placed_block store g r.0 None x) ((v, end) ∷ []) (inl refl))

          found : slice_get store.exprs v.0 ≡ Some (hir.Call h.0 (e ∷ []))
          found = h.2.second.second.0.stored ∙ ap (λ u. Some (hir.Call h.0 (u ∷ []))) h.2.second.first.0

          lower' : EachBelow v.0 (h.0 ∷ e ∷ [])
          lower' = o.parts v _ found

          passed : after_part store v h.0 end.names ≡ end.names
          passed = part_passed store v h.0 end.names (item_after store source_map self item h.0 h.2.first.0.stored end.names)

          stands : Sees store root start e end
          stands = subst (λ ts. Sees store root start e (in_scope end ts)) passed
              (inside _ sees found (inr (inl refl)) lower'.1.0)

          split : (c : ExprId) (y : Spot) → c.0 < p.0 → Among c y (placed_block store g r.0 None x) ⊎ Among c y ((e, end) ∷ [])
              → Sees store root start c y
          split c y lower (inl k) = whole c y lower (among_left c y (placed_block store g r.0 None x) ((v, end) ∷ []) k)
          split c y lower (inr (inl k)) = subst (λ (s : ExprId × Spot). Sees store root start s.0 s.1) (sym k) stands
          split c y lower (inr (inr k)) = absurd k

  try_at : (rs : LabelId → Open) (at : Pointer) (item : Option LangItemId) (number : Option BlockId) (ss : Stmts) (e : OptionExpr)
      (i : ExprId)
      (ms : List Mapping) (w : Where)
      → CorrespondsTry store source_map at item number (gives_value ss (is_left e))
      (λ label is u. CorrespondsContents store source_map (rs label) ss (λ around u. CorrespondsKept store source_map around e u) is u) i ms
      → StandsAt i w → All (contents ss e w)
  try_at rs at item number ss e i ms w h a =
      let r = h.5 in
      let v = h.7 in
      let found = h.8.stored in
      let f : StoredExpr = hir.Block false (Some h.0) number r.0 (Some v) in
      let x = a.spot in
      let y : Spot = record { names = block_scope number (Some h.0) ∷ x.names; items = block_items number x.items } in
      let parts = o.parts i f found in
      let less = (each_below_right i.0 (flat_map statement_children r.0) (v ∷ []) parts).0 in
      let wrapped = h.9.second.second.first in
      block_see store source_map self o root start ss e i (rs h.0) h.3 h.4 r h.9.second.left y w h.6 h.9.second.first
      (try_below at item i v r h.9.second.second.left wrapped less (each_below_left i.0 (flat_map statement_children r.0) (v ∷ []) parts))
      (o.patterns_there i f found)
      (try_inside at item i v r h.9.second.second.left y wrapped less
      (λ c z lower among. step store source_map self o root start i f w a found c z lower among))
      (record { names = a.same.names; items = items_same store source_map self o number x.items w.items a.same.items })
    where
      try_below : (at : Pointer) (item : Option LangItemId) (p v : ExprId) (r : List Statement × Option ExprId) (ms : List Mapping)
          → CorrespondsWrapped store source_map at item r.1 v ms → v.0 < p.0 → EachBelow p.0 (flat_map statement_children r.0)
          → EachBelow p.0 (flat_map statement_children r.0 ++ option_to_list r.1)
      try_below at item p v r ms h less below = each_below-append p.0 (flat_map statement_children r.0) (option_to_list r.1) below
          (by r.1 h)
        where
          by : (t : Option ExprId) → CorrespondsWrapped store source_map at item t v ms → EachBelow p.0 (option_to_list t)
          by None h = tt
          by (Some e) h =
              let found : slice_get store.exprs v.0 ≡ Some (hir.Call h.0 (e ∷ [])) =
              h.2.second.second.0.stored ∙ ap (λ u. Some (hir.Call h.0 (u ∷ []))) h.2.second.first.0 in
              (omega (arith, less, (o.parts v _ found).1.0), tt)

  pub try_see : (rs : Open) (at : Pointer) (item : Option LangItemId) (t : tree.OptionType) (number : Option BlockId) (ss : Stmts)
      (e : OptionExpr)
      (i : ExprId) (ms : List Mapping) (w : Where) → Corresponds store source_map rs (tree.try_expr at item t number ss e) i ms
      → StandsAt i w
      → All (contents ss e w)
  try_see rs at item tree.no_type number ss e i ms w h a = try_at (λ label. try_rib label false ∷ rs) at item number ss e i ms w h a
  try_see rs at item (tree.some_type t) number ss e i ms w h a =
      let found = h.5.second.second.second.second.0.stored in
      let block : StandsAt h.0 w = go_in store source_map self o root start i h.0 _ w w a found (o.parts i _ found).0
      (record { names = block_scope None None ∷ a.spot.names; items = a.spot.items }) (inl refl)
      (record { names = a.same.names; items = a.same.items }) in
      try_at (λ label. try_rib label true ∷ rs) at item number ss e h.0 h.5.left w h.5.first block
