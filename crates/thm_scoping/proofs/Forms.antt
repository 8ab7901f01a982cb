-- The parts of each form see what the written ones do.
use Rattle.std.proofs.Common.{arith, ◌≡◌, ◌∙◌, refl, sym, ap, subst, inl, inr, ◌<◌, ℕ, Bool, true, false, List, [], ◌∷◌, ◌++◌, append-nil}
use Rattle.std.proofs.Common.{length}
use Rattle.std.proofs.Common.{Option, Some, None, option_to_list, slice_get, map, if◌then◌else◌}
use Rattle.std.specs.List.{flat_map}
use Rattle.hir_store.specs.Children.{arm_children}
use Rattle.hir_store.specs.Pointers.{Pointer}
use Rattle.hir_store.specs.Stored.{Store, SourceMap}
use Rattle.hir_store.specs.declared.hir.Array.TheVariants as array
use Rattle.hir_store.specs.declared.hir.CoroutineKind.{CoroutineKind}
use Rattle.hir_store.specs.declared.hir.Expr.{Expr as StoredExpr}
use Rattle.hir_store.specs.declared.hir.Expr.TheVariants as hir
use Rattle.hir_store.specs.declared.hir.LoopSource.{LoopSource}
use Rattle.hir_store.specs.declared.hir.MatchArm.{MatchArm}
use Rattle.hir_store.specs.declared.hir.Statement.{Statement}
use Rattle.hir_store.specs.declared.ids.BindingId.{BindingId}
use Rattle.hir_store.specs.declared.ids.BlockId.{BlockId}
use Rattle.hir_store.specs.declared.ids.ExprId.{ExprId}
use Rattle.hir_store.specs.declared.ids.LabelId.{LabelId}
use Rattle.hir_store.specs.declared.ids.LangItemId.{LangItemId}
use Rattle.hir_store.specs.declared.ids.PatId.{PatId}
use Rattle.hir_lower_scope.specs.ScopeRibs.{barrier_rib}
use Rattle.hir_env.specs.Conditions.{holds_let}
use Rattle.hir_env.specs.ResolvedTree as tree
use Rattle.hir_env.specs.ResolvedTree.{Arms, Block, Constant, Expr, ForItems, Guard, OptionBlock, OptionExpr, OptionPat, Stmts}
use Rattle.hir_walks.specs.Exprs.{arm_pat}
use Rattle.hir_walks.specs.Pats.{bindings_in}
use Rattle.spec_data.specs.Tops.{params_tops}
use Rattle.spec_scopes.specs.Placed.{Among, Placed, Sees, Spot, after, after_each, after_part, block_items, in_constant, in_scope, inside}
use Rattle.spec_scopes.specs.Placed.{past}
use Rattle.spec_scopes.specs.Placed.{placed, placed_arm, placed_block, placed_each, placed_guarded, placed_option}
use Rattle.spec_scopes.specs.Scopes.{Scopes, binding_ribs, binding_scope, block_scope, loop_scope, pat_scope, ribs_of}
use Rattle.spec_scoping.specs.Bound.{InScope, with_each, with_top, with_tops}
use Rattle.spec_scoping.specs.Scoping.{Standing, Where, behind, behind_condition, behind_part, block_part, contents, in_turn}
use Rattle.spec_scoping.specs.Scoping.{lets_of_part, naming}
use Rattle.spec_scoping.specs.Scoping.{of_arm, of_arms, of_constant, part, where_constant}
use Rattle.spec_semantics.specs.Contents.{BlockContents}
use Rattle.spec_semantics.specs.Left.{gives_value, is_left}
use Rattle.thm_body_result.specs.Corresponds.{Corresponds, CorrespondsArms, CorrespondsBlockPart, CorrespondsConstant, CorrespondsContents}
use Rattle.thm_body_result.specs.Corresponds.{CorrespondsGuard, CorrespondsKept, CorrespondsPart, CorrespondsPatPart, Open, WithNames}
use Rattle.thm_body_result.specs.Corresponds.{opened}
use Rattle.thm_body_result.specs.CorrespondsMade.{CorrespondsCondition, CorrespondsGivesArm, CorrespondsNext, CorrespondsToIteration}
use Rattle.thm_body_result.specs.CorrespondsMade.{CorrespondsTry, CorrespondsWhile, CorrespondsWrapped}
use Rattle.thm_body_result.specs.Forms.{generated_name}
use Rattle.thm_body_result.specs.Leads.{Mapping, Mappings}
use Rattle.thm_scoping.specs.Meant.{SameAt}
use Rattle.thm_scoping.proofs.Named.{EachBelow}
use Rattle.thm_scoping.proofs.Orderly.{AllKnown, Orderly}
use Rattle.thm_scoping.proofs.Afters.{part_is, part_passed}
use Rattle.thm_scoping.proofs.Contents.{block_end, block_see, block_split}
use Rattle.thm_scoping.proofs.Operands.{Lined, Same, block_lined, each_below_left, each_below_right, ended, item_after, lets_in_part}
use Rattle.thm_scoping.proofs.Operands.{lined-append, part_lined, passed, plain_behind, present_lined, silent_after, stood}
use Rattle.thm_scoping.proofs.Plain.{item_call_plain}
use Rattle.thm_scoping.proofs.Steps.{AllSee, At, Inside, all-append, all_behind, among_both, arrive, among_left, among_right}
use Rattle.thm_scoping.proofs.Steps.{binds_nothing, enter}
use Rattle.thm_scoping.proofs.Steps.{in_turn_part, items_same, line_same, line_see, part_see, placed_option_is, plain_see, step}
use Rattle.thm_scoping.proofs.Steps.{within_empty}
use Rattle.thm_scoping.proofs.Tops.{inside_item, same_made, same_params, same_top}

abbrev constant_of : Constant → OptionExpr
constant_of (tree.constant e) = e

module _ (store : Store) (source_map : SourceMap) (self : Option BindingId) (o : Orderly store) (root : ExprId) (start : Spot) where
  abbrev All : List Standing → Type 0
  All l = AllSee store source_map self o root start l

  abbrev StandsAt : ExprId → Where → Type 0
  StandsAt i w = At store source_map self o root start i w

  abbrev both : (as' bs : List Standing) → All as' → All bs → All (as' ++ bs)
  both as' bs p q = all-append store source_map self o root start as' bs p q

  -- one made part, placed first or alone
  pub go_in : (i c : ExprId) (f : StoredExpr) (w v : Where) (a : StandsAt i w) → slice_get store.exprs i.0 ≡ Some f → c.0 < i.0 → (y : Spot)
      → Among c y (placed store (after_part store i) f a.spot) → SameAt store source_map self y v → StandsAt c v
  go_in i c f w v a found less y among same = enter store source_map self o root start i c f w v a found less y among same

  pub if_see : (rs : Open) (at : Pointer) (c : OptionExpr) (t : OptionBlock) (e : OptionExpr) (i : ExprId) (ms : List Mapping) (w : Where)
      → Corresponds store source_map rs (tree.if_expr at c t e) i ms → StandsAt i w
      → All (in_turn (part c ++ block_part t) w ++ in_turn (part e) w)
  if_see rs at c t e i ms w h a =
      let f : StoredExpr = hir.If h.0 h.1 h.2 in
      let found = h.3.stored in
      let lower = o.parts i f found in
      let x = a.spot in
      let y : Spot = in_scope x (binding_scope [] ∷ x.names) in
      let g = after_part store i in
      let otherwise = h.4.second.second in
      both (in_turn (part c ++ block_part t) w) (in_turn (part e) w)
      (line_see store source_map self o root start i (h.0 ∷ h.1 ∷ []) (part c ++ block_part t) y w
      (lined-append store source_map self (part_lined store source_map self i.0 rs c h.0 h.4.left lower.0 h.4.first)
      (block_lined store source_map self i.0 rs t h.1 h.4.second.left lower.1.0 h.4.second.first))
      (λ d z less among. step store source_map self o root start i f w a found d z less
      (among_left d z (placed_each store g (h.0 ∷ h.1 ∷ []) y) (placed_option store g h.2 x) among))
      (within_empty store source_map self o root start x w a.same))
      (line_see store source_map self o root start i (option_to_list h.2) (part e) x w
      (present_lined store source_map self i.0 rs e h.2 otherwise.left lower.1.1 otherwise.first)
      (λ d z less among. step store source_map self o root start i f w a found d z less
      (among_right d z (placed_each store g (h.0 ∷ h.1 ∷ []) y) (placed_option store g h.2 x)
      (subst (λ l. Among d z l) (sym (placed_option_is store source_map self o g h.2 x)) among)))
      a.same)

  -- blocks

  contents_at : (ss : Stmts) (e : OptionExpr) (rs : Open) (i : ExprId) (is_unsafe : Bool) (label : Option LabelId) (number : Option BlockId)
      (kept : List Statement) (last : Option ExprId) (r : List Statement × Option ExprId) (ms : List Mapping) (w : Where)
      → slice_get store.exprs i.0 ≡ Some (hir.Block is_unsafe label number r.0 r.1)
      → BlockContents (gives_value ss (is_left e)) kept last r
      → CorrespondsContents store source_map rs ss (λ around u. CorrespondsKept store source_map around e u) kept last ms
      → StandsAt i w → All (contents ss e w)
  contents_at ss e rs i is_unsafe label number kept last r ms w found holds h a =
      let f : StoredExpr = hir.Block is_unsafe label number r.0 r.1 in
      let x = a.spot in
      let y : Spot = record { names = block_scope number label ∷ x.names; items = block_items number x.items } in
      block_see store source_map self o root start ss e i rs kept last r ms y w holds h (o.parts i f found) (o.patterns_there i f found)
      (λ c z less among. step store source_map self o root start i f w a found c z less among)
      (record { names = a.same.names; items = items_same store source_map self o number x.items w.items a.same.items })

  pub block_at : (rs : Open) (at : Pointer) (is_unsafe : Bool) (label : Option tree.Label) (k : tree.IsWrittenLabel label)
      (number : Option BlockId) (ss : Stmts) (e : OptionExpr) (i : ExprId) (ms : List Mapping) (w : Where)
      → Corresponds store source_map rs (tree.block_expr (tree.block at is_unsafe label k number ss e)) i ms → StandsAt i w
      → All (contents ss e w)
  block_at rs at is_unsafe None k number ss e i ms w h a =
      contents_at ss e rs i is_unsafe None number h.0 h.1 h.2 h.5.left w h.4.stored h.3 h.5.first a
  block_at rs at is_unsafe (Some l) k number ss e i ms w h a =
      let b = h.2.second in
      contents_at ss e (opened l h.0 rs) i is_unsafe (Some h.0) number b.0 b.1 b.2 b.5.left w b.4.stored b.3 b.5.first a

  -- a form with one part in a scope of its own
  wrap_see : (i b : ExprId) (f : StoredExpr) (es : List Expr) (y : Spot) (w v : Where) (a : StandsAt i w)
      → slice_get store.exprs i.0 ≡ Some f
      → placed store (after_part store i) f a.spot ≡ (b, y) ∷ [] → Lined store source_map self i.0 (b ∷ []) es
      → SameAt store source_map self y v → All (in_turn es v)
  wrap_see i b f es y w v a found are lined same = line_see store source_map self o root start i (b ∷ []) es y v lined
      (λ c z less among. step store source_map self o root start i f w a found c z less (subst (λ l. Among c z l) (sym are) among)) same

  loop_at : (rs : Open) (b : OptionBlock) (i x : ExprId) (n : Option LabelId) (source : LoopSource) (ms : List Mapping) (w : Where)
      → slice_get store.exprs i.0 ≡ Some (hir.Loop x n source) → CorrespondsBlockPart store source_map rs b x ms → StandsAt i w
      → All (in_turn (block_part b) w)
  loop_at rs b i x n source ms w found h a =
      wrap_see i x (hir.Loop x n source) (block_part b) (in_scope a.spot (loop_scope n ∷ a.spot.names)) w w a found refl
      (block_lined store source_map self i.0 rs b x ms (o.parts i (hir.Loop x n source) found).0 h)
      (record { names = a.same.names; items = a.same.items })

  pub loop_see : (rs : Open) (at : Pointer) (label : Option tree.Label) (k : tree.IsWrittenLabel label) (b : OptionBlock) (i : ExprId)
      (ms : List Mapping) (w : Where) → Corresponds store source_map rs (tree.loop_expr at label k b) i ms → StandsAt i w
      → All (in_turn (block_part b) w)
  loop_see rs at None k b i ms w h a = loop_at rs b i h.0 None _ h.2.left w h.1.stored h.2.first a
  loop_see rs at (Some l) k b i ms w h a =
      let x = h.2.second in
      loop_at (opened l h.0 rs) b i x.0 (Some h.0) _ x.2.left w x.1.stored x.2.first a

  -- `while`

  condition_see : (rs : Open) (at : Pointer) (holds : Bool) (c : OptionExpr) (b : OptionBlock) (it x y out : ExprId) (ms ns : List Mapping)
      (w : Where) → holds_let c ≡ holds → slice_get store.exprs it.0 ≡ Some (hir.If x y (Some out))
      → CorrespondsCondition store source_map at holds (λ z. CorrespondsPart store source_map rs c z) x ms
      → CorrespondsBlockPart store source_map rs b y ns → StandsAt it w
      → All (in_turn (part c) w ++ in_turn (block_part b) (behind_condition c w))
  condition_see rs at true c b it x y out ms ns w holds found h k a =
      let f : StoredExpr = hir.If x y (Some out) in
      let g = after_part store it in
      let lower = o.parts it f found in
      let s : Spot = in_scope a.spot (binding_scope [] ∷ a.spot.names) in
      subst (λ t. All (in_turn (part c) w ++ in_turn (block_part b) (if t then behind_part c w else w))) (sym holds)
      (subst (λ l. All l) (in_turn_part c (block_part b) w)
      (line_see store source_map self o root start it (x ∷ y ∷ []) (part c ++ block_part b) s w
      (lined-append store source_map self (part_lined store source_map self it.0 rs c x ms lower.0 h)
      (block_lined store source_map self it.0 rs b y ns lower.1.0 k))
      (λ d z less among. step store source_map self o root start it f w a found d z less
      (among_left d z (placed_each store g (x ∷ y ∷ []) s) (placed_option store g (Some out) a.spot) among))
      (within_empty store source_map self o root start a.spot w a.same)))
  condition_see rs at false c b it x y out ms ns w holds found h k a =
      let f : StoredExpr = hir.If x y (Some out) in
      let g = after_part store it in
      let lower = o.parts it f found in
      let s : Spot = in_scope a.spot (binding_scope [] ∷ a.spot.names) in
      let same = within_empty store source_map self o root start a.spot w a.same in
      let made = h.4.second.second.second.0.stored in
      let block : StandsAt x w = go_in it x f w w a found lower.0 s (inl refl) same in
      let held : StandsAt h.0 w = go_in x h.0 _ w w block made (o.parts x _ made).0
      (record { names = block_scope None None ∷ block.spot.names; items = block.spot.items }) (inl refl)
      (record { names = block.same.names; items = block.same.items }) in
      let body : StandsAt y w = go_in it y f w w a found lower.1.0 (past store g x s) (inr (inl refl))
      (record {
        names = subst (λ ts. Same store source_map self ts w.names)
            (sym (part_passed store it x s.names (silent_after store source_map self x _ made (λ g ss. refl) s.names))) same.names;
        items = same.items;
      }) in
      subst (λ t. All (in_turn (part c) w ++ in_turn (block_part b) (if t then behind_part c w else w))) (sym holds)
      (both (in_turn (part c) w) (in_turn (block_part b) w)
      (part_see store source_map self o root start rs c h.0 h.4.left w h.4.first held)
      (block_part_see rs b y ns w k body))
    where
      block_part_see : (rs : Open) (b : OptionBlock) (y : ExprId) (ns : List Mapping) (w : Where)
          → CorrespondsBlockPart store source_map rs b y ns → StandsAt y w → All (in_turn (block_part b) w)
      block_part_see rs tree.no_block y ns w k body = tt
      block_part_see rs (tree.some_block b) y ns w k body =
          (arrive store source_map self o root start rs (tree.block_expr b) y ns w k body, tt)

  while_at : (rs : Open) (at : Pointer) (n : Option LabelId) (c : OptionExpr) (b : OptionBlock) (i : ExprId) (ms : List Mapping) (w : Where)
      → CorrespondsWhile store source_map at n
      (λ x. CorrespondsCondition store source_map at (holds_let c) (λ y. CorrespondsPart store source_map rs c y) x)
      (λ x. CorrespondsBlockPart store source_map rs b x) i ms → StandsAt i w
      → All (in_turn (part c) w ++ in_turn (block_part b) (behind_condition c w))
  while_at rs at n c b i ms w h a =
      let it = h.3 in
      let turn : StandsAt it w = go_in i it _ w w a h.4.stored (o.parts i _ h.4.stored).0
      (in_scope a.spot (loop_scope n ∷ a.spot.names)) (inl refl) (record { names = a.same.names; items = a.same.items }) in
      condition_see rs at (holds_let c) c b it h.0 h.1 h.2 h.7.left h.7.second.left w refl h.5.stored h.7.first h.7.second.first turn

  pub while_see : (rs : Open) (at : Pointer) (label : Option tree.Label) (k : tree.IsWrittenLabel label) (c : OptionExpr) (b : OptionBlock)
      (i : ExprId) (ms : List Mapping) (w : Where) → Corresponds store source_map rs (tree.while_expr at label k c b) i ms → StandsAt i w
      → All (in_turn (part c) w ++ in_turn (block_part b) (behind_condition c w))
  while_see rs at None k c b i ms w h a = while_at rs at None c b i ms w h a
  while_see rs at (Some l) k c b i ms w h a = while_at (opened l h.0 rs) at (Some h.0) c b i h.2.right w h.2.second a

  -- `match`

  guarded_see : (rs : Open) (e : OptionExpr) (g : Guard) (p : ExprId) (x : ExprId) (u : Option ExprId) (ms ns : List Mapping)
      (z : Spot) (v : Where)
      → CorrespondsPart store source_map rs e x ms → CorrespondsGuard store source_map rs g u ns
      → EachBelow p.0 (option_to_list u ++ x ∷ [])
      → Inside store source_map self o root start p (placed_guarded store (after_part store p) u x z) → SameAt store source_map self z v
      → All (of_arm e g v)
  guarded_see rs e tree.no_guard p x u ms ns z v h k below ins same =
      let lower = subst (λ t. EachBelow p.0 (option_to_list t ++ x ∷ [])) k.0 below in
      let within = subst (λ t. Inside store source_map self o root start p (placed_guarded store (after_part store p) t x z)) k.0 ins in
      line_see store source_map self o root start p (x ∷ []) (part e) z v
      (part_lined store source_map self p.0 rs e x ms lower.0 h) within same
  guarded_see rs e (tree.guard c) p x u ms ns z v h k below ins same =
      let lower = subst (λ t. EachBelow p.0 (option_to_list t ++ x ∷ [])) k.1 below in
      let within = subst (λ t. Inside store source_map self o root start p (placed_guarded store (after_part store p) t x z)) k.1 ins in
      line_see store source_map self o root start p (k.0 ∷ x ∷ []) (part c ++ part e) (in_scope z (binding_scope [] ∷ z.names)) v
      (lined-append store source_map self (part_lined store source_map self p.0 rs c k.0 ns lower.0 k.2)
      (part_lined store source_map self p.0 rs e x ms lower.1.0 h)) within (within_empty store source_map self o root start z v same)

  arms_see : (arms : Arms) (rs : Open) (p : ExprId) (is : List MatchArm) (ms : List Mapping) (y : Spot) (v : Where)
      → CorrespondsArms store source_map rs arms is ms
      → EachBelow p.0 (flat_map arm_children is) → AllKnown store (map arm_pat is)
      → Inside store source_map self o root start p (flat_map (placed_arm store (after_part store p) y) is)
      → SameAt store source_map self y v → All (of_arms arms v)
  arms_see tree.no_arms rs p is ms y v h below there ins same = tt
  arms_see (tree.more_arms (tree.disabled_arm at by a) arms) rs p is ms y v h below there ins same =
      arms_see arms rs p is ms y v h below there ins same
  arms_see (tree.more_arms (tree.arm top e g) arms) rs p is ms y v h below there ins same =
      let arm : MatchArm = record { pat = h.0; guard = h.2; expr = h.1 } in
      let lower = subst (λ l. EachBelow p.0 (flat_map arm_children l)) h.4 below in
      let known = subst (λ l. AllKnown store (map arm_pat l)) h.4 there in
      let within = subst (λ l. Inside store source_map self o root start p
      (flat_map (placed_arm store (after_part store p) y) l)) h.4 ins in
      let own = h.5.first in
      let z : Spot = in_scope y (pat_scope store h.0 ∷ y.names) in
      let first = placed_guarded store (after_part store p) h.2 h.1 z in
      let later = flat_map (placed_arm store (after_part store p) y) h.3 in
      both (of_arm e g (naming v (with_top top v.names))) (of_arms arms v)
      (guarded_see rs e g p h.1 h.2 own.second.left own.second.right z (naming v (with_top top v.names)) own.second.first own.second.second
      (each_below_left p.0 (arm_children arm) (flat_map arm_children h.3) lower)
      (λ c s less among. within c s less (among_left c s first later among))
      (record {
        names = same_top store source_map self o rs top h.0 own.left known.0 own.first (ribs_of store y.names) v.names same.names;
        items = same.items;
      }))
      (arms_see arms rs p h.3 h.5.right y v h.5.second (each_below_right p.0 (arm_children arm) (flat_map arm_children h.3) lower) known.1
      (λ c s less among. within c s less (among_right c s first later among)) same)

  pub match_see : (rs : Open) (at : Pointer) (e : OptionExpr) (arms : Arms) (i : ExprId) (ms : List Mapping) (w : Where)
      → Corresponds store source_map rs (tree.match_expr at e arms) i ms → StandsAt i w
      → All (in_turn (part e) w ++ of_arms arms (behind_part e w))
  match_see rs at e arms i ms w h a =
      let f : StoredExpr = hir.Match h.0 h.1 in
      let found = h.2.stored in
      let lower = o.parts i f found in
      let x = a.spot in
      let lined = part_lined store source_map self i.0 rs e h.0 h.3.left lower.0 h.3.first in
      both (in_turn (part e) w) (of_arms arms (behind_part e w))
      (line_see store source_map self o root start i (h.0 ∷ []) (part e) x w lined
      (λ c z less among. step store source_map self o root start i f w a found c z less (among_left c z ((h.0, x) ∷ [])
      (flat_map (placed_arm store (after_part store i) (past store (after_part store i) h.0 x)) h.1) among)) a.same)
      (arms_see arms rs i h.1 h.3.second.left (past store (after_part store i) h.0 x) (behind_part e w) h.3.second.first lower.1
      (o.patterns_there i f found) (λ c z less among. step store source_map self o root start i f w a found c z less (inr among))
      (record {
        names = line_same store source_map self o i (h.0 ∷ []) (part e) (lets_of_part e) x.names w.names lined
            (lets_in_part e) a.same.names;
        items = a.same.items;
      }))

  -- constants

  constant_see : (rs : Open) (c : Constant) (p n : ExprId) (ms : List Mapping) (x : Spot) (w : Where)
      → CorrespondsPart store source_map rs (constant_of c) n ms → Sees store root start n (in_constant x)
      → SameAt store source_map self x w
      → All (of_constant c w)
  constant_see rs (tree.constant e) p n ms x w h sees same = part_see store source_map self o root start rs e n ms (where_constant w) h
      (record { spot = in_constant x; sees = sees; same = record { names = same.items; items = same.items } })

  pub repeat_see : (rs : Open) (at : Pointer) (e : OptionExpr) (c : Constant) (i : ExprId) (ms : List Mapping) (w : Where)
      → Corresponds store source_map rs (tree.repeat_expr at e c) i ms → StandsAt i w → All (in_turn (part e) w ++ of_constant c w)
  repeat_see rs at e (tree.constant l) i ms w h a =
      let f : StoredExpr = hir.Array (array.Repeat h.0 h.1) in
      let found = h.2.stored in
      let lower = o.parts i f found in
      let x = a.spot in
      both (in_turn (part e) w) (of_constant (tree.constant l) w)
      (line_see store source_map self o root start i (h.0 ∷ []) (part e) x w
      (part_lined store source_map self i.0 rs e h.0 h.3.left lower.0 h.3.first)
      (λ c z less among. step store source_map self o root start i f w a found c z less (among_left c z ((h.0, x) ∷ [])
      ((h.1.expr, in_constant x) ∷ []) among)) a.same)
      (constant_see (barrier_rib ∷ rs) (tree.constant l) i h.1.expr h.3.second.first.0 x w h.3.second.first.2
      (step store source_map self o root start i f w a found h.1.expr (in_constant x) lower.1.0 (inr (inl refl))) a.same)

  pub const_see : (rs : Open) (at : Pointer) (c : Constant) (i : ExprId) (ms : List Mapping) (w : Where)
      → Corresponds store source_map rs (tree.const_expr at c) i ms → StandsAt i w → All (of_constant c w)
  const_see rs at (tree.constant e) i ms w h a =
      let n = h.2.0 in
      let f : StoredExpr = hir.Const n in
      let found = h.2.1.stored in
      constant_see (barrier_rib ∷ rs) (tree.constant e) i n.expr h.2.2.first.0 a.spot w h.2.2.first.2
      (step store source_map self o root start i f w a found n.expr (in_constant a.spot) (o.parts i f found).0 (inl refl)) a.same

  -- closures and coroutine blocks

  pub closure_see : (rs : Open) (at : Pointer) (moves is_static : Bool) (xs : tree.Params) (t : tree.OptionType) (e : OptionExpr)
      (i : ExprId)
      (ms : List Mapping) (w : Where) → Corresponds store source_map rs (tree.closure_expr at moves is_static xs t e) i ms → StandsAt i w
      → All (in_turn (part e) (naming w (with_tops (params_tops xs) w.names)))
  closure_see rs at moves is_static xs t e i ms w h a =
      let c = h.2 in
      let l = c.0 in
      let found = c.3.stored in
      let x = a.spot in
      let y : Spot = in_scope x (binding_scope (flat_map (bindings_in store) l.0) ∷ x.names) in
      let last = c.4.second.second in
      wrap_see i c.2 _ (part e) y w (naming w (with_tops (params_tops xs) w.names)) a found refl
      (part_lined store source_map self i.0 (barrier_rib ∷ rs) e c.2 last.left (o.parts i _ found).0 last.first)
      (record {
        names = same_params store source_map self o (barrier_rib ∷ rs) xs l c.4.left (o.patterns_there i _ found) c.4.first
            (ribs_of store x.names) w.names
            a.same.names;
        items = a.same.items;
      })

  pub coroutine_see : (rs : Open) (at : Pointer) (kind : CoroutineKind) (moves : Bool) (number : Option BlockId) (ss : Stmts)
      (e : OptionExpr) (i : ExprId)
      (ms : List Mapping) (w : Where) → Corresponds store source_map rs (tree.coroutine_expr at kind moves number ss e) i ms → StandsAt i w
      → All (contents ss e w)
  coroutine_see rs at kind moves number ss e i ms w h a =
      let c = h.2 in
      let body = c.4 in
      let found = c.5.stored in
      let x = a.spot in
      let block : StandsAt body w = go_in i body _ w w a found (o.parts i _ found).0 (in_scope x (binding_scope [] ∷ x.names)) (inl refl)
      (record { names = a.same.names; items = a.same.items }) in
      contents_at ss e (barrier_rib ∷ rs) body false None number c.0 c.1 c.2 c.7.left w c.6.stored c.3 c.7.first block

  -- `?`

  pub question_see : (rs : Open) (at : Pointer) (items : tree.QuestionItems) (e : OptionExpr) (i : ExprId) (ms : List Mapping) (w : Where)
      → Corresponds store source_map rs (tree.question_expr at items e) i ms → StandsAt i w → All (in_turn (part e) w)
  question_see rs at items e i ms w h a =
      let found = h.4.stored in
      let asked : StandsAt h.1 w = go_in i h.1 _ w w a found (o.parts i _ found).0 a.spot (inl refl) a.same in
      plain_see store source_map self o root start h.1 (part e) w
      (item_call_plain store source_map self o at
      (Some items.branch) rs e h.0 h.1 h.5.left h.5.second.left h.5.first h.5.second.first) asked
