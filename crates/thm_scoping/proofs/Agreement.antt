-- Each expression that stands anywhere in a written body has its stored one, which sees the same.
use Rattle.std.proofs.Common.{◌≡◌, refl, sym, subst, inl, inr, List, [], ◌∷◌, Option}
use Rattle.hir_store.specs.Stored.{Store, SourceMap}
use Rattle.hir_store.specs.declared.ids.BindingId.{BindingId}
use Rattle.hir_store.specs.declared.ids.ExprId.{ExprId}
use Rattle.hir_env.specs.ResolvedTree as tree
use Rattle.hir_env.specs.ResolvedTree.{Expr, OptionExpr}
use Rattle.spec_data.specs.Written.{path_of}
use Rattle.spec_scopes.specs.Placed.{Spot, at_root}
use Rattle.spec_scoping.specs.Scoping.{IsAmong, Standing, Stands, Where, as_part, in_turn, inside, part, parts}
use Rattle.thm_body_result.specs.Corresponds.{Corresponds, CorrespondsPart, Open}
use Rattle.thm_body_result.specs.Leads.{Mapping}
use Rattle.thm_scoping.specs.Agree.{ScopesAgree, SeesSame}
use Rattle.thm_scoping.specs.Meant.{SameAt}
use Rattle.thm_scoping.proofs.Orderly.{Orderly, orderly}
use Rattle.thm_scoping.proofs.Fors.{for_see, try_see}
use Rattle.thm_scoping.proofs.Forms.{block_at, closure_see, const_see, coroutine_see, if_see, loop_see, match_see, question_see, repeat_see}
use Rattle.thm_scoping.proofs.Forms.{while_see}
use Rattle.thm_scoping.proofs.Plain.{await_plain, become_plain, binary_plain, break_plain, call_plain, cast_plain, lazy_plain}
use Rattle.thm_scoping.proofs.Plain.{leaving_plain}
use Rattle.thm_scoping.proofs.Plain.{list_plain, method_plain, range_plain, record_plain, unary_plain, yield_plain}
use Rattle.thm_scoping.proofs.Preludes.{coroutine_closure_see}
use Rattle.thm_scoping.proofs.Steps.{AllSee, At, arrive, line_see, part_see, plain_see, step}
use Rattle.thm_scoping.proofs.Lets.{let_see}
use Rattle.thm_scoping.proofs.Targets.{assign_plain}

module _ (store : Store) (source_map : SourceMap) (self : Option BindingId) (o : Orderly store) (root : ExprId) (start : Spot) where
  abbrev All : List Standing → Type 0
  All l = AllSee store source_map self o root start l

  abbrev StandsAt : ExprId → Where → Type 0
  StandsAt i w = At store source_map self o root start i w

  parts_see : (e : Expr) (rs : Open) (i : ExprId) (ms : List Mapping) (w : Where)
      → Corresponds store source_map rs e i ms → StandsAt i w → All (parts e w)
  parts_see (tree.disabled_expr why e) rs i ms w h a = tt
  parts_see (tree.if_expr at c t e) rs i ms w h a = if_see store source_map self o root start rs at c t e i ms w h a
  parts_see (tree.block_expr (tree.block at is_unsafe label k number ss e)) rs i ms w h a =
      block_at store source_map self o root start rs at is_unsafe label k number ss e i ms w h a
  parts_see (tree.loop_expr at label k b) rs i ms w h a = loop_see store source_map self o root start rs at label k b i ms w h a
  parts_see (tree.while_expr at label k c b) rs i ms w h a = while_see store source_map self o root start rs at label k c b i ms w h a
  parts_see (tree.for_expr at items label k p head b) rs i ms w h a =
      for_see store source_map self o root start rs at items label k p head b i ms w h a
  parts_see (tree.question_expr at items e) rs i ms w h a = question_see store source_map self o root start rs at items e i ms w h a
  parts_see (tree.itemless_expr at) rs i ms w h a = tt
  parts_see (tree.try_expr at item t number ss e) rs i ms w h a =
      try_see store source_map self o root start rs at item t number ss e i ms w h a
  parts_see (tree.coroutine_expr at kind moves number ss e) rs i ms w h a =
      coroutine_see store source_map self o root start rs at kind moves number ss e i ms w h a
  parts_see (tree.call_expr at f has_list es) rs i ms w h a =
      plain_see store source_map self o root start i _ w (call_plain store source_map self o at f has_list es rs i ms h) a
  parts_see (tree.path_expr at p hygiene) rs i ms w h a = tt
  parts_see (tree.continue_expr at jump) rs i ms w h a = tt
  parts_see (tree.break_expr at jump e) rs i ms w h a =
      plain_see store source_map self o root start i _ w (break_plain store source_map self o at jump e rs i ms h) a
  parts_see (tree.paren_expr at e) rs i ms w h a = part_see store source_map self o root start rs e i h.left w h.first a
  parts_see (tree.macro_expr at called tree.no_expr) rs i ms w h a = tt
  parts_see (tree.macro_expr at called (tree.some_expr e)) rs i ms w h a =
      (arrive store source_map self o root start rs e i h.left w h.first a, tt)
  parts_see (tree.literal_expr at l) rs i ms w h a = tt
  parts_see (tree.leaf_expr at form) rs i ms w h a = tt
  parts_see (tree.unary_expr at form e) rs i ms w h a = plain_see store source_map self o root start i _ w
      (unary_plain store source_map self o form rs e i h.0 h.2.left h.1.stored h.2.first) a
  parts_see (tree.binary_expr at form b c) rs i ms w h a = plain_see store source_map self o root start i _ w
      (binary_plain store source_map self o form rs b c i h.0 h.1 h.3.left h.3.second.left h.2.stored h.3.first h.3.second.first) a
  parts_see (tree.lazy_expr at op b c) rs i ms w h a = plain_see store source_map self o root start i _ w
      (lazy_plain store source_map self o op rs b c i h.0 h.1 h.3.left h.3.second.left h.2.stored h.3.first h.3.second.first) a
  parts_see (tree.list_expr at form es) rs i ms w h a =
      plain_see store source_map self o root start i _ w (list_plain store source_map self o at form es rs i ms h) a
  parts_see (tree.repeat_expr at e c) rs i ms w h a = repeat_see store source_map self o root start rs at e c i ms w h a
  parts_see (tree.const_expr at c) rs i ms w h a = const_see store source_map self o root start rs at c i ms w h a
  parts_see (tree.closure_expr at moves is_static xs t e) rs i ms w h a =
      closure_see store source_map self o root start rs at moves is_static xs t e i ms w h a
  parts_see (tree.coroutine_closure_expr at kind moves xs t e) rs i ms w h a =
      coroutine_closure_see store source_map self o root start rs at kind moves xs t e i ms w h a
  parts_see (tree.method_call_expr at e name es generics) rs i ms w h a =
      plain_see store source_map self o root start i _ w (method_plain store source_map self o at e name es generics rs i ms h) a
  parts_see (tree.cast_expr at e t) rs i ms w h a =
      plain_see store source_map self o root start i _ w (cast_plain store source_map self o at e t rs i ms h) a
  parts_see (tree.record_expr at p head fs s) rs i ms w h a =
      plain_see store source_map self o root start i _ w (record_plain store source_map self o at (path_of p) fs s rs i h.right h.second) a
  parts_see (tree.offset_of_expr at t names) rs i ms w h a = tt
  parts_see (tree.leaving_expr at form e) rs i ms w h a = plain_see store source_map self o root start i _ w
      (leaving_plain store source_map self o form rs e i h.0 h.2.left h.1.stored h.2.first) a
  parts_see (tree.become_expr at e) rs i ms w h a =
      plain_see store source_map self o root start i _ w (become_plain store source_map self o at e rs i ms h) a
  parts_see (tree.yield_expr at e) rs i ms w h a =
      plain_see store source_map self o root start i _ w (yield_plain store source_map self o at e rs i ms h) a
  parts_see (tree.await_expr at location e) rs i ms w h a =
      plain_see store source_map self o root start i _ w (await_plain store source_map self o at location e rs i ms h) a
  parts_see (tree.nameless_expr at e) rs i ms w h a = tt
  parts_see (tree.let_expr at p e) rs i ms w h a = let_see store source_map self o root start rs at p e i ms w h a
  parts_see (tree.match_expr at e arms) rs i ms w h a = match_see store source_map self o root start rs at e arms i ms w h a
  parts_see (tree.range_expr at form low high) rs i ms w h a =
      plain_see store source_map self o root start i _ w (range_plain store source_map self o at form low high rs i ms h) a
  parts_see (tree.assign_expr at own t e) rs i ms w h a =
      plain_see store source_map self o root start i _ w (assign_plain store source_map self o at own t e rs i ms h) a

  seen_among : (l : List Standing) (e : Expr) (w : Where) → All l → IsAmong (e, w) l → SeesSame store source_map self root start e w
  seen_among [] e w all among = absurd among
  seen_among (s ∷ l) e w all (inl k) = subst (λ (t : Standing). SeesSame store source_map self root start t.0 t.1) (sym k) all.0
  seen_among (s ∷ l) e w all (inr k) = seen_among l e w all.1 k

  pub all_see : (body : OptionExpr) (outside : Where) (rs : Open) (ms : List Mapping) → CorrespondsPart store source_map rs body root ms
      → SameAt store source_map self start outside → (e : Expr) (w : Where) → Stands body outside e w
      → SeesSame store source_map self root start e w
  all_see body outside rs ms h same e w (as_part among) = seen_among (in_turn (part body) outside) e w
      (part_see store source_map self o root start rs body root ms outside h (record { spot = start; sees = at_root; same = same })) among
  all_see body outside rs ms h same e w (inside {e = d} {w = v} stands among) =
      let found = all_see body outside rs ms h same d v stands in
      seen_among (parts d v) e w (parts_see d found.around found.id found.mappings v found.corresponds
      (record { spot = found.spot; sees = found.sees; same = found.same })) among

pub scopes_agree : ScopesAgree
scopes_agree store source_map self range whole nothing around e root ms h start outside same c w stands =
    all_see store source_map self (orderly store range whole nothing) root start e outside around ms h same c w stands
