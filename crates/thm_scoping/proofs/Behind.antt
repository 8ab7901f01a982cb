-- What is in scope behind a stored expression is what is in scope behind the written one.
use Rattle.std.proofs.Common.{◌≡◌, ◌∙◌, refl, sym, ap, subst, ◌<◌, Bool, true, false, List, [], ◌∷◌, ◌++◌, append-nil, length}
use Rattle.std.proofs.Common.{Option, Some, None, option_to_list, slice_get}
use Rattle.std.specs.List.{flat_map}
use Rattle.hir_store.specs.Children.{children}
use Rattle.hir_store.specs.Pointers.{Pointer}
use Rattle.hir_store.specs.Stored.{Store, SourceMap}
use Rattle.hir_store.specs.declared.hir.Array.TheVariants as array
use Rattle.hir_store.specs.declared.hir.Expr.{Expr as StoredExpr}
use Rattle.hir_store.specs.declared.hir.Expr.TheVariants as hir
use Rattle.hir_store.specs.declared.ids.BindingId.{BindingId}
use Rattle.hir_store.specs.declared.ids.ExprId.{ExprId}
use Rattle.hir_env.specs.ResolvedTree as tree
use Rattle.hir_env.specs.ResolvedTree.{Expr, Exprs, Fields, OptionExpr, OptionPat, RangeForm, Spread, Target, TargetFields, Targets}
use Rattle.hir_lower_scope.specs.ScopeRibs.{Rib}
use Rattle.spec_data.specs.Patterns.{if_path}
use Rattle.spec_data.specs.Rule.{PathRead}
use Rattle.spec_data.specs.Tops.{Tops}
use Rattle.spec_data.specs.Written.{path_of}
use Rattle.spec_scopes.specs.Placed.{after, after_each, after_form, after_option, after_part}
use Rattle.spec_scopes.specs.Scopes.{Scopes, pat_scope, ribs_of}
use Rattle.spec_scoping.specs.Bound.{InScope, with_each, with_top}
use Rattle.spec_scoping.specs.Scoping.{elements, ends, field_values, is_enabled, lets, lets_of_each, lets_of_fields, lets_of_part}
use Rattle.spec_scoping.specs.Scoping.{lets_of_places, lets_of_rest, lets_of_target_fields, lets_of_targets, of_ends, operands, part}
use Rattle.spec_scoping.specs.Scoping.{places, places_of_each, places_of_fields, rest_of}
use Rattle.thm_body_result.specs.Corresponds.{Corresponds, CorrespondsPart, CorrespondsPresent, Open}
use Rattle.thm_body_result.specs.Leads.{Mapping}
use Rattle.thm_scoping.proofs.Named.{EachBelow}
use Rattle.thm_scoping.proofs.Orderly.{Orderly}
use Rattle.thm_scoping.proofs.Afters.{after_is, option_is, part_is}
use Rattle.thm_scoping.proofs.Operands.{BehindSame, EachBehind, Lined, Plain, Same, behind_if, each-behind-append, each_behind}
use Rattle.thm_scoping.proofs.Operands.{lets_in_both, lets_in_elements, lets_in_fields, lets_in_part, lets_in_rest, part_lined}
use Rattle.thm_scoping.proofs.Operands.{plain_behind}
use Rattle.thm_scoping.proofs.Operands.{present_lined, silent_behind, with_each-append}
use Rattle.thm_scoping.proofs.Plain.{await_plain, become_plain, binary_plain, break_plain, call_plain, cast_plain, item_call_plain}
use Rattle.thm_scoping.proofs.Plain.{lazy_plain}
use Rattle.thm_scoping.proofs.Plain.{leaf_plain, leaving_plain, list_plain, method_plain, missing_plain, path_plain, range_plain}
use Rattle.thm_scoping.proofs.Plain.{record_plain}
use Rattle.thm_scoping.proofs.Plain.{silent_plain, unary_plain, yield_plain}
use Rattle.thm_scoping.proofs.Targets.{assign_plain}
use Rattle.thm_scoping.proofs.Tops.{same_top}

lets_in_ends : (form : RangeForm) (low high : OptionExpr)
    → flat_map lets (ends form low high) ≡ of_ends form (lets_of_part low) (lets_of_part high)
lets_in_ends (tree.record_range item last) low high = lets_in_both (part low) (part high) _ _ (lets_in_part low) (lets_in_part high)
lets_in_ends (tree.call_range item) low high = lets_in_both (part low) (part high) _ _ (lets_in_part low) (lets_in_part high)
lets_in_ends tree.itemless_range low high = refl

lets_in_record : (q : Option PathRead) (fs : Fields) (s : Spread)
    → flat_map lets (if_path q (λ _. field_values fs ++ rest_of s) []) ≡ if_path q (λ _. lets_of_fields fs ++ lets_of_rest s) []
lets_in_record None fs s = refl
lets_in_record (Some q) fs s = lets_in_both (field_values fs) (rest_of s) _ _ (lets_in_fields fs) (lets_in_rest s)

lets_if_path : (q : Option PathRead) (es : List Expr) (ps : Tops) → flat_map lets es ≡ ps
    → flat_map lets (if_path q (λ _. es) []) ≡ if_path q (λ _. ps) []
lets_if_path None es ps e = refl
lets_if_path (Some q) es ps e = e

mutual
  lets_in_places : (t : Target) → flat_map lets (places t) ≡ lets_of_places t
  lets_in_places (tree.absent_target call) = refl
  lets_in_places (tree.place_target at e) = append-nil (lets e)
  lets_in_places (tree.macro_target at called t) = lets_in_places t
  lets_in_places (tree.wild_target at) = refl
  lets_in_places (tree.path_target at p h) = refl
  lets_in_places (tree.tuple_target at ts) = lets_in_targets ts
  lets_in_places (tree.call_target at p ts) = lets_if_path (path_of p) (places_of_each ts) (lets_of_targets ts) (lets_in_targets ts)
  lets_in_places (tree.array_target at before dots behind) =
      lets_in_both (places_of_each before) (places_of_each behind) _ _ (lets_in_targets before) (lets_in_targets behind)
  lets_in_places (tree.record_target at p fs dots spread) =
      lets_if_path (path_of p) (places_of_fields fs) (lets_of_target_fields fs) (lets_in_target_fields fs)

  lets_in_targets : (ts : Targets) → flat_map lets (places_of_each ts) ≡ lets_of_targets ts
  lets_in_targets tree.no_targets = refl
  lets_in_targets (tree.more_targets t ts) = lets_in_both (places t) (places_of_each ts) _ _ (lets_in_places t) (lets_in_targets ts)
  lets_in_targets (tree.dots_targets ts) = lets_in_targets ts
  lets_in_targets (tree.tracked_targets called ts) = lets_in_targets ts

  lets_in_target_fields : (fs : TargetFields) → flat_map lets (places_of_fields fs) ≡ lets_of_target_fields fs
  lets_in_target_fields tree.no_target_fields = refl
  lets_in_target_fields (tree.more_target_fields (tree.target_field at (Some n) t) fs) =
      lets_in_both (places t) (places_of_fields fs) _ _ (lets_in_places t) (lets_in_target_fields fs)
  lets_in_target_fields (tree.more_target_fields (tree.target_field at None t) fs) = lets_in_target_fields fs
  lets_in_target_fields (tree.more_target_fields (tree.disabled_target_field at by) fs) = lets_in_target_fields fs
  lets_in_target_fields (tree.more_target_fields tree.partless_target_field fs) = lets_in_target_fields fs

module _ (store : Store) (source_map : SourceMap) (self : Option BindingId) (o : Orderly store) where
  abbrev Behinds : List Expr → Type 0
  Behinds es = EachBehind store source_map self es

  -- a form behind which stands what stands behind some operands in line
  line_behind : (i : ExprId) (f : StoredExpr) (is : List ExprId) (es : List Expr) (ps : Tops) → slice_get store.exprs i.0 ≡ Some f
      → ((g : ExprId → Scopes → Scopes) (ss : Scopes) → after_form store g f ss ≡ after_each store g is ss)
      → Lined store source_map self i.0 is es → Behinds es → flat_map lets es ≡ ps
      → (ss : Scopes) (ns : InScope) → Same store source_map self ss ns → Same store source_map self (after store i ss) (with_each ps ns)
  line_behind i f is es ps found after_it lined holds same ss ns h =
      subst (λ l. Same store source_map self (after store i ss) (with_each l ns)) same
      (subst (λ ts. Same store source_map self ts (with_each (flat_map lets es) ns))
      (sym (after_is store i f found ss ∙ after_it (after_part store i) ss))
      (each_behind store source_map self i is es ss ns lined holds h))

  -- a form behind which stands what stands behind its first part
  first_behind : (i b : ExprId) (f : StoredExpr) (ms : InScope) → slice_get store.exprs i.0 ≡ Some f → b.0 < i.0
      → ((g : ExprId → Scopes → Scopes) (ss : Scopes) → after_form store g f ss ≡ g b ss)
      → (ss : Scopes) → Same store source_map self (after store b ss) ms → Same store source_map self (after store i ss) ms
  first_behind i b f ms found less after_it ss h = subst (λ ts. Same store source_map self ts ms)
      (sym (after_is store i f found ss ∙ (after_it (after_part store i) ss ∙ part_is store i b ss less))) h

  plain : (i : ExprId) (es : List Expr) (ps : Tops) → Plain store source_map self i es → Behinds es → flat_map lets es ≡ ps
      → (ss : Scopes) (ns : InScope) → Same store source_map self ss ns → Same store source_map self (after store i ss) (with_each ps ns)
  plain i es ps p holds same ss ns h = plain_behind store source_map self i es ps p holds same ss ns h

  silent : (i : ExprId) (f : StoredExpr) → slice_get store.exprs i.0 ≡ Some f
      → ((g : ExprId → Scopes → Scopes) (ss : Scopes) → after_form store g f ss ≡ ss)
      → (ss : Scopes) (ns : InScope) → Same store source_map self ss ns → Same store source_map self (after store i ss) ns
  silent i f found after_it ss ns h = silent_behind store source_map self i f found after_it ss ns h

  both : (es fs : List Expr) → Behinds es → Behinds fs → Behinds (es ++ fs)
  both es fs p q = each-behind-append store source_map self es fs p q

  if_read : (q : Option PathRead) (es : List Expr) → Behinds es → Behinds (if_path q (λ _. es) [])
  if_read None es h = tt
  if_read (Some q) es h = h

  if_there : (form : RangeForm) (low high : OptionExpr) → Behinds (part low) → Behinds (part high) → Behinds (ends form low high)
  if_there (tree.record_range item last) low high p q = both (part low) (part high) p q
  if_there (tree.call_range item) low high p q = both (part low) (part high) p q
  if_there tree.itemless_range low high p q = tt

  let_behind : (at : Pointer) (p : OptionPat) (e : OptionExpr) → Behinds (part e) → BehindSame store source_map self (tree.let_expr at p e)
  let_behind at p e holds rs i ms ss ns h same =
      let q = h.0 in
      let x = h.1 in
      let f : StoredExpr = hir.Let q x in
      let lower = (o.parts i f h.2.stored).0 in
      let there = (o.patterns_there i f h.2.stored).0 in
      let outer = with_each (flat_map lets (part e)) ns in
      let inner : Same store source_map self (after_part store i x ss) outer = each_behind store source_map self i (x ∷ []) (part e) ss ns
      (part_lined store source_map self i.0 rs e x h.3.second.left lower h.3.second.first) holds same in
      let all = with_each-append (lets_of_part e) (p ∷ []) ns ∙ ap (λ l. with_top p (with_each l ns)) (sym (lets_in_part e)) in
      subst (λ l. Same store source_map self (after store i ss) l) (sym all)
      (subst (λ ts. Same store source_map self ts (with_top p outer)) (sym (after_is store i f h.2.stored ss))
      (same_top store source_map self o rs p q h.3.left there h.3.first (ribs_of store (after_part store i x ss)) outer inner))

  mutual
    pub behind_same : (e : Expr) → BehindSame store source_map self e
    behind_same (tree.disabled_expr why e) rs i ms ss ns h same = silent i hir.Missing h.0.stored (λ g ts. refl) ss ns same
    behind_same (tree.if_expr at c t e) rs i ms ss ns h same =
        let f : StoredExpr = hir.If h.0 h.1 h.2 in
        line_behind i f (option_to_list h.2) (part e) (lets_of_part e) h.3.stored (λ g ts. option_is store g h.2 ts)
        (present_lined store source_map self i.0 rs e h.2 h.4.second.second.left (o.parts i f h.3.stored).1.1 h.4.second.second.first)
        (part_holds e) (lets_in_part e) ss ns same
    behind_same (tree.block_expr (tree.block at is_unsafe None _ number statements e)) rs i ms ss ns h same =
        silent i _ h.4.stored (λ g ts. refl) ss ns same
    behind_same (tree.block_expr (tree.block at is_unsafe (Some l) _ number statements e)) rs i ms ss ns h same =
        silent i _ h.2.second.4.stored (λ g ts. refl) ss ns same
    behind_same (tree.loop_expr at None _ b) rs i ms ss ns h same = silent i _ h.1.stored (λ g ts. refl) ss ns same
    behind_same (tree.loop_expr at (Some l) _ b) rs i ms ss ns h same = silent i _ h.2.second.1.stored (λ g ts. refl) ss ns same
    behind_same (tree.while_expr at None _ c b) rs i ms ss ns h same = silent i _ h.4.stored (λ g ts. refl) ss ns same
    behind_same (tree.while_expr at (Some l) _ c b) rs i ms ss ns h same = silent i _ h.2.second.4.stored (λ g ts. refl) ss ns same
    behind_same (tree.for_expr at items label _ p head b) rs i ms ss ns h same =
        first_behind i h.1 _ (with_each (lets_of_part head) ns) h.6.stored (o.parts i _ h.6.stored).0 (λ g ts. refl) ss
        (plain h.1 (part head) (lets_of_part head) (item_call_plain store source_map self o _ (Some items.into_iter) rs head h.0 h.1
        h.7.left h.7.second.left h.7.first h.7.second.first) (part_holds head) (lets_in_part head) ss ns same)
    behind_same (tree.question_expr at items e) rs i ms ss ns h same =
        first_behind i h.1 _ (with_each (lets_of_part e) ns) h.4.stored (o.parts i _ h.4.stored).0 (λ g ts. refl) ss
        (plain h.1 (part e) (lets_of_part e) (item_call_plain store source_map self o at (Some items.branch) rs e h.0 h.1
        h.5.left h.5.second.left h.5.first h.5.second.first) (part_holds e) (lets_in_part e) ss ns same)
    behind_same (tree.itemless_expr at) rs i ms ss ns h same = silent i hir.Missing h.0.stored (λ g ts. refl) ss ns same
    behind_same (tree.try_expr at item tree.no_type number statements e) rs i ms ss ns h same = silent i _ h.8.stored
        (λ g ts. refl) ss ns same
    behind_same (tree.try_expr at item (tree.some_type t) number statements e) rs i ms ss ns h same =
        silent i _ h.5.second.second.second.second.0.stored (λ g ts. refl) ss ns same
    behind_same (tree.coroutine_expr at kind moves number statements e) rs i ms ss ns h same = silent i _ h.2.5.stored
        (λ g ts. refl) ss ns same
    behind_same (tree.call_expr at f has_list es) rs i ms ss ns h same =
        plain i (part f ++ elements es) _ (call_plain store source_map self o at f has_list es rs i ms h)
        (both (part f) (elements es) (part_holds f) (each_holds es))
        (lets_in_both (part f) (elements es) _ _ (lets_in_part f) (lets_in_elements es)) ss ns same
    behind_same (tree.path_expr at p hygiene) rs i ms ss ns h same =
        plain i [] [] (path_plain store source_map self o at (path_of p) hygiene i h.right h.second) tt refl ss ns same
    behind_same (tree.continue_expr at jump) rs i ms ss ns h same = silent i _ h.0.stored (λ g ts. refl) ss ns same
    behind_same (tree.break_expr at jump e) rs i ms ss ns h same =
        plain i (part e) _ (break_plain store source_map self o at jump e rs i ms h) (part_holds e) (lets_in_part e) ss ns same
    behind_same (tree.paren_expr at e) rs i ms ss ns h same = part_same e rs i h.left ss ns h.first same
    behind_same (tree.macro_expr at called tree.no_expr) rs i ms ss ns h same = silent i hir.Missing h.0.stored (λ g ts. refl) ss ns same
    behind_same (tree.macro_expr at called (tree.some_expr e)) rs i ms ss ns h same = behind_same e rs i h.left ss ns h.first same
    behind_same (tree.literal_expr at l) rs i ms ss ns h same = silent i _ h.2.0.stored (λ g ts. refl) ss ns same
    behind_same (tree.leaf_expr at form) rs i ms ss ns h same =
        plain i [] [] (leaf_plain store source_map self o form i h.0.stored) tt refl ss ns same
    behind_same (tree.unary_expr at form e) rs i ms ss ns h same =
        plain i (part e) _ (unary_plain store source_map self o form rs e i h.0 h.2.left h.1.stored h.2.first) (part_holds e)
        (lets_in_part e)
        ss ns same
    behind_same (tree.binary_expr at form a b) rs i ms ss ns h same =
        plain i (part a ++ part b) _
        (binary_plain store source_map self o form rs a b i h.0 h.1 h.3.left h.3.second.left h.2.stored h.3.first
        h.3.second.first) (both (part a) (part b) (part_holds a) (part_holds b))
        (lets_in_both (part a) (part b) _ _ (lets_in_part a) (lets_in_part b)) ss ns same
    behind_same (tree.lazy_expr at op a b) rs i ms ss ns h same =
        plain i (part a ++ part b) _ (lazy_plain store source_map self o op rs a b i h.0 h.1 h.3.left h.3.second.left h.2.stored h.3.first
        h.3.second.first) (both (part a) (part b) (part_holds a) (part_holds b))
        (lets_in_both (part a) (part b) _ _ (lets_in_part a) (lets_in_part b)) ss ns same
    behind_same (tree.list_expr at form es) rs i ms ss ns h same =
        plain i (elements es) _ (list_plain store source_map self o at form es rs i ms h) (each_holds es) (lets_in_elements es) ss ns same
    behind_same (tree.repeat_expr at e c) rs i ms ss ns h same =
        let f : StoredExpr = hir.Array (array.Repeat h.0 h.1) in
        line_behind i f (h.0 ∷ []) (part e) (lets_of_part e) h.2.stored (λ g ts. refl)
        (part_lined store source_map self i.0 rs e h.0 h.3.left (o.parts i f h.2.stored).0 h.3.first) (part_holds e)
        (lets_in_part e) ss ns same
    behind_same (tree.const_expr at c) rs i ms ss ns h same = silent i _ h.2.1.stored (λ g ts. refl) ss ns same
    behind_same (tree.closure_expr at moves is_static xs t e) rs i ms ss ns h same = silent i _ h.2.3.stored (λ g ts. refl) ss ns same
    behind_same (tree.coroutine_closure_expr at kind moves xs t e) rs i ms ss ns h same = silent i _ h.2.8.stored (λ g ts. refl) ss ns same
    behind_same (tree.method_call_expr at e name es generics) rs i ms ss ns h same =
        plain i (part e ++ elements es) _ (method_plain store source_map self o at e name es generics rs i ms h)
        (both (part e) (elements es) (part_holds e) (each_holds es))
        (lets_in_both (part e) (elements es) _ _ (lets_in_part e) (lets_in_elements es)) ss ns same
    behind_same (tree.cast_expr at e t) rs i ms ss ns h same =
        plain i (part e) _ (cast_plain store source_map self o at e t rs i ms h) (part_holds e) (lets_in_part e) ss ns same
    behind_same (tree.record_expr at p head fs s) rs i ms ss ns h same =
        plain i (if_path (path_of p) (λ _. field_values fs ++ rest_of s) []) _
        (record_plain store source_map self o at (path_of p) fs s rs i h.right h.second)
        (if_read (path_of p) (field_values fs ++ rest_of s) (both (field_values fs) (rest_of s) (fields_hold fs) (rest_holds s)))
        (lets_in_record (path_of p) fs s) ss ns same
    behind_same (tree.offset_of_expr at t names) rs i ms ss ns h same = silent i _ h.1.stored (λ g ts. refl) ss ns same
    behind_same (tree.leaving_expr at form e) rs i ms ss ns h same =
        plain i (part e) _ (leaving_plain store source_map self o form rs e i h.0 h.2.left h.1.stored h.2.first) (part_holds e)
        (lets_in_part e)
        ss ns same
    behind_same (tree.become_expr at e) rs i ms ss ns h same =
        plain i (part e) _ (become_plain store source_map self o at e rs i ms h) (part_holds e) (lets_in_part e) ss ns same
    behind_same (tree.yield_expr at e) rs i ms ss ns h same =
        plain i (part e) _ (yield_plain store source_map self o at e rs i ms h) (part_holds e) (lets_in_part e) ss ns same
    behind_same (tree.await_expr at location e) rs i ms ss ns h same =
        plain i (part e) _ (await_plain store source_map self o at location e rs i ms h) (part_holds e) (lets_in_part e) ss ns same
    behind_same (tree.nameless_expr at e) rs i ms ss ns h same = silent i hir.Missing h.1.stored (λ g ts. refl) ss ns same
    behind_same (tree.let_expr at p e) rs i ms ss ns h same = let_behind at p e (part_holds e) rs i ms ss ns h same
    behind_same (tree.match_expr at e arms) rs i ms ss ns h same =
        let f : StoredExpr = hir.Match h.0 h.1 in
        line_behind i f (h.0 ∷ []) (part e) (lets_of_part e) h.2.stored (λ g ts. refl)
        (part_lined store source_map self i.0 rs e h.0 h.3.left (o.parts i f h.2.stored).0 h.3.first) (part_holds e)
        (lets_in_part e) ss ns same
    behind_same (tree.range_expr at form low high) rs i ms ss ns h same =
        plain i (ends form low high) _ (range_plain store source_map self o at form low high rs i ms h)
        (if_there form low high (part_holds low) (part_holds high)) (lets_in_ends form low high) ss ns same
    behind_same (tree.assign_expr at own t e) rs i ms ss ns h same =
        plain i (places t ++ part e) _ (assign_plain store source_map self o at own t e rs i ms h)
        (both (places t) (part e) (places_hold t) (part_holds e))
        (lets_in_both (places t) (part e) _ _ (lets_in_places t) (lets_in_part e)) ss ns same

    part_same : (e : OptionExpr) (rs : Open) (i : ExprId) (ms : List Mapping) (ss : Scopes) (ns : InScope)
        → CorrespondsPart store source_map rs e i ms → Same store source_map self ss ns
        → Same store source_map self (after store i ss) (with_each (lets_of_part e) ns)
    part_same tree.no_expr rs i ms ss ns h same = silent i hir.Missing h.0.stored (λ g ts. refl) ss ns same
    part_same (tree.some_expr e) rs i ms ss ns h same = behind_same e rs i ms ss ns h same

    part_holds : (e : OptionExpr) → Behinds (part e)
    part_holds tree.no_expr = tt
    part_holds (tree.some_expr e) = (behind_same e, tt)

    each_holds : (es : Exprs) → Behinds (elements es)
    each_holds tree.no_exprs = tt
    each_holds (tree.more_exprs e es) = both _ (elements es) (behind_if store source_map self (is_enabled e) e (behind_same e))
        (each_holds es)

    fields_hold : (fs : Fields) → Behinds (field_values fs)
    fields_hold tree.no_fields = tt
    fields_hold (tree.more_fields (tree.named_field at name e) fs) = both (part e) (field_values fs) (part_holds e) (fields_hold fs)
    fields_hold (tree.more_fields (tree.disabled_field at by f) fs) = fields_hold fs
    fields_hold (tree.more_fields (tree.nameless_field at e) fs) = fields_hold fs

    rest_holds : (s : Spread) → Behinds (rest_of s)
    rest_holds tree.no_spread = tt
    rest_holds tree.field_defaults = tt
    rest_holds (tree.spread_of e) = (behind_same e, tt)

    places_hold : (t : Target) → Behinds (places t)
    places_hold (tree.absent_target call) = tt
    places_hold (tree.place_target at e) = (behind_same e, tt)
    places_hold (tree.macro_target at called t) = places_hold t
    places_hold (tree.wild_target at) = tt
    places_hold (tree.path_target at p h) = tt
    places_hold (tree.tuple_target at ts) = targets_hold ts
    places_hold (tree.call_target at p ts) = if_read (path_of p) (places_of_each ts) (targets_hold ts)
    places_hold (tree.array_target at before dots behind) =
        both (places_of_each before) (places_of_each behind) (targets_hold before) (targets_hold behind)
    places_hold (tree.record_target at p fs dots spread) = if_read (path_of p) (places_of_fields fs) (target_fields_hold fs)

    targets_hold : (ts : Targets) → Behinds (places_of_each ts)
    targets_hold tree.no_targets = tt
    targets_hold (tree.more_targets t ts) = both (places t) (places_of_each ts) (places_hold t) (targets_hold ts)
    targets_hold (tree.dots_targets ts) = targets_hold ts
    targets_hold (tree.tracked_targets called ts) = targets_hold ts

    target_fields_hold : (fs : TargetFields) → Behinds (places_of_fields fs)
    target_fields_hold tree.no_target_fields = tt
    target_fields_hold (tree.more_target_fields (tree.target_field at (Some n) t) fs) =
        both (places t) (places_of_fields fs) (places_hold t) (target_fields_hold fs)
    target_fields_hold (tree.more_target_fields (tree.target_field at None t) fs) = target_fields_hold fs
    target_fields_hold (tree.more_target_fields (tree.disabled_target_field at by) fs) = target_fields_hold fs
    target_fields_hold (tree.more_target_fields tree.partless_target_field fs) = target_fields_hold fs
