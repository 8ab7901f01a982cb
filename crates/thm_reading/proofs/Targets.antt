-- What an expression is as something that is assigned to is what the rules for it say, and nothing else is.
use Rattle.std.proofs.Common.{◌≡◌, ◌↔◌, ◌∙◌, refl, sym, subst, Bool, true, false, Option, Some, None, if◌then◌else◌, is_some}
use Rattle.hir_store.specs.Pointers.{Pointer}
use Rattle.hir_store.specs.declared.ids.HygieneId.{HygieneId}
use Rattle.hir_store.specs.declared.path.ModPath.{ModPath}
use Rattle.hir_env.specs.Answers.{Answers}
use Rattle.hir_env.specs.PathNames.{mod_path_of}
use Rattle.hir_env.specs.ResolvedTree as tree
use Rattle.hir_env.specs.ResolvedTree.{Called, Expr, Exprs, Field, Fields, OptionExpr, OptionPath, Path, RecordHead, Spread}
use Rattle.hir_env.specs.ResolvedTree.{Target, TargetField, TargetFields, Targets}
use Rattle.hir_env.specs.Targets as of
use Rattle.hir_env.specs.declared.ctx.LowerCtx.{LowerCtx}
use Rattle.hir_env.specs.declared.resolved.Resolution.{Resolution}
use Rattle.hir_env.specs.declared.resolved.Resolution.TheVariants as resolution
use Rattle.hir_env.specs.declared.resolved.Resolved.{Resolved}
use Rattle.hir_env.specs.declared.resolved.BuiltinShadowMode.TheVariants as shadow
use Rattle.thm_reading.specs.Targets as rule
use Rattle.thm_reading.specs.Targets.{ArrayAs, CalleeAs, ComesFrom, ComesToDots, ComesToPath, DotsAs, EachAs, ElementAs, ElementsAs}
use Rattle.thm_reading.specs.Targets.{FieldAs, FieldsAs, GoneAs, IsDots, IsPattern, LeadsAs, OptElementAs, OptTargetAs, PathIsPattern}
use Rattle.thm_reading.specs.Targets.{PlaceAs, SpreadAs, CorrespondsToPattern, TargetAs}
use Rattle.thm_reading.proofs.Alone.{bool_clash, presence}
use Rattle.thm_reading.proofs.Decided.{by_both}

-- what no rule says isn't so
none_such : {A : Type 0} (b : Bool) → (b ≡ true → A) → (A → ⊥) → b ≡ false
none_such true f h = absurd (h (f refl))
none_such false f h = refl

-- where a part comes from

comes_from : (c : Option Pointer) (s : Pointer) → ComesFrom c s (of.outermost c s)
comes_from None s = rule.its_node
comes_from (Some c) s = rule.its_call

it_comes_from : (c : Option Pointer) (s d : Pointer) → ComesFrom c s d → of.outermost c s ≡ d
it_comes_from _ _ _ rule.its_node = refl
it_comes_from _ _ _ rule.its_call = refl

place_as : (c : Option Pointer) (e : Expr) → PlaceAs c e (of.place_of c e)
place_as c e = rule.a_place (comes_from c (of.pointer_of e))

its_place : (c : Option Pointer) (e : Expr) (t : Target) → PlaceAs c e t → of.place_of c e ≡ t
its_place _ _ _ (rule.a_place {e = e} h) = λ i. tree.place_target (it_comes_from _ _ _ h i) e

-- two dots

are_dots : (e : Expr) → IsDots e → of.is_dots e ≡ true
are_dots _ rule.two_dots = refl
are_dots _ (rule.disabled_dots h) = are_dots _ h

has_dots : (e : Expr) → of.is_dots e ≡ true → IsDots e
has_dots (tree.disabled_expr why e) h = rule.disabled_dots (has_dots e h)
has_dots (tree.range_expr s f tree.no_expr tree.no_expr) h = rule.two_dots
has_dots _ h = bool_clash h

come_to_dots : (e : Expr) → ComesToDots e → of.comes_to_dots e ≡ true
come_to_dots _ rule.own_dots = refl
come_to_dots _ (rule.behind_a_condition h) = come_to_dots _ h
come_to_dots _ (rule.behind_a_call h) = come_to_dots _ h

to_dots : (e : Expr) → of.comes_to_dots e ≡ true → ComesToDots e
to_dots (tree.disabled_expr why e) h = rule.behind_a_condition (to_dots e h)
to_dots (tree.macro_expr s y (tree.some_expr e)) h = rule.behind_a_call (to_dots e h)
to_dots (tree.range_expr s f tree.no_expr tree.no_expr) h = rule.own_dots
to_dots _ h = bool_clash h

dots_as : (e : Expr) (ts : Targets) → of.comes_to_dots e ≡ true → DotsAs e ts (of.tracked_in e ts)
dots_as (tree.disabled_expr why e) ts h = rule.dots_of_disabled (dots_as e ts h)
dots_as (tree.macro_expr s y (tree.some_expr e)) ts h = rule.dots_of_a_call (dots_as e ts h)
dots_as (tree.range_expr s f tree.no_expr tree.no_expr) ts h = rule.these_dots
dots_as _ ts h = bool_clash h

its_dots : (e : Expr) (ts us : Targets) → DotsAs e ts us → of.tracked_in e ts ≡ us
its_dots _ _ _ rule.these_dots = refl
its_dots _ _ _ (rule.dots_of_disabled h) = its_dots _ _ _ h
its_dots _ _ _ (rule.dots_of_a_call {y = y} h) = λ i. tree.tracked_targets y (its_dots _ _ _ h i)

they_are_dots : (e : Expr) (ts us : Targets) → DotsAs e ts us → of.comes_to_dots e ≡ true
they_are_dots _ _ _ rule.these_dots = refl
they_are_dots _ _ _ (rule.dots_of_disabled h) = they_are_dots _ _ _ h
they_are_dots _ _ _ (rule.dots_of_a_call h) = they_are_dots _ _ _ h

no_dots : (e : Expr) → (ComesToDots e → ⊥) → of.comes_to_dots e ≡ false
no_dots e h = none_such (of.comes_to_dots e) (to_dots e) h

-- callees

callee_path_of : (e : Expr) (x : OptionPath) (t u : Target) → CalleeAs e x t u → of.callee_path e ≡ Some x
callee_path_of _ _ _ _ rule.this_path = refl
callee_path_of _ _ _ _ (rule.disabled_callee h) = callee_path_of _ _ _ _ h
callee_path_of _ _ _ _ (rule.called_callee h) = callee_path_of _ _ _ _ h

its_callee : (e : Expr) (x : OptionPath) (t u : Target) → CalleeAs e x t u → of.around_callee e t ≡ u
its_callee _ _ _ _ rule.this_path = refl
its_callee _ _ _ _ (rule.disabled_callee h) = its_callee _ _ _ _ h
its_callee _ _ _ _ (rule.called_callee {y = y} h) = λ i. tree.macro_target None y (its_callee _ _ _ _ h i)

abbrev path_in : OptionPath → Option OptionPath → OptionPath
path_in d None = d
path_in d (Some x) = x

callee_as : (e : Expr) (x : OptionPath) (t : Target) → of.callee_path e ≡ Some x → CalleeAs e x t (of.around_callee e t)
callee_as (tree.disabled_expr why e) x t h = rule.disabled_callee (callee_as e x t h)
callee_as (tree.macro_expr s y (tree.some_expr e)) x t h = rule.called_callee (callee_as e x t h)
callee_as (tree.path_expr s z g) x t h = subst (λ w. CalleeAs (tree.path_expr s z g) w t t) (λ i. path_in z (h i)) rule.this_path
callee_as _ x t h = presence h

comes_to_path : (e : Expr) → is_some (of.callee_path e) ≡ true → ComesToPath e
comes_to_path (tree.disabled_expr why e) h = rule.path_of_disabled (comes_to_path e h)
comes_to_path (tree.macro_expr s y (tree.some_expr e)) h = rule.path_of_a_call (comes_to_path e h)
comes_to_path (tree.path_expr s x g) h = rule.own_path
comes_to_path _ h = bool_clash h

is_path : (e : Expr) → ComesToPath e → is_some (of.callee_path e) ≡ true
is_path _ rule.own_path = refl
is_path _ (rule.path_of_disabled h) = is_path _ h
is_path _ (rule.path_of_a_call h) = is_path _ h

-- what is disabled

gone_as : (c : Option Pointer) (w e : Expr) → GoneAs c w e (of.gone_or c (of.place_of c w) e)
gone_as c w (tree.macro_expr s y (tree.some_expr (tree.disabled_expr why e))) = rule.gone_call (gone_as c (tree.disabled_expr why e) e)
gone_as c w _ = rule.gone_place refl (place_as c w)

still_place : (c : Option Pointer) (place : Target) (e : Expr) → rule.is_gone_call e ≡ false → of.gone_or c place e ≡ place
still_place c place (tree.macro_expr s y (tree.some_expr (tree.disabled_expr why e))) h = bool_clash (sym h)
still_place c place _ h = refl

its_gone : (c : Option Pointer) (w e : Expr) (t : Target) → GoneAs c w e t → of.gone_or c (of.place_of c w) e ≡ t
its_gone c w e t (rule.gone_place h k) = still_place c (of.place_of c w) e h ∙ its_place c w t k
its_gone _ _ _ _ (rule.gone_call {s = s} {y = y} h) = λ i. tree.macro_target (Some s) y (its_gone _ _ _ _ h i)

-- calls

leads_as : (y : Called) (s : Pointer) → LeadsAs y s (of.node_of_lacking y s)
leads_as tree.callless s = rule.lacking_leads
leads_as tree.unentered s = rule.leads_nowhere refl
leads_as (tree.unresolved n x) s = rule.leads_nowhere refl
leads_as (tree.entered e) s = rule.leads_nowhere refl
leads_as tree.spliced s = rule.leads_nowhere refl

nowhere : (y : Called) (s : Pointer) → rule.is_lacking y ≡ false → of.node_of_lacking y s ≡ None
nowhere tree.callless s h = bool_clash (sym h)
nowhere tree.unentered s h = refl
nowhere (tree.unresolved n x) s h = refl
nowhere (tree.entered e) s h = refl
nowhere tree.spliced s h = refl

its_lead : (y : Called) (s : Pointer) (n : Option Pointer) → LeadsAs y s n → of.node_of_lacking y s ≡ n
its_lead _ _ _ rule.lacking_leads = refl
its_lead _ _ _ (rule.leads_nowhere {y = y} {s = s} h) = nowhere y s h

-- records

spread_as : (d : Spread) → SpreadAs d (of.spread_pointer d)
spread_as tree.no_spread = rule.no_spread
spread_as tree.field_defaults = rule.only_dots
spread_as (tree.spread_of e) = rule.from_another

its_spread : (d : Spread) (n : Option Pointer) → SpreadAs d n → of.spread_pointer d ≡ n
its_spread _ _ rule.no_spread = refl
its_spread _ _ rule.only_dots = refl
its_spread _ _ rule.from_another = refl

-- paths

pattern_as : (x : Option Resolution) → of.is_pattern x ≡ true → IsPattern x
pattern_as (Some resolution.Const) h = rule.a_constant
pattern_as (Some resolution.Variant) h = rule.a_variant
pattern_as (Some resolution.Struct) h = rule.a_struct
pattern_as (Some resolution.Union) h = rule.a_union
pattern_as (Some resolution.Enum) h = rule.an_enum
pattern_as _ h = bool_clash h

is_pattern : (x : Option Resolution) → IsPattern x → of.is_pattern x ≡ true
is_pattern _ rule.a_constant = refl
is_pattern _ rule.a_variant = refl
is_pattern _ rule.a_struct = refl
is_pattern _ rule.a_union = refl
is_pattern _ rule.an_enum = refl

found_as : (r : Resolved) → of.is_target r ≡ true → CorrespondsToPattern r
found_as r = by r.rest r.types refl refl
  where
    by : (n : _) (t : _) → r.rest ≡ n → r.types ≡ t → (if is_some n then is_some t else of.is_pattern r.values) ≡ true
        → CorrespondsToPattern r
    by None t e k h = rule.in_full e (pattern_as r.values h)
    by (Some n) (Some t) e k h = rule.in_part e k
    by (Some n) None e k h = bool_clash h

is_found : (r : Resolved) → CorrespondsToPattern r → of.is_target r ≡ true
is_found r (rule.in_full e h) = (λ i. if is_some (e i) then is_some r.types else of.is_pattern r.values) ∙ is_pattern r.values h
is_found r (rule.in_part e k) = λ i. if is_some (e i) then is_some (k i) else of.is_pattern r.values

module _ (env : Answers) (p : LowerCtx) where
  path_as : (x : Path) → of.resolves env p x ≡ true → PathIsPattern env p x
  path_as x h = by (mod_path_of (tree.some_path x)) refl h
    where
      by : (m : Option ModPath) → mod_path_of (tree.some_path x) ≡ m → of.names_target env p m ≡ true → PathIsPattern env p x
      by None e h = bool_clash h
      by (Some m) e h = rule.names_pattern e (found_as (env.resolve p.module_id m shadow.Local) h)

  is_named : (x : Path) → PathIsPattern env p x → of.resolves env p x ≡ true
  is_named x (rule.names_pattern {m = m} e h) = (λ i. of.names_target env p (e i)) ∙ is_found (env.resolve p.module_id m shadow.Local) h

  abbrev found : Path → Bool
  found = of.resolves env p

  -- where it depends on what a part is

  parens_as : (c : Option Pointer) (w : Expr) (s : Pointer) (e : Expr) {t : Target} (b : Bool) → of.is_dots e ≡ b → TargetAs env p c w e t
      → TargetAs env p c w (tree.paren_expr s (tree.some_expr e))
      (if b then tree.tuple_target (of.origin c s) (tree.dots_targets tree.no_targets) else t)
  parens_as c w s e true h k = rule.dots_in_parens (has_dots e h)
  parens_as c w s e false h k = rule.in_parens (λ d. bool_clash (sym h ∙ are_dots e d)) k

  call_as : (c : Option Pointer) (w : Expr) (s : Pointer) (f : OptionExpr) (b : Bool) (es : Exprs) {ts : Targets} → ElementsAs env p es ts
      → TargetAs env p c w (tree.call_expr s f b es) (of.called_or (of.place_of c w) (of.origin c s) f b ts)
  call_as c w s tree.no_expr true es h = rule.call_of_nothing (place_as c w)
  call_as c w s tree.no_expr false es h = rule.call_without_list (place_as c w)
  call_as c w s (tree.some_expr f) false es h = rule.call_without_list (place_as c w)
  call_as c w s (tree.some_expr f) true es {ts} h = by (of.callee_path f) refl
    where
      by : (x : Option OptionPath) → of.callee_path f ≡ x
          → TargetAs env p c w (tree.call_expr s (tree.some_expr f) true es) (of.call_or (of.place_of c w) (of.origin c s) f x ts)
      by None e = rule.call_of_another (λ d. bool_clash ((λ i. is_some (sym e i)) ∙ is_path f d)) (place_as c w)
      by (Some x) e = rule.call_of_a_path h (callee_as f x (tree.call_target (of.origin c s) x ts) e)

  named_as : (c : Option Pointer) (w : Expr) (s : Pointer) (x : OptionPath) (h : HygieneId)
      → TargetAs env p c w (tree.path_expr s x h) (of.path_or found (of.place_of c w) (of.origin c s) x h)
  named_as c w s tree.no_path h = rule.no_path (place_as c w)
  named_as c w s (tree.some_path x) h = by (found x) refl
    where
      by : (b : Bool) → found x ≡ b → TargetAs env p c w (tree.path_expr s (tree.some_path x) h)
          (if b then tree.path_target (of.origin c s) x h else of.place_of c w)
      by true e = rule.path_of_pattern (path_as x e)
      by false e = rule.path_of_place (λ d. bool_clash (sym e ∙ is_named x d)) (place_as c w)

  record_as : (c : Option Pointer) (w : Expr) (s : Pointer) (x : OptionPath) (head : RecordHead) (fs : Fields) (d : Spread)
      {us : TargetFields} → FieldsAs env p fs us → TargetAs env p c w (tree.record_expr s x head fs d)
      (if head.has_list then tree.record_target (of.origin c s) x us head.has_dots (of.spread_pointer d) else of.place_of c w)
  record_as c w s x head fs d {us} h = by head.has_list refl
    where
      by : (b : Bool) → head.has_list ≡ b → TargetAs env p c w (tree.record_expr s x head fs d)
          (if b then tree.record_target (of.origin c s) x us head.has_dots (of.spread_pointer d) else of.place_of c w)
      by true e = rule.record_with_list e h (spread_as d)
      by false e = rule.record_without_list e (place_as c w)

  -- an element that is no call is what it is elsewhere
  uncalled : (c : Option Pointer) (other : Target) (e : Expr) → rule.is_call e ≡ false → of.element_or found c other e ≡ other
  uncalled c other (tree.disabled_expr why e) h = uncalled c other e h
  uncalled c other (tree.macro_expr s y e) h = bool_clash (sym h)
  uncalled c other _ h = refl

  element_by : (c : Option Pointer) (e : Expr) {t : Target} (b : Bool) → rule.is_call e ≡ b
      → (rule.is_call e ≡ true → ElementAs env p c e (of.element_or found c t e)) → TargetAs env p c e e t
      → ElementAs env p c e (of.element_or found c t e)
  element_by c e true h x y = x h
  element_by c e {t} false h x y = subst (ElementAs env p c e) (sym (uncalled c t e h)) (rule.other_element h y)

  elements_by : (e : Expr) (es : Exprs) {t : Target} {ts : Targets} (b : Bool) → of.comes_to_dots e ≡ b → ElementAs env p None e t
      → ElementsAs env p es ts
      → ElementsAs env p (tree.more_exprs e es) (if b then of.tracked_in e (tree.dots_targets ts) else tree.more_targets t ts)
  elements_by e es {ts = ts} true h x y = rule.dots_element y (dots_as e (tree.dots_targets ts) h)
  elements_by e es false h x y = rule.more_elements (λ d. bool_clash (sym h ∙ come_to_dots e d)) x y

  array_by : (e : Expr) (es : Exprs) {t : Target} {ts us vs : Targets} {n : Option Pointer} (b : Bool) → of.comes_to_dots e ≡ b
      → ElementAs env p None e t → ArrayAs env p es ts n us → EachAs env p es vs
      → ArrayAs env p (tree.more_exprs e es) (if b then of.tracked_in e tree.no_targets else tree.more_targets t ts)
      (if b then Some (of.pointer_of e) else n) (if b then vs else us)
  array_by e es true h x y z = rule.at_dots (dots_as e tree.no_targets h) z
  array_by e es false h x y z = rule.before_dots (λ d. bool_clash (sym h ∙ come_to_dots e d)) x y

  mutual
    target_as : (c : Option Pointer) (w e : Expr) → TargetAs env p c w e (of.target_or found c (of.place_of c w) e)
    target_as c w (tree.disabled_expr why e) = rule.disabled (gone_as c w e)
    target_as c w (tree.leaf_expr s tree.underscore) = rule.ignored
    target_as c w (tree.paren_expr s tree.no_expr) = rule.empty_parens (place_as c w)
    target_as c w (tree.paren_expr s (tree.some_expr e)) = parens_as c w s e (of.is_dots e) refl (target_as c w e)
    target_as c w (tree.macro_expr s y e) = rule.called (opt_target_as c e)
    target_as c w (tree.list_expr s (tree.tuple_of comma) es) = rule.tuple (elements_as es)
    target_as c w (tree.list_expr s tree.array_of es) = rule.array (array_as es)
    target_as c w (tree.call_expr s f has_list es) = call_as c w s f has_list es (elements_as es)
    target_as c w (tree.path_expr s x h) = named_as c w s x h
    target_as c w (tree.record_expr s x head fs d) = record_as c w s x head fs d (fields_as fs)
    target_as c w _ = rule.any_other refl (place_as c w)

    pub opt_target_as : (c : Option Pointer) (e : OptionExpr) → OptTargetAs env p c e (of.target_in found c e)
    opt_target_as c tree.no_expr = rule.no_target
    opt_target_as c (tree.some_expr e) = rule.some_target (target_as c e e)

    called_as : (c : Option Pointer) (other : Target) (e : Expr) → rule.is_call e ≡ true
        → ElementAs env p c e (of.element_or found c other e)
    called_as c other (tree.disabled_expr why e) h = rule.disabled_call h (called_as c other e h)
    called_as c other (tree.macro_expr s y e) h = rule.call_element (leads_as y s) (comes_from c s) (opt_element_as (of.outermost c s) e)
    called_as c other _ h = bool_clash h

    opt_element_as : (d : Pointer) (e : OptionExpr) → OptElementAs env p d e (of.element_in found d e)
    opt_element_as d tree.no_expr = rule.no_element
    opt_element_as d (tree.some_expr e) =
        rule.some_element (element_by (Some d) e (rule.is_call e) refl (called_as (Some d) _ e) (target_as (Some d) e e))

    elements_as : (es : Exprs) → ElementsAs env p es (of.elements found es)
    elements_as tree.no_exprs = rule.no_elements
    elements_as (tree.more_exprs e es) = elements_by e es (of.comes_to_dots e) refl
        (element_by None e (rule.is_call e) refl (called_as None _ e) (target_as None e e)) (elements_as es)

    array_as : (es : Exprs) → ArrayAs env p es (of.before_dots found es) (of.dots_pointer es) (of.behind_dots found es)
    array_as tree.no_exprs = rule.without_dots
    array_as (tree.more_exprs e es) = array_by e es (of.comes_to_dots e) refl
        (element_by None e (rule.is_call e) refl (called_as None _ e) (target_as None e e)) (array_as es) (each_as es)

    each_as : (es : Exprs) → EachAs env p es (of.each_target found es)
    each_as tree.no_exprs = rule.no_more
    each_as (tree.more_exprs e es) = rule.each (target_as None e e) (each_as es)

    fields_as : (fs : Fields) → FieldsAs env p fs (of.target_fields found fs)
    fields_as tree.no_fields = rule.no_fields
    fields_as (tree.more_fields f fs) = rule.more_fields (field_as f) (fields_as fs)

    field_as : (f : Field) → FieldAs env p f (of.target_field_of found f)
    field_as (tree.disabled_field s by f) = rule.disabled_field
    field_as (tree.nameless_field s tree.no_expr) = rule.nameless_partless
    field_as (tree.nameless_field s (tree.some_expr e)) = rule.nameless (target_as None e e)
    field_as (tree.named_field s n tree.no_expr) = rule.named_partless
    field_as (tree.named_field s n (tree.some_expr e)) = rule.named (target_as None e e)

  -- nothing else

  only_place : (c : Option Pointer) (place : Target) (e : Expr) → rule.may_be_more e ≡ false → of.target_or found c place e ≡ place
  only_place c place (tree.disabled_expr why e) h = bool_clash (sym h)
  only_place c place (tree.leaf_expr s tree.underscore) h = bool_clash (sym h)
  only_place c place (tree.paren_expr s e) h = bool_clash (sym h)
  only_place c place (tree.macro_expr s y e) h = bool_clash (sym h)
  only_place c place (tree.list_expr s form es) h = bool_clash (sym h)
  only_place c place (tree.call_expr s f has_list es) h = bool_clash (sym h)
  only_place c place (tree.path_expr s x g) h = bool_clash (sym h)
  only_place c place (tree.record_expr s x head fs d) h = bool_clash (sym h)
  only_place c place _ h = refl

  no_callee : (place : Target) (s : _) (f : Expr) (ts : Targets) (x : Option OptionPath) → is_some x ≡ false
      → of.call_or place s f x ts ≡ place
  no_callee place s f ts None h = refl
  no_callee place s f ts (Some x) h = bool_clash (sym h)

  listless : (place : Target) (s : _) (f : OptionExpr) (ts : Targets) → of.called_or place s f false ts ≡ place
  listless place s tree.no_expr ts = refl
  listless place s (tree.some_expr f) ts = refl

  mutual
    its_target : (c : Option Pointer) (w e : Expr) (t : Target) → TargetAs env p c w e t → of.target_or found c (of.place_of c w) e ≡ t
    its_target _ _ _ _ (rule.disabled h) = its_gone _ _ _ _ h
    its_target _ _ _ _ rule.ignored = refl
    its_target _ _ _ _ (rule.empty_parens h) = its_place _ _ _ h
    its_target c w _ _ (rule.dots_in_parens {s = s} {e = e} h) =
        λ i. if are_dots e h i then tree.tuple_target (of.origin c s) (tree.dots_targets tree.no_targets)
        else of.target_or found c (of.place_of c w) e
    its_target c w _ t (rule.in_parens {s = s} {e = e} h k) =
        (λ i. if none_such (of.is_dots e) (has_dots e) h i then tree.tuple_target (of.origin c s) (tree.dots_targets tree.no_targets)
        else of.target_or found c (of.place_of c w) e) ∙ its_target c w e t k
    its_target _ _ _ _ (rule.called {s = s} {y = y} h) = λ i. tree.macro_target (Some s) y (its_opt_target _ _ _ h i)
    its_target c w _ _ (rule.tuple {s = s} h) = λ i. tree.tuple_target (of.origin c s) (its_elements _ _ h i)
    its_target c w _ _ (rule.array {s = s} h) = let x = its_array _ _ _ _ h in
        λ i. tree.array_target (of.origin c s) (x.0 i) (x.1.0 i) (x.1.1 i)
    its_target c w _ _ (rule.call_of_a_path {s = s} {f = f} {x = x} {es = es} h k) =
        (λ i. of.call_or (of.place_of c w) (of.origin c s) f (callee_path_of _ _ _ _ k i) (its_elements _ _ h i)) ∙ its_callee _ _ _ _ k
    its_target c w _ t (rule.call_of_another {s = s} {f = f} {es = es} h k) =
        no_callee (of.place_of c w) (of.origin c s) f (of.elements found es) (of.callee_path f)
        (none_such (is_some (of.callee_path f)) (comes_to_path f) h) ∙ its_place c w t k
    its_target _ _ _ _ (rule.call_of_nothing h) = its_place _ _ _ h
    its_target c w _ t (rule.call_without_list {s = s} {f = f} {es = es} h) =
        listless (of.place_of c w) (of.origin c s) f (of.elements found es) ∙ its_place c w t h
    its_target c w _ _ (rule.path_of_pattern {s = s} {x = x} {h = g} h) =
        λ i. if is_named x h i then tree.path_target (of.origin c s) x g else of.place_of c w
    its_target c w _ t (rule.path_of_place {s = s} {x = x} {h = g} h k) =
        (λ i. if none_such (found x) (path_as x) h i then tree.path_target (of.origin c s) x g else of.place_of c w) ∙ its_place c w t k
    its_target _ _ _ _ (rule.no_path h) = its_place _ _ _ h
    its_target c w _ _ (rule.record_with_list {s = s} {x = x} {head = head} {d = d} e h k) =
        λ i. if e i then tree.record_target (of.origin c s) x (its_fields _ _ h i) head.has_dots (its_spread _ _ k i) else of.place_of c w
    its_target c w _ t (rule.record_without_list {s = s} {x = x} {head = head} {fs = fs} {d = d} e k) =
        (λ i. if e i then tree.record_target (of.origin c s) x (of.target_fields found fs) head.has_dots (of.spread_pointer d)
        else of.place_of c w) ∙ its_place c w t k
    its_target c w e t (rule.any_other h k) = only_place c (of.place_of c w) e h ∙ its_place c w t k

    its_opt_target : (c : Option Pointer) (e : OptionExpr) (t : Target) → OptTargetAs env p c e t → of.target_in found c e ≡ t
    its_opt_target _ _ _ rule.no_target = refl
    its_opt_target _ _ _ (rule.some_target h) = its_target _ _ _ _ h

    its_called : (c : Option Pointer) (other : Target) (e : Expr) (t : Target) → rule.is_call e ≡ true → ElementAs env p c e t
        → of.element_or found c other e ≡ t
    its_called c other e t h (rule.other_element k d) = bool_clash (sym k ∙ h)
    its_called c other _ t h (rule.disabled_call k d) = its_called c other _ t k d
    its_called c other _ _ h (rule.call_element {s = s} {y = y} {e = e} l o d) =
        λ i. tree.macro_target (its_lead _ _ _ l i) y (((λ j. of.element_in found (it_comes_from _ _ _ o j) e) ∙ its_opt_element _ _ _ d) i)

    its_element : (c : Option Pointer) (e : Expr) (t : Target) → ElementAs env p c e t
        → of.element_or found c (of.target_or found c (of.place_of c e) e) e ≡ t
    its_element c e t (rule.other_element h k) = uncalled c (of.target_or found c (of.place_of c e) e) e h ∙ its_target c e e t k
    its_element c _ t (rule.disabled_call k d) = its_called c _ _ t k d
    its_element c _ _ (rule.call_element {s = s} {y = y} {e = e} l o d) =
        λ i. tree.macro_target (its_lead _ _ _ l i) y (((λ j. of.element_in found (it_comes_from _ _ _ o j) e) ∙ its_opt_element _ _ _ d) i)

    its_opt_element : (d : Pointer) (e : OptionExpr) (t : Target) → OptElementAs env p d e t → of.element_in found d e ≡ t
    its_opt_element _ _ _ rule.no_element = refl
    its_opt_element _ _ _ (rule.some_element h) = its_element _ _ _ h

    its_elements : (es : Exprs) (ts : Targets) → ElementsAs env p es ts → of.elements found es ≡ ts
    its_elements _ _ rule.no_elements = refl
    its_elements _ us (rule.dots_element {e = e} {es = es} h k) = (λ i. if they_are_dots _ _ _ k i
        then of.tracked_in e (tree.dots_targets (its_elements _ _ h i))
        else tree.more_targets (of.element_of found None e) (of.elements found es)) ∙ its_dots _ _ us k
    its_elements _ _ (rule.more_elements {e = e} {es = es} h k l) = (λ i. if no_dots e h i
        then of.tracked_in e (tree.dots_targets (of.elements found es))
        else tree.more_targets (its_element _ _ _ k i) (its_elements _ _ l i))

    its_array : (es : Exprs) (ts : Targets) (n : Option Pointer) (us : Targets) → ArrayAs env p es ts n us
        → (of.before_dots found es ≡ ts) × ((of.dots_pointer es ≡ n) × (of.behind_dots found es ≡ us))
    its_array _ _ _ _ rule.without_dots = (refl, (refl, refl))
    its_array _ us _ _ (rule.at_dots {e = e} {es = es} h k) = let is = they_are_dots _ _ _ h in (
      (λ i. if is i then of.tracked_in e tree.no_targets else tree.more_targets (of.element_of found None e) (of.before_dots found es))
          ∙ its_dots _ _ us h,
      (
        (λ i. if is i then Some (of.pointer_of e) else of.dots_pointer es),
        (λ i. if is i then its_each _ _ k i else of.behind_dots found es),
      ),
    )
    its_array _ _ _ _ (rule.before_dots {e = e} {es = es} h k l) = let is = no_dots e h in let x = its_array _ _ _ _ l in (
      (λ i. if is i then of.tracked_in e tree.no_targets else tree.more_targets (its_element _ _ _ k i) (x.0 i)),
      (
        (λ i. if is i then Some (of.pointer_of e) else x.1.0 i),
        (λ i. if is i then of.each_target found es else x.1.1 i),
      ),
    )

    its_each : (es : Exprs) (ts : Targets) → EachAs env p es ts → of.each_target found es ≡ ts
    its_each _ _ rule.no_more = refl
    its_each _ _ (rule.each h k) = λ i. tree.more_targets (its_target _ _ _ _ h i) (its_each _ _ k i)

    its_fields : (fs : Fields) (ts : TargetFields) → FieldsAs env p fs ts → of.target_fields found fs ≡ ts
    its_fields _ _ rule.no_fields = refl
    its_fields _ _ (rule.more_fields h k) = λ i. tree.more_target_fields (its_field _ _ h i) (its_fields _ _ k i)

    its_field : (f : Field) (t : TargetField) → FieldAs env p f t → of.target_field_of found f ≡ t
    its_field _ _ rule.disabled_field = refl
    its_field _ _ rule.nameless_partless = refl
    its_field _ _ (rule.nameless {s = s} h) = λ i. tree.target_field s None (its_target _ _ _ _ h i)
    its_field _ _ rule.named_partless = refl
    its_field _ _ (rule.named {s = s} {n = n} h) = λ i. tree.target_field s (Some n) (its_target _ _ _ _ h i)

  -- what two equal expressions are is the same
  pub same_target : {e f : OptionExpr} {t u : Target} → e ≡ f → OptTargetAs env p None e t → OptTargetAs env p None f u → t ≡ u
  same_target same h k = sym (its_opt_target None _ _ h) ∙ ((λ i. of.target_of found (same i)) ∙ its_opt_target None _ _ k)

  pub targets_decided : (e : OptionExpr) (t : Target) → (of.target_of found e ≡ t) ↔ OptTargetAs env p None e t
  targets_decided e = by_both (OptTargetAs env p None e) (of.target_of found e) (opt_target_as None e) (its_opt_target None e)
