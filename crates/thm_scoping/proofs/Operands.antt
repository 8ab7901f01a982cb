-- Stored operands in line with written ones, and what is in scope behind them.
use Rattle.std.proofs.Common.{◌≡◌, ◌∙◌, refl, sym, ap, subst, ◌<◌, ℕ, Bool, true, false, List, [], ◌∷◌, ◌++◌, append_assoc, append-nil}
use Rattle.std.proofs.Common.{Option, Some, None, option_to_list, slice_get, if◌then◌else◌, map, true≢false}
use Rattle.std.specs.List.{flat_map}
use Rattle.std.proofs.lemmas.Grind.{flat_map-append}
use Rattle.hir_store.specs.Children.{children, field_child, spread_child}
use Rattle.hir_store.specs.Stored.{Store, SourceMap}
use Rattle.hir_store.specs.declared.hir.Expr.{Expr as StoredExpr}
use Rattle.hir_store.specs.declared.hir.Expr.TheVariants as hir
use Rattle.hir_store.specs.declared.hir.RecordLitField.{RecordLitField}
use Rattle.hir_store.specs.declared.hir.RecordSpread.{RecordSpread}
use Rattle.hir_store.specs.declared.ids.BindingId.{BindingId}
use Rattle.hir_store.specs.declared.ids.ExprId.{ExprId}
use Rattle.hir_store.specs.declared.ids.LangItemId.{LangItemId}
use Rattle.hir_env.specs.ResolvedTree as tree
use Rattle.hir_env.specs.ResolvedTree.{Expr, Exprs, Fields, OptionBlock, OptionExpr, Spread}
use Rattle.hir_walks.specs.Exprs.{expr_constants}
use Rattle.spec_data.specs.Tops.{Tops}
use Rattle.spec_scopes.specs.Placed.{after, after_each, after_form, after_part, placed, placed_each, plain_parts, Placed, Spot}
use Rattle.spec_scopes.specs.Scopes.{Scopes}
use Rattle.spec_scoping.specs.Bound.{InScope, with_each, with_top}
use Rattle.spec_scoping.specs.Scoping.{block_part, elements, enabled_part, field_values, is_enabled, lets, lets_of_each, lets_of_fields}
use Rattle.spec_scoping.specs.Scoping.{lets_of_part, lets_of_rest, part, rest_of}
use Rattle.spec_semantics.specs.Left.{is_kept}
use Rattle.thm_body_result.specs.Corresponds.{Corresponds, CorrespondsBlockPart, CorrespondsEach, CorrespondsFields, CorrespondsItem}
use Rattle.thm_body_result.specs.Corresponds.{CorrespondsKept, CorrespondsOthers, CorrespondsPart, CorrespondsPresent, Open, ThereIf}
use Rattle.thm_body_result.specs.Forms.{item_or_missing}
use Rattle.thm_body_result.specs.Leads.{Mapping, Mappings}
use Rattle.thm_scoping.specs.Agree.{BindNothing}
use Rattle.thm_scoping.specs.Meant.{SameNames}
use Rattle.thm_scoping.proofs.Named.{EachBelow}
use Rattle.thm_scoping.proofs.Afters.{after_is, part_is, part_passed}

pub each_below_left : (n : ℕ) (is js : List ExprId) → EachBelow n (is ++ js) → EachBelow n is
each_below_left n [] js below = tt
each_below_left n (i ∷ is) js below = (below.0, each_below_left n is js below.1)

pub each_below_right : (n : ℕ) (is js : List ExprId) → EachBelow n (is ++ js) → EachBelow n js
each_below_right n [] js below = below
each_below_right n (i ∷ is) js below = each_below_right n is js below.1

pub with_each-append : (ps qs : Tops) (ns : InScope) → with_each (ps ++ qs) ns ≡ with_each qs (with_each ps ns)
with_each-append [] qs ns = refl
with_each-append (p ∷ ps) qs ns = with_each-append ps qs (with_top p ns)

-- the patterns that bind behind operands

pub kept_enabled : (e : Expr) → is_kept e ≡ is_enabled e
kept_enabled (tree.disabled_expr why e) = refl
kept_enabled e = refl

pub lets_in_part : (e : OptionExpr) → flat_map lets (part e) ≡ lets_of_part e
lets_in_part tree.no_expr = refl
lets_in_part (tree.some_expr e) = append-nil (lets e)

lets_if : (b : Bool) (e : Expr) → is_enabled e ≡ b → flat_map lets (if b then e ∷ [] else []) ≡ lets e
lets_if true e same = append-nil (lets e)
lets_if false (tree.disabled_expr why e) same = refl
lets_if false e same = absurd (true≢false same)

pub lets_in_elements : (es : Exprs) → flat_map lets (elements es) ≡ lets_of_each es
lets_in_elements tree.no_exprs = refl
lets_in_elements (tree.more_exprs e es) =
    flat_map-append lets (if is_enabled e then e ∷ [] else []) (elements es)
    ∙ (ap (λ l. l ++ flat_map lets (elements es)) (lets_if (is_enabled e) e refl) ∙ ap (λ l. lets e ++ l) (lets_in_elements es))

pub lets_in_enabled : (e : OptionExpr) → flat_map lets (enabled_part e) ≡ lets_of_part e
lets_in_enabled tree.no_expr = refl
lets_in_enabled (tree.some_expr e) = lets_if (is_enabled e) e refl

pub lets_in_fields : (fs : Fields) → flat_map lets (field_values fs) ≡ lets_of_fields fs
lets_in_fields tree.no_fields = refl
lets_in_fields (tree.more_fields (tree.named_field at name e) fs) =
    flat_map-append lets (part e) (field_values fs)
    ∙ (ap (λ l. l ++ flat_map lets (field_values fs)) (lets_in_part e) ∙ ap (λ l. lets_of_part e ++ l) (lets_in_fields fs))
lets_in_fields (tree.more_fields (tree.disabled_field at by f) fs) = lets_in_fields fs
lets_in_fields (tree.more_fields (tree.nameless_field at e) fs) = lets_in_fields fs

pub lets_in_rest : (s : Spread) → flat_map lets (rest_of s) ≡ lets_of_rest s
lets_in_rest tree.no_spread = refl
lets_in_rest tree.field_defaults = refl
lets_in_rest (tree.spread_of e) = append-nil (lets e)

pub lets_in_both : (es fs : List Expr) (ps qs : Tops) → flat_map lets es ≡ ps → flat_map lets fs ≡ qs → flat_map lets (es ++ fs) ≡ ps ++ qs
lets_in_both es fs ps qs one other =
    flat_map-append lets es fs ∙ (ap (λ l. l ++ flat_map lets fs) one ∙ ap (λ l. ps ++ l) other)

module _ (store : Store) (source_map : SourceMap) (self : Option BindingId) where
  -- Stored operands that written ones became, all before the whole, and between them what binds nothing.
  pub data Lined (n : ℕ) : List ExprId → List Expr → Type 0 where
    ended : Lined n [] []
    stood : {i : ExprId} {is : List ExprId} {e : Expr} {es : List Expr} → i.0 < n → (rs : Open) (ms : List Mapping)
        → Corresponds store source_map rs e i ms → Lined n is es → Lined n (i ∷ is) (e ∷ es)
    passed : {i : ExprId} {is : List ExprId} {es : List Expr} → ((ss : Scopes) → after store i ss ≡ ss) → Lined n is es
        → Lined n (i ∷ is) es

  pub lined-append : {n : ℕ} {is js : List ExprId} {es fs : List Expr} → Lined n is es → Lined n js fs → Lined n (is ++ js) (es ++ fs)
  lined-append ended q = q
  lined-append (stood less rs ms c p) q = stood less rs ms c (lined-append p q)
  lined-append (passed nothing p) q = passed nothing (lined-append p q)

  constants_lined : (n : ℕ) (cs : List ExprId) → BindNothing store cs → Lined n cs []
  constants_lined n [] nothing = ended
  constants_lined n (c ∷ cs) nothing = passed nothing.0 (constants_lined n cs nothing.1)

  pub lined_constants : {n : ℕ} {is : List ExprId} {es : List Expr} (cs : List ExprId) → BindNothing store cs → Lined n is es
      → Lined n (is ++ cs) es
  lined_constants {n} cs nothing ended = constants_lined n cs nothing
  lined_constants cs nothing (stood less rs ms c p) = stood less rs ms c (lined_constants cs nothing p)
  lined_constants cs nothing (passed none p) = passed none (lined_constants cs nothing p)

  -- what binds nothing

  pub silent_after : (i : ExprId) (f : StoredExpr) → slice_get store.exprs i.0 ≡ Some f
      → ((g : ExprId → Scopes → Scopes) (ss : Scopes) → after_form store g f ss ≡ ss) → (ss : Scopes) → after store i ss ≡ ss
  silent_after i f found silent ss = after_is store i f found ss ∙ silent (after_part store i) ss

  pub item_after : (item : Option LangItemId) (i : ExprId) → slice_get store.exprs i.0 ≡ Some (item_or_missing item) → (ss : Scopes)
      → after store i ss ≡ ss
  item_after None i found = silent_after i hir.Missing found (λ g ss. refl)
  item_after (Some item) i found = silent_after i _ found (λ g ss. refl)

  -- parts

  pub part_lined : (n : ℕ) (rs : Open) (e : OptionExpr) (i : ExprId) (ms : List Mapping) → i.0 < n
      → CorrespondsPart store source_map rs e i ms → Lined n (i ∷ []) (part e)
  part_lined n rs tree.no_expr i ms less h = passed (silent_after i hir.Missing h.0.stored (λ g ss. refl)) ended
  part_lined n rs (tree.some_expr e) i ms less h = stood less rs ms h ended

  pub block_lined : (n : ℕ) (rs : Open) (b : OptionBlock) (i : ExprId) (ms : List Mapping) → i.0 < n
      → CorrespondsBlockPart store source_map rs b i ms → Lined n (i ∷ []) (block_part b)
  block_lined n rs tree.no_block i ms less h = passed (silent_after i hir.Missing h.0.stored (λ g ss. refl)) ended
  block_lined n rs (tree.some_block b) i ms less h = stood less rs ms h ended

  pub present_lined : (n : ℕ) (rs : Open) (e : OptionExpr) (o : Option ExprId) (ms : List Mapping) → EachBelow n (option_to_list o)
      → CorrespondsPresent store source_map rs e o ms → Lined n (option_to_list o) (part e)
  present_lined n rs tree.no_expr o ms below h = subst (λ x. Lined n (option_to_list x) []) (sym h.0) ended
  present_lined n rs (tree.some_expr e) o ms below h =
      let lower = subst (λ x. EachBelow n (option_to_list x)) h.1 below in
      subst (λ x. Lined n (option_to_list x) (e ∷ [])) (sym h.1) (stood lower.0 rs ms h.2 ended)

  there_if_lined : (n : ℕ) (rs : Open) (e : Expr) (b : Bool) (o : Option ExprId) (ms : List Mapping) → EachBelow n (option_to_list o)
      → ThereIf b (λ i. Corresponds store source_map rs e i) o ms → Lined n (option_to_list o) (if b then e ∷ [] else [])
  there_if_lined n rs e true o ms below h =
      let lower = subst (λ x. EachBelow n (option_to_list x)) h.1 below in
      subst (λ x. Lined n (option_to_list x) (e ∷ [])) (sym h.1) (stood lower.0 rs ms h.2 ended)
  there_if_lined n rs e false o ms below h = subst (λ x. Lined n (option_to_list x) []) (sym h.0) ended

  element_lined : (n : ℕ) (rs : Open) (e : Expr) (o : Option ExprId) (ms : List Mapping) → EachBelow n (option_to_list o)
      → ThereIf (is_kept e) (λ i. Corresponds store source_map rs e i) o ms
      → Lined n (option_to_list o) (if is_enabled e then e ∷ [] else [])
  element_lined n rs e o ms below h = subst (λ b. Lined n (option_to_list o) (if b then e ∷ [] else [])) (kept_enabled e)
      (there_if_lined n rs e (is_kept e) o ms below h)

  pub kept_lined : (n : ℕ) (rs : Open) (e : OptionExpr) (o : Option ExprId) (ms : List Mapping) → EachBelow n (option_to_list o)
      → CorrespondsKept store source_map rs e o ms → Lined n (option_to_list o) (enabled_part e)
  kept_lined n rs tree.no_expr o ms below h = subst (λ x. Lined n (option_to_list x) []) (sym h.0) ended
  kept_lined n rs (tree.some_expr e) o ms below h = element_lined n rs e o ms below h

  pub each_lined : (n : ℕ) (rs : Open) (es : Exprs) (is : List ExprId) (ms : List Mapping) → EachBelow n is
      → CorrespondsEach store source_map rs es is ms → Lined n is (elements es)
  each_lined n rs tree.no_exprs is ms below h = subst (λ l. Lined n l []) (sym h.0) ended
  each_lined n rs (tree.more_exprs e es) is ms below h =
      let lower = subst (λ l. EachBelow n l) h.2 below in
      subst (λ l. Lined n l (elements (tree.more_exprs e es))) (sym h.2)
      (lined-append (element_lined n rs e h.0 h.3.left (each_below_left n (option_to_list h.0) h.1 lower) h.3.first)
      (each_lined n rs es h.1 h.3.right (each_below_right n (option_to_list h.0) h.1 lower) h.3.second))

  pub fields_lined : (n : ℕ) (rs : Open) (fs : Fields) (is : List RecordLitField) (ms : List Mapping) → EachBelow n (map field_child is)
      → CorrespondsFields store source_map rs fs is ms → Lined n (map field_child is) (field_values fs)
  fields_lined n rs tree.no_fields is ms below h = subst (λ l. Lined n (map field_child l) []) (sym h.0) ended
  fields_lined n rs (tree.more_fields (tree.named_field at name e) fs) is ms below h =
      let lower = subst (λ l. EachBelow n (map field_child l)) h.2 below in
      subst (λ l. Lined n (map field_child l) (part e ++ field_values fs)) (sym h.2)
      (lined-append (part_lined n rs e h.0 h.3.first.left lower.0 h.3.first.first)
      (fields_lined n rs fs h.1 h.3.right lower.1 h.3.second))
  fields_lined n rs (tree.more_fields (tree.disabled_field at by f) fs) is ms below h = fields_lined n rs fs is ms below h
  fields_lined n rs (tree.more_fields (tree.nameless_field at e) fs) is ms below h = fields_lined n rs fs is ms below h

  pub others_lined : (n : ℕ) (rs : Open) (s : Spread) (o : RecordSpread) (ms : List Mapping) → EachBelow n (option_to_list (spread_child o))
      → CorrespondsOthers store source_map rs s o ms → Lined n (option_to_list (spread_child o)) (rest_of s)
  others_lined n rs tree.no_spread o ms below h = subst (λ x. Lined n (option_to_list (spread_child x)) []) (sym h.0) ended
  others_lined n rs tree.field_defaults o ms below h = subst (λ x. Lined n (option_to_list (spread_child x)) []) (sym h.0) ended
  others_lined n rs (tree.spread_of e) o ms below h =
      let lower = subst (λ x. EachBelow n (option_to_list (spread_child x))) h.1 below in
      subst (λ x. Lined n (option_to_list (spread_child x)) (e ∷ [])) (sym h.1) (stood lower.0 rs ms h.2 ended)

  -- what is in scope behind them

  abbrev pub Same : Scopes → InScope → Type 0
  Same ss ns = SameNames store source_map self ss ns

  -- so it is kept by an expression
  abbrev pub BehindSame : Expr → Type 0
  BehindSame e = (rs : Open) (i : ExprId) (ms : List Mapping) (ss : Scopes) (ns : InScope) → Corresponds store source_map rs e i ms
      → Same ss ns → Same (after store i ss) (with_each (lets e) ns)

  abbrev pub EachBehind : List Expr → Type 0
  EachBehind [] = Unit {0}
  EachBehind (e ∷ es) = BehindSame e × EachBehind es

  pub each-behind-append : (es fs : List Expr) → EachBehind es → EachBehind fs → EachBehind (es ++ fs)
  each-behind-append [] fs p q = q
  each-behind-append (e ∷ es) fs p q = (p.0, each-behind-append es fs p.1 q)

  pub behind_if : (b : Bool) (e : Expr) → BehindSame e → EachBehind (if b then e ∷ [] else [])
  behind_if true e h = (h, tt)
  behind_if false e h = tt

  pub each_behind : (p : ExprId) (is : List ExprId) (es : List Expr) (ss : Scopes) (ns : InScope) → Lined p.0 is es → EachBehind es
      → Same ss ns → Same (after_each store (after_part store p) is ss) (with_each (flat_map lets es) ns)
  each_behind p is es ss ns ended holds h = h
  each_behind p is es ss ns (stood {i = i} {is = js} {e = e} {es = fs} less rs ms c rest) holds h =
      subst (λ l. Same (after_each store (after_part store p) js (after_part store p i ss)) l)
      (sym (with_each-append (lets e) (flat_map lets fs) ns))
      (each_behind p js fs (after_part store p i ss) (with_each (lets e) ns) rest holds.1
      (subst (λ ts. Same ts (with_each (lets e) ns)) (sym (part_is store p i ss less)) (holds.0 rs i ms ss ns c h)))
  each_behind p is es ss ns (passed {i = i} {is = js} nothing rest) holds h =
      each_behind p js es (after_part store p i ss) ns rest holds
      (subst (λ ts. Same ts ns) (sym (part_passed store p i ss (nothing ss))) h)

  -- An expression of a form that opens no scope.
  pub record Plain (i : ExprId) (es : List Expr) : Type 0 where
    pub form : StoredExpr
    pub found : slice_get store.exprs i.0 ≡ Some form
    pub after_it : (g : ExprId → Scopes → Scopes) (ss : Scopes) → after_form store g form ss ≡ after_each store g
        (plain_parts store form) ss
    pub in_it : (g : ExprId → Scopes → Scopes) (x : Spot) → placed store g form x ≡ placed_each store g (plain_parts store form) x
    pub lined : Lined i.0 (plain_parts store form) es

  pub plain_behind : (i : ExprId) (es : List Expr) (ps : Tops) → Plain i es → EachBehind es → flat_map lets es ≡ ps
      → (ss : Scopes) (ns : InScope) → Same ss ns → Same (after store i ss) (with_each ps ns)
  plain_behind i es ps p holds same ss ns h =
      subst (λ l. Same (after store i ss) (with_each l ns)) same
      (subst (λ ts. Same ts (with_each (flat_map lets es) ns))
      (sym (after_is store i p.form p.found ss ∙ p.after_it (after_part store i) ss))
      (each_behind i (plain_parts store p.form) es ss ns p.lined holds h))

  pub silent_behind : (i : ExprId) (f : StoredExpr) → slice_get store.exprs i.0 ≡ Some f
      → ((g : ExprId → Scopes → Scopes) (ss : Scopes) → after_form store g f ss ≡ ss)
      → (ss : Scopes) (ns : InScope) → Same ss ns → Same (after store i ss) ns
  silent_behind i f found silent ss ns h = subst (λ ts. Same ts ns) (sym (silent_after i f found silent ss)) h
