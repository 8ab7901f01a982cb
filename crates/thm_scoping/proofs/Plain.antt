-- Expressions of forms that open no scope.
use Rattle.std.proofs.Common.{◌≡◌, ◌∙◌, refl, sym, ap, subst, ◌<◌, Bool, true, false, List, [], ◌∷◌, ◌++◌, append_assoc, append-nil}
use Rattle.std.proofs.Common.{Option, Some, None, option_map, option_to_list, slice_get, map}
use Rattle.std.specs.List.{flat_map}
use Rattle.hir_base.specs.declared.op.LogicOp.{LogicOp}
use Rattle.hir_store.specs.Children.{children, field_child, spread_child}
use Rattle.hir_store.specs.Pointers.{Pointer}
use Rattle.hir_store.specs.Stored.{Store, SourceMap}
use Rattle.hir_store.specs.declared.hir.Array.TheVariants as array
use Rattle.hir_store.specs.declared.hir.Expr.{Expr as StoredExpr}
use Rattle.hir_store.specs.declared.hir.Expr.TheVariants as hir
use Rattle.hir_store.specs.declared.hir.RecordLitField.{RecordLitField}
use Rattle.hir_store.specs.declared.hir.RecordSpread.{RecordSpread}
use Rattle.hir_store.specs.declared.hir.RecordSpread.TheVariants as spread
use Rattle.hir_store.specs.declared.diagnostics.AwaitLocation.{AwaitLocation}
use Rattle.hir_store.specs.declared.ids.BindingId.{BindingId}
use Rattle.hir_store.specs.declared.ids.ExprId.{ExprId}
use Rattle.hir_store.specs.declared.ids.HygieneId.{HygieneId}
use Rattle.hir_store.specs.declared.ids.LangItemId.{LangItemId}
use Rattle.hir_store.specs.declared.name.Name.{Name}
use Rattle.hir_store.specs.declared.path.Path.TheVariants.{LangItem}
use Rattle.hir_lower_scope.specs.ScopeRibs.{jump_number}
use Rattle.hir_env.specs.ResolvedTree as tree
use Rattle.hir_env.specs.ResolvedTree.{Binary, Expr, Exprs, Fields, Leaf, Leaving, Listing, OptionExpr, OptionPath, RangeForm, Unary}
use Rattle.hir_walks.specs.Exprs.{expr_constants}
use Rattle.spec_data.specs.Rule.{PathRead, data_of}
use Rattle.spec_data.specs.Patterns.{if_path}
use Rattle.spec_data.specs.Written.{path_of}
use Rattle.spec_scopes.specs.Placed.{Spot, after_each, after_form, placed, placed_each, plain_parts}
use Rattle.spec_scopes.specs.Scopes.{Scopes}
use Rattle.spec_scoping.specs.Scoping.{elements, ends, field_values, operands, part, rest_of}
use Rattle.thm_body_result.specs.Corresponds.{Corresponds, CorrespondsEach, CorrespondsFields, CorrespondsList, CorrespondsOthers}
use Rattle.thm_body_result.specs.Corresponds.{CorrespondsPart, CorrespondsPath, CorrespondsPresent, CorrespondsRange, CorrespondsRecord}
use Rattle.thm_body_result.specs.Corresponds.{Open}
use Rattle.thm_body_result.specs.CorrespondsMade.{CorrespondsItemCall}
use Rattle.thm_body_result.specs.Forms.{binary_form, lazy_form, leaf_form, leaving_form, range_fields, unary_form}
use Rattle.thm_body_result.specs.Leads.{Mapping, Mappings, ◌&◌}
use Rattle.thm_scoping.proofs.Named.{EachBelow}
use Rattle.thm_scoping.proofs.Orderly.{Orderly}
use Rattle.thm_scoping.proofs.Operands.{Lined, Plain, block_lined, each_below_left, each_below_right, each_lined, ended, fields_lined}
use Rattle.thm_scoping.proofs.Operands.{item_after, lined-append, lined_constants, others_lined, part_lined, passed, present_lined}

range_children : (last : Name) (low high : Option ExprId)
    → map field_child (range_fields last low high) ++ [] ≡ option_to_list low ++ option_to_list high
range_children last None None = refl
range_children last None (Some e) = refl
range_children last (Some e) None = refl
range_children last (Some e) (Some f) = refl

module _ (store : Store) (source_map : SourceMap) (self : Option BindingId) (o : Orderly store) where
  abbrev PlainAs : ExprId → List Expr → Type 0
  PlainAs i es = Plain store source_map self i es

  -- the stored form opens no scope
  record Formed (i : ExprId) (f : StoredExpr) : Type 0 where
    found : slice_get store.exprs i.0 ≡ Some f
    after_it : (g : ExprId → Scopes → Scopes) (ss : Scopes) → after_form store g f ss ≡ after_each store g (plain_parts store f) ss
    in_it : (g : ExprId → Scopes → Scopes) (x : Spot) → placed store g f x ≡ placed_each store g (plain_parts store f) x
    parts : plain_parts store f ≡ children f ++ expr_constants f

  lined_plain : (i : ExprId) (f : StoredExpr) (es : List Expr) → Formed i f → Lined store source_map self i.0 (children f) es → PlainAs i es
  lined_plain i f es formed lined = record {
    form = f;
    found = formed.found;
    after_it = formed.after_it;
    in_it = formed.in_it;
    lined = subst (λ l. Lined store source_map self i.0 l es) (sym formed.parts)
        (lined_constants store source_map self (expr_constants f) (o.constants i f formed.found) lined);
  }

  below : (i : ExprId) (f : StoredExpr) → Formed i f → EachBelow i.0 (children f)
  below i f formed = o.parts i f formed.found

  one : (i x : ExprId) (f : StoredExpr) (rs : Open) (e : OptionExpr) (ms : List Mapping) → Formed i f → children f ≡ x ∷ []
      → CorrespondsPart store source_map rs e x ms → PlainAs i (part e)
  one i x f rs e ms formed are h =
      let lower = subst (λ l. EachBelow i.0 l) are (below i f formed) in
      lined_plain i f (part e) formed (subst (λ l. Lined store source_map self i.0 l (part e)) (sym are)
      (part_lined store source_map self i.0 rs e x ms lower.0 h))

  two : (i x y : ExprId) (f : StoredExpr) (rs : Open) (d e : OptionExpr) (ms ns : List Mapping) → Formed i f → children f ≡ x ∷ y ∷ []
      → CorrespondsPart store source_map rs d x ms → CorrespondsPart store source_map rs e y ns → PlainAs i (part d ++ part e)
  two i x y f rs d e ms ns formed are h k =
      let lower = subst (λ l. EachBelow i.0 l) are (below i f formed) in
      lined_plain i f (part d ++ part e) formed (subst (λ l. Lined store source_map self i.0 l (part d ++ part e)) (sym are)
      (lined-append store source_map self (part_lined store source_map self i.0 rs d x ms lower.0 h)
      (part_lined store source_map self i.0 rs e y ns lower.1.0 k)))

  present : (i : ExprId) (v : Option ExprId) (f : StoredExpr) (rs : Open) (e : OptionExpr) (ms : List Mapping) → Formed i f
      → children f ≡ option_to_list v → CorrespondsPresent store source_map rs e v ms → PlainAs i (part e)
  present i v f rs e ms formed are h =
      let lower = subst (λ l. EachBelow i.0 l) are (below i f formed) in
      lined_plain i f (part e) formed (subst (λ l. Lined store source_map self i.0 l (part e)) (sym are)
      (present_lined store source_map self i.0 rs e v ms lower h))

  none : (i : ExprId) (f : StoredExpr) → Formed i f → children f ≡ [] → PlainAs i []
  none i f formed are = lined_plain i f [] formed (subst (λ l. Lined store source_map self i.0 l []) (sym are) ended)

  pub missing_plain : (i : ExprId) → slice_get store.exprs i.0 ≡ Some hir.Missing → PlainAs i []
  missing_plain i found =
      none i hir.Missing (record { found = found; after_it = λ g ss. refl; in_it = λ g x. refl; parts = refl }) refl

  pub silent_plain : (i : ExprId) (f : StoredExpr) → slice_get store.exprs i.0 ≡ Some f
      → ((g : ExprId → Scopes → Scopes) (ss : Scopes) → after_form store g f ss ≡ after_each store g (plain_parts store f) ss)
      → ((g : ExprId → Scopes → Scopes) (x : Spot) → placed store g f x ≡ placed_each store g (plain_parts store f) x)
      → plain_parts store f ≡ children f ++ expr_constants f → children f ≡ [] → PlainAs i []
  silent_plain i f found after_it in_it parts are =
      none i f (record { found = found; after_it = after_it; in_it = in_it; parts = parts }) are

  pub path_plain : (at : Pointer) (q : Option PathRead) (h : HygieneId) (i : ExprId) (ms : List Mapping)
      → CorrespondsPath store source_map at (option_map data_of q) h i ms → PlainAs i []
  path_plain at None h i ms c = missing_plain i c.0.stored
  path_plain at (Some q) h i ms c = silent_plain i _ c.2.0.stored (λ g ss. refl) (λ g x. refl) refl refl

  pub leaf_plain : (form : Leaf) (i : ExprId) → slice_get store.exprs i.0 ≡ Some (leaf_form form) → PlainAs i []
  leaf_plain tree.underscore i found = silent_plain i hir.Underscore found (λ g ss. refl) (λ g x. refl) refl refl
  leaf_plain tree.include_bytes i found = silent_plain i hir.IncludeBytes found (λ g ss. refl) (λ g x. refl) refl refl
  leaf_plain tree.left_out i found = missing_plain i found

  pub unary_plain : (form : Unary) (rs : Open) (e : OptionExpr) (i x : ExprId) (ms : List Mapping)
      → slice_get store.exprs i.0 ≡ Some (unary_form form x) → CorrespondsPart store source_map rs e x ms → PlainAs i (part e)
  unary_plain (tree.field_of name) rs e i x ms found h =
      one i x (hir.Field x name) rs e ms (record { found = found; after_it = λ g ss. refl; in_it = λ g x. refl; parts = refl }) refl h
  unary_plain (tree.prefix_of op) rs e i x ms found h =
      one i x (hir.UnaryOp op x) rs e ms (record { found = found; after_it = λ g ss. refl; in_it = λ g x. refl; parts = refl }) refl h
  unary_plain (tree.reference_to rawness mutability) rs e i x ms found h = one i x (hir.Ref rawness mutability x) rs e ms
      (record { found = found; after_it = λ g ss. refl; in_it = λ g x. refl; parts = refl }) refl h

  pub binary_plain : (form : Binary) (rs : Open) (d e : OptionExpr) (i x y : ExprId) (ms ns : List Mapping)
      → slice_get store.exprs i.0 ≡ Some (binary_form form x y)
      → CorrespondsPart store source_map rs d x ms → CorrespondsPart store source_map rs e y ns → PlainAs i (part d ++ part e)
  binary_plain (tree.operator op) rs d e i x y ms ns found h k = two i x y (hir.BinaryOp op x y) rs d e ms ns
      (record { found = found; after_it = λ g ss. refl; in_it = λ g x. refl; parts = refl }) refl h k
  binary_plain tree.index_of rs d e i x y ms ns found h k = two i x y (hir.Index x y) rs d e ms ns
      (record { found = found; after_it = λ g ss. refl; in_it = λ g x. refl; parts = refl }) refl h k

  pub lazy_plain : (op : LogicOp) (rs : Open) (d e : OptionExpr) (i x y : ExprId) (ms ns : List Mapping)
      → slice_get store.exprs i.0 ≡ Some (lazy_form op x y)
      → CorrespondsPart store source_map rs d x ms → CorrespondsPart store source_map rs e y ns → PlainAs i (part d ++ part e)
  lazy_plain op rs d e i x y ms ns found h k = two i x y (lazy_form op x y) rs d e ms ns
      (record { found = found; after_it = λ g ss. refl; in_it = λ g x. refl; parts = refl }) refl h k

  pub leaving_plain : (form : Leaving) (rs : Open) (e : OptionExpr) (i : ExprId) (v : Option ExprId) (ms : List Mapping)
      → slice_get store.exprs i.0 ≡ Some (leaving_form form v) → CorrespondsPresent store source_map rs e v ms → PlainAs i (part e)
  leaving_plain tree.returning rs e i v ms found h = present i v (hir.Return v) rs e ms
      (record { found = found; after_it = λ g ss. refl; in_it = λ g x. refl; parts = refl }) refl h
  leaving_plain tree.yeeting rs e i v ms found h = present i v (hir.Yeet v) rs e ms
      (record { found = found; after_it = λ g ss. refl; in_it = λ g x. refl; parts = refl }) refl h

  -- forms alone

  pub break_plain : (at : Pointer) (jump : Option tree.Jump) (e : OptionExpr) (rs : Open) (i : ExprId) (ms : List Mapping)
      → Corresponds store source_map rs (tree.break_expr at jump e) i ms → PlainAs i (part e)
  break_plain at jump e rs i ms h = present i h.0 (hir.Break (jump_number rs jump) h.0) rs e h.2.left
      (record { found = h.1.stored; after_it = λ g ss. refl; in_it = λ g x. refl; parts = refl }) refl h.2.first

  pub become_plain : (at : Pointer) (e : OptionExpr) (rs : Open) (i : ExprId) (ms : List Mapping)
      → Corresponds store source_map rs (tree.become_expr at e) i ms → PlainAs i (part e)
  become_plain at e rs i ms h = one i h.0 (hir.Become h.0) rs e h.2.left
      (record { found = h.1.stored; after_it = λ g ss. refl; in_it = λ g x. refl; parts = refl }) refl h.2.first

  pub yield_plain : (at : Pointer) (e : OptionExpr) (rs : Open) (i : ExprId) (ms : List Mapping)
      → Corresponds store source_map rs (tree.yield_expr at e) i ms → PlainAs i (part e)
  yield_plain at e rs i ms h = present i h.0 (hir.Yield h.0) rs e h.2.left
      (record { found = h.1.stored; after_it = λ g ss. refl; in_it = λ g x. refl; parts = refl }) refl h.2.first

  pub await_plain : (at : Pointer) (l : Option AwaitLocation) (e : OptionExpr) (rs : Open) (i : ExprId) (ms : List Mapping)
      → Corresponds store source_map rs (tree.await_expr at l e) i ms → PlainAs i (part e)
  await_plain at l e rs i ms h = one i h.0 (hir.Await h.0) rs e h.2.left
      (record { found = h.1.stored; after_it = λ g ss. refl; in_it = λ g x. refl; parts = refl }) refl h.2.first

  pub cast_plain : (at : Pointer) (e : OptionExpr) (t : tree.OptionType) (rs : Open) (i : ExprId) (ms : List Mapping)
      → Corresponds store source_map rs (tree.cast_expr at e t) i ms → PlainAs i (part e)
  cast_plain at e t rs i ms h = one i h.0 (hir.Cast h.0 h.1) rs e h.3.left
      (record { found = h.2.stored; after_it = λ g ss. refl; in_it = λ g x. refl; parts = refl }) refl h.3.first

  pub call_plain : (at : Pointer) (f : OptionExpr) (has_list : Bool) (es : Exprs) (rs : Open) (i : ExprId) (ms : List Mapping)
      → Corresponds store source_map rs (tree.call_expr at f has_list es) i ms → PlainAs i (part f ++ elements es)
  call_plain at f has_list es rs i ms h =
      let formed : Formed i (hir.Call h.0 h.1) =
      record { found = h.2.stored; after_it = λ g ss. refl; in_it = λ g x. refl; parts = refl } in
      let lower = below i (hir.Call h.0 h.1) formed in
      lined_plain i (hir.Call h.0 h.1) (part f ++ elements es) formed
      (lined-append store source_map self (part_lined store source_map self i.0 rs f h.0 h.3.left lower.0 h.3.first)
      (each_lined store source_map self i.0 rs es h.1 h.3.second.left lower.1 h.3.second.first))

  pub method_plain : (at : Pointer) (e : OptionExpr) (name : Name) (es : Exprs) (generics : tree.OptionArgs) (rs : Open) (i : ExprId)
      (ms : List Mapping) → Corresponds store source_map rs (tree.method_call_expr at e name es generics) i ms
      → PlainAs i (part e ++ elements es)
  method_plain at e name es generics rs i ms h =
      let f : StoredExpr = hir.MethodCall h.0 name h.2 h.1 in
      let formed : Formed i f = record { found = h.3.stored; after_it = λ g ss. refl; in_it = λ g x. refl; parts = refl } in
      let lower = below i f formed in
      lined_plain i f (part e ++ elements es) formed
      (lined-append store source_map self (part_lined store source_map self i.0 rs e h.0 h.4.left lower.0 h.4.first)
      (each_lined store source_map self i.0 rs es h.1 h.4.second.left lower.1 h.4.second.first))

  pub list_plain : (at : Pointer) (form : Listing) (es : Exprs) (rs : Open) (i : ExprId) (ms : List Mapping)
      → Corresponds store source_map rs (tree.list_expr at form es) i ms → PlainAs i (elements es)
  list_plain at (tree.tuple_of false) es rs i ms h =
      let formed : Formed i (hir.Tuple h.0) = record { found = h.1.stored; after_it = λ g ss. refl; in_it = λ g x. refl; parts = refl } in
      lined_plain i (hir.Tuple h.0) (elements es) formed
      (each_lined store source_map self i.0 rs es h.0 h.2.left (below i (hir.Tuple h.0) formed) h.2.first)
  list_plain at (tree.tuple_of true) es rs i ms h =
      let f : StoredExpr = hir.Tuple (h.1 ∷ h.0) in
      let formed : Formed i f = record { found = h.2.stored; after_it = λ g ss. refl; in_it = λ g x. refl; parts = refl } in
      lined_plain i f (elements es) formed
      (passed (item_after store source_map self None h.1 h.3.second.first.0.stored)
      (each_lined store source_map self i.0 rs es h.0 h.3.left (below i f formed).1 h.3.first))
  list_plain at tree.array_of es rs i ms h =
      let f : StoredExpr = hir.Array (array.ElementList h.0) in
      let formed : Formed i f = record { found = h.1.stored; after_it = λ g ss. refl; in_it = λ g x. refl; parts = refl } in
      lined_plain i f (elements es) formed (each_lined store source_map self i.0 rs es h.0 h.2.left (below i f formed) h.2.first)

  pub record_plain : (at : Pointer) (q : Option PathRead) (fs : Fields) (s : tree.Spread) (rs : Open) (i : ExprId) (ms : List Mapping)
      → CorrespondsRecord store source_map at (option_map data_of q)
      (λ r. CorrespondsFields store source_map rs fs r.0 & CorrespondsOthers store source_map rs s r.1) i ms
      → PlainAs i (if_path q (λ _. field_values fs ++ rest_of s) [])
  record_plain at None fs s rs i ms h = missing_plain i h.0.stored
  record_plain at (Some q) fs s rs i ms h =
      let r : List RecordLitField × RecordSpread = h.1 in
      let f : StoredExpr = hir.RecordLit h.0 r.0 r.1 in
      let formed : Formed i f = record { found = h.2.stored; after_it = λ g ss. refl; in_it = λ g x. refl; parts = refl } in
      let lower = below i f formed in
      let inside = h.3.second.first in
      lined_plain i f (field_values fs ++ rest_of s) formed
      (lined-append store source_map self
      (fields_lined store source_map self i.0 rs fs r.0 inside.left
      (each_below_left i.0 (map field_child r.0) (option_to_list (spread_child r.1)) lower) inside.first)
      (others_lined store source_map self i.0 rs s r.1 inside.right
      (each_below_right i.0 (map field_child r.0) (option_to_list (spread_child r.1)) lower) inside.second))

  pub range_plain : (at : Pointer) (form : RangeForm) (low high : OptionExpr) (rs : Open) (i : ExprId) (ms : List Mapping)
      → Corresponds store source_map rs (tree.range_expr at form low high) i ms → PlainAs i (ends form low high)
  range_plain at (tree.record_range item last) low high rs i ms h =
      let f : StoredExpr = hir.RecordLit (LangItem item) (range_fields last h.0 h.1) spread.None in
      let formed : Formed i f = record { found = h.2.stored; after_it = λ g ss. refl; in_it = λ g x. refl; parts = refl } in
      let are = range_children last h.0 h.1 in
      let lower = subst (λ l. EachBelow i.0 l) are (below i f formed) in
      lined_plain i f (part low ++ part high) formed
      (subst (λ l. Lined store source_map self i.0 l (part low ++ part high)) (sym are)
      (lined-append store source_map self
      (present_lined store source_map self i.0 rs low h.0 h.3.left (each_below_left i.0 (option_to_list h.0) (option_to_list h.1) lower)
      h.3.first)
      (present_lined store source_map self i.0 rs high h.1 h.3.second.left
      (each_below_right i.0 (option_to_list h.0) (option_to_list h.1) lower) h.3.second.first)))
  range_plain at (tree.call_range item) low high rs i ms h =
      let f : StoredExpr = hir.Call h.2 (option_to_list h.0 ++ option_to_list h.1) in
      let formed : Formed i f = record { found = h.3.stored; after_it = λ g ss. refl; in_it = λ g x. refl; parts = refl } in
      let lower = (below i f formed).1 in
      lined_plain i f (part low ++ part high) formed
      (passed (item_after store source_map self item h.2 h.4.second.second.first.0.stored)
      (lined-append store source_map self
      (present_lined store source_map self i.0 rs low h.0 h.4.left (each_below_left i.0 (option_to_list h.0) (option_to_list h.1) lower)
      h.4.first)
      (present_lined store source_map self i.0 rs high h.1 h.4.second.left
      (each_below_right i.0 (option_to_list h.0) (option_to_list h.1) lower) h.4.second.first)))
  range_plain at tree.itemless_range low high rs i ms h = missing_plain i h.2.stored

  -- a call of an item with one written operand
  pub item_call_plain : (at : Pointer) (item : Option LangItemId) (rs : Open) (e : OptionExpr) (x i : ExprId) (ms ns : List Mapping)
      → CorrespondsPart store source_map rs e x ms → CorrespondsItemCall store source_map at item x i ns → PlainAs i (part e)
  item_call_plain at item rs e x i ms ns h c =
      let f : StoredExpr = hir.Call c.0 (x ∷ []) in
      let formed : Formed i f = record { found = c.1.second.0.stored; after_it = λ g ss. refl; in_it = λ g x. refl; parts = refl } in
      lined_plain i f (part e) formed
      (passed (item_after store source_map self item c.0 c.1.first.0.stored)
      (part_lined store source_map self i.0 rs e x ms (below i f formed).1.0 h))
