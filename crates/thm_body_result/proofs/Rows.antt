-- Small trees, worked out.
use Rattle.std.proofs.Common.{slice_get, ◌≡◌, ◌∙◌, refl, sym, ap, Bool, true, false, List, [], ◌∷◌, ◌++◌, option_to_list, map, Option}
use Rattle.std.proofs.Common.{Some, None, true≢false}
use Rattle.hir_store.specs.Stored.{Store, SourceMap}
use Rattle.hir_store.specs.declared.hir.CaptureBy.TheVariants as capture
use Rattle.hir_store.specs.declared.hir.ClosureKind.TheVariants as closure
use Rattle.hir_store.specs.declared.hir.CoroutineKind.{CoroutineKind}
use Rattle.hir_store.specs.declared.hir.Expr.{Expr as HirExpr}
use Rattle.hir_store.specs.declared.hir.Expr.TheVariants as hir
use Rattle.hir_store.specs.declared.hir.Statement.{Statement}
use Rattle.hir_store.specs.declared.hir.Statement.TheVariants as statement
use Rattle.hir_store.specs.declared.path.Path.{Path}
use Rattle.hir_store.specs.declared.path.Path.TheVariants.{BarePath, Normal, LangItem}
use Rattle.hir_store.specs.declared.ids.ExprId.{ExprId}
use Rattle.hir_store.specs.declared.ids.LabelId.{LabelId}
use Rattle.hir_syntax.specs.declared.ast.Literal.{Literal as AstLiteral}
use Rattle.hir_store.specs.Pointers.{Pointer}
use Rattle.hir_store.specs.declared.hir.Literal.{Literal}
use Rattle.hir_env.specs.ResolvedTree.{ForItems, QuestionItems}
use Rattle.hir_lower_scope.specs.ScopeRibs.{Try}
use Rattle.spec_data.specs.Closures.{capture_of}
use Rattle.spec_data.specs.Data.{PathData, path_data, item_path, names_in}
use Rattle.hir_store.specs.declared.path.GenericArgs.{GenericArgs}
use Rattle.spec_data.specs.Data.{no_args}
use Rattle.spec_data.specs.Rule.{is_list}
use Rattle.spec_data.specs.Reading.{stored_path, stored_args}
use Rattle.thm_round_trip.proofs.Lookup.{names_read}
use Rattle.spec_semantics.specs.Data.{LiteralData, literal_data}
use Rattle.spec_semantics.specs.Contents.{BlockContents}
use Rattle.hir_store.specs.declared.ids.CfgId.{CfgId}
use Rattle.spec_semantics.specs.Small.{at, label_a, root, stored_one}
use Rattle.thm_body_result.specs.Forms.{leaving_node}
use Rattle.thm_body_result.specs.Leads.{Mapping, Mappings, expr_mapping, unled_mapping, mapping_after, owned_mapping}
use Rattle.thm_body_result.specs.Corresponds.{Absent, Corresponds, opened, CorrespondsLiteral, CorrespondsEach, CorrespondsContents}
use Rattle.thm_logic.specs.Statements.{statement_of}
use Rattle.thm_body_result.specs.Examples.{Jumps, other, literal_first, Statements, EntersInOrder, Leaves, letter, block_id}
use Rattle.thm_body_result.specs.CorrespondsMade.{CorrespondsQuestion}
use Rattle.thm_body_result.specs.Examples.{elements, PlainForms, LeavesWith, Tries, Iterates, Fors, for_one}
use Rattle.thm_body_result.specs.Examples.{Closures, Consts, Coroutines, IsClosure, IsConst, IsCoroutine, Owners, closure_break, const_one}
use Rattle.thm_body_result.specs.Examples.{coroutine_break}

-- the bare path of this data
abbrev bare_path : PathData → Path
bare_path (path_data k t ns bare) = BarePath (record { kind = k; segments = names_in ns })
bare_path (item_path i) = LangItem i

abbrev bareness : PathData → Bool
bareness (path_data k t ns bare) = bare
bareness (item_path i) = false

-- a path whose data is bare is what is read of it
is_read : (store : Store) (source_map : SourceMap) (path : Path) (p : PathData) → bareness p ≡ true
    → stored_path store source_map path ≡ p → path ≡ bare_path p
unfolding stored_path
is_read store source_map (BarePath m) p b e =
    ap (λ ns. BarePath (record { kind = m.kind; segments = ns })) (sym (names_read m.segments)) ∙ ap bare_path e
is_read store source_map (Normal n) p b e = absurd (true≢false (sym b ∙ ap bareness (sym e)))
is_read store source_map (LangItem i) p b e = absurd (true≢false (sym b ∙ ap bareness (sym e)))

pub jumps : Jumps
jumps = record {
  no_fault = refl;
  named = λ inner outer store source_map i ws h. h.1.stored ∙ ap (λ v. Some (hir.Break (Some outer) v)) h.2.first.0;
  undeclared = refl;
  nearer = refl;
  unreachable = refl;
}

-- one statement without a semicolon, of which the block has none left
alone : (v last : ExprId) (ss : List Statement) → statement.Expr v false ∷ [] ≡ ss ++ statement.Expr last false ∷ [] → ss ≡ []
alone v last [] e = refl
alone v last (s ∷ []) e = cc
alone v last (s ∷ (t ∷ ss)) e = cc

module _ (store : Store) (source_map : SourceMap) (by : CfgId) (semi : Bool) where
  -- the literal's statement alone is kept
  pub record LiteralAlone (is : List Statement) (tail : Option ExprId) : Type 0 where
    pub value : ExprId
    pub is_one : is ≡ statement.Expr value semi ∷ []
    pub no_tail : tail ≡ None

  kept : (is : List Statement) (tail : Option ExprId) (ws : List Mapping)
      → CorrespondsContents store source_map [] (literal_first by semi) (λ rs o. Absent o) is tail ws → LiteralAlone is tail
  kept is tail ws c =
      let d = c.3.second in
      let none : c.1 ≡ [] = d.2 ∙ (ap (λ o. option_to_list (statement_of true o) ++ d.1) d.3.first.0 ∙ d.3.second.0) in
      let v = c.3.first.0 in record {
        value = v;
        is_one =
            c.2 ∙ (ap (λ o. option_to_list (statement_of semi o) ++ c.1) c.3.first.1 ∙ ap (λ xs. statement.Expr v semi ∷ xs) none);
        no_tail = d.3.second.1.0;
      }

settles : (contents : List Statement × Option ExprId) (v : ExprId) (is : List Statement) → is ≡ statement.Expr v false ∷ []
    → BlockContents true is None contents
    → (last : ExprId) × (hir.Block false None None contents.0 contents.1 ≡ hir.Block false None None [] (Some last))
settles contents v is e h =
    let none = alone v h.0 contents.0 (sym e ∙ h.1) in
    (h.0, ap (λ ss. hir.Block false None None ss contents.1) none ∙ ap (λ t. hir.Block false None None [] t) h.2)

pub statements : Statements
statements = record {
  becomes_tail = λ by store source_map i ws h.
      let k = kept store source_map by false h.0 h.1 h.5.left h.5.first in
      let s = settles h.2 k.value h.0 k.is_one h.3 in (s.0, h.4.stored ∙ ap Some s.1);
  has_semicolon = λ by store source_map i ws h.
      let k = kept store source_map by true h.0 h.1 h.5.left h.5.first in
      let ss = ap (λ is. Some (hir.Block false None None is h.1)) k.is_one in
      let tail = ap (λ t. Some (hir.Block false None None (statement.Expr k.value true ∷ []) t)) k.no_tail in
      (k.value, h.4.stored ∙ (ap (λ r. Some (hir.Block false None None r.0 r.1)) h.3 ∙ (ss ∙ tail)));
  disabled_tail = λ by store source_map i ws h.
      let k = kept store source_map by false h.0 h.1 h.5.left h.5.first in
      let s = settles h.2 k.value h.0 k.is_one h.3 in (s.0, h.4.stored ∙ ap Some s.1);
  faults = λ by semi. refl;
  blocks = λ by semi. refl;
}

pub enters_in_order : EntersInOrder
enters_in_order = refl

pub leaves : Leaves
leaves = record {
  one_name = λ store source_map i ws h.
      h.second.2.0.stored ∙ ap (λ q. Some (hir.Path q other)) (is_read store source_map h.second.0 _ refl h.second.1);
  two_names = λ store source_map i ws h.
      h.second.2.0.stored ∙ ap (λ q. Some (hir.Path q root)) (is_read store source_map h.second.0 _ refl h.second.1);
  from_crate = λ store source_map i ws h.
      h.second.2.0.stored ∙ ap (λ q. Some (hir.Path q other)) (is_read store source_map h.second.0 _ refl h.second.1);
  self_alone = λ store source_map i ws h.
      h.second.2.0.stored ∙ ap (λ q. Some (hir.Path q other)) (is_read store source_map h.second.0 _ refl h.second.1);
  refused = λ store source_map i ws h. h.second.0.stored;
  parentheses = λ store source_map i ws h. h.is ∙ (ap (λ l. l ++ h.right) h.first.2.1 ∙ ap (λ r. expr_mapping (at 1) i ∷ r) h.second);
}

-- plain forms

abbrev literal_of : LiteralData → Literal
literal_of d = record { negative = d.negative; kind = d.kind; text = d.text; suffix = d.suffix }

module _ (store : Store) (source_map : SourceMap) where
  pub literal_stored : (p : Pointer) (l : AstLiteral) (i : ExprId) (ws : List Mapping) → CorrespondsLiteral store source_map p l i ws
      → slice_get store.exprs i.0 ≡ Some (hir.Literal (literal_of (literal_data l)))
  literal_stored p l i ws h = h.2.0.stored ∙ ap (λ d. Some (hir.Literal (literal_of d))) h.1

  -- the literal alone is an element
  pub record OneElement (is : List ExprId) : Type 0 where
    pub value : ExprId
    pub is_one : is ≡ value ∷ []
    pub stored : slice_get store.exprs value.0 ≡ Some stored_one

  one_element : (by : CfgId) (is : List ExprId) (ws : List Mapping) → CorrespondsEach store source_map [] (elements by) is ws
      → OneElement is
  one_element by is ws c =
      let d = c.3.second in
      let none : c.1 ≡ [] = d.2 ∙ (ap (λ o. option_to_list o ++ d.1) d.3.first.0 ∙ d.3.second.0) in
      let v = c.3.first.0 in record {
        value = v;
        is_one = c.2 ∙ (ap (λ o. option_to_list o ++ c.1) c.3.first.1 ∙ ap (λ xs. v ∷ xs) none);
        stored = literal_stored (at 1) _ v c.3.left c.3.first.2;
      }

-- what reads back as no list is none
no_list : (store : Store) (source_map : SourceMap) (g : Option GenericArgs) → stored_args store source_map g ≡ no_args → g ≡ None
unfolding stored_args
no_list store source_map None e = refl
no_list store source_map (Some a) e = absurd (true≢false (ap is_list e))

abbrev numbered_block : List Statement → Option ExprId → Option HirExpr
numbered_block ss tail = Some (hir.Block true None (Some (block_id 7)) ss tail)

pub plain_forms : PlainForms
plain_forms = record {
  adds = λ store source_map i ws h. record {
    one = h.0;
    other = h.1;
    whole = h.2.stored;
    first = literal_stored store source_map (at 1) _ h.0 h.3.left h.3.first;
    second = literal_stored store source_map (at 2) _ h.1 h.3.second.left h.3.second.first;
  };
  calls = λ store source_map i ws h.
      let c = h.4.second.first in
      let v = c.3.first.0 in
      let is = c.2 ∙ (ap (λ o. option_to_list o ++ c.1) c.3.first.1 ∙ ap (λ xs. v ∷ xs) c.3.second.0) in record {
        one = h.0;
        other = v;
        whole = h.3.stored ∙ (ap (λ xs. Some (hir.MethodCall h.0 (letter 109) h.2 xs)) is
            ∙ ap (λ g. Some (hir.MethodCall h.0 (letter 109) g (v ∷ []))) (no_list store source_map h.2 h.4.second.second.first.second.0));
        first = literal_stored store source_map (at 1) _ h.0 h.4.left h.4.first;
        second = literal_stored store source_map (at 2) _ v c.3.left c.3.first.2;
      };
  disabled_element = λ by store source_map i ws h.
      let k = one_element store source_map by h.0 h.2.left h.2.first in (k.value, h.1.stored ∙ ap (λ is. Some (hir.Tuple is)) k.is_one);
  leading_comma = λ by store source_map i ws h.
      let k = one_element store source_map by h.0 h.3.left h.3.first in record {
        one = h.1;
        other = k.value;
        whole = h.2.stored ∙ ap (λ is. Some (hir.Tuple (h.1 ∷ is))) k.is_one;
        first = h.3.second.first.0.stored;
        second = k.stored;
      };
  awaits = λ location. refl;
  awaits_in_async = refl;
  is_unsafe = λ store source_map i ws h.
      let is = ap (λ ss. numbered_block ss h.1) h.5.first.0 ∙ ap (λ t. numbered_block [] t) h.5.first.1.0 in
      h.4.stored ∙ (ap (λ r. numbered_block r.0 r.1) h.3 ∙ is);
  left_first = refl;
  nameless = λ store source_map i ws h.
      let parts = h.2 in
      let is = ap (λ l. l ++ parts.right) parts.first.2.1 ∙ ap (λ r. expr_mapping (at 1) h.0 ∷ r) parts.second in
      (h.0, h.1.stored, parts.is ∙ is);
}

-- `?` and `try`

-- what stands for a `?` has what leaves in its second arm
module _ (store : Store) (source_map : SourceMap) (items : QuestionItems) where
  leaves_stored : (t : Option (Try LabelId)) (S : ExprId → Mappings) (i : ExprId) (ws : List Mapping)
      → CorrespondsQuestion store source_map (at 0) items t S i ws
      → LeavesWith store i (leaving_node t)
  leaves_stored t S i ws h =
      let arm = h.5.second.second.second.first in record {
        choice = h.1;
        goes_on = h.2;
        breaks = arm.2;
        out = arm.3;
        value = arm.6.second.1;
        whole = h.4.stored ∙ ap (λ a. Some (hir.Match h.1 (h.2 ∷ a ∷ []))) arm.4;
        leaves = arm.6.second.2.second.second.0.stored;
      }

pub tries : Tries
tries = record {
  innermost = λ label inner outer items store source_map i ws h.
      leaves_stored store source_map items (Some (record { place = inner; typed = true })) _ i ws h;
  returns = λ outer items store source_map i ws h. leaves_stored store source_map items None _ i ws h;
  passed = refl;
  enters = refl;
}

-- `for`

iterates : (items : ForItems) (store : Store) (source_map : SourceMap) (i : ExprId) (ws : List Mapping)
    → Corresponds store source_map [] (for_one items) i ws → Iterates store source_map i
iterates items store source_map i ws h =
    let call = h.7.second.first in
    let bind = h.7.second.second.second.first in
    let repeats = h.7.second.second.second.second.first in
    let inside = repeats.2.second in
    let iteration = inside.1.first in
    let asking = iteration.4.first in
    let built = iteration.4.second.second.second in record {
      callee = call.0;
      head = h.0;
      iterator = h.1;
      named = h.4;
      binding = bind.0;
      number = h.3;
      repeats = h.5;
      iteration = inside.0;
      label = repeats.0;
      choice = iteration.3;
      done = iteration.1;
      given = iteration.2;
      next = iteration.0;
      next_callee = asking.2.second.0;
      reference = asking.1;
      made = asking.0;
      whole = h.6.stored;
      calls = call.1.second.0.stored;
      from_head = call.1.second.0.source;
      is_one = literal_stored store source_map (at 1) _ h.0 h.7.left h.7.first;
      binds = bind.1.stored;
      is_mutable = bind.2;
      loops = inside.1.second.0.stored;
      fuel = built.second.0.stored;
      chooses = built.first.0.stored;
      asks = asking.2.second.1.second.0.stored;
      refers = asking.2.first.second.0.stored;
      to_it = asking.2.first.first.0.stored;
    }

pub fors : Fors
fors = record {
  iterates = iterates;
  no_fault = λ items. refl;
  undeclared = λ items. refl;
  head_first = λ items. refl;
}

-- repeat arrays and const blocks

abbrev plain_block : List Statement → Option ExprId → Option HirExpr
plain_block ss tail = Some (hir.Block false None None ss tail)

is_const : (store : Store) (source_map : SourceMap) (i : ExprId) (ws : List Mapping) → Corresponds store source_map [] const_one i ws
    → IsConst store i ws
is_const store source_map i ws x =
    let h = x.2 in
    let c = h.2.first.2 in
    let tail = c.5.first.1 in
    let inside = c.5.is ∙ (ap (λ l. l ++ c.5.right) tail.2.2.1 ∙ ap (λ r. expr_mapping (at 1) tail.0 ∷ r) c.5.second) in
    let before = h.2.first.1 ∙ ap (λ vs. map (mapping_after (at 0)) vs) inside in
    record {
      block = h.0.expr;
      value = tail.0;
      whole = h.1.stored;
      inner = c.4.stored ∙ (ap (λ r. plain_block r.0 r.1) c.3
          ∙ (ap (λ ss. plain_block ss c.1) c.5.first.0 ∙ ap (λ t. plain_block [] t) tail.1));
      is_one = literal_stored store source_map (at 1) _ tail.0 c.5.left tail.2;
      mappings =
          let all = h.2.is ∙ (ap (λ l. l ++ h.2.right) before
          ∙ ap (λ r. expr_mapping (at 1) tail.0 ∷ unled_mapping h.0.expr ∷ r) h.2.second) in
          x.1 ∙ ap (λ vs. map (owned_mapping i) vs) all;
    }

pub consts : Consts
consts = record {
  repeats = λ outer store source_map i ws h.
      let length = h.3.second.first.2 in record {
        one = h.0;
        other = h.1.expr;
        whole = h.2.stored;
        first = literal_stored store source_map (at 1) _ h.0 h.3.left h.3.first;
        second = length.1.stored ∙ ap (λ v. Some (hir.Break None v)) length.2.first.0;
      };
  unreachable = refl;
  is_const = is_const;
  length_last = refl;
}

-- closures

is_closure : (outer : LabelId) (store : Store) (source_map : SourceMap) (i : ExprId) (ws : List Mapping)
    → Corresponds store source_map (opened label_a outer []) closure_break i ws → IsClosure store i
is_closure outer store source_map i ws x =
    let h = x.2 in
    let body = h.4.second.second.first in record {
      ret = h.1;
      body = h.2;
      whole = h.3.stored ∙ ap (λ l. Some (hir.Closure l.0 l.1 h.1 h.2 closure.Closure capture.Value)) h.4.first.0;
      inner = body.1.stored ∙ ap (λ v. Some (hir.Break None v)) body.2.first.0;
    }

pub closures : Closures
closures = record {
  is_closure = is_closure;
  unreachable = refl;
  parameters_first = refl;
  disabled = λ by p. refl;
}

-- coroutine blocks

abbrev seventh_block : List Statement → Option ExprId → Option HirExpr
seventh_block ss tail = Some (hir.Block false None (Some (block_id 7)) ss tail)

is_coroutine : (moves : Bool) (kind : CoroutineKind) (outer : LabelId) (store : Store) (source_map : SourceMap) (i : ExprId)
    (ws : List Mapping)
    → Corresponds store source_map (opened label_a outer []) (coroutine_break kind moves) i ws
    → IsCoroutine kind (capture_of moves) store i ws
is_coroutine moves kind outer store source_map i ws x =
    let h = x.2 in
    let tail = h.7.first.1 in
    let inside = tail.2.2.is ∙ (λ j. tail.2.2.first.1 j ++ tail.2.2.second j) in
    let around = h.7.second.is ∙ (λ j. h.7.second.first j ++ h.7.second.second j) in
    record {
      block = h.4;
      value = tail.0;
      whole = h.5.stored;
      inner = h.6.stored ∙ (ap (λ r. seventh_block r.0 r.1) h.3
          ∙ (ap (λ ss. seventh_block ss h.1) h.7.first.0 ∙ ap (λ t. seventh_block [] t) tail.1));
      breaks = tail.2.1.stored ∙ ap (λ v. Some (hir.Break None v)) tail.2.2.first.0;
      mappings = x.1 ∙ ap (λ vs. map (owned_mapping i) vs) (h.7.is ∙ (λ j. inside j ++ around j));
    }

pub coroutines : Coroutines
coroutines = record {
  moves = is_coroutine true;
  refers = is_coroutine false;
  unreachable = λ kind moves. refl;
  own_number_first = λ kind moves. refl;
}

-- what owns bindings

pub owners : Owners
owners = record {
  of_closures = refl;
  behind = refl;
  of_length = refl;
  innermost = refl;
  of_argument = refl;
  of_const = refl;
  of_coroutine = λ kind moves. refl;
  of_generated_names = λ items. refl;
  behind_others = refl;
  of_function = refl;
}
