-- Small bodies with `for`, and what they do.
use Rattle.std.specs.Prelude.{◌≡◌, ℕ, ◌+◌, true, List, [], ◌∷◌, ◌++◌, Option, Some, None}
use Rattle.hir_binding.specs.declared.binding.BindingAnnotation.TheVariants.{Mutable}
use Rattle.hir_syntax.specs.declared.ast.Literal.{Literal as AstLiteral}
use Rattle.hir_store.specs.declared.hir.Expr.TheVariants as hir
use Rattle.hir_store.specs.declared.hir.LoopSource.TheVariants as source
use Rattle.hir_store.specs.declared.hir.Mutability.{Mutability}
use Rattle.hir_store.specs.declared.hir.Mutability.TheVariants as mutability
use Rattle.hir_store.specs.declared.hir.Rawness.{Rawness}
use Rattle.hir_store.specs.declared.hir.Rawness.TheVariants as rawness
use Rattle.hir_store.specs.declared.hir.Statement.TheVariants as statement
use Rattle.hir_store.specs.declared.ids.HygieneId.{HygieneId}
use Rattle.hir_store.specs.declared.ids.LabelId.{LabelId}
use Rattle.hir_store.specs.declared.ids.LangItemId.{LangItemId}
use Rattle.hir_store.specs.declared.pat.Binding.{Binding}
use Rattle.hir_store.specs.declared.pat.Pat.{Pat as StoredPat}
use Rattle.hir_store.specs.declared.pat.Pat.TheVariants as pat
use Rattle.hir_store.specs.declared.path.Path.TheVariants.{LangItem}
use Rattle.hir_env.specs.Answering.{for_of, for_items_if}
use Rattle.hir_env.specs.ResolvedTree as tree
use Rattle.hir_env.specs.Targets.{head_pointer}
use Rattle.hir_env.specs.ResolvedTree.{Block, Expr, ForItems, Gone, Jump, OptionExpr, OptionPat}
use Rattle.spec_data.specs.Data as datum
use Rattle.spec_data.specs.Data.{PatData, item_path}
use Rattle.spec_semantics.specs.Run.{reply, unit, item, mutable_to, Event, event_at, call, reference, test, matches}
use Rattle.spec_semantics.specs.Run.{missing, unmatched, cut}
use Rattle.spec_semantics.specs.Store.{StoreBody}
use Rattle.spec_semantics.specs.Same.{ended, left}
use Rattle.spec_semantics.specs.Small.{at, root, one, literal_at, label_if, written_if, jump_a, in_braces, first, block_of, loop_of}
use Rattle.spec_semantics.specs.Small.{break_of}
use Rattle.spec_semantics.specs.Small.{StoredExprs, id, number, stored_one, stored_block, stored_loop, event_of, literal_event}
use Rattle.spec_semantics.specs.Small.{Example, BothDo, Does}
use Rattle.spec_semantics.specs.Forms.{yes, name_a, name_b, stored_a, stored_b, reads_a, reads_b}
use Rattle.spec_semantics.specs.Patterned.{StoredPats, PatternExample, BothDoPatterned, BothDoFuel, pat_number, binding_number}
use Rattle.spec_semantics.specs.Patterned.{x_at, stored_x, binding_x, x_data, wild_at, wild_data}
use Rattle.spec_semantics.specs.Questions.{lang, stored_item, made, made_binding, calls_item, arm_of, body_of}
use Rattle.spec_semantics.specs.Whiles.{empty_at, stored_empty}
use Rattle.spec_semantics.specs.Examples.{no}

-- lang items, by their numbers: 7 makes an iterator, 8 is called for the next one, 9 holds one and 10 holds none
abbrev pub iterator_items : ForItems
iterator_items = record { into_iter = lang 7; next = lang 8; gives = lang 9; is_done = lang 10 }

-- `for p in h b`, with a label `'a` of this hygiene or none
abbrev pub for_at : ℕ → Option HygieneId → OptionPat → Expr → Block → Expr
for_at n label p h b =
    tree.for_expr (at n) iterator_items (label_if label) (written_if label) p (tree.some_expr h) (tree.some_expr (tree.block_expr b))

-- stored

-- A `for`: its node and that of its head, which is stored in front of it; its label; its made name; its pattern, behind which stand those
-- that are made; and its body, which is the last of what is stored for it.
pub record For : Type 0 where
  pub node : ℕ
  pub head_node : ℕ
  pub head : ℕ
  pub label : Option LabelId
  pub name : ℕ
  pub pattern : ℕ
  pub body : ℕ

-- behind the head, around what is stored for the body
abbrev pub stored_for : For → StoredExprs → StoredExprs
stored_for f body =
    let head = Some f.head_node in
    let here = Some f.node in
    (stored_item (Some (lang 7)), head)
    ∷ (hir.Call (id (1 + f.head)) (id f.head ∷ []), head)
    ∷ (made f.name, here)
    ∷ (hir.Ref rawness.Ref mutability.Mut (id (3 + f.head)), here)
    ∷ (stored_item (Some (lang 8)), here)
    ∷ (hir.Call (id (5 + f.head)) (id (4 + f.head) ∷ []), here)
    ∷ (hir.Break None None, here)
    ∷ (body
    ++ (hir.Match (id (6 + f.head)) (arm_of (2 + f.pattern) (7 + f.head) ∷ arm_of (3 + f.pattern) f.body ∷ []), here)
    ∷ (stored_block None [] (1 + f.body), here)
    ∷ (hir.Loop (id (2 + f.body)) f.label source.ForLoop, here)
    ∷ (hir.Match (id (2 + f.head)) (arm_of (1 + f.pattern) (3 + f.body) ∷ []), here)
    ∷ [])

-- those of a `for`: its own, which has this number, then the one that binds the made name, and those of the two items
abbrev pub for_pats : ℕ → StoredPat × Option ℕ → ℕ → StoredPats
for_pats p own b = own
    ∷ (pat.Bind (binding_number b) None, None)
    ∷ (pat.Path (LangItem (lang 10)) root, None)
    ∷ (pat.TupleStruct (LangItem (lang 9)) None (pat_number p ∷ []), None)
    ∷ []

abbrev pub iterator_binding : ℕ → Binding
iterator_binding n = record (made_binding n) { mode = Mutable }

-- what happens

-- the item is called with a mutable reference to what this answer was, at this node
abbrev pub asks_next : ℕ → ℕ → Event
asks_next n node = event_of call (item (lang 8) ∷ mutable_to (reply n) ∷ []) node

-- what was answered is tested for the item that holds none, and for the one that holds what fits this, at no node
abbrev pub tests_done : ℕ → Event
tests_done n = event_at (test (matches (datum.pat_at None (datum.path_pattern (item_path (lang 10)) root)))) (reply n ∷ []) None

abbrev pub given_data : PatData → PatData
given_data p = datum.pat_at None (datum.tuple_struct_pattern (item_path (lang 9)) None (datum.more_patterns p datum.no_patterns))

abbrev pub tests_given : PatData → ℕ → Event
tests_given p n = event_at (test (matches (given_data p))) (reply n ∷ []) None

-- `for x in a {}`

abbrev pub for_x : PatternExample
for_x = record {
  written = tree.some_expr (for_at 0 None (x_at 2) name_a (empty_at 3));
  nodes = (stored_a, Some 1)
      ∷ stored_for (record { node = 0; head_node = 1; head = 0; label = None; name = 0; pattern = 0; body = 8 })
      ((stored_empty, Some 3) ∷ []);
  pats = for_pats 0 (stored_x, Some 2) 1;
  bindings = binding_x ∷ iterator_binding 0 ∷ [];
  root = 12;
}

-- a is read, and an iterator is made of its value
abbrev pub begun : List Event → List Event
begun behind = reads_a ∷ calls_item 7 (reply 11) 1 ∷ behind

-- the iterator is asked, and what it answers, which is this, is tested for both
abbrev pub given_x : ℕ → List Event → List Event
given_x n behind = asks_next 12 0 ∷ tests_done n ∷ tests_given (x_data 2) n ∷ behind

-- Turn after turn the iterator is asked, and it is the same one. With a yes for none the loop ends with unit.
abbrev pub AsksForTheNext : Type 0
AsksForTheNext = BothDoFuel for_x 3 (no 11 ∷ no 12 ∷ no 13 ∷ no 14 ∷ yes 15 ∷ no 16 ∷ yes 17 ∷ [])
    (begun (given_x 13 (asks_next 12 0 ∷ tests_done 16 ∷ [])))
    (ended unit)

-- With one turn it is cut before it asks again, and with none before it asks.
abbrev pub HasItsFuel : Type 0
HasItsFuel =
    BothDoFuel for_x 1 (no 11 ∷ no 12 ∷ no 13 ∷ no 14 ∷ yes 15 ∷ no 16 ∷ yes 17 ∷ []) (begun (given_x 13 [])) (left cut)
    × BothDoPatterned for_x (no 11 ∷ no 12 ∷ []) (begun []) (left cut)

-- What holds none and is none that fits the pattern fits nothing.
abbrev pub IsNeitherNoneNorGiven : Type 0
IsNeitherNoneNorGiven = BothDoFuel for_x 1 (no 11 ∷ no 12 ∷ no 13 ∷ no 14 ∷ no 15 ∷ []) (begun (given_x 13 [])) (left unmatched)

-- `for x in a { for _ in b {} }`

abbrev pub for_inside : PatternExample
for_inside = record {
  written = tree.some_expr (for_at 0 None (x_at 3) name_a (in_braces 4 None (for_at 5 None (wild_at 6) name_b (empty_at 7))));
  nodes = (stored_a, Some 1)
      ∷ stored_for (record { node = 0; head_node = 1; head = 0; label = None; name = 0; pattern = 0; body = 21 })
      (((stored_b, Some 2)
      ∷ stored_for (record { node = 5; head_node = 2; head = 8; label = None; name = 1; pattern = 4; body = 16 })
      ((stored_empty, Some 7) ∷ []))
      ++ (stored_block None [] 20, Some 4) ∷ []);
  pats = for_pats 0 (stored_x, Some 3) 1 ++ for_pats 4 (pat.Wild, Some 6) 2;
  bindings = binding_x ∷ iterator_binding 0 ∷ iterator_binding 1 ∷ [];
  root = 25;
}

-- Behind the inner one, which has its own iterator, the outer one asks that of its own again.
abbrev pub KeepsItsIterator : Type 0
KeepsItsIterator = BothDoFuel for_inside 2
    (no 11 ∷ no 12 ∷ no 13 ∷ no 14 ∷ yes 15 ∷ no 16 ∷ no 17 ∷ no 18 ∷ no 19 ∷ yes 20 ∷ no 21 ∷ yes 22 ∷ no 23 ∷ yes 24 ∷ [])
    (begun (asks_next 12 0 ∷ tests_done 13 ∷ tests_given (x_data 3) 13 ∷ reads_b ∷ calls_item 7 (reply 16) 2
    ∷ asks_next 17 5 ∷ tests_done 18 ∷ tests_given (wild_data 6) 18 ∷ asks_next 17 5 ∷ tests_done 21
    ∷ asks_next 12 0 ∷ tests_done 23 ∷ []))
    (ended unit)

-- the iterator is asked, and what it answers, which is this, fits `_` at node 3
abbrev pub given_any : ℕ → List Event → List Event
given_any n behind = asks_next 12 0 ∷ tests_done n ∷ tests_given (wild_data 3) n ∷ behind

-- `'a: for _ in a { loop { break 'a 1 } }`

abbrev pub break_in_for : PatternExample
break_in_for = record {
  written = tree.some_expr (for_at 0 (Some root) (wild_at 3) name_a
      (in_braces 4 None (loop_of 5 None (in_braces 6 None (break_of 7 (Some jump_a) (literal_at 8 one))))));
  nodes = (stored_a, Some 1)
      ∷ stored_for (record { node = 0; head_node = 1; head = 0; label = Some (number 0); name = 0; pattern = 0; body = 12 })
      ((stored_one, Some 8)
      ∷ (hir.Break (Some (number 0)) (Some (id 8)), Some 7)
      ∷ (stored_block None [] 9, Some 6)
      ∷ (stored_loop None 10, Some 5)
      ∷ (stored_block None [] 11, Some 4)
      ∷ []);
  pats = for_pats 0 (pat.Wild, Some 3) 0;
  bindings = iterator_binding 0 ∷ [];
  root = 16;
}

-- The body lies under the label: the break leaves both loops, and its value is that of the `for`.
abbrev pub LeavesByItsBody : Type 0
LeavesByItsBody = BothDoFuel break_in_for 2 (no 11 ∷ no 12 ∷ no 13 ∷ no 14 ∷ yes 15 ∷ no 16 ∷ [])
    (begun (given_any 13 (literal_event one 8 ∷ [])))
    (ended (reply 16))

-- `for _ in a { continue; 1 }`

abbrev pub continue_in_for : PatternExample
continue_in_for = record {
  written = tree.some_expr (for_at 0 None (wild_at 3) name_a
      (block_of 4 None (first (tree.continue_expr (at 5) None) tree.no_stmts) (literal_at 6 one)));
  nodes = (stored_a, Some 1)
      ∷ stored_for (record { node = 0; head_node = 1; head = 0; label = None; name = 0; pattern = 0; body = 10 })
      ((hir.Continue None, Some 5)
      ∷ (stored_one, Some 6)
      ∷ (stored_block None (statement.Expr (id 8) true ∷ []) 9, Some 4)
      ∷ []);
  pats = for_pats 0 (pat.Wild, Some 3) 0;
  bindings = iterator_binding 0 ∷ [];
  root = 14;
}

-- The continue ends the turn, and the next one asks again.
abbrev pub ContinuesTheFor : Type 0
ContinuesTheFor = BothDoFuel continue_in_for 2 (no 11 ∷ no 12 ∷ no 13 ∷ no 14 ∷ yes 15 ∷ no 16 ∷ yes 17 ∷ [])
    (begun (given_any 13 (asks_next 12 0 ∷ tests_done 16 ∷ [])))
    (ended unit)

-- `'a: loop { 'a: for _ in break 1 {} }`, the same with `break 'a 1`, and that where the `for` bears no label

abbrev pub break_in_head_under : Option HygieneId → Option LabelId → Option Jump → Option LabelId → PatternExample
break_in_head_under inner stored jump target = record {
  written = tree.some_expr (loop_of 0 (Some root)
      (in_braces 2 None (for_at 3 inner (wild_at 4) (break_of 5 jump (literal_at 6 one)) (empty_at 7))));
  nodes = (stored_one, Some 6)
      ∷ (hir.Break target (Some (id 0)), Some 5)
      ∷ (stored_for (record { node = 3; head_node = 5; head = 1; label = stored; name = 0; pattern = 0; body = 9 })
      ((stored_empty, Some 7) ∷ [])
      ++ (stored_block None [] 13, Some 2)
      ∷ (stored_loop (Some (number 0)) 14, Some 0)
      ∷ []);
  pats = for_pats 0 (pat.Wild, Some 4) 0;
  bindings = iterator_binding 0 ∷ [];
  root = 15;
}

-- where both bear the label
abbrev pub break_in_head : Option Jump → Option LabelId → PatternExample
break_in_head = break_in_head_under (Some root) (Some (number 1))

-- The head lies outside of the `for` and of its label: the outer loop is left, and no further one.
abbrev pub LeavesByItsHead : Type 0
LeavesByItsHead =
    BothDoFuel (break_in_head None None) 2 (no 11 ∷ []) (literal_event one 6 ∷ []) (ended (reply 11))
    × BothDoFuel (break_in_head (Some jump_a) (Some (number 0))) 2 (no 11 ∷ []) (literal_event one 6 ∷ []) (ended (reply 11))
    × BothDoFuel (break_in_head_under None None (Some jump_a) (Some (number 0))) 2 (no 11 ∷ []) (literal_event one 6 ∷ [])
    (ended (reply 11))

-- The iterator is made from the node of the head as it is written: that of the parentheses around it, and its own where it is disabled.
-- Where there is none it is made from the node of the `for`.
abbrev pub HeadAsWritten : Type 0
HeadAsWritten = (n m : ℕ) (why : Gone) (l : AstLiteral) (o : OptionExpr)
    → (head_pointer (at n) (tree.some_expr (tree.paren_expr (at m) o)) ≡ at m)
    × (head_pointer (at n) (tree.some_expr (tree.disabled_expr why (literal_at m l))) ≡ at m)
    × (head_pointer (at n) tree.no_expr ≡ at n)

-- a `for` for which these items are there

abbrev pub for_with : Option LangItemId → Option LangItemId → Option LangItemId → Option LangItemId → OptionPat → OptionExpr → OptionExpr
    → PatternExample
for_with into_iter next gives is_done p h b = record {
  written = tree.some_expr (for_of (for_items_if into_iter next gives is_done) (at 0) None tt p h b);
  nodes = (hir.Missing, None) ∷ [];
  pats = [];
  bindings = [];
  root = 0;
}

-- Without one of the four it is missing, and nothing in it runs.
abbrev pub ForItemlessIsMissing : Type 0
ForItemlessIsMissing = (p : OptionPat) (h b : OptionExpr)
    → BothDoPatterned (for_with None (Some (lang 8)) (Some (lang 9)) (Some (lang 10)) p h b) [] [] (left missing)
    × BothDoPatterned (for_with (Some (lang 7)) None (Some (lang 9)) (Some (lang 10)) p h b) [] [] (left missing)
    × BothDoPatterned (for_with (Some (lang 7)) (Some (lang 8)) None (Some (lang 10)) p h b) [] [] (left missing)
    × BothDoPatterned (for_with (Some (lang 7)) (Some (lang 8)) (Some (lang 9)) None p h b) [] [] (left missing)

-- references

-- `&mut a`

abbrev pub reference_written : Example
reference_written = record {
  written = tree.some_expr (tree.unary_expr (at 0) (tree.reference_to rawness.Ref mutability.Mut) (tree.some_expr name_a));
  nodes = (stored_a, Some 1) ∷ (hir.Ref rawness.Ref mutability.Mut (id 0), Some 0) ∷ [];
  root = 1;
}

-- `match 1 { g => &mut g }` of a made name, and the same with another reference

abbrev pub made_reference : Rawness → Mutability → StoreBody
made_reference kind mutable =
    body_of ((stored_one, Some 1) ∷ (made 0, None) ∷ (hir.Ref kind mutable (id 1), Some 2)
    ∷ (hir.Match (id 0) (arm_of 0 2 ∷ []), Some 0) ∷ [])
    ((pat.Bind (binding_number 0) None, None) ∷ []) (iterator_binding 0 ∷ []) 3

-- What is written makes its event. Of a made name a mutable reference is silent, and no other.
abbrev pub RefersSilently : Type 0
RefersSilently =
    BothDo reference_written 0 (no 11 ∷ no 12 ∷ []) (reads_a ∷ event_of (reference rawness.Ref mutability.Mut) (reply 11 ∷ []) 0 ∷ [])
    (ended (reply 12))
    × Does (made_reference rawness.Ref mutability.Mut) 0 (no 11 ∷ no 12 ∷ []) (literal_event one 1 ∷ []) (ended (mutable_to (reply 11)))
    × Does (made_reference rawness.Ref mutability.Shared) 0 (no 11 ∷ no 12 ∷ [])
    (literal_event one 1 ∷ event_of (reference rawness.Ref mutability.Shared) (reply 11 ∷ []) 2 ∷ [])
    (ended (reply 12))
    × Does (made_reference rawness.RawPtr mutability.Mut) 0 (no 11 ∷ no 12 ∷ [])
    (literal_event one 1 ∷ event_of (reference rawness.RawPtr mutability.Mut) (reply 11 ∷ []) 2 ∷ [])
    (ended (reply 12))
