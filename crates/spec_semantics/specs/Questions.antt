-- Small bodies with `?`, and what they do.
use Rattle.std.specs.Prelude.{ℕ, ◌+◌, false, List, [], ◌∷◌, ◌++◌, map, Option, Some, None, option_map}
use Rattle.hir_binding.specs.declared.binding.BindingAnnotation.TheVariants.{Unannotated}
use Rattle.hir_store.specs.declared.hir.Expr.{Expr as Stored}
use Rattle.hir_store.specs.declared.hir.Expr.TheVariants as hir
use Rattle.hir_store.specs.declared.hir.MatchArm.{MatchArm}
use Rattle.hir_store.specs.declared.hir.Statement.{Statement}
use Rattle.hir_store.specs.declared.hir.Statement.TheVariants as statement
use Rattle.hir_store.specs.declared.ids.ExprId.{ExprId}
use Rattle.hir_store.specs.declared.ids.LangItemId.{LangItemId}
use Rattle.hir_store.specs.declared.name.Name.TheVariants as name
use Rattle.hir_store.specs.declared.pat.Binding.{Binding}
use Rattle.hir_store.specs.declared.pat.Pat.TheVariants as pat
use Rattle.hir_store.specs.declared.path.Path.TheVariants.{BarePath, LangItem}
use Rattle.hir_store.specs.declared.path.PathKind.TheVariants.{Plain}
use Rattle.hir_env.specs.ResolvedTree as tree
use Rattle.hir_env.specs.ResolvedTree.{Expr, QuestionItems}
use Rattle.spec_data.specs.Data as datum
use Rattle.spec_data.specs.Data.{PatData, item_path}
use Rattle.spec_semantics.specs.Run.{Value, reply, item, Event, event_at, call, test, matches, missing, unmatched, returned}
use Rattle.spec_semantics.specs.Store.{StoreBody, stored_body}
use Rattle.spec_semantics.specs.Same.{ended, left}
use Rattle.spec_semantics.specs.Small.{end_of_temps, at, root, one, two, StoredExprs, only, from, id, stored_one, stored_two, event_of}
use Rattle.spec_semantics.specs.Small.{literal_event, Does}
use Rattle.spec_semantics.specs.Forms.{yes, name_a, stored_a, reads_a}
use Rattle.spec_semantics.specs.Patterned.{StoredPats, PatternExample, BothDoPatterned, pat_number, binding_number}
use Rattle.spec_semantics.specs.Examples.{no}

-- lang items, by their numbers: 1 is called with the operand, 2 and 3 are the kinds of what it answers
abbrev pub lang : ℕ → LangItemId
lang n = record { 0 = n }

-- with what makes of a residual the value of a `try` and of a body
abbrev pub items_with : Option LangItemId → Option LangItemId → QuestionItems
items_with into from = record { branch = lang 1; goes_on = lang 2; breaks = lang 3; into_try_type = into; from_residual = from }

abbrev pub all_items : QuestionItems
all_items = items_with (Some (lang 4)) (Some (lang 5))

-- `e?`
abbrev pub question_at : ℕ → QuestionItems → Expr → Expr
question_at n items e = tree.question_expr (at n) items (tree.some_expr e)

-- stored

abbrev pub stored_item : Option LangItemId → Stored
stored_item None = hir.Missing
stored_item (Some i) = hir.Path (LangItem i) root

-- a made name, as a path and as what a pattern binds
abbrev pub made : ℕ → Stored
made n = hir.Path (BarePath (record { kind = Plain; segments = name.Generated n ∷ [] })) root

abbrev pub made_binding : ℕ → Binding
made_binding n = record { name = name.Generated n; mode = Unannotated; hygiene = root; problems = None }

abbrev pub returns : ExprId → Stored
returns e = hir.Return (Some e)

-- A `?`: its node, its operand, which is stored in front of it, the first of its bindings and of its names, what makes the value, and
-- what leaves with it.
pub record Question : Type 0 where
  pub node : ℕ
  pub operand : ℕ
  pub binding : ℕ
  pub name : ℕ
  pub conversion : Option LangItemId
  pub leaving : ExprId → Stored

abbrev pub arm_of : ℕ → ℕ → MatchArm
arm_of p e = record { pat = pat_number p; guard = None; expr = id e }

-- behind the operand
abbrev pub stored_question : Question → StoredExprs
stored_question q =
    let here = Some q.node in
    let first = q.binding + q.binding in
    (stored_item (Some (lang 1)), here)
    ∷ (hir.Call (id (1 + q.operand)) (id q.operand ∷ []), here)
    ∷ (made q.name, here)
    ∷ (made (1 + q.name), here)
    ∷ (stored_item q.conversion, here)
    ∷ (hir.Call (id (5 + q.operand)) (id (4 + q.operand) ∷ []), here)
    ∷ (q.leaving (id (6 + q.operand)), here)
    ∷ (hir.Match (id (2 + q.operand)) (arm_of (1 + first) (3 + q.operand) ∷ arm_of (3 + first) (7 + q.operand) ∷ []), here)
    ∷ []

-- those of a `?` with this first binding: a name, and the item around it
abbrev pub question_pats : ℕ → StoredPats
question_pats b = (pat.Bind (binding_number b) None, None)
    ∷ (pat.TupleStruct (LangItem (lang 2)) None (pat_number (b + b) ∷ []), None)
    ∷ (pat.Bind (binding_number (1 + b)) None, None)
    ∷ (pat.TupleStruct (LangItem (lang 3)) None (pat_number (2 + (b + b)) ∷ []), None)
    ∷ []

abbrev pub question_bindings : ℕ → List Binding
question_bindings n = made_binding n ∷ made_binding (1 + n) ∷ []

-- what happens

-- the call of the item with this number, at this node
abbrev pub calls_item : ℕ → Value → ℕ → Event
calls_item i v n = event_of call (item (lang i) ∷ v ∷ []) n

-- a name that nobody wrote, and the item around it
abbrev pub made_data : PatData
made_data = datum.pat_at None datum.generated_pattern

abbrev pub kind_data : ℕ → PatData
kind_data i = datum.pat_at None (datum.tuple_struct_pattern (item_path (lang i)) None (datum.more_patterns made_data datum.no_patterns))

-- at no node
abbrev pub tests_kind : ℕ → ℕ → Event
tests_kind i n = event_at (test (matches (kind_data i))) (reply n ∷ []) None

-- `a?`, outside of a `try`

abbrev pub question_alone : Option LangItemId → PatternExample
question_alone conversion = record {
  written = tree.some_expr (question_at 0 (items_with (Some (lang 4)) conversion) name_a);
  nodes = (stored_a, Some 1)
      ∷ stored_question (record { node = 0; operand = 0; binding = 0; name = 0; conversion = conversion; leaving = returns });
  pats = question_pats 0;
  bindings = question_bindings 0;
  root = 8;
}

-- The operand is read, and the item is called with it. Where the answer is of the first kind, the answer to that test is the value, and
-- nothing else happens.
abbrev pub GoesOn : Type 0
GoesOn = BothDoPatterned (question_alone (Some (lang 5))) (no 11 ∷ no 12 ∷ yes 13 ∷ [])
    (reads_a ∷ calls_item 1 (reply 11) 0 ∷ tests_kind 2 12 ∷ [])
    (ended (reply 13))

-- before anything is made of the residual
abbrev pub both_tested : List Event → List Event
both_tested behind = reads_a ∷ calls_item 1 (reply 11) 0 ∷ tests_kind 2 12 ∷ tests_kind 3 12 ∷ behind

-- Where it is of the second, a call makes a value of the answer to that test, and the body returns it.
abbrev pub ReturnsTheResidual : Type 0
ReturnsTheResidual = BothDoPatterned (question_alone (Some (lang 5))) (no 11 ∷ no 12 ∷ no 13 ∷ yes 14 ∷ no 15 ∷ [])
    (both_tested (calls_item 5 (reply 14) 0 ∷ []))
    (left (returned (reply 15)))

-- Where it is of neither, nothing fits.
abbrev pub IsOfNeitherKind : Type 0
IsOfNeitherKind = BothDoPatterned (question_alone (Some (lang 5))) (no 11 ∷ no 12 ∷ no 13 ∷ no 14 ∷ []) (both_tested []) (left unmatched)

-- What lacks its item is missing where it would be called, and no sooner.
abbrev pub LacksItsConversion : Type 0
LacksItsConversion =
    BothDoPatterned (question_alone None) (no 11 ∷ no 12 ∷ no 13 ∷ yes 14 ∷ []) (both_tested []) (left missing)
    × BothDoPatterned (question_alone None) (no 11 ∷ no 12 ∷ yes 13 ∷ [])
    (reads_a ∷ calls_item 1 (reply 11) 0 ∷ tests_kind 2 12 ∷ [])
    (ended (reply 13))

-- `a?` for which one of the first three items is lacking

abbrev pub question_itemless : PatternExample
question_itemless = record {
  written = tree.some_expr (tree.itemless_expr (at 0));
  nodes = (hir.Missing, None) ∷ [];
  pats = [];
  bindings = [];
  root = 0;
}

-- It is missing, and a isn't read.
abbrev pub ItemlessIsMissing : Type 0
ItemlessIsMissing = BothDoPatterned question_itemless [] [] (left missing)

-- `a??`

abbrev pub question_twice : PatternExample
question_twice = record {
  written = tree.some_expr (question_at 0 all_items (question_at 3 all_items name_a));
  nodes = (stored_a, Some 1)
      ∷ (stored_question (record { node = 3; operand = 0; binding = 0; name = 0; conversion = Some (lang 5); leaving = returns })
      ++ stored_question (record { node = 0; operand = 8; binding = 2; name = 2; conversion = Some (lang 5); leaving = returns }));
  pats = question_pats 0 ++ question_pats 2;
  bindings = question_bindings 0 ++ question_bindings 2;
  root = 16;
}

-- The value of the inner one is the operand of the outer one; what the inner one returns never comes to it.
abbrev pub AsksOfTheAnswer : Type 0
AsksOfTheAnswer =
    BothDoPatterned question_twice (no 11 ∷ no 12 ∷ yes 13 ∷ no 14 ∷ yes 15 ∷ [])
    (reads_a ∷ calls_item 1 (reply 11) 3 ∷ tests_kind 2 12 ∷ calls_item 1 (reply 13) 0 ∷ tests_kind 2 14 ∷ [])
    (ended (reply 15))
    × BothDoPatterned question_twice (no 11 ∷ no 12 ∷ no 13 ∷ yes 14 ∷ no 15 ∷ [])
    (reads_a ∷ calls_item 1 (reply 11) 3 ∷ tests_kind 2 12 ∷ tests_kind 3 12 ∷ calls_item 5 (reply 14) 3 ∷ [])
    (left (returned (reply 15)))

-- made names, in stored bodies that stand for no written one

abbrev pub body_of : StoredExprs → StoredPats → List Binding → ℕ → StoreBody
body_of ns ps bs root = stored_body (record (only ns) { pats = map (λ p. p.0) ps; bindings = bs })
    (record (from ns) { pat_sources = map (λ p. option_map at p.1) ps }) (id root)

abbrev pub two_made : StoredPats
two_made = (pat.Bind (binding_number 0) None, None) ∷ (pat.Bind (binding_number 1) None, None) ∷ []

-- `let`, of the made name with this number
abbrev pub made_let : ℕ → ExprId → Statement
made_let n e = statement.Let (pat_number n) None (Some e) None

-- `{ let g = 1; let h = 2; g }`, `match 1 { g => g }` and `g`
abbrev pub made_lets : StoredExprs
made_lets = (stored_one, Some 1) ∷ (stored_two, Some 2) ∷ (made 0, None)
    ∷ (hir.Block false None None (made_let 0 (id 0) ∷ made_let 1 (id 1) ∷ []) (Some (id 2)), Some 0)
    ∷ []

abbrev pub made_match : StoredExprs
made_match = (stored_one, Some 1) ∷ (made 0, None) ∷ (hir.Match (id 0) (arm_of 0 1 ∷ []), Some 0) ∷ []

abbrev pub made_alone : StoredExprs
made_alone = (made 0, None) ∷ []

-- Binding and reading such a name is silent, and its value is its own. One that took no value is missing.
abbrev pub NamesKeepTheirValues : Type 0
NamesKeepTheirValues =
    Does (body_of made_lets two_made (question_bindings 0) 3) 0 (no 11 ∷ no 12 ∷ [])
    (literal_event one 1 ∷ end_of_temps ∷ literal_event two 2 ∷ end_of_temps ∷ [])
    (ended (reply 11))
    × Does (body_of made_match two_made (question_bindings 0) 2) 0 (no 11 ∷ []) (literal_event one 1 ∷ []) (ended (reply 11))
    × Does (body_of made_alone [] [] 0) 0 [] [] (left missing)
