-- Small bodies of forms with patterns, and what they do.
use Rattle.std.specs.Prelude.{ℕ, true, false, codes, List, [], ◌∷◌, map, Option, Some, None, option_map}
use Rattle.hir_binding.specs.declared.binding.BindingAnnotation.TheVariants.{Unannotated}
use Rattle.hir_store.specs.Stored.{Store, SourceMap}
use Rattle.hir_store.specs.declared.hir.Expr.TheVariants as hir
use Rattle.hir_store.specs.declared.hir.RecordSpread.TheVariants as spread
use Rattle.hir_store.specs.declared.hir.Statement.TheVariants as statement
use Rattle.hir_store.specs.declared.ids.BindingId.{BindingId}
use Rattle.hir_store.specs.declared.ids.CfgId.{CfgId}
use Rattle.hir_store.specs.declared.ids.LangItemId.{LangItemId}
use Rattle.hir_store.specs.declared.ids.PatId.{PatId}
use Rattle.hir_store.specs.declared.name.Name.{Name}
use Rattle.hir_store.specs.declared.name.Name.TheVariants as name
use Rattle.hir_store.specs.declared.pat.Binding.{Binding}
use Rattle.hir_store.specs.declared.pat.Pat.{Pat as StoredPat}
use Rattle.hir_store.specs.declared.pat.Pat.TheVariants as pat
use Rattle.hir_store.specs.declared.path.Path.TheVariants.{LangItem}
use Rattle.hir_env.specs.ResolvedTree as tree
use Rattle.hir_env.specs.ResolvedTree.{OptionExpr, OptionPat, Path, RangeForm, Target}
use Rattle.hir_env.specs.Targets.{origin}
use Rattle.spec_data.specs.Data as datum
use Rattle.spec_data.specs.Data.{PatData, pat_at, item_path}
use Rattle.spec_semantics.specs.Inner.{InnerBody, limit_body}
use Rattle.spec_semantics.specs.Limits.{written_inner}
use Rattle.spec_semantics.specs.Run.{unit, reply, truth, item, Event, event_at, Oracle, test, is_true, matches, bound, assigned, call}
use Rattle.spec_semantics.specs.Run.{made_record, no_spread, missing, unmatched}
use Rattle.spec_semantics.specs.Syntax.{written_body}
use Rattle.spec_semantics.specs.Store.{stored_body}
use Rattle.spec_semantics.specs.Same.{Ending, ended, left}
use Rattle.spec_semantics.specs.Small.{end_of_temps, at, root, one, two, literal_at, name_at, none_beside, in_braces}
use Rattle.spec_semantics.specs.Small.{StoredExprs, only, from, id, stored_one, stored_two, stored_name, stored_block}
use Rattle.spec_semantics.specs.Small.{bare_data, event_of, literal_event, read_name, Does}
use Rattle.spec_semantics.specs.Forms.{yes, name_a, name_b, stored_a, stored_b, reads_a, reads_b}
use Rattle.spec_semantics.specs.Examples.{no}

-- patterns, each with the node that it came from, where it came from one
abbrev pub StoredPats : Type 0
StoredPats = List (StoredPat × Option ℕ)

-- a body as it is written, and expressions, patterns and bindings, of which this expression is the body as it is stored
pub record PatternExample : Type 0 where
  pub written : OptionExpr
  pub nodes : StoredExprs
  pub pats : StoredPats
  pub bindings : List Binding
  pub root : ℕ

abbrev pub patterns_in : PatternExample → Store
patterns_in x = record (only x.nodes) { pats = map (λ p. p.0) x.pats; bindings = x.bindings }

abbrev pub map_of_patterns : PatternExample → SourceMap
map_of_patterns x = record (from x.nodes) { pat_sources = map (λ p. option_map at p.1) x.pats }

-- as it is written and as it is stored
pub record BothDoFuel (x : PatternExample) (fuel : ℕ) (answers : Oracle) (es : List Event) (end : Ending) : Type 0 where
  pub written : Does (written_body x.written) fuel answers es end
  pub stored : Does (stored_body (patterns_in x) (map_of_patterns x) (id x.root)) fuel answers es end

-- where no loop has a turn
abbrev pub BothDoPatterned : PatternExample → Oracle → List Event → Ending → Type 0
BothDoPatterned x answers es end = BothDoFuel x 0 answers es end

abbrev pub pat_number : ℕ → PatId
pat_number n = record { 0 = n }

abbrev pub binding_number : ℕ → BindingId
binding_number n = record { 0 = n }

-- the name x, which is bound at this node
abbrev pub name_x : Name
name_x = name.Text (codes "x")

abbrev pub x_at : ℕ → OptionPat
x_at n = tree.some_pat (tree.bind_pat (at n) (record { name = name_x; hygiene = root; mode = Unannotated }) tt tree.no_pat)

abbrev pub stored_x : StoredPat
stored_x = pat.Bind (binding_number 0) None

abbrev pub binding_x : Binding
binding_x = record { name = name_x; mode = Unannotated; hygiene = root; problems = None }

abbrev pub x_data : ℕ → PatData
x_data n = pat_at (Some (at n)) (datum.bind_pattern name_x root Unannotated datum.no_pattern)

abbrev pub wild_at : ℕ → OptionPat
wild_at n = tree.some_pat (tree.leaf_pat (at n) tree.wild_leaf)

abbrev pub wild_data : ℕ → PatData
wild_data n = pat_at (Some (at n)) datum.wild_pattern

-- assignments

-- `(a, .., S) = c`, where S stands for a struct

abbrev pub path_s : Path
path_s = tree.path None false (tree.name_segment (name.Text (codes "S")) tt none_beside) tree.no_segments tree.no_path

abbrev pub pair_target : Target
pair_target = tree.tuple_target (origin None (at 1)) (tree.more_targets (tree.place_target (at 2) (name_at 97 2))
    (tree.dots_targets (tree.more_targets (tree.path_target (origin None (at 4)) path_s root) tree.no_targets)))

abbrev pub assignment : OptionExpr → PatternExample
assignment e = record {
  written = tree.some_expr (tree.assign_expr (at 0) e pair_target (tree.some_expr (name_at 99 5)));
  nodes = (stored_a, Some 2)
      ∷ (hir.Path (stored_name 99) root, Some 5)
      ∷ (hir.Assignment (pat_number 2) (id 1), Some 0)
      ∷ [];
  pats = (pat.Expr (id 0), Some 2)
      ∷ (pat.Path (stored_name 83) root, Some 4)
      ∷ (pat.Tuple (Some 1) (pat_number 0 ∷ pat_number 1 ∷ []), Some 1)
      ∷ [];
  bindings = [];
  root = 2;
}

abbrev pub pair_data : PatData
pair_data = pat_at (Some (at 1)) (datum.tuple_pattern (Some 1) (datum.more_patterns (pat_at (Some (at 2)) datum.place_pattern)
    (datum.more_patterns (pat_at (Some (at 4)) (datum.path_pattern (bare_data (name.Text (codes "S"))) root)) datum.no_patterns)))

-- The value is read, then the place, and then both are assigned.
abbrev pub AssignsInOrder : Type 0
AssignsInOrder = (e : OptionExpr) → BothDoPatterned (assignment e) (no 11 ∷ no 12 ∷ no 13 ∷ [])
    (event_of (read_name 99) [] 5 ∷ event_of (read_name 97) [] 2
    ∷ event_of (assigned pair_data) (reply 11 ∷ reply 12 ∷ []) 0 ∷ [])
    (ended unit)

-- `let` as a condition

-- `let x = a`

abbrev pub condition : PatternExample
condition = record {
  written = tree.some_expr (tree.let_expr (at 0) (x_at 2) (tree.some_expr name_a));
  nodes = (stored_a, Some 1) ∷ (hir.Let (pat_number 0) (id 0), Some 0) ∷ [];
  pats = (stored_x, Some 2) ∷ [];
  bindings = binding_x ∷ [];
  root = 1;
}

-- Its value is whether the operand fits.
abbrev pub TestsThePattern : Type 0
TestsThePattern = BothDoPatterned condition (no 11 ∷ yes 12 ∷ [])
    (reads_a ∷ event_of (test (matches (x_data 2))) (reply 11 ∷ []) 2 ∷ [])
    (ended (truth true))

-- `match`

-- `match a { x if b => 1, x => 1, _ => 2 }` with a disabled second arm, and `match a {}`

abbrev pub arms : CfgId → PatternExample
arms by = record {
  written = tree.some_expr (tree.match_expr (at 0) (tree.some_expr name_a)
      (tree.more_arms (tree.arm (x_at 3) (tree.some_expr (literal_at 4 one)) (tree.guard (tree.some_expr name_b)))
      (tree.more_arms (tree.disabled_arm (at 5) by (tree.arm (x_at 5) (tree.some_expr (literal_at 5 one)) tree.no_guard))
      (tree.more_arms (tree.arm (wild_at 6) (tree.some_expr (literal_at 7 two)) tree.no_guard) tree.no_arms))));
  nodes = (stored_a, Some 1)
      ∷ (stored_one, Some 4)
      ∷ (stored_b, Some 2)
      ∷ (stored_two, Some 7)
      ∷ (
        hir.Match (id 0) (record { pat = pat_number 0; guard = Some (id 2); expr = id 1 }
            ∷ record { pat = pat_number 1; guard = None; expr = id 3 } ∷ []),
        Some 0,
      )
      ∷ [];
  pats = (stored_x, Some 3) ∷ (pat.Wild, Some 6) ∷ [];
  bindings = binding_x ∷ [];
  root = 4;
}

abbrev pub tests_x : Event
tests_x = event_of (test (matches (x_data 3))) (reply 11 ∷ []) 3

abbrev pub tests_guard : Event
tests_guard = event_of (test is_true) (reply 13 ∷ []) 0

abbrev pub tests_wild : Event
tests_wild = event_of (test (matches (wild_data 6))) (reply 11 ∷ []) 6

abbrev pub no_arms_at_all : PatternExample
no_arms_at_all = record {
  written = tree.some_expr (tree.match_expr (at 0) (tree.some_expr name_a) tree.no_arms);
  nodes = (stored_a, Some 1) ∷ (hir.Match (id 0) [], Some 0) ∷ [];
  pats = [];
  bindings = [];
  root = 1;
}

-- Where x fits and the guard holds, the first arm is the value; where the guard doesn't hold, or x doesn't fit, `_` is tried; where
-- nothing fits, nothing does.
abbrev pub TriesTheArms : Type 0
TriesTheArms = (by : CfgId)
    → BothDoPatterned (arms by) (no 11 ∷ yes 12 ∷ no 13 ∷ yes 14 ∷ no 15 ∷ [])
    (reads_a ∷ tests_x ∷ reads_b ∷ tests_guard ∷ literal_event one 4 ∷ []) (ended (reply 15))
    × BothDoPatterned (arms by) (no 11 ∷ yes 12 ∷ no 13 ∷ no 14 ∷ yes 15 ∷ no 16 ∷ [])
    (reads_a ∷ tests_x ∷ reads_b ∷ tests_guard ∷ tests_wild ∷ literal_event two 7 ∷ []) (ended (reply 16))
    × BothDoPatterned (arms by) (no 11 ∷ no 12 ∷ no 13 ∷ []) (reads_a ∷ tests_x ∷ tests_wild ∷ []) (left unmatched)
    × BothDoPatterned no_arms_at_all (no 11 ∷ []) (reads_a ∷ []) (left unmatched)

-- `let` statements

-- `{ let x = a else { 1 }; 2 }`

abbrev pub else_leaves : PatternExample
else_leaves = record {
  written = tree.some_expr (tree.block_expr (tree.block (at 0) false None tt None
      (tree.more_stmts (tree.let_stmt (x_at 3) tree.no_type (tree.some_expr name_a)
      (tree.some_block (in_braces 4 None (literal_at 5 one)))) tree.no_stmts)
      (tree.some_expr (literal_at 6 two))));
  nodes = (stored_a, Some 1)
      ∷ (stored_one, Some 5)
      ∷ (stored_block None [] 1, Some 4)
      ∷ (stored_two, Some 6)
      ∷ (stored_block None (statement.Let (pat_number 0) None (Some (id 0)) (Some (id 2)) ∷ []) 3, Some 0)
      ∷ [];
  pats = (stored_x, Some 3) ∷ [];
  bindings = binding_x ∷ [];
  root = 4;
}

abbrev pub binds_x : Event
binds_x = event_of (bound (x_data 3) datum.no_type) (reply 11 ∷ []) 3

-- Where the value fits, what follows happens; else the block behind `else` does, and a value of that is none of the body.
abbrev pub LeavesByElse : Type 0
LeavesByElse =
    BothDoPatterned else_leaves (no 11 ∷ yes 12 ∷ no 13 ∷ no 14 ∷ []) (reads_a ∷ binds_x ∷ end_of_temps ∷ literal_event two 6 ∷ [])
    (ended (reply 14))
    × BothDoPatterned else_leaves (no 11 ∷ no 12 ∷ no 13 ∷ []) (reads_a ∷ binds_x ∷ literal_event one 5 ∷ []) (left unmatched)

-- `{ let x = a; let x; }` with a disabled first statement

abbrev pub declared : CfgId → PatternExample
declared by = record {
  written = tree.some_expr (tree.block_expr (tree.block (at 0) false None tt None
      (tree.more_stmts (tree.disabled_stmt (at 1) by (tree.let_stmt (x_at 2) tree.no_type (tree.some_expr name_a) tree.no_block))
      (tree.more_stmts (tree.let_stmt (x_at 3) tree.no_type tree.no_expr tree.no_block) tree.no_stmts))
      tree.no_expr));
  nodes = (hir.Block false None None (statement.Let (pat_number 0) None None None ∷ []) None, Some 0) ∷ [];
  pats = (stored_x, Some 3) ∷ [];
  bindings = binding_x ∷ [];
  root = 0;
}

-- It is bound to nothing, and whether that fits doesn't count.
abbrev pub BindsNoValue : Type 0
BindsNoValue = (by : CfgId)
    → BothDoPatterned (declared by) (no 11 ∷ []) (event_of (bound (x_data 3) datum.no_type) [] 3 ∷ end_of_temps ∷ []) (ended unit)

-- ranges

-- `a..=b` as a record of an item, and as a call of one; `..`, and `a..b` without its item

abbrev pub range_of : RangeForm → OptionExpr → OptionExpr → OptionExpr
range_of form start end = tree.some_expr (tree.range_expr (at 0) form start end)

abbrev pub start_name : Name
start_name = name.Text (codes "start")

abbrev pub last_name : Name
last_name = name.Text (codes "last")

abbrev pub range_record : LangItemId → PatternExample
range_record i = record {
  written = range_of (tree.record_range i last_name) (tree.some_expr name_a) (tree.some_expr name_b);
  nodes = (stored_a, Some 1)
      ∷ (stored_b, Some 2)
      ∷ (
        hir.RecordLit (LangItem i) (record { name = start_name; expr = id 0 } ∷ record { name = last_name; expr = id 1 } ∷ [])
            spread.None,
        Some 0,
      )
      ∷ [];
  pats = [];
  bindings = [];
  root = 2;
}

abbrev pub range_call : LangItemId → PatternExample
range_call i = record {
  written = range_of (tree.call_range (Some i)) (tree.some_expr name_a) (tree.some_expr name_b);
  nodes = (stored_a, Some 1)
      ∷ (stored_b, Some 2)
      ∷ (hir.Path (LangItem i) root, None)
      ∷ (hir.Call (id 2) (id 0 ∷ id 1 ∷ []), Some 0)
      ∷ [];
  pats = [];
  bindings = [];
  root = 3;
}

abbrev pub range_full : LangItemId → PatternExample
range_full i = record {
  written = range_of (tree.record_range i last_name) tree.no_expr tree.no_expr;
  nodes = (hir.RecordLit (LangItem i) [] spread.None, Some 0) ∷ [];
  pats = [];
  bindings = [];
  root = 0;
}

abbrev pub range_without : PatternExample
range_without = record {
  written = range_of tree.itemless_range (tree.some_expr name_a) (tree.some_expr name_b);
  nodes = (stored_a, Some 1) ∷ (stored_b, Some 2) ∷ (hir.Missing, Some 0) ∷ [];
  pats = [];
  bindings = [];
  root = 2;
}

-- Both ends are read in order. The item itself is a value, and nothing happens for it.
abbrev pub MakesRanges : Type 0
MakesRanges = (i : LangItemId)
    → BothDoPatterned (range_record i) (no 11 ∷ no 12 ∷ no 13 ∷ [])
    (reads_a ∷ reads_b
    ∷ event_of (made_record (item_path i) (start_name ∷ last_name ∷ []) no_spread) (reply 11 ∷ reply 12 ∷ []) 0 ∷ [])
    (ended (reply 13))
    × BothDoPatterned (range_call i) (no 11 ∷ no 12 ∷ no 13 ∷ [])
    (reads_a ∷ reads_b ∷ event_of call (item i ∷ reply 11 ∷ reply 12 ∷ []) 0 ∷ []) (ended (reply 13))
    × BothDoPatterned (range_full i) (no 11 ∷ [])
    (event_of (made_record (item_path i) [] no_spread) [] 0 ∷ []) (ended (reply 11))
    × BothDoPatterned range_without [] [] (left missing)

-- ends of ranges in types

-- the last before 1, by a call of an item, as a body of its own

abbrev pub last_before_one : LangItemId → InnerBody
last_before_one i = limit_body (tree.before_limit (Some i) (tree.literal_side (at 1) (record { minus = false; literal = one })))

abbrev pub stored_last : LangItemId → StoredExprs
stored_last i = (stored_one, Some 1) ∷ (hir.Path (LangItem i) root, None) ∷ (hir.Call (id 1) (id 0 ∷ []), None) ∷ []

abbrev pub last_events : LangItemId → List Event
last_events i = literal_event one 1 ∷ event_at call (item i ∷ reply 11 ∷ []) None ∷ []

-- The literal happens at its node, and the call of the item at none.
abbrev pub CallsForTheLast : Type 0
CallsForTheLast = (i : LangItemId)
    → Does (written_inner (last_before_one i)) 0 (no 11 ∷ no 12 ∷ []) (last_events i) (ended (reply 12))
    × Does (stored_body (only (stored_last i)) (from (stored_last i)) (id 2)) 0 (no 11 ∷ no 12 ∷ []) (last_events i) (ended (reply 12))
