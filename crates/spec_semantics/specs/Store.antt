-- How a stored body runs: over a store and the sources of its expressions. It knows the stored forms and the
-- numbers of labels, and nothing of the tree (rust-analyzer, `hir_def::hir::Expr`).
use Rattle.std.specs.Prelude.{ℕ, zero, suc, Bool, true, false, nat_eq, if◌then◌else◌, List, [], ◌∷◌, ◌++◌, map, length, slice_get}
use Rattle.std.specs.Prelude.{Option, Some, None, option_map}
use Rattle.hir_store.specs.Pointers.{flat_option}
use Rattle.hir_store.specs.Stored.{Store, SourceMap}
use Rattle.hir_store.specs.declared.hir.Expr.{Expr}
use Rattle.hir_store.specs.declared.hir.Array.TheVariants as hir_array
use Rattle.hir_store.specs.declared.hir.Expr.TheVariants as hir
use Rattle.hir_store.specs.declared.hir.MatchArm.{MatchArm}
use Rattle.hir_store.specs.declared.hir.Mutability.{Mutability}
use Rattle.hir_store.specs.declared.hir.Mutability.TheVariants as mutability
use Rattle.hir_store.specs.declared.hir.Rawness.{Rawness}
use Rattle.hir_store.specs.declared.hir.Rawness.TheVariants as rawness
use Rattle.hir_store.specs.declared.hir.Statement.{Statement}
use Rattle.hir_store.specs.declared.hir.Statement.TheVariants as statement
use Rattle.hir_store.specs.declared.ids.ExprId.{ExprId}
use Rattle.hir_store.specs.declared.ids.HygieneId.{HygieneId}
use Rattle.hir_store.specs.declared.ids.TypeRefId.{TypeRefId}
use Rattle.hir_store.specs.declared.name.Name.{Name}
use Rattle.hir_store.specs.declared.name.Name.TheVariants as name
use Rattle.hir_store.specs.declared.pat.Binding.{Binding}
use Rattle.hir_store.specs.declared.pat.Pat.{Pat}
use Rattle.hir_store.specs.declared.pat.Pat.TheVariants as pat
use Rattle.hir_store.specs.declared.ids.LabelId.{LabelId}
use Rattle.hir_store.specs.declared.ids.PatId.{PatId}
use Rattle.hir_env.specs.NodeMap.{Site}
use Rattle.hir_env.specs.Answering.{site_of}
use Rattle.hir_store.specs.declared.hir.RecordSpread.{RecordSpread}
use Rattle.hir_store.specs.declared.hir.RecordSpread.TheVariants as spread
use Rattle.spec_data.specs.Literals.{literal_read}
use Rattle.spec_data.specs.Data.{PathData, PatData, OptionTypeData, no_type, some_type, pattern_site}
use Rattle.spec_data.specs.GeneratedNames.{generated_name}
use Rattle.spec_data.specs.Reading.{binding_found, stored_path, stored_type, stored_option_type, stored_args, stored_pat}
use Rattle.spec_semantics.specs.Places.{places}
use Rattle.spec_semantics.specs.Run.{Value, reply, unit, truth, mutable_to, argument, is_true, matches, test, bound, Operation, literal}
use Rattle.spec_semantics.specs.Run.{call, Answer}
use Rattle.spec_semantics.specs.Run.{Outcome, value, break, continue, leave, missing, Body, Run}
use Rattle.spec_semantics.specs.Run.{underscore, include_bytes, field, prefix, reference, operator, index, array, method_call}
use Rattle.spec_semantics.specs.Run.{repeated, const_block, closure}
use Rattle.spec_semantics.specs.Run.{yielding, awaiting, cast, SpreadForm, no_spread, field_defaults, rest_of, made_record, offset_of}
use Rattle.spec_semantics.specs.Run.{returned, became, yeeted, unmatched, made_tuple, lazy_logic, read_path, binds, assigns}
use Rattle.hir_base.specs.declared.op.BinaryOp.TheVariants as ast
use Rattle.spec_semantics.specs.Run.{ends, ends_temps, pure, ◌>>=◌, ◌>>◌, event, ask, tests, tests_pattern, in_block_scope}
use Rattle.spec_semantics.specs.Catching.{iteration, loop, block}

-- the label that a jump names; None: a plain jump
abbrev pub JumpLabel : Type 0
JumpLabel = Option LabelId

-- what it keeps besides: the values of the names that lowering made up, by their numbers
abbrev pub RunTable : Type 0
RunTable = ℕ → Option Value

abbrev pub new_table : RunTable
new_table = λ n. None

abbrev pub with_name : ℕ → Value → RunTable → RunTable
with_name n v table = λ k. if nat_eq k n then Some v else table k

abbrev pub with_argument : Option ℕ → ℕ → RunTable → RunTable
with_argument None i table = table
with_argument (Some n) i table = with_name n (argument i) table

abbrev pub StoreRun : Type 0 → Type 0
StoreRun A = Run RunTable JumpLabel A

abbrev pub StoreBody : Type 0
StoreBody = Body RunTable JumpLabel

-- names that lowering made up

-- the number of such a name
abbrev pub number_made : Name → Option ℕ
number_made (name.Generated n) = Some n
number_made _ = None

abbrev pub name_bound : Option Binding → Option ℕ
name_bound None = None
name_bound (Some b) = number_made b.name

-- the name takes the value
unfoldable pub takes : ℕ → Value → StoreRun (Unit {0})
takes n v = λ w. (value tt, record w { table = with_name n v w.table })

-- one without a value is missing
abbrev pub looked_up : Option Value → Outcome JumpLabel Value
looked_up None = leave missing
looked_up (Some v) = value v

unfoldable pub looks_up : ℕ → StoreRun Value
looks_up n = λ w. (looked_up (w.table n), w)

-- A read of such a name is silent.
abbrev pub read_or_look : Option ℕ → PathData → HygieneId → Option Site → StoreRun Value
read_or_look None p h site = read_path p h site
read_or_look (Some n) p h site = looks_up n

-- A mutable reference to what such a name stands for is silent.
abbrev pub refers_or_asks : Option ℕ → Rawness → Mutability → StoreRun Value → Option Site → StoreRun Value
refers_or_asks (Some n) rawness.Ref mutability.Mut m site = do
  v ← m
  pure (mutable_to v)
refers_or_asks made kind mutable m site = do
  v ← m
  ask (reference kind mutable) (v ∷ []) site

-- the name takes the answer, where it is yes
abbrev pub takes_if : ℕ → Answer → StoreRun (Unit {0})
takes_if n a = if a.yes then takes n (reply a.value) else pure tt

-- Whether the value fits the pattern. A name that is the whole pattern takes the value, and nothing happens; one that is the part of
-- the pattern takes the answer.
abbrev pub fits_or_takes : Option ℕ → Option ℕ → PatData → Value → StoreRun Bool
fits_or_takes (Some n) part p v = do
  takes n v
  pure true
fits_or_takes None (Some n) p v = do
  a ← event (test (matches p)) (v ∷ []) (pattern_site p)
  takes_if n a
  pure a.yes
fits_or_takes None None p v = tests_pattern p v

-- the name takes the value, where there is one
abbrev pub takes_first : ℕ → List Value → StoreRun (Unit {0})
takes_first n [] = pure tt
takes_first n (v ∷ vs) = takes n v

-- A `let` statement of such a name is silent, where no type is written; with one the name takes the answer.
abbrev pub binds_or_takes : Option ℕ → PatData → OptionTypeData → List Value → StoreRun Bool
binds_or_takes None p t vs = binds p t vs
binds_or_takes (Some n) p no_type vs = do
  takes_first n vs
  pure true
binds_or_takes (Some n) p (some_type t) vs = do
  a ← event (bound p (some_type t)) vs (pattern_site p)
  takes n (reply a.value)
  pure a.yes

-- jumps

abbrev pub is_named : Option LabelId → LabelId → Bool
is_named None k = false
is_named (Some n) k = nat_eq n.0 k.0

-- A plain jump is caught by the innermost loop, a labelled one by the loop with that number.
abbrev pub past_loop : Option LabelId → JumpLabel → Option JumpLabel
past_loop l None = None
past_loop l (Some k) = if is_named l k then None else Some (Some k)

-- A labelled break is caught by the block with that number as well.
abbrev pub past_block : Option LabelId → JumpLabel → Option JumpLabel
past_block l None = Some None
past_block l (Some k) = if is_named l k then None else Some (Some k)

abbrev pub others_form : RecordSpread → SpreadForm
others_form spread.None = no_spread
others_form spread.FieldDefaults = field_defaults
others_form (spread.Expr i) = rest_of

-- parts of a node, with what runs them

module _ (fuel : ℕ) (part : ExprId → StoreRun Value) where
  abbrev pub run_or_unit : Option ExprId → StoreRun Value
  run_or_unit None = pure unit
  run_or_unit (Some i) = part i

  abbrev pub run_each : List ExprId → StoreRun (List Value)
  run_each [] = pure []
  run_each (i ∷ is) = do
    v ← part i
    vs ← run_each is
    pure (v ∷ vs)

  -- the value of the record that the other fields come from
  abbrev pub run_others : RecordSpread → StoreRun (List Value)
  run_others spread.None = pure []
  run_others spread.FieldDefaults = pure []
  run_others (spread.Expr i) = do
    v ← part i
    pure (v ∷ [])

  -- an absent initializer is no operand
  abbrev pub run_present : Option ExprId → StoreRun (List Value)
  run_present None = pure []
  run_present (Some i) = do
    v ← part i
    pure (v ∷ [])

  -- the body of an arm, or the arms behind it where its guard doesn't hold
  abbrev pub run_guarded : Option ExprId → Option Site → StoreRun Value → StoreRun Value → StoreRun Value
  run_guarded None site body others = body
  run_guarded (Some c) site body others = do
    v ← part c
    holds ← tests is_true v site
    if holds then body else others

  -- what follows a `let` statement, or its `else`
  abbrev pub run_else : Option ExprId → Bool → StoreRun Value → StoreRun Value
  run_else None fits others = others
  run_else (Some b) true others = others
  run_else (Some b) false others = do
    part b
    ends (leave unmatched)

-- the store

module _ (store : Store) (source_map : SourceMap) where
  abbrev pub made_by : Option Pat → Option ℕ
  made_by (Some (pat.Bind i sub)) = name_bound (binding_found store source_map i)
  made_by _ = None

  -- the made name that a pattern is
  abbrev pub whole_made : PatId → Option ℕ
  whole_made p = made_by (slice_get store.pats p.0)

  -- the one that is the only part of a pattern
  abbrev pub made_inside : Option Pat → Option ℕ
  made_inside (Some (pat.TupleStruct p ellipsis (q ∷ []))) = whole_made q
  made_inside _ = None

  abbrev pub part_made : PatId → Option ℕ
  part_made p = made_inside (slice_get store.pats p.0)

  -- the made name that an expression is
  abbrev pub made_as : Option Expr → Option ℕ
  made_as (Some (hir.Path p h)) = generated_name (stored_path store source_map p)
  made_as _ = None

  abbrev pub made_expr : ExprId → Option ℕ
  made_expr i = made_as (slice_get store.exprs i.0)

  abbrev pub fits : PatId → Value → StoreRun Bool
  fits p v = fits_or_takes (whole_made p) (part_made p) (stored_pat store source_map p) v

  abbrev pub bound_to : PatId → Option TypeRefId → List Value → StoreRun Bool
  bound_to p t vs = binds_or_takes (whole_made p) (stored_pat store source_map p) (stored_option_type store source_map t) vs

  -- one node, with what runs its parts
  module _ (fuel : ℕ) (part : ExprId → StoreRun Value) where
    -- what is done with the value of one operand, and with those of two, from left to right
    abbrev pub operand : ExprId → Operation → Option Site → StoreRun Value
    operand e operation site = do
      v ← part e
      ask operation (v ∷ []) site

    abbrev pub operands : ExprId → ExprId → Operation → Option Site → StoreRun Value
    operands a b operation site = do
      v ← part a
      w ← part b
      ask operation (v ∷ w ∷ []) site

    -- the statements in order, and then the tail
    abbrev pub run_statements : List Statement → Option ExprId → StoreRun Value
    run_statements [] tail = run_or_unit fuel part tail
    run_statements (statement.Item ∷ ss) tail = run_statements ss tail
    run_statements (statement.MacroDef def ∷ ss) tail = run_statements ss tail
    run_statements (statement.Expr i semi ∷ ss) tail = do
      part i
      ends_temps (run_statements ss tail)
    run_statements (statement.Let p t e b ∷ ss) tail = do
      vs ← run_present fuel part e
      holds ← bound_to p t vs
      run_else fuel part b holds (ends_temps (run_statements ss tail))

    -- the arms are tried in order, the first that fits runs
    abbrev pub run_arms : List MatchArm → Value → Option Site → StoreRun Value
    run_arms [] v site = ends (leave unmatched)
    run_arms (a ∷ arms) v site = do
      holds ← fits a.pat v
      if holds then run_guarded fuel part a.guard site (part a.expr) (run_arms arms v site) else run_arms arms v site

    abbrev pub run_stored : Expr → Option Site → StoreRun Value
    run_stored hir.Missing site = ends (leave missing)
    run_stored (hir.Literal l) site = ask (literal (literal_read l)) [] site
    run_stored (hir.Path p h) site =
        let d = stored_path store source_map p in read_or_look (generated_name d) d h site
    run_stored (hir.Call f xs) site = do
      v ← part f
      vs ← run_each fuel part xs
      ask call (v ∷ vs) site
    run_stored (hir.If c t e) site = do
      v ← part c
      holds ← tests is_true v site
      if holds then part t else run_or_unit fuel part e
    run_stored (hir.Loop b l source) site = loop (past_loop l) fuel (iteration (part b))
    run_stored (hir.Block is_unsafe l number statements tail) site =
        in_block_scope is_unsafe number site (block (past_block l) (λ j. j) (run_statements statements tail))
    run_stored (hir.Break l e) site = do
      v ← run_or_unit fuel part e
      ends (break l v)
    run_stored (hir.Continue l) site = ends (continue l)
    run_stored hir.Underscore site = ask underscore [] site
    run_stored hir.IncludeBytes site = ask include_bytes [] site
    run_stored (hir.Field e name) site = operand e (field name) site
    run_stored (hir.UnaryOp op e) site = operand e (prefix op) site
    run_stored (hir.Ref kind mutable e) site = refers_or_asks (made_expr e) kind mutable (part e) site
    run_stored (hir.Await e) site = operand e awaiting site
    run_stored (hir.BinaryOp (Some (ast.LogicOp op)) a b) site = do
      v ← part a
      holds ← tests is_true v site
      lazy_logic op holds (part b)
    run_stored (hir.BinaryOp op a b) site = operands a b (operator op) site
    run_stored (hir.Index a b) site = operands a b index site
    run_stored (hir.Tuple es) site = do
      vs ← run_each fuel part es
      made_tuple vs site
    run_stored (hir.Array (hir_array.ElementList es)) site = do
      vs ← run_each fuel part es
      ask array vs site
    run_stored (hir.Array (hir_array.Repeat e c)) site = operand e repeated site
    run_stored (hir.Const c) site = ask const_block [] site
    run_stored (hir.Closure args types ret body kind capture) site =
        ask (closure kind capture (map (λ p. stored_pat store source_map p) args)
        (map (λ t. stored_option_type store source_map t) types) (stored_option_type store source_map ret)) [] site
    run_stored (hir.MethodCall e name generics es) site = do
      v ← part e
      vs ← run_each fuel part es
      ask (method_call name (stored_args store source_map generics)) (v ∷ vs) site
    run_stored (hir.Cast e t) site = operand e (cast (stored_type store source_map t)) site
    run_stored (hir.RecordLit p fields others) site = do
      vs ← run_each fuel part (map (λ f. f.expr) fields)
      ws ← run_others fuel part others
      ask (made_record (stored_path store source_map p) (map (λ f. f.name) fields) (others_form others)) (vs ++ ws) site
    run_stored (hir.OffsetOf t names) site = ask (offset_of (stored_type store source_map t) names) [] site
    run_stored (hir.Return e) site = do
      v ← run_or_unit fuel part e
      ends (leave (returned v))
    run_stored (hir.Become e) site = do
      v ← part e
      ends (leave (became v))
    run_stored (hir.Yeet e) site = do
      v ← run_or_unit fuel part e
      ends (leave (yeeted v))
    run_stored (hir.Yield e) site = do
      v ← run_or_unit fuel part e
      ask yielding (v ∷ []) site
    run_stored (hir.Let p e) site = do
      v ← part e
      holds ← fits p v
      pure (truth holds)
    run_stored (hir.Match e arms) site = do
      v ← part e
      run_arms arms v site
    run_stored (hir.Assignment t v) site = do
      w ← part v
      ws ← run_each fuel part (places store t [])
      assigns (stored_pat store source_map t) (w ∷ ws) site

  -- the node that an expression came from, where it came from one
  abbrev pub site_at : ExprId → Option Site
  site_at i = option_map site_of (flat_option (slice_get source_map.expr_sources i.0))

  -- a number without an expression is missing
  abbrev pub run_found : (Expr → StoreRun Value) → Option Expr → StoreRun Value
  run_found run None = ends (leave missing)
  run_found run (Some e) = run e

  -- with at most so many expressions inside one another
  unfoldable pub run_to : ℕ → ℕ → ExprId → StoreRun Value
  run_to zero fuel i = ends (leave missing)
  run_to (suc depth) fuel i = run_found (λ e. run_stored fuel (run_to depth fuel) e (site_at i)) (slice_get store.exprs i.0)

  -- no more than there are can be inside one another
  unfoldable pub run_store : ExprId → ℕ → StoreRun Value
  run_store i fuel = run_to (length store.exprs) fuel i

  -- an expression as a body by itself
  abbrev pub stored_body : ExprId → StoreBody
  stored_body i = record { table = new_table; run = run_store i }

  -- a made name that a parameter is stands for the argument of its number, and the first of these has this number
  abbrev pub arguments : ℕ → List PatId → RunTable
  arguments i [] = new_table
  arguments i (p ∷ ps) = with_argument (whole_made p) i (arguments (suc i) ps)
