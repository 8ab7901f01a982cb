-- What macro calls in the assignee expression are read as, and what the assignments do.
use Rattle.std.specs.Prelude.{◌≡◌, ℕ, nat_eq, false, ◌&&◌, if◌then◌else◌, List, [], ◌∷◌, ◌++◌, Option, Some, None, Ok, Err}
use Rattle.hir_base.specs.declared.op.BinaryOp.TheVariants as op
use Rattle.hir_base.specs.declared.op.RangeOp.{RangeOp}
use Rattle.hir_syntax.specs.declared.ast.ElseBranch.TheOpen.{ExprKind-F}
use Rattle.hir_syntax.specs.declared.ast.Expr.{Expr as AstExpr}
use Rattle.hir_syntax.specs.declared.ast.Literal.{Literal as AstLiteral}
use Rattle.hir_syntax.specs.declared.ast.Name.{Name as AstName}
use Rattle.hir_syntax.specs.declared.ast.Path.{Path as AstPath}
use Rattle.hir_syntax.specs.declared.ast.RecordExprField.{roll-RecordExprField}
use Rattle.hir_syntax.specs.declared.ast.RecordExprFieldList.{roll-RecordExprFieldList}
use Rattle.hir_syntax.specs.declared.macros.Fragment.TheVariants as fragment
use Rattle.hir_store.specs.declared.name.Name.TheVariants as name
use Rattle.hir_env.specs.declared.ctx.LowerCtx.{LowerCtx}
use Rattle.hir_env.specs.declared.expand.FragmentKind.TheVariants as kind
use Rattle.hir_env.specs.Answers.{Answers, no_expansion}
use Rattle.hir_env.specs.Answering.{site_of}
use Rattle.hir_env.specs.Ranges.{range_form}
use Rattle.hir_env.specs.ResolveCtx.{ResolveCtx}
use Rattle.hir_env.specs.Targets.{origin}
use Rattle.hir_env.specs.Whole.{resolved_expr, resolved_path}
use Rattle.hir_env.specs.ResolvedTree as tree
use Rattle.hir_env.specs.ResolvedTree.{Entered, Expr, Gone, OptionExpr, Target, Targets}
use Rattle.spec_data.specs.Data as datum
use Rattle.spec_data.specs.Data.{PatData, pat_at}
use Rattle.spec_data.specs.Trees.{node, no_range}
use Rattle.spec_semantics.specs.Run.{Value, unit, Event, event_at, literal, assigned, missing}
use Rattle.spec_semantics.specs.Run as run
use Rattle.spec_semantics.specs.Syntax.{run_syntax, written_body}
use Rattle.spec_semantics.specs.Data.{literal_data}
use Rattle.spec_semantics.specs.Same.{Ending, ended, left}
use Rattle.spec_semantics.specs.Small.{one, two, Does}
use Rattle.spec_semantics.specs.Examples.{no}
use Rattle.spec_semantics.specs.Reading.{expr_of, calling, absent_call, one_of, two_of, place_in, rctx_of, from}
use Rattle.spec_semantics.specs.Reading.{expanding_env, always, two_calls, first_call, second_call}

-- assignments

-- `t = 1`
abbrev pub assigning : AstExpr → AstExpr
assigning t = expr_of 1 (ExprKind-F.BinExpr (Some op.Assign) (Some t) (Some (one_of 10)))

abbrev pub literal_in : ℕ → ℕ → AstLiteral → Expr
literal_in f n l = tree.literal_expr (from f n) l

abbrev pub event_in : ℕ → ℕ → AstLiteral → Event
event_in f n l = event_at (literal (literal_data l)) [] (Some (site_of (from f n)))

-- the value is the first that is read
abbrev pub then_assigns : List Event → PatData → List Value → List Event
then_assigns es x vs = event_in 0 10 one ∷ es ++ event_at (assigned x) (run.reply 11 ∷ vs) (Some (site_of (from 0 1))) ∷ []

module _ (at : ResolveCtx) (t : AstExpr) where
  -- it is read with t as an expression, and as this
  abbrev pub Assigns : Target → Type 0
  Assigns x = resolved_expr at (assigning t)
      ≡ tree.assign_expr (from 0 1) (tree.some_expr (resolved_expr at t)) x (tree.some_expr (literal_in 0 10 one))

  abbrev pub AssignmentDoes : List Event → Ending → Type 0
  AssignmentDoes es end =
      Does (written_body (tree.some_expr (resolved_expr at (assigning t)))) 0 (no 11 ∷ no 12 ∷ no 13 ∷ no 14 ∷ []) es end

-- m stands for a call of n, and n for this
abbrev pub through_two : Answers → AstExpr → Answers
through_two env y = expanding_env env kind.Expr (two_calls (fragment.Expr (calling 4)) (fragment.Expr y))

abbrev pub target_at : Answers → LowerCtx → AstExpr → ResolveCtx
target_at env p y = rctx_of (through_two env y) p 2

-- in what n stands for
abbrev pub inside_two : Answers → LowerCtx → AstExpr → ResolveCtx
inside_two env p y = record { answers = through_two env y; place = place_in p 2 0 }

-- both calls, the whole target, and an element or a callee
abbrev pub in_calls : Target → Target
in_calls x = tree.macro_target (Some (from 0 2)) first_call (tree.macro_target (Some (from 1 4)) second_call x)

abbrev pub out_of_calls : Target → Target
out_of_calls x = tree.macro_target None first_call (tree.macro_target None second_call x)

-- a tuple or an array of these, a list of one, and a tuple of it
abbrev pub tuple_of : ℕ → List AstExpr → AstExpr
tuple_of n es = expr_of n (ExprKind-F.TupleExpr false es)

abbrev pub array_of : List AstExpr → AstExpr
array_of es = expr_of 12 (ExprKind-F.ArrayExpr es)

abbrev pub one_target : Target → Targets
one_target x = tree.more_targets x tree.no_targets

abbrev pub tuple_with : Target → Target
tuple_with x = tree.tuple_target (origin None (from 0 12)) (one_target x)

-- a place that is a literal
abbrev pub place_at : ℕ → ℕ → AstLiteral → Target
place_at f n l = tree.place_target (from f n) (literal_in f n l)

abbrev pub place_data : ℕ → ℕ → PatData
place_data f n = pat_at (Some (from f n)) datum.place_pattern

-- a whole target

-- `m!() = 1`, where n stands for `(1, 2)`
abbrev pub one_and_two : AstExpr
one_and_two = tuple_of 6 (one_of 7 ∷ two_of 8 ∷ [])

abbrev pub pair_data : PatData
pair_data = pat_at (Some (from 2 6))
    (datum.tuple_pattern None (datum.more_patterns (place_data 2 7) (datum.more_patterns (place_data 2 8) datum.no_patterns)))

pub record Destructures (env : Answers) (p : LowerCtx) : Type 0 where
  pub read : Assigns (target_at env p one_and_two) (calling 2)
      (in_calls (tree.tuple_target (origin None (from 2 6)) (tree.more_targets (place_at 2 7 one) (one_target (place_at 2 8 two)))))
  pub does : AssignmentDoes (target_at env p one_and_two) (calling 2)
      (then_assigns (event_in 2 7 one ∷ event_in 2 8 two ∷ []) pair_data (run.reply 12 ∷ run.reply 13 ∷ [])) (ended unit)

-- What the calls stand for is assigned to: each place of the tuple, from left to right.
abbrev pub DestructuresThroughCalls : Type 0
DestructuresThroughCalls = (env : Answers) (p : LowerCtx) → Destructures env p

-- two dots

abbrev pub dots : Option RangeOp → AstExpr
dots o = expr_of 6 (ExprKind-F.RangeExpr o None None)

abbrev pub dots_read : Answers → ℕ → Option RangeOp → Expr
dots_read env f o = tree.range_expr (from f 6) (range_form env.lang_items (env.new_range (record { 0 = 7 })) o false false)
    tree.no_expr tree.no_expr

abbrev pub dots_and_two : List AstExpr
dots_and_two = calling 2 ∷ two_of 8 ∷ []

abbrev pub tracked_pair : Targets → Targets
tracked_pair ts = tree.tracked_targets first_call (tree.tracked_targets second_call ts)

-- `(m!(), 2) = 1` and `[m!(), 2] = 1`, where n stands for `..`
pub record FindsDots (env : Answers) (p : LowerCtx) (o : Option RangeOp) : Type 0 where
  pub tuple : Assigns (target_at env p (dots o)) (tuple_of 12 dots_and_two)
      (tree.tuple_target (origin None (from 0 12)) (tracked_pair (tree.dots_targets (one_target (place_at 0 8 two)))))
  pub tuple_does : AssignmentDoes (target_at env p (dots o)) (tuple_of 12 dots_and_two)
      (then_assigns (event_in 0 8 two ∷ [])
      (pat_at (Some (from 0 12)) (datum.tuple_pattern (Some 0) (datum.more_patterns (place_data 0 8) datum.no_patterns)))
      (run.reply 12 ∷ [])) (ended unit)
  pub array : Assigns (target_at env p (dots o)) (array_of dots_and_two)
      (tree.array_target (origin None (from 0 12)) (tracked_pair tree.no_targets) (Some (from 0 2)) (one_target (place_at 0 8 two)))
  pub array_does : AssignmentDoes (target_at env p (dots o)) (array_of dots_and_two)
      (then_assigns (event_in 0 8 two ∷ [])
      (pat_at (Some (from 0 12)) (datum.slice_pattern datum.no_patterns
      (datum.some_pattern (pat_at (Some (from 0 2)) datum.rest_pattern)) (datum.more_patterns (place_data 0 8) datum.no_patterns)))
      (run.reply 12 ∷ [])) (ended unit)

-- They are those of the list. Both calls are told, and in an array they come from the outer one.
abbrev pub FindsDotsInTargets : Type 0
FindsDotsInTargets = (env : Answers) (p : LowerCtx) (o : Option RangeOp) → FindsDots env p o

-- dots in parentheses

abbrev pub in_parens : AstExpr → AstExpr
in_parens e = expr_of 12 (ExprKind-F.ParenExpr (Some e))

-- `(m!()) = 1` and `(..) = 1`
pub record KeepsDots (env : Answers) (p : LowerCtx) (o : Option RangeOp) : Type 0 where
  pub called : Assigns (target_at env p (dots o)) (in_parens (calling 2))
      (in_calls (tree.place_target (from 2 6) (dots_read env 2 o)))
  pub written : Assigns (target_at env p (dots o)) (in_parens (dots o))
      (tree.tuple_target (origin None (from 0 12)) (tree.dots_targets tree.no_targets))

-- Two dots in parentheses are a tuple, but not those that a call stands for: they are a place.
abbrev pub KeepsDotsBehindCalls : Type 0
KeepsDotsBehindCalls = (env : Answers) (p : LowerCtx) (o : Option RangeOp) → KeepsDots env p o

-- callees

abbrev pub path_of : AstPath → AstExpr
path_of x = expr_of 6 (ExprKind-F.PathExpr (Some x))

-- `m!()(2) = 1`, where n stands for a path
abbrev pub called_with_two : AstExpr
called_with_two = expr_of 12 (ExprKind-F.CallExpr (Some (calling 2)) (Some (two_of 8 ∷ [])))

-- the path is read here
abbrev pub path_with_two : ResolveCtx → AstPath → Target
path_with_two at x = tree.call_target (origin None (from 0 12)) (tree.some_path (resolved_path at x)) (one_target (place_at 0 8 two))

abbrev pub call_of_path : Answers → LowerCtx → AstPath → Target
call_of_path env p x = path_with_two (inside_two env p (path_of x)) x

-- with this as the assignee expression
abbrev pub assigned_one : Target → OptionExpr
assigned_one x = tree.some_expr (tree.assign_expr (from 0 1) tree.no_expr x (tree.some_expr (literal_in 0 10 one)))

pub record CallsByPath (env : Answers) (p : LowerCtx) (x : AstPath) : Type 0 where
  pub read : Assigns (target_at env p (path_of x)) called_with_two (out_of_calls (call_of_path env p x))
  pub does : run_syntax (tree.some_expr (resolved_expr (target_at env p (path_of x)) (assigning called_with_two)))
      ≡ run_syntax (assigned_one (call_of_path env p x))

-- The assignment is that of the path with this argument, and runs so.
abbrev pub CallsThroughCallees : Type 0
CallsThroughCallees = (env : Answers) (p : LowerCtx) (x : AstPath) → CallsByPath env p x

-- elements

abbrev pub wild_expr : AstExpr
wild_expr = expr_of 6 ExprKind-F.UnderscoreExpr

abbrev pub one_element : PatData → PatData
one_element x = pat_at (Some (from 0 12)) (datum.tuple_pattern None (datum.more_patterns x datum.no_patterns))

-- `(m!(),) = 1` and `m!() = 1`, where n stands for `_`
pub record Ignores (env : Answers) (p : LowerCtx) : Type 0 where
  pub element : Assigns (target_at env p wild_expr) (tuple_of 12 (calling 2 ∷ []))
      (tuple_with (out_of_calls (tree.wild_target (origin (Some (from 0 2)) (from 2 6)))))
  pub does : AssignmentDoes (target_at env p wild_expr) (tuple_of 12 (calling 2 ∷ []))
      (then_assigns [] (one_element (pat_at (Some (from 0 2)) datum.wild_pattern)) []) (ended unit)
  pub whole : Assigns (target_at env p wild_expr) (calling 2) (in_calls (tree.wild_target (origin None (from 2 6))))

-- The element comes from the outer call, to which nothing leads, and the whole target from the node of `_`.
abbrev pub IgnoresThroughCalls : Type 0
IgnoresThroughCalls = (env : Answers) (p : LowerCtx) → Ignores env p

-- `(m!(),) = 1`, where n stands for `(1,)`
abbrev pub one_alone : AstExpr
one_alone = tuple_of 6 (one_of 7 ∷ [])

pub record TakesParts (env : Answers) (p : LowerCtx) : Type 0 where
  pub read : Assigns (target_at env p one_alone) (tuple_of 12 (calling 2 ∷ []))
      (tuple_with (out_of_calls (tree.tuple_target (origin (Some (from 0 2)) (from 2 6)) (one_target (place_at 2 7 one)))))
  pub does : AssignmentDoes (target_at env p one_alone) (tuple_of 12 (calling 2 ∷ []))
      (then_assigns (event_in 2 7 one ∷ [])
      (one_element (pat_at (Some (from 0 2)) (datum.tuple_pattern None (datum.more_patterns (place_data 2 7) datum.no_patterns))))
      (run.reply 12 ∷ [])) (ended unit)

-- The tuple inside comes from the outer call, and what stands in it from its own node.
abbrev pub TakesPartsFromTheirNodes : Type 0
TakesPartsFromTheirNodes = (env : Answers) (p : LowerCtx) → TakesParts env p

-- `[.., m!()] = 1`, where n stands for `_`
abbrev pub behind_dots : Option RangeOp → AstExpr
behind_dots o = array_of (expr_of 9 (ExprKind-F.RangeExpr o None None) ∷ calling 2 ∷ [])

-- Behind the dots of an array a call is what it stands for as a whole target is: its node leads there.
abbrev pub LeadsBehindTheDots : Type 0
LeadsBehindTheDots = (env : Answers) (p : LowerCtx) (o : Option RangeOp)
    → Assigns (target_at env p wild_expr) (behind_dots o)
    (tree.array_target (origin None (from 0 12)) tree.no_targets (Some (from 0 9))
    (one_target (in_calls (tree.wild_target (origin None (from 2 6))))))

-- `R { a: m!() } = 1`, with this path and this name
abbrev pub record_with : AstPath → AstName → AstExpr → AstExpr
record_with x a e = expr_of 12 (ExprKind-F.RecordExpr (Some x) (Some (roll-RecordExprFieldList (record {
  id = node 11;
  range = no_range;
  spread = None;
  dotdot = false;
  fields = roll-RecordExprField (record { id = node 9; range = no_range; name = Some a; expr = Some e }) ∷ [];
}))))

abbrev pub field_with : ResolveCtx → AstPath → AstName → Target → Target
field_with at x a t = tree.record_target (origin None (from 0 12)) (tree.some_path (resolved_path at x))
    (tree.more_target_fields (tree.target_field (from 0 9) (Some (name.Text a.t)) t) tree.no_target_fields) false None

-- In a field of a record it is that, too.
abbrev pub LeadsFromFields : Type 0
LeadsFromFields = (env : Answers) (p : LowerCtx) (x : AstPath) (a : AstName)
    → Assigns (target_at env p wild_expr) (record_with x a (calling 2))
    (field_with (target_at env p wild_expr) x a (in_calls (tree.wild_target (origin None (from 2 6)))))

-- what is gone

-- where a condition disables the node 6 of the file 2
abbrev pub disabling_env : Answers → Answers
disabling_env env = record env {
  cfg = λ s. if nat_eq s.file_id.0 2 && nat_eq s.value.0 6 then Err (record { 0 = 8 }) else Ok tt;
}

abbrev pub by_condition : List Entered → Gone
by_condition cs = record { entered = cs; condition = Some (from 2 6, record { 0 = 8 }) }

-- and n stands for a literal with that node
abbrev pub disabled_at : Answers → LowerCtx → ResolveCtx
disabled_at env p =
    rctx_of (disabling_env (expanding_env env kind.Expr (two_calls (fragment.Expr (calling 4)) (fragment.Expr (one_of 6))))) p 2

-- the same there
pub record MissesPlaces (env : Answers) (p : LowerCtx) : Type 0 where
  pub whole : Assigns (disabled_at env p) (calling 2) (in_calls
      (tree.place_target (from 2 6) (tree.disabled_expr (by_condition []) (literal_in 2 6 one))))
  pub whole_does : AssignmentDoes (disabled_at env p) (calling 2) (event_in 0 10 one ∷ []) (left missing)
  pub element : Assigns (disabled_at env p) (tuple_of 12 (calling 2 ∷ [])) (tuple_with (out_of_calls
      (tree.place_target (from 0 2) (tree.disabled_expr (by_condition []) (literal_in 2 6 one)))))
  pub element_does : AssignmentDoes (disabled_at env p) (tuple_of 12 (calling 2 ∷ [])) (event_in 0 10 one ∷ []) (left missing)

-- It is a place that is missing, behind the value.
abbrev pub MissesWhatIsGone : Type 0
MissesWhatIsGone = (env : Answers) (p : LowerCtx) → MissesPlaces env p

-- where a condition disables the call itself
abbrev pub disabling_call : Answers → Answers
disabling_call env = record env {
  cfg = λ s. if nat_eq s.file_id.0 0 && nat_eq s.value.0 2 then Err (record { 0 = 8 }) else Ok tt;
}

-- and n stands for this
abbrev pub disabled_to : Answers → LowerCtx → AstExpr → ResolveCtx
disabled_to env p y = rctx_of (disabling_call (through_two env y)) p 2

abbrev pub behind_disabled : Answers → LowerCtx → ResolveCtx
behind_disabled env p = disabled_to env p wild_expr

-- the same, where the call is disabled and n stands for `_`
pub record GoesThrough (env : Answers) (p : LowerCtx) : Type 0 where
  pub whole : Assigns (behind_disabled env p) (calling 2) (tree.place_target (from 0 2) (resolved_expr (behind_disabled env p) (calling 2)))
  pub whole_does : AssignmentDoes (behind_disabled env p) (calling 2) (event_in 0 10 one ∷ []) (left missing)
  pub element : Assigns (behind_disabled env p) (tuple_of 12 (calling 2 ∷ []))
      (tuple_with (out_of_calls (tree.wild_target (origin (Some (from 0 2)) (from 2 6)))))
  pub element_does : AssignmentDoes (behind_disabled env p) (tuple_of 12 (calling 2 ∷ []))
      (then_assigns [] (one_element (pat_at (Some (from 0 2)) datum.wild_pattern)) []) (ended unit)

-- A condition of a call that is an element isn't asked about.
abbrev pub GoesThroughDisabledCalls : Type 0
GoesThroughDisabledCalls = (env : Answers) (p : LowerCtx) → GoesThrough env p

-- `[.., m!()] = 1` and `R { a: m!() } = 1`, where the call is disabled and n stands for `_`
pub record KeepsPlaces (env : Answers) (p : LowerCtx) : Type 0 where
  pub array : (o : Option RangeOp) → Assigns (behind_disabled env p) (behind_dots o)
      (tree.array_target (origin None (from 0 12)) tree.no_targets (Some (from 0 9))
      (one_target (tree.place_target (from 0 2) (resolved_expr (behind_disabled env p) (calling 2)))))
  pub field : (x : AstPath) (a : AstName) → Assigns (behind_disabled env p) (record_with x a (calling 2))
      (field_with (behind_disabled env p) x a (tree.place_target (from 0 2) (resolved_expr (behind_disabled env p) (calling 2))))

-- Neither is gone through: it is a place, as a whole target is.
abbrev pub KeepsDisabledPlaces : Type 0
KeepsDisabledPlaces = (env : Answers) (p : LowerCtx) → KeepsPlaces env p

-- `x(2) = 1`, whose callee is disabled, and `m!()(2) = 1`, where it is the call and n stands for the path
abbrev pub path_called_with_two : AstPath → AstExpr
path_called_with_two x = expr_of 12 (ExprKind-F.CallExpr (Some (expr_of 2 (ExprKind-F.PathExpr (Some x)))) (Some (two_of 8 ∷ [])))

pub record CountsCallees (env : Answers) (p : LowerCtx) (x : AstPath) : Type 0 where
  pub path : Assigns (disabled_to env p wild_expr) (path_called_with_two x) (path_with_two (disabled_to env p wild_expr) x)
  pub called : Assigns (disabled_to env p (path_of x)) called_with_two
      (out_of_calls (path_with_two (record (disabled_to env p (path_of x)) { place = place_in p 2 0 }) x))

-- A condition of a callee isn't asked about.
abbrev pub CountsDisabledCallees : Type 0
CountsDisabledCallees = (env : Answers) (p : LowerCtx) (x : AstPath) → CountsCallees env p x

-- `(..) = 1`, whose dots are disabled
abbrev pub disabled_dots : Option RangeOp → AstExpr
disabled_dots o = expr_of 2 (ExprKind-F.RangeExpr o None None)

-- and `(m!(), 2) = 1` and `[m!(), 2] = 1`, where the call is disabled and n stands for `..`
pub record CountsDots (env : Answers) (p : LowerCtx) (o : Option RangeOp) : Type 0 where
  pub parens : Assigns (disabled_to env p wild_expr) (in_parens (disabled_dots o))
      (tree.tuple_target (origin None (from 0 12)) (tree.dots_targets tree.no_targets))
  pub tuple : Assigns (disabled_to env p (dots o)) (tuple_of 12 dots_and_two)
      (tree.tuple_target (origin None (from 0 12)) (tracked_pair (tree.dots_targets (one_target (place_at 0 8 two)))))
  pub array : Assigns (disabled_to env p (dots o)) (array_of dots_and_two)
      (tree.array_target (origin None (from 0 12)) (tracked_pair tree.no_targets) (Some (from 0 2)) (one_target (place_at 0 8 two)))

-- Nor is one of two dots.
abbrev pub CountsDisabledDots : Type 0
CountsDisabledDots = (env : Answers) (p : LowerCtx) (o : Option RangeOp) → CountsDots env p o

-- what stands for nothing

abbrev pub nothing_at : Answers → LowerCtx → ResolveCtx
nothing_at env p = rctx_of (always env no_expansion) p 2

-- `(m!(),) = 1` and `m!() = 1`, where m has no expansion, and `(!(),) = 1`
pub record LandsAtTheCall (env : Answers) (p : LowerCtx) : Type 0 where
  pub element : Assigns (nothing_at env p) (tuple_of 12 (calling 2 ∷ []))
      (tuple_with (tree.macro_target None tree.unentered (tree.absent_target (Some (from 0 2)))))
  pub element_does : AssignmentDoes (nothing_at env p) (tuple_of 12 (calling 2 ∷ []))
      (then_assigns [] (one_element (pat_at (Some (from 0 2)) datum.missing_pattern)) []) (ended unit)
  pub whole : Assigns (nothing_at env p) (calling 2)
      (tree.macro_target (Some (from 0 2)) tree.unentered (tree.absent_target None))
  pub whole_does : AssignmentDoes (nothing_at env p) (calling 2)
      (then_assigns [] (pat_at None datum.missing_pattern) []) (ended unit)
  pub lacks : Assigns (nothing_at env p) (tuple_of 12 (absent_call 2 ∷ []))
      (tuple_with (tree.macro_target (Some (from 0 2)) tree.callless (tree.absent_target (Some (from 0 2)))))

-- An element is missing at the call, and a whole target at no node; a call that the text lacks leads to what is missing.
abbrev pub LandsWhereNothingCorresponds : Type 0
LandsWhereNothingCorresponds = (env : Answers) (p : LowerCtx) → LandsAtTheCall env p
