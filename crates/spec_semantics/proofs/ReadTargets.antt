-- Calls in the assignee expression, computed level by level.
use Rattle.std.proofs.Common.{◌≡◌, ◌∙◌, refl, sym, ap, subst, ℕ, true, false, List, [], ◌∷◌, Some, None, Ok, Err}
use Rattle.hir_base.specs.declared.op.BinaryOp.TheVariants as op
use Rattle.hir_syntax.specs.declared.ast.ElseBranch.TheOpen.{ExprKind-F}
use Rattle.hir_syntax.specs.declared.ast.Expr.{Expr as AstExpr}
use Rattle.hir_syntax.specs.declared.ast.Name.{Name as AstName}
use Rattle.hir_syntax.specs.declared.ast.Path.{Path as AstPath}
use Rattle.hir_syntax.specs.declared.ast.RecordExprField.{roll-RecordExprField, out-roll-RecordExprField}
use Rattle.hir_syntax.specs.declared.ast.RecordExprFieldList.{roll-RecordExprFieldList, out-roll-RecordExprFieldList}
use Rattle.hir_store.specs.declared.name.Name.TheVariants as name
use Rattle.hir_env.specs.declared.ctx.LowerCtx.{LowerCtx}
use Rattle.hir_env.specs.Answers.{Answers, no_expansion}
use Rattle.hir_env.specs.Answering as of
use Rattle.hir_env.specs.Answering.{site_of}
use Rattle.hir_env.specs.Calls.{around}
use Rattle.hir_env.specs.Layers.{RecordExprFieldLayer, RecordExprFieldListLayer, RecordReading}
use Rattle.hir_env.specs.ResolveCtx.{ResolveCtx}
use Rattle.hir_env.specs.Targets.{origin, resolves, target_of}
use Rattle.hir_env.specs.Whole.{resolved_expr, resolved_path, into, reader, written}
use Rattle.hir_env.specs.ResolvedTree as tree
use Rattle.hir_env.specs.ResolvedTree.{Called, Expr, Exprs, Field, Target}
use Rattle.hir_env.proofs.Levels.{field_is_level, record_is_level}
use Rattle.spec_data.specs.Trees.{node, no_range, pointer}
use Rattle.spec_semantics.specs.Run.{Event, ends, event, ◌>>=◌}
use Rattle.spec_semantics.specs.Same.{Ending}
use Rattle.spec_semantics.specs.Small.{one, two, Does}
use Rattle.spec_semantics.specs.Syntax.{run_syntax, written_body}
use Rattle.spec_semantics.specs.Examples.{no}
use Rattle.spec_semantics.specs.Reading.{expr_of, always, calling, absent_call, one_of, two_of, place_in, rctx_of, from, first_call}
use Rattle.spec_semantics.specs.Reading.{second_call}
use Rattle.spec_semantics.specs.ReadTargets.{assigning, literal_in, through_two, target_at, inside_two, tuple_of, array_of}
use Rattle.spec_semantics.specs.ReadTargets.{one_and_two, one_alone, by_condition, disabled_at, AssignmentDoes}
use Rattle.spec_semantics.specs.ReadTargets.{dots, dots_and_two, in_parens, path_of, called_with_two, wild_expr, behind_dots}
use Rattle.spec_semantics.specs.ReadTargets.{behind_disabled}
use Rattle.spec_semantics.specs.ReadTargets.{DestructuresThroughCalls, FindsDotsInTargets, KeepsDotsBehindCalls, CallsThroughCallees}
use Rattle.spec_semantics.specs.ReadTargets.{IgnoresThroughCalls, MissesWhatIsGone, GoesThroughDisabledCalls, LandsWhereNothingCorresponds}
use Rattle.spec_semantics.specs.ReadTargets.{LeadsBehindTheDots, LeadsFromFields, TakesPartsFromTheirNodes}
use Rattle.spec_semantics.specs.ReadTargets.{one_target, record_with, field_with, disabled_to, path_called_with_two, disabled_dots}
use Rattle.spec_semantics.specs.ReadTargets.{KeepsDisabledPlaces, CountsDisabledCallees, CountsDisabledDots}
use Rattle.spec_semantics.proofs.OneLevel.{rctx_in, expr_made, expr_called}

-- assignments

-- with the assignee expression read as e
assigned_as : (env : Answers) (p : LowerCtx) (t : AstExpr) {e : Expr} → resolved_expr (rctx_of env p 2) t ≡ e
    → resolved_expr (rctx_of env p 2) (assigning t) ≡ of.asked (from 0 1) (env.cfg (site_of (from 0 1)))
    (tree.assign_expr (from 0 1) (tree.some_expr (resolved_expr (rctx_of env p 2) t))
    (target_of (resolves env (place_in p 0 2)) (tree.some_expr e))
    (tree.some_expr (of.asked (from 0 10) (env.cfg (site_of (from 0 10))) (literal_in 0 10 one))))
assigned_as env p t h = let at = rctx_of env p 2 in
    expr_made at 1 (ExprKind-F.BinExpr (Some op.Assign) (Some t) (Some (one_of 10)))
    ∙ (λ i. of.asked (from 0 1) (env.cfg (site_of (from 0 1))) (tree.assign_expr (from 0 1) (tree.some_expr (resolved_expr at t))
    (target_of (resolves env (place_in p 0 2)) (tree.some_expr (h i)))
    (tree.some_expr (expr_made at 10 (ExprKind-F.Literal one) i))))

-- what is read so does that
does_as : (at : ResolveCtx) (t : AstExpr) (es : List Event) (end : Ending) {x : Expr} → resolved_expr at (assigning t) ≡ x
    → Does (written_body (tree.some_expr x)) 0 (no 11 ∷ no 12 ∷ no 13 ∷ no 14 ∷ []) es end → AssignmentDoes at t es end
does_as at t es end h d =
    subst (λ x. Does (written_body (tree.some_expr x)) 0 (no 11 ∷ no 12 ∷ no 13 ∷ no 14 ∷ []) es end) (sym h) d

-- parts

-- what stands behind a call, in its place
abbrev through : ℕ → ℕ → Called → Expr → Expr
through f n c e = around (from f n) c (tree.some_expr e)

abbrev listed : Expr → Exprs
listed e = tree.more_exprs e tree.no_exprs

abbrev both : Expr → Expr → Exprs
both d e = tree.more_exprs d (listed e)

module _ (env : Answers) (p : LowerCtx) (y : AstExpr) {e : Expr} (is : resolved_expr (inside_two env p y) y ≡ e) where
  abbrev by : Answers
  by = through_two env y

  abbrev at : ResolveCtx
  at = target_at env p y

  -- what n stands for, behind both calls
  abbrev behind : Expr
  behind = through 0 2 first_call (through 1 4 second_call e)

  called_is : resolved_expr at (calling 2) ≡ behind
  called_is = expr_called by p 0 1 2 3 ∙ ap (through 0 2 first_call) (expr_called by p 1 0 4 5 ∙ ap (through 1 4 second_call) is)

  alone_is : resolved_expr at (tuple_of 12 (calling 2 ∷ [])) ≡ tree.list_expr (from 0 12) (tree.tuple_of false) (listed behind)
  alone_is = expr_made at 12 (ExprKind-F.TupleExpr false (calling 2 ∷ []))
      ∙ ap (λ x. tree.list_expr (from 0 12) (tree.tuple_of false) (listed x)) called_is

  pair_is : resolved_expr at (tuple_of 12 dots_and_two)
      ≡ tree.list_expr (from 0 12) (tree.tuple_of false) (both behind (literal_in 0 8 two))
  pair_is = expr_made at 12 (ExprKind-F.TupleExpr false dots_and_two)
      ∙ (λ i. tree.list_expr (from 0 12) (tree.tuple_of false) (both (called_is i) (expr_made at 8 (ExprKind-F.Literal two) i)))

  array_is : resolved_expr at (array_of dots_and_two) ≡ tree.list_expr (from 0 12) tree.array_of (both behind (literal_in 0 8 two))
  array_is = expr_made at 12 (ExprKind-F.ArrayExpr dots_and_two)
      ∙ (λ i. tree.list_expr (from 0 12) tree.array_of (both (called_is i) (expr_made at 8 (ExprKind-F.Literal two) i)))

  parens_are : resolved_expr at (in_parens (calling 2)) ≡ tree.paren_expr (from 0 12) (tree.some_expr behind)
  parens_are = expr_made at 12 (ExprKind-F.ParenExpr (Some (calling 2)))
      ∙ ap (λ x. tree.paren_expr (from 0 12) (tree.some_expr x)) called_is

  call_is : resolved_expr at called_with_two
      ≡ tree.call_expr (from 0 12) (tree.some_expr behind) true (listed (literal_in 0 8 two))
  call_is = expr_made at 12 (ExprKind-F.CallExpr (Some (calling 2)) (Some (two_of 8 ∷ [])))
      ∙ (λ i. tree.call_expr (from 0 12) (tree.some_expr (called_is i)) true (listed (expr_made at 8 (ExprKind-F.Literal two) i)))

-- theorems

pub destructures_through_calls : DestructuresThroughCalls
unfolding ends event ◌>>=◌
destructures_through_calls env p =
    let inside = inside_two env p one_and_two in
    let is = expr_made inside 6 (ExprKind-F.TupleExpr false (one_of 7 ∷ two_of 8 ∷ []))
    ∙ (λ i. tree.list_expr (from 2 6) (tree.tuple_of false)
    (both (expr_made inside 7 (ExprKind-F.Literal one) i) (expr_made inside 8 (ExprKind-F.Literal two) i))) in
    let read = assigned_as (through_two env one_and_two) p (calling 2) (called_is env p one_and_two is) in
    record { read = read; does = does_as (target_at env p one_and_two) (calling 2) _ _ read (record { events = refl; ends = refl }) }

pub finds_dots_in_targets : FindsDotsInTargets
unfolding ends event ◌>>=◌
finds_dots_in_targets env p o =
    let is = expr_made (inside_two env p (dots o)) 6 (ExprKind-F.RangeExpr o None None) in
    let at = target_at env p (dots o) in
    let tuple = assigned_as (through_two env (dots o)) p (tuple_of 12 dots_and_two) (pair_is env p (dots o) is) in
    let array = assigned_as (through_two env (dots o)) p (array_of dots_and_two) (array_is env p (dots o) is) in
    record {
      tuple = tuple;
      tuple_does = does_as at (tuple_of 12 dots_and_two) _ _ tuple (record { events = refl; ends = refl });
      array = array;
      array_does = does_as at (array_of dots_and_two) _ _ array (record { events = refl; ends = refl });
    }

pub keeps_dots_behind_calls : KeepsDotsBehindCalls
keeps_dots_behind_calls env p o =
    let by = through_two env (dots o) in
    let at = target_at env p (dots o) in
    let is = expr_made (inside_two env p (dots o)) 6 (ExprKind-F.RangeExpr o None None) in
    record {
      called = assigned_as by p (in_parens (calling 2)) (parens_are env p (dots o) is);
      written = assigned_as by p (in_parens (dots o)) (expr_made at 12 (ExprKind-F.ParenExpr (Some (dots o)))
          ∙ ap (λ x. tree.paren_expr (from 0 12) (tree.some_expr x)) (expr_made at 6 (ExprKind-F.RangeExpr o None None)));
    }

pub calls_through_callees : CallsThroughCallees
calls_through_callees env p x =
    let is = expr_made (inside_two env p (path_of x)) 6 (ExprKind-F.PathExpr (Some x)) in
    let read = assigned_as (through_two env (path_of x)) p called_with_two (call_is env p (path_of x) is) in
    record { read = read; does = ap (λ e. run_syntax (tree.some_expr e)) read }

pub ignores_through_calls : IgnoresThroughCalls
unfolding ends event ◌>>=◌
ignores_through_calls env p =
    let is = expr_made (inside_two env p wild_expr) 6 ExprKind-F.UnderscoreExpr in
    let element = assigned_as (through_two env wild_expr) p (tuple_of 12 (calling 2 ∷ [])) (alone_is env p wild_expr is) in
    record {
      element = element;
      does = does_as (target_at env p wild_expr) (tuple_of 12 (calling 2 ∷ [])) _ _ element (record { events = refl; ends = refl });
      whole = assigned_as (through_two env wild_expr) p (calling 2) (called_is env p wild_expr is);
    }

pub takes_parts_from_their_nodes : TakesPartsFromTheirNodes
unfolding ends event ◌>>=◌
takes_parts_from_their_nodes env p =
    let inside = inside_two env p one_alone in
    let is = expr_made inside 6 (ExprKind-F.TupleExpr false (one_of 7 ∷ []))
    ∙ ap (λ x. tree.list_expr (from 2 6) (tree.tuple_of false) (listed x)) (expr_made inside 7 (ExprKind-F.Literal one)) in
    let read = assigned_as (through_two env one_alone) p (tuple_of 12 (calling 2 ∷ [])) (alone_is env p one_alone is) in
    record {
      read = read;
      does = does_as (target_at env p one_alone) (tuple_of 12 (calling 2 ∷ [])) _ _ read (record { events = refl; ends = refl });
    }

pub leads_behind_the_dots : LeadsBehindTheDots
leads_behind_the_dots env p o =
    let at = target_at env p wild_expr in
    let is = called_is env p wild_expr (expr_made (inside_two env p wild_expr) 6 ExprKind-F.UnderscoreExpr) in
    let two = expr_of 9 (ExprKind-F.RangeExpr o None None) in
    assigned_as (through_two env wild_expr) p (behind_dots o) (expr_made at 12 (ExprKind-F.ArrayExpr (two ∷ calling 2 ∷ []))
    ∙ (λ i. tree.list_expr (from 0 12) tree.array_of (both (expr_made at 9 (ExprKind-F.RangeExpr o None None) i) (is i))))

-- a record with one field, of what this is read as
field_is : (at : ResolveCtx) (x : AstPath) (a : AstName) (t : AstExpr) {e : Expr} → at.answers.cfg (site_of (pointer at 9)) ≡ Ok tt
    → resolved_expr at t ≡ e → resolved_expr at (record_with x a t) ≡ of.asked (pointer at 12) (at.answers.cfg (site_of (pointer at 12)))
    (tree.record_expr (pointer at 12) (tree.some_path (resolved_path at x)) (record { has_list = true; has_dots = false })
    (tree.more_fields (tree.named_field (pointer at 9) (name.Text a.t) (tree.some_expr e)) tree.no_fields) tree.no_spread)
field_is at x a t asks h =
    let field : RecordExprFieldLayer written = record { id = node 9; range = no_range; name = Some a; expr = Some t } in
    let list : RecordExprFieldListLayer written =
    record { id = node 11; range = no_range; spread = None; dotdot = false; fields = roll-RecordExprField field ∷ [] } in
    let made = λ (r : RecordReading). of.asked (pointer at 12) (at.answers.cfg (site_of (pointer at 12)))
    (tree.record_expr (pointer at 12) (tree.some_path (resolved_path at x)) r.head r.fields r.spread) in
    let of_one = λ (f : Field).
    made (record { head = of.list_with false; fields = tree.more_fields f tree.no_fields; spread = tree.no_spread }) in
    let rd = reader at.answers (into at) in
    expr_made at 12 (ExprKind-F.RecordExpr (Some x) (Some (roll-RecordExprFieldList list)))
    ∙ ap made (record_is_level at (roll-RecordExprFieldList list)
    ∙ ap (λ l. of.record_step at.answers rd l at.place) (out-roll-RecordExprFieldList list))
    ∙ ap of_one (field_is_level at (roll-RecordExprField field)
    ∙ ap (λ l. of.field_step at.answers rd l at.place) (out-roll-RecordExprField field))
    ∙ (λ i. of_one (of.asked_field (pointer at 9) (asks i) (tree.named_field (pointer at 9) (name.Text a.t) (tree.some_expr (h i)))))

pub leads_from_fields : LeadsFromFields
leads_from_fields env p x a =
    let is = called_is env p wild_expr (expr_made (inside_two env p wild_expr) 6 ExprKind-F.UnderscoreExpr) in
    assigned_as (through_two env wild_expr) p (record_with x a (calling 2)) (field_is (target_at env p wild_expr) x a (calling 2) refl is)

-- where a whole target is a place, of what is read there
abbrev place_assigned : ResolveCtx → AstExpr → Expr → Expr
place_assigned at t e = tree.assign_expr (from 0 1) (tree.some_expr (resolved_expr at t)) (tree.place_target (from 0 2) e)
    (tree.some_expr (literal_in 0 10 one))

-- in a tuple by itself, where this is what it is read as
in_tuple : (env : Answers) (p : LowerCtx) (t : AstExpr) {e : Expr} → resolved_expr (rctx_of env p 2) t ≡ e
    → resolved_expr (rctx_of env p 2) (tuple_of 12 (t ∷ []))
    ≡ of.asked (from 0 12) (env.cfg (site_of (from 0 12))) (tree.list_expr (from 0 12) (tree.tuple_of false) (listed e))
in_tuple env p t h = expr_made (rctx_of env p 2) 12 (ExprKind-F.TupleExpr false (t ∷ []))
    ∙ ap (λ x. of.asked (from 0 12) (env.cfg (site_of (from 0 12))) (tree.list_expr (from 0 12) (tree.tuple_of false) (listed x))) h

-- `m!()`, where n stands for a disabled literal
disabled_is : (env : Answers) (p : LowerCtx) → resolved_expr (disabled_at env p) (calling 2)
    ≡ through 0 2 first_call (through 1 4 second_call (tree.disabled_expr (by_condition []) (literal_in 2 6 one)))
disabled_is env p = let by = (disabled_at env p).answers in
    expr_called by p 0 1 2 3 ∙ ap (through 0 2 first_call) (expr_called by p 1 0 4 5
    ∙ ap (through 1 4 second_call) (expr_made (rctx_in by p 2 0) 6 (ExprKind-F.Literal one)))

pub misses_what_is_gone : MissesWhatIsGone
unfolding ends event ◌>>=◌
misses_what_is_gone env p =
    let by = (disabled_at env p).answers in
    let is = disabled_is env p in
    let whole = assigned_as by p (calling 2) is in
    let element = assigned_as by p (tuple_of 12 (calling 2 ∷ [])) (in_tuple by p (calling 2) is) in
    record {
      whole = whole;
      whole_does = does_as (disabled_at env p) (calling 2) _ _ whole (record { events = refl; ends = refl });
      element = element;
      element_does = does_as (disabled_at env p) (tuple_of 12 (calling 2 ∷ [])) _ _ element (record { events = refl; ends = refl });
    }

pub goes_through_disabled_calls : GoesThroughDisabledCalls
unfolding ends event ◌>>=◌
goes_through_disabled_calls env p =
    let at = behind_disabled env p in
    let by = at.answers in
    let is = expr_called by p 0 1 2 3 ∙ ap (λ e. of.asked (from 0 2) (by.cfg (site_of (from 0 2))) (through 0 2 first_call e))
    (expr_called by p 1 0 4 5 ∙ ap (through 1 4 second_call) (expr_made (rctx_in by p 2 0) 6 ExprKind-F.UnderscoreExpr)) in
    let place = assigned_as by p (calling 2) is in
    let element = assigned_as by p (tuple_of 12 (calling 2 ∷ [])) (in_tuple by p (calling 2) is) in
    record {
      whole = place ∙ ap (place_assigned at (calling 2)) (sym is);
      whole_does = does_as at (calling 2) _ _ place (record { events = refl; ends = refl });
      element = element;
      element_does = does_as at (tuple_of 12 (calling 2 ∷ [])) _ _ element (record { events = refl; ends = refl });
    }

-- the call, where a condition disables it, of what n is read as
abbrev gone_behind : Expr → Expr
gone_behind e = of.asked (from 0 2) (Err (record { 0 = 8 })) (through 0 2 first_call (through 1 4 second_call e))

gone_is : (env : Answers) (p : LowerCtx) (y : AstExpr) {e : Expr} → resolved_expr (rctx_in (disabled_to env p y).answers p 2 0) y ≡ e
    → resolved_expr (disabled_to env p y) (calling 2) ≡ gone_behind e
gone_is env p y is = let by = (disabled_to env p y).answers in
    expr_called by p 0 1 2 3 ∙ ap (λ e. of.asked (from 0 2) (by.cfg (site_of (from 0 2))) (through 0 2 first_call e))
    (expr_called by p 1 0 4 5 ∙ ap (through 1 4 second_call) is)

-- the assignee expression, of the place in it
abbrev assigned_with : ResolveCtx → AstExpr → (Target → Target) → Expr → Expr
assigned_with at t f e = tree.assign_expr (from 0 1) (tree.some_expr (resolved_expr at t)) (f (tree.place_target (from 0 2) e))
    (tree.some_expr (literal_in 0 10 one))

pub keeps_disabled_places : KeepsDisabledPlaces
keeps_disabled_places env p =
    let at = behind_disabled env p in
    let is = gone_is env p wild_expr (expr_made (rctx_in at.answers p 2 0) 6 ExprKind-F.UnderscoreExpr) in
    record {
      array = λ o. let two = expr_of 9 (ExprKind-F.RangeExpr o None None) in
          assigned_as at.answers p (behind_dots o) (expr_made at 12 (ExprKind-F.ArrayExpr (two ∷ calling 2 ∷ []))
          ∙ (λ i. tree.list_expr (from 0 12) tree.array_of (both (expr_made at 9 (ExprKind-F.RangeExpr o None None) i) (is i))))
          ∙ ap (assigned_with at (behind_dots o)
          (λ t. tree.array_target (origin None (from 0 12)) tree.no_targets (Some (from 0 9)) (one_target t))) (sym is);
      field = λ x a. assigned_as at.answers p (record_with x a (calling 2)) (field_is at x a (calling 2) refl is)
          ∙ ap (assigned_with at (record_with x a (calling 2)) (field_with at x a)) (sym is);
    }

pub counts_disabled_callees : CountsDisabledCallees
counts_disabled_callees env p x =
    let at = disabled_to env p wild_expr in
    let by = disabled_to env p (path_of x) in
    let with_two = λ (e : Expr) (d : Expr). tree.call_expr (from 0 12) (tree.some_expr e) true (listed d) in
    let is = gone_is env p (path_of x) (expr_made (rctx_in by.answers p 2 0) 6 (ExprKind-F.PathExpr (Some x))) in
    record {
      path = assigned_as at.answers p (path_called_with_two x)
          (expr_made at 12 (ExprKind-F.CallExpr (Some (expr_of 2 (ExprKind-F.PathExpr (Some x)))) (Some (two_of 8 ∷ [])))
          ∙ (λ i. with_two (expr_made at 2 (ExprKind-F.PathExpr (Some x)) i) (expr_made at 8 (ExprKind-F.Literal two) i)));
      called = assigned_as by.answers p called_with_two (expr_made by 12 (ExprKind-F.CallExpr (Some (calling 2)) (Some (two_of 8 ∷ [])))
          ∙ (λ i. with_two (is i) (expr_made by 8 (ExprKind-F.Literal two) i)));
    }

pub counts_disabled_dots : CountsDisabledDots
counts_disabled_dots env p o =
    let at = disabled_to env p wild_expr in
    let by = disabled_to env p (dots o) in
    let is = gone_is env p (dots o) (expr_made (rctx_in by.answers p 2 0) 6 (ExprKind-F.RangeExpr o None None)) in
    record {
      parens = assigned_as at.answers p (in_parens (disabled_dots o)) (expr_made at 12 (ExprKind-F.ParenExpr (Some (disabled_dots o)))
          ∙ ap (λ x. tree.paren_expr (from 0 12) (tree.some_expr x)) (expr_made at 2 (ExprKind-F.RangeExpr o None None)));
      tuple = assigned_as by.answers p (tuple_of 12 dots_and_two) (expr_made by 12 (ExprKind-F.TupleExpr false dots_and_two)
          ∙ (λ i. tree.list_expr (from 0 12) (tree.tuple_of false) (both (is i) (expr_made by 8 (ExprKind-F.Literal two) i))));
      array = assigned_as by.answers p (array_of dots_and_two) (expr_made by 12 (ExprKind-F.ArrayExpr dots_and_two)
          ∙ (λ i. tree.list_expr (from 0 12) tree.array_of (both (is i) (expr_made by 8 (ExprKind-F.Literal two) i))));
    }

pub lands_where_nothing_corresponds : LandsWhereNothingCorresponds
unfolding ends event ◌>>=◌
lands_where_nothing_corresponds env p =
    let by = always env no_expansion in
    let is = expr_called by p 0 1 2 3 in
    let element = assigned_as by p (tuple_of 12 (calling 2 ∷ [])) (in_tuple by p (calling 2) is) in
    let whole = assigned_as by p (calling 2) is in
    record {
      element = element;
      element_does = does_as (rctx_of by p 2) (tuple_of 12 (calling 2 ∷ [])) _ _ element (record { events = refl; ends = refl });
      whole = whole;
      whole_does = does_as (rctx_of by p 2) (calling 2) _ _ whole (record { events = refl; ends = refl });
      lacks = assigned_as by p (tuple_of 12 (absent_call 2 ∷ []))
          (in_tuple by p (absent_call 2) (expr_made (rctx_of by p 2) 2 (ExprKind-F.MacroExpr None)));
    }
