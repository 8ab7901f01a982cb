-- Each function records what its steps record.
use Rattle.std.proofs.Common.{arith, rules, ap, subst, sym, ◌∙◌, ◌∷◌, [], Some}
use Rattle.std.specs.List.{flat_map}
use Rattle.spec_scopes.specs.Placed.{after_part, in_constant, past, past_option, placed, placed_arm, placed_guarded}
use Rattle.spec_scopes.specs.Placed.{after_form, in_scope, past_statement, placed_branch, placed_option, placed_statement}
use Rattle.spec_scopes.specs.Scopes.{binding_scope, loop_scope, pat_scope, pats_scope}
use Rattle.hir_scopes.proofs.ChainLemmas.{enters_names, grown_same, grown_then, stands_grown}
use Rattle.hir_scopes.proofs.ExprLemmas.{block_behind, block_recorded, block_whole, form_behind, form_recorded, grown_equal}
use Rattle.hir_scopes.proofs.ExprLemmas.{none_behind, none_recorded}
use Rattle.hir_scopes.proofs.FormLemmas.{closure_as, match_as, plain_walked}
use Rattle.hir_scopes.proofs.Lists.{first_and_rest, no_first}
use Rattle.hir_scopes.proofs.WalkLemmas.{arms_end, arms_next, block_next, each_end, each_next, kept_back, kept_then}
use Rattle.hir_scopes.proofs.WalkLemmas.{recorded_constant, recorded_enter, recorded_of, walked_back, walked_beside}
use Rattle.hir_scopes.proofs.WalkLemmas.{walked_enter, walked_inner, walked_last, walked_then, walks_none}
use Rattle.hir_scopes.specs.Records.{Recorded, Walked}
use Rattle.hir_scopes.specs.declared.opening.Around.{Around}
use Rattle.hir_scopes.proofs.+scopes.Goals as goal

-- statements

pub blocks::let_scopes-returns-clause-walked : goal.blocks::let_scopes-returns-clause-walked
blocks::let_scopes-returns-clause-walked t c =
    let store = c.args.store.now in
    let w = c.args.whole in
    let after = after_part store w in
    let a = c.args.around in
    let b = c.in_ok-behind.behind in
    let d = c.in_ok-behind_else.behind_else in
    let m = c.args.scopes.now in
    let n = c.part_option.new.scopes in
    let o = c.part_option-2.new.scopes in
    let q = c.open_pat.new.scopes in
    walked_enter store w m o q a d _ _ _ _
    (walked_then store w m n o a b d (placed_option store after c.args.initializer) (placed_option store after c.args.else_branch)
    (past_option store after c.args.initializer) (past_option store after c.args.else_branch) c.in_ok-behind_else.ensures.kept.grown
    c.in_ok-behind.ensures.walked c.in_ok-behind_else.ensures.walked)
    (enters_names o q d c.in_ok-scope.scope (pat_scope store c.args.pat) c.in_ok-behind_else.ensures.kept.in_range c.in_ok-scope.ensures)

pub blocks::statement_scopes-returns-in_ok-behind-in-MacroDef-clause-walked
    : goal.blocks::statement_scopes-returns-in_ok-behind-in-MacroDef-clause-walked
blocks::statement_scopes-returns-in_ok-behind-in-MacroDef-clause-walked t c =
    let store = c.args.store.now in
    let w = c.args.whole in
    let after = after_part store w in
    let a = c.args.around in
    let r = c.in_ok-behind-in-MacroDef.behind in
    let m = c.args.scopes.now in
    let n = c.open_macro_def.new.scopes in
    subst (λ s. Walked store w m n a (placed_statement store after s) (past_statement store after s) r) (sym c.in-MacroDef.is)
    (walked_enter store w m m n a a r _ (λ x. []) (λ x. x) (λ x stands. walks_none store w m a x stands) c.in_ok-behind-in-MacroDef.ensures)

pub blocks::compute_block_scopes-loop-left-preserved : goal.blocks::compute_block_scopes-loop-left-preserved
blocks::compute_block_scopes-loop-left-preserved t c =
    let store = c.args.store.now in
    let w = c.args.whole in
    let b = c.loop-left.behind in
    let d = c.in_ok-behind.behind in
    let m = c.args.scopes.now in
    let n = c.loop-left.scopes in
    let o = c.statement_scopes.new.scopes in
    let left = c.loop-left.left.now in
    let grown = c.in_ok-behind.ensures.kept.grown in (
      kept_then m n o b d c.loop-left.invariant.0 c.in_ok-behind.ensures.kept,
      λ x stands.
          let at = c.loop-left.invariant.1 x stands in
          let next = block_next store w n o b d left _ _ c.args.tail (first_and_rest left _ c.in-len1-up.len_at_least)
          grown c.in_ok-behind.ensures.walked at.0 at.1 in (
            _,
            next.0,
            λ q more records. at.2 q (grown_then n o q grown more) (next.1 q more records),
          ),
    )

-- arms and conditions

pub branches::guard_scopes-returns-clause-recorded : goal.branches::guard_scopes-returns-clause-recorded
branches::guard_scopes-returns-clause-recorded t c =
    let store = c.args.store.now in
    let w = c.args.whole in
    let after = after_part store w in
    let a = c.args.around in
    let guard = c.args.guard in
    let value = c.args.value in
    let m = c.args.scopes.now in
    let n = c.open_empty.new.scopes in
    let o = c.part.new.scopes in
    let q = c.part-2.new.scopes in
    let first = c.in_ok-behind.ensures in
    let second = c.in_ok-part.ensures in
    recorded_enter store w m n q a _ _ (λ x. (guard, x) ∷ (value, past store after guard x) ∷ [])
    (grown_then n o q first.kept.grown second.kept.grown)
    (enters_names m n a c.in_ok-scope.scope (binding_scope []) c.requires c.in_ok-scope.ensures)
    (recorded_of store w n q _ _ _ _
    (walked_then store w n o q _ c.in_ok-behind.behind _ (λ x. (guard, x) ∷ []) (λ x. (value, x) ∷ []) (past store after guard)
    (past store after value) second.kept.grown first.walked second.walked))

pub branches::arm_scopes-returns-in_ok-part-in-None-clause-recorded
    : goal.branches::arm_scopes-returns-in_ok-part-in-None-clause-recorded
branches::arm_scopes-returns-in_ok-part-in-None-clause-recorded t c =
    let store = c.args.store.now in
    let w = c.args.whole in
    let after = after_part store w in
    let a = c.args.around in
    let s = c.in_ok-scope.scope in
    let r : Around = record { scope = s; const_scope = a.const_scope } in
    let arm = c.args.arm in
    let m = c.args.scopes.now in
    let n = c.open_pat.new.scopes in
    let o = c.part.new.scopes in
    let value = c.in_ok-part-in-None.ensures in
    recorded_enter store w m n o a r _ (placed_guarded store after arm.guard arm.expr) value.kept.grown
    (enters_names m n a s (pat_scope store arm.pat) c.requires c.in_ok-scope.ensures)
    (subst (λ g. Recorded store w n o r (placed_guarded store after g arm.expr)) (sym c.in-None.is)
    (recorded_of store w n o r _ (λ x. (arm.expr, x) ∷ []) _ value.walked))

pub branches::arm_scopes-returns-in_ok-guard_scopes-in-Some-clause-recorded
    : goal.branches::arm_scopes-returns-in_ok-guard_scopes-in-Some-clause-recorded
branches::arm_scopes-returns-in_ok-guard_scopes-in-Some-clause-recorded t c =
    let store = c.args.store.now in
    let w = c.args.whole in
    let after = after_part store w in
    let a = c.args.around in
    let s = c.in_ok-scope.scope in
    let r : Around = record { scope = s; const_scope = a.const_scope } in
    let arm = c.args.arm in
    let m = c.args.scopes.now in
    let n = c.open_pat.new.scopes in
    let o = c.guard_scopes.new.scopes in
    let guarded = c.in_ok-guard_scopes-in-Some.ensures in
    recorded_enter store w m n o a r _ (placed_guarded store after arm.guard arm.expr) guarded.grown
    (enters_names m n a s (pat_scope store arm.pat) c.requires c.in_ok-scope.ensures)
    (subst (λ g. Recorded store w n o r (placed_guarded store after g arm.expr)) (sym c.in-Some.is) guarded.recorded)

pub branches::arms_scopes-loop-left-preserved : goal.branches::arms_scopes-loop-left-preserved
branches::arms_scopes-loop-left-preserved t c =
    let store = c.args.store.now in
    let w = c.args.whole in
    let a = c.args.around in
    let m = c.args.scopes.now in
    let n = c.loop-left.scopes in
    let o = c.arm_scopes.new.scopes in
    let left = c.loop-left.left.now in
    let arm = c.in_ok-arm_scopes.ensures in (
      grown_then m n o c.loop-left.invariant.0 arm.grown,
      λ x stands q more records.
          let first = arm.recorded x (stands_grown m n a x c.loop-left.invariant.0 stands) in
          c.loop-left.invariant.1 x stands q (grown_then n o q arm.grown more)
          (arms_next store w n o x left _ _ (first_and_rest left _ c.in-len1-up.len_at_least) first q more records),
    )

pub branches::arms_scopes-returns-clause-recorded : goal.branches::arms_scopes-returns-clause-recorded
branches::arms_scopes-returns-clause-recorded t c =
    let n = c.loop-left.scopes in
    let left = c.loop-left.left.now in
    λ x stands.
    c.loop-left.invariant.1 x stands n (grown_same n)
    (arms_end c.args.store.now c.args.whole n x left (no_first left (omega arith)))

pub branches::match_scopes-returns-clause-walked : goal.branches::match_scopes-returns-clause-walked
branches::match_scopes-returns-clause-walked t c =
    let store = c.args.store.now in
    let w = c.args.whole in
    let after = after_part store w in
    let scrutinee = c.args.scrutinee in
    let arms = c.in_ok-arms_scopes.ensures in
    walked_inner store w c.args.scopes.now c.part.new.scopes c.arms_scopes.new.scopes c.args.around c.in_ok-behind.behind
    (λ x. (scrutinee, x) ∷ []) (λ x. flat_map (placed_arm store after x) c.args.arms.now) (past store after scrutinee) arms.grown
    c.in_ok-behind.ensures.walked arms.recorded

pub branches::if_scopes-returns-clause-walked : goal.branches::if_scopes-returns-clause-walked
branches::if_scopes-returns-clause-walked t c =
    let store = c.args.store.now in
    let w = c.args.whole in
    let after = after_part store w in
    let a = c.args.around in
    let condition = c.args.condition in
    let branch = c.args.then_branch in
    let m = c.args.scopes.now in
    let n = c.open_empty.new.scopes in
    let o = c.part.new.scopes in
    let q = c.part-2.new.scopes in
    let first = c.in_ok-behind.ensures in
    let second = c.in_ok-part.ensures in
    let third = c.in_ok-behind_else.ensures in
    let both = grown_then n o q first.kept.grown second.kept.grown in
    walked_last store w m q c.part_option.new.scopes a c.in_ok-behind_else.behind_else
    (λ x. placed_branch store after condition branch (in_scope x (binding_scope [] ∷ x.names)))
    (placed_option store after c.args.else_branch) _
    (grown_then m n q c.in_ok-scope.ensures.grown both) third.kept.grown
    (recorded_enter store w m n q a _ _ (λ x. (condition, x) ∷ (branch, past store after condition x) ∷ []) both
    (enters_names m n a c.in_ok-scope.scope (binding_scope []) c.requires c.in_ok-scope.ensures)
    (recorded_of store w n q _ _ _ _
    (walked_then store w n o q _ c.in_ok-behind.behind _ (λ x. (condition, x) ∷ []) (λ x. (branch, x) ∷ []) (past store after condition)
    (past store after branch) second.kept.grown first.walked second.walked)))
    third.walked

pub branches::condition_scopes-returns-clause-walked : goal.branches::condition_scopes-returns-clause-walked
branches::condition_scopes-returns-clause-walked t c =
    let store = c.args.store.now in
    let b = c.in_ok-behind.behind in
    let n = c.part.new.scopes in
    let o = c.open_pat.new.scopes in
    walked_enter store c.args.whole c.args.scopes.now n o c.args.around b _ _ _ _ c.in_ok-behind.ensures.walked
    (enters_names n o b c.in_ok-scope.scope (pat_scope store c.args.pat) c.in_ok-behind.ensures.kept.in_range c.in_ok-scope.ensures)

-- constants, loops and closures

pub bodies::constant_scopes-returns-clause-recorded : goal.bodies::constant_scopes-returns-clause-recorded
bodies::constant_scopes-returns-clause-recorded t c =
    let store = c.args.store.now in
    let w = c.args.whole in
    let m = c.args.scopes.now in
    let n = c.part.new.scopes in
    recorded_constant store w m n c.args.around (λ x. (c.args.id, x) ∷ []) (recorded_of store w m n _ _ _ _ c.in_ok-part.ensures.walked)

pub bodies::repeat_scopes-returns-clause-walked : goal.bodies::repeat_scopes-returns-clause-walked
bodies::repeat_scopes-returns-clause-walked t c =
    let store = c.args.store.now in
    let w = c.args.whole in
    let after = after_part store w in
    let initializer = c.args.initializer in
    let first = c.in_ok-behind.ensures in
    let second = c.in_ok-constant_scopes.ensures in
    walked_beside store w c.args.scopes.now c.part.new.scopes c.constant_scopes.new.scopes c.args.around c.in_ok-behind.behind
    (λ x. (initializer, x) ∷ []) (λ x. (c.args.length, in_constant x) ∷ []) (past store after initializer) first.kept.grown second.grown
    first.walked second.recorded

pub bodies::loop_scopes-returns-clause-recorded : goal.bodies::loop_scopes-returns-clause-recorded
bodies::loop_scopes-returns-clause-recorded t c =
    let store = c.args.store.now in
    let w = c.args.whole in
    let a = c.args.around in
    let m = c.args.scopes.now in
    let n = c.open_loop.new.scopes in
    let o = c.part.new.scopes in
    recorded_enter store w m n o a _ _ (λ x. (c.args.body, x) ∷ []) c.in_ok-part.ensures.kept.grown
    (enters_names m n a c.in_ok-scope.scope (loop_scope c.args.label) c.requires c.in_ok-scope.ensures)
    (recorded_of store w n o _ _ _ _ c.in_ok-part.ensures.walked)

pub bodies::closure_scopes-returns-clause-recorded : goal.bodies::closure_scopes-returns-clause-recorded
bodies::closure_scopes-returns-clause-recorded t c =
    let store = c.args.store.now in
    let w = c.args.whole in
    let a = c.args.around in
    let m = c.args.scopes.now in
    let n = c.open_pats.new.scopes in
    let o = c.part.new.scopes in
    recorded_enter store w m n o a _ _ (λ x. (c.args.body, x) ∷ []) c.in_ok-part.ensures.kept.grown
    (enters_names m n a c.in_ok-scope.scope (pats_scope store c.args.args.now) c.requires c.in_ok-scope.ensures)
    (recorded_of store w n o _ _ _ _ c.in_ok-part.ensures.walked)

-- parts one behind the other

pub compute::each_part-loop-left-preserved : goal.compute::each_part-loop-left-preserved
compute::each_part-loop-left-preserved t c =
    let store = c.args.store.now in
    let w = c.args.whole in
    let b = c.loop-left.behind in
    let d = c.in_ok-behind.behind in
    let m = c.args.scopes.now in
    let n = c.loop-left.scopes in
    let o = c.part.new.scopes in
    let left = c.loop-left.left.now in
    let grown = c.in_ok-behind.ensures.kept.grown in (
      kept_then m n o b d c.loop-left.invariant.0 c.in_ok-behind.ensures.kept,
      λ x stands.
          let at = c.loop-left.invariant.1 x stands in
          let next = each_next store w n o b d left _ _ (first_and_rest left _ c.in-len1-up.len_at_least) grown
          c.in_ok-behind.ensures.walked at.0 at.1 in (
            _,
            next.0,
            λ q r more walks. at.2 q r (grown_then n o q grown more) (next.1 q r more walks),
          ),
    )

pub compute::each_part-returns-clause-walked : goal.compute::each_part-returns-clause-walked
compute::each_part-returns-clause-walked t c =
    let n = c.loop-left.scopes in
    let b = c.loop-left.behind in
    let left = c.loop-left.left.now in
    λ x stands.
    let at = c.loop-left.invariant.1 x stands in
    at.2 n b (grown_same n) (each_end c.args.store.now c.args.whole n b left at.0 (no_first left (omega arith)) at.1)

pub compute::plain_scopes-returns-clause-walked : goal.compute::plain_scopes-returns-clause-walked
compute::plain_scopes-returns-clause-walked t c =
    plain_walked c.args.store.now c.args.id c.args.scopes.now c.each_part.new.scopes c.args.around c.in_ok-behind.behind c.args.expr.now _
    c.in_ok-parts.parts (search rules) c.in_ok-parts.ensures c.requires.plain c.in_ok-behind.ensures.walked

-- expressions

pub compute::block_scopes-returns-clause-recorded : goal.compute::block_scopes-returns-clause-recorded
compute::block_scopes-returns-clause-recorded t c =
    let wrote = c.set_scope.ensures in
    let inside = c.in_ok-compute_block_scopes.ensures in
    block_recorded c.args.store.now c.args.scopes.now c.open_block.new.scopes c.set_scope.new.self c.compute_block_scopes.new.scopes
    c.args.around c.in_ok-inner.inner c.args.id c.args.block c.args.label c.args.statements.now c.args.tail c.in_ok-inner.ensures
    wrote.scopes wrote.entries wrote.by_expr inside.grown inside.recorded

pub compute::compute_expr_scopes-returns-in-None-clause-recorded : goal.compute::compute_expr_scopes-returns-in-None-clause-recorded
compute::compute_expr_scopes-returns-in-None-clause-recorded t c =
    let wrote = c.set_scope.ensures in
    none_recorded c.args.store.now c.args.scopes.now c.set_scope.new.self c.args.around c.args.id (search rules) wrote.scopes wrote.entries
    wrote.by_expr

pub compute::compute_expr_scopes-returns-in-None-clause-behind : goal.compute::compute_expr_scopes-returns-in-None-clause-behind
compute::compute_expr_scopes-returns-in-None-clause-behind t c =
    let wrote = c.set_scope.ensures in
    none_behind c.args.store.now c.args.scopes.now c.set_scope.new.self c.args.around c.args.id (search rules) wrote.scopes wrote.entries

pub compute::expr_scopes-returns-in_ok-block_scopes-in-Block-clause-recorded
    : goal.compute::expr_scopes-returns-in_ok-block_scopes-in-Block-clause-recorded
compute::expr_scopes-returns-in_ok-block_scopes-in-Block-clause-recorded t c =
    λ x stands.
    block_whole c.args.store.now c.args.scopes.now c.block_scopes.new.scopes c.args.id _ _ _ c.as_slice.result.now _ _ x
    (c.requires.is_there ∙ ap Some c.in-Block.is) (search rules) (c.in_ok-block_scopes-in-Block.ensures.recorded x stands)

pub compute::expr_scopes-returns-in_ok-block_scopes-in-Block-clause-behind
    : goal.compute::expr_scopes-returns-in_ok-block_scopes-in-Block-clause-behind
compute::expr_scopes-returns-in_ok-block_scopes-in-Block-clause-behind t c =
    block_behind c.args.store.now c.args.scopes.now c.block_scopes.new.scopes c.args.around c.args.id _ _ _ _ _
    (c.requires.is_there ∙ ap Some c.in-Block.is) c.in_ok-block_scopes-in-Block.ensures.grown

pub compute::expr_scopes-returns-in_ok-behind-in_default : goal.compute::expr_scopes-returns-in_ok-behind-in_default
compute::expr_scopes-returns-in_ok-behind-in_default t c =
    let store = c.args.store.now in
    let a = c.args.around in
    let b = c.in_ok-behind-in_default.behind in
    let id = c.args.id in
    let f = c.args.expr.now in
    let m = c.args.scopes.now in
    let n = c.set_scope.new.self in
    let o = c.form_scopes.new.scopes in
    let is_there = c.requires.is_there in
    let wrote = c.set_scope.ensures in
    let form = c.in_ok-behind-in_default.ensures in
    record {
      kept = kept_then m n o a b (kept_back m n a c.requires.in_range (grown_equal m n wrote.scopes wrote.entries)) form.kept;
      recorded = form_recorded store m n o a b id f _ is_there (search rules) wrote.scopes wrote.entries wrote.by_expr form.kept.grown
          form.walked;
      behind = form_behind store m n o a b id f _ is_there wrote.scopes wrote.entries form.walked;
    }

-- forms

pub compute::form_scopes-returns-in_ok-constant_scopes-in-Const-clause-walked
    : goal.compute::form_scopes-returns-in_ok-constant_scopes-in-Const-clause-walked
compute::form_scopes-returns-in_ok-constant_scopes-in-Const-clause-walked t c =
    let store = c.args.store.now in
    let id = c.args.id in
    let after = after_part store id in
    let a = c.args.around in
    let m = c.args.scopes.now in
    let n = c.constant_scopes.new.scopes in
    let inner = c.in_ok-constant_scopes-in-Const.ensures in
    subst (λ f. Walked store id m n a (placed store after f) (λ x. in_scope x (after_form store after f x.names)) a) (sym c.in-Const.is)
    (walked_back store id m n a _ inner.grown inner.recorded)

pub compute::form_scopes-returns-in_ok-loop_scopes-in-Loop-clause-walked
    : goal.compute::form_scopes-returns-in_ok-loop_scopes-in-Loop-clause-walked
compute::form_scopes-returns-in_ok-loop_scopes-in-Loop-clause-walked t c =
    let store = c.args.store.now in
    let id = c.args.id in
    let after = after_part store id in
    let a = c.args.around in
    let m = c.args.scopes.now in
    let n = c.loop_scopes.new.scopes in
    let inner = c.in_ok-loop_scopes-in-Loop.ensures in
    subst (λ f. Walked store id m n a (placed store after f) (λ x. in_scope x (after_form store after f x.names)) a) (sym c.in-Loop.is)
    (walked_back store id m n a _ inner.grown inner.recorded)

pub compute::form_scopes-returns-in_ok-closure_scopes-in-Closure-clause-walked
    : goal.compute::form_scopes-returns-in_ok-closure_scopes-in-Closure-clause-walked
compute::form_scopes-returns-in_ok-closure_scopes-in-Closure-clause-walked t c =
    let store = c.args.store.now in
    let id = c.args.id in
    let after = after_part store id in
    let a = c.args.around in
    let m = c.args.scopes.now in
    let n = c.closure_scopes.new.scopes in
    let inner = c.in_ok-closure_scopes-in-Closure.ensures in
    subst (λ f. Walked store id m n a (placed store after f) (λ x. in_scope x (after_form store after f x.names)) a) (sym c.in-Closure.is)
    (walked_back store id m n a _ inner.grown (closure_as store id m n a _ _ _ (search rules) inner.recorded))

pub compute::form_scopes-returns-in_ok-behind-in-Match-clause-walked
    : goal.compute::form_scopes-returns-in_ok-behind-in-Match-clause-walked
compute::form_scopes-returns-in_ok-behind-in-Match-clause-walked t c =
    let store = c.args.store.now in
    let id = c.args.id in
    let after = after_part store id in
    let a = c.args.around in
    let b = c.in_ok-behind-in-Match.behind in
    let m = c.args.scopes.now in
    let n = c.match_scopes.new.scopes in
    subst (λ f. Walked store id m n a (placed store after f) (λ x. in_scope x (after_form store after f x.names)) b) (sym c.in-Match.is)
    (match_as store id m n a b _ _ _ (search rules) c.in_ok-behind-in-Match.ensures.walked)
