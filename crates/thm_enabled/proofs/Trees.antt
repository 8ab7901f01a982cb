-- What pruning leaves as it is: nodes, why an expression is gone, and the order of statements.
use Rattle.std.proofs.Common.{◌≡◌, ◌∙◌, refl, sym, Option}
use Rattle.hir_store.specs.Pointers.{Pointer}
use Rattle.hir_env.specs.ResolvedTree as tree
use Rattle.hir_env.specs.ResolvedTree.{Called, Expr, OptionExpr, Stmts}
use Rattle.hir_env.specs.Calls.{append, gone_in}
use Rattle.hir_env.specs.Layers.{BlockExprLayer, ExprKindLayer, written}
use Rattle.hir_env.specs.Answers.{Answers}
use Rattle.hir_env.specs.Targets.{pointer_of}
use Rattle.hir_env.specs.Whole.{kind_pointer}
use Rattle.hir_env.specs.declared.ctx.LowerCtx.{LowerCtx}
use Rattle.hir_syntax.specs.declared.ast.BlockModifier.{BlockModifier}
use Rattle.thm_reading.specs.LowerCtx.{node}
use Rattle.thm_reading.specs.Rules as rule
use Rattle.thm_reading.specs.Rules.{ExprKindAs, OwnAs}
use Rattle.thm_reading.specs.Shapes as shape
use Rattle.thm_reading.specs.Shapes.{AroundAs, LastAs}
use Rattle.thm_enabled.specs.Pruned.{pruned, pruned_part, pruned_stmt, pruned_stmts}

-- What is allowed in one environment in place of what is allowed in another one, which is alike as far as it is looked at.
pub record Moved {X : Type 0} (view : X → X) (P : X → Type 0) (x : X) : Type 0 where
  pub tree : X
  pub by : P tree
  pub same : view x ≡ view tree

pub to : {X : Type 0} {view : X → X} {P : X → Type 0} {x : X} (y : X) → P y → view x ≡ view y → Moved view P x
to y h e = record { tree = y; by = h; same = e }

-- statements and what stands behind them
abbrev pub both_pruned : Stmts × OptionExpr → Stmts × OptionExpr
both_pruned x = (pruned_stmts x.0, pruned_part x.1)

-- nodes

around_pointer : {s : Pointer} {c : Called} {x : OptionExpr} {z : Expr} → AroundAs s c x z → pointer_of z ≡ s
around_pointer shape.around_nothing = refl
around_pointer (shape.around_expr h) = refl
around_pointer (shape.around_gone h) = refl

module _ (env : Answers) where
  pub own_pointer : {p : LowerCtx} {m : Option BlockModifier} {b : BlockExprLayer written} {x : Expr} → OwnAs env p m b x
      → pointer_of x ≡ node p b.id b.range
  own_pointer (rule.labelled h1 h2) = refl
  own_pointer (rule.unsafe_block h1) = refl
  own_pointer (rule.try_block h1 h2) = refl
  own_pointer (rule.const_block h1) = refl
  own_pointer (rule.async_block h1) = refl
  own_pointer (rule.gen_block h1) = refl
  own_pointer (rule.async_gen_block h1) = refl

  pub its_pointer : {p : LowerCtx} {s : Pointer} {k : ExprKindLayer written} {x : Expr} → ExprKindAs env p s k x
      → pointer_of x ≡ kind_pointer p k s
  its_pointer (rule.block_expr h1) = own_pointer h1
  its_pointer (rule.called_expr h1 h2 h3) = around_pointer h3
  its_pointer (rule.if_expr h1 h2 h3) = refl
  its_pointer (rule.loop_expr h1 h2) = refl
  its_pointer (rule.while_expr h1 h2 h3) = refl
  its_pointer (rule.for_expr h1 h2 h3 h4 h5) = refl
  its_pointer (rule.itemless_for h1) = refl
  its_pointer (rule.question_expr h1 h2) = refl
  its_pointer (rule.itemless_question h1) = refl
  its_pointer (rule.call_expr h1 h2) = refl
  its_pointer (rule.path_expr h1) = refl
  its_pointer rule.continue_expr = refl
  its_pointer (rule.break_expr h1) = refl
  its_pointer (rule.paren_expr h1) = refl
  its_pointer rule.literal_expr = refl
  its_pointer (rule.method_call_expr h1 h2 h3) = refl
  its_pointer (rule.field_expr h1) = refl
  its_pointer (rule.prefix_expr h1) = refl
  its_pointer (rule.nameless_expr h1) = refl
  its_pointer (rule.logic_expr h1 h2) = refl
  its_pointer (rule.assign_expr h1 t h2) = refl
  its_pointer (rule.operator_expr h1 h2 h3) = refl
  its_pointer (rule.index_expr h1 h2) = refl
  its_pointer (rule.ref_expr h1) = refl
  its_pointer (rule.tuple_expr h1) = refl
  its_pointer (rule.array_expr h1) = refl
  its_pointer (rule.repeat_expr h1 h2) = refl
  its_pointer (rule.closure_expr h1 h2 h3) = refl
  its_pointer (rule.gen_closure h1 h2 h3) = refl
  its_pointer (rule.async_closure h1 h2 h3) = refl
  its_pointer (rule.async_gen_closure h1 h2 h3) = refl
  its_pointer (rule.return_expr h1) = refl
  its_pointer (rule.yeet_expr h1) = refl
  its_pointer (rule.become_expr h1) = refl
  its_pointer (rule.yield_expr h1) = refl
  its_pointer (rule.await_expr h1) = refl
  its_pointer (rule.cast_expr h1 h2) = refl
  its_pointer (rule.record_expr h1 h2 h3) = refl
  its_pointer (rule.record_without_list h1) = refl
  its_pointer (rule.offset_of_expr h1) = refl
  its_pointer rule.cfg_expr = refl
  its_pointer (rule.let_expr h1 h2) = refl
  its_pointer (rule.match_expr h1 h2) = refl
  its_pointer (rule.match_without_arms h1) = refl
  its_pointer (rule.range_expr h1 h2) = refl
  its_pointer rule.underscore_expr = refl
  its_pointer rule.include_bytes_expr = refl
  its_pointer rule.asm_expr = refl
  its_pointer rule.format_args_expr = refl
  its_pointer rule.callless_expr = refl

-- of what is allowed in either of two environments
pub pointers : (env other : Answers) {p : LowerCtx} {s : Pointer} {k : ExprKindLayer written} {x y : Expr} → ExprKindAs env p s k x
    → ExprKindAs other p s k y → pointer_of x ≡ pointer_of y
pointers env other h k = its_pointer env h ∙ sym (its_pointer other k)

pub own_pointers : (env other : Answers) {p : LowerCtx} {m : Option BlockModifier} {b : BlockExprLayer written} {x y : Expr}
    → OwnAs env p m b x → OwnAs other p m b y → pointer_of x ≡ pointer_of y
own_pointers env other h k = own_pointer env h ∙ sym (own_pointer other k)

-- statements

pruned_append : (xs ys : Stmts) → pruned_stmts (append xs ys) ≡ append (pruned_stmts xs) (pruned_stmts ys)
pruned_append tree.no_stmts ys = refl
pruned_append (tree.more_stmts x xs) ys = λ i. tree.more_stmts (pruned_stmt x) (pruned_append xs ys i)

pub append_pruned : (xs us ys vs : Stmts) → pruned_stmts xs ≡ pruned_stmts us → pruned_stmts ys ≡ pruned_stmts vs
    → pruned_stmts (append xs ys) ≡ pruned_stmts (append us vs)
append_pruned xs us ys vs e k = pruned_append xs ys ∙ ((λ i. append (e i) (k i)) ∙ sym (pruned_append us vs))

-- why an expression is gone

gone_pruned : (e : Expr) → gone_in (pruned e) ≡ gone_in e
gone_pruned (tree.disabled_expr why e) = refl
gone_pruned _ = refl

abbrev is_no_expr : OptionExpr → Type 0
is_no_expr tree.no_expr = Unit {0}
is_no_expr (tree.some_expr e) = ⊥

clash : {A : Type 0} {e : Expr} → tree.no_expr ≡ tree.some_expr e → A
clash h = absurd (coe 0 1 (i. is_no_expr (h i)) tt)

abbrev inner : Expr → OptionExpr → Expr
inner d tree.no_expr = d
inner d (tree.some_expr e) = e

gones : (x y : Expr) → tree.some_expr (pruned x) ≡ tree.some_expr (pruned y) → gone_in x ≡ gone_in y
gones x y e = sym (gone_pruned x) ∙ ((λ i. gone_in (inner (pruned x) (e i))) ∙ gone_pruned y)

pub around_moved : {s : Pointer} {c : Called} {x : OptionExpr} {z : Expr} (y : OptionExpr) → AroundAs s c x z
    → pruned_part x ≡ pruned_part y → Moved pruned (AroundAs s c y) z
around_moved tree.no_expr shape.around_nothing e = to _ shape.around_nothing refl
around_moved (tree.some_expr y) shape.around_nothing e = clash e
around_moved tree.no_expr (shape.around_expr h) e = clash (sym e)
around_moved {s = s} {c = c} (tree.some_expr y) (shape.around_expr {e = x} h) e =
    to _ (shape.around_expr (sym (gones x y e) ∙ h)) (λ i. tree.macro_expr s c (e i))
around_moved tree.no_expr (shape.around_gone h) e = clash (sym e)
around_moved (tree.some_expr y) (shape.around_gone {e = x} h) e = to _ (shape.around_gone (sym (gones x y e) ∙ h)) refl

pub last_moved : {s : Pointer} {x z : OptionExpr} (y : OptionExpr) → LastAs s x z → pruned_part x ≡ pruned_part y
    → Moved pruned_part (LastAs s y) z
last_moved tree.no_expr shape.no_last e = to _ shape.no_last refl
last_moved (tree.some_expr y) shape.no_last e = clash e
last_moved tree.no_expr (shape.some_last h) e = clash (sym e)
last_moved (tree.some_expr y) (shape.some_last h) e =
    let m = around_moved (tree.some_expr y) h e in to _ (shape.some_last m.by) (λ i. tree.some_expr (m.same i))
