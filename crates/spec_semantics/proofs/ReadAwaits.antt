-- What an `await` in a constant stands in, computed level by level.
use Rattle.std.proofs.Common.{◌≡◌, ◌∙◌, refl, ap, codes, Bool, true, false, [], Option, Some, None}
use Rattle.hir_syntax.specs.declared.ast.BlockExpr.{BlockExpr as AstBlockExpr, out-BlockExpr, out-roll-BlockExpr, roll-BlockExpr}
use Rattle.hir_syntax.specs.declared.ast.BlockModifier.{BlockModifier}
use Rattle.hir_syntax.specs.declared.ast.BlockModifier.TheVariants as modifier
use Rattle.hir_syntax.specs.declared.ast.ElseBranch.TheOpen.{ExprKind-F, GenericArg-F, TypeKind-F}
use Rattle.hir_syntax.specs.declared.ast.Expr.{Expr as AstExpr}
use Rattle.hir_syntax.specs.declared.ast.PathSegment.{out-roll-PathSegment}
use Rattle.hir_syntax.specs.declared.types.GenericArg.{out-roll-GenericArg}
use Rattle.hir_store.specs.declared.diagnostics.AwaitLocation.TheVariants as location
use Rattle.hir_store.specs.declared.hir.CoroutineKind.{CoroutineKind}
use Rattle.hir_store.specs.declared.hir.CoroutineKind.TheVariants as coroutine
use Rattle.hir_store.specs.declared.ids.BlockId.{BlockId}
use Rattle.hir_store.specs.declared.name.Name.TheVariants as name
use Rattle.hir_store.specs.Pointers.{Pointer}
use Rattle.hir_env.specs.declared.ctx.LowerCtx.{LowerCtx}
use Rattle.hir_env.specs.Answers.{Answers}
use Rattle.hir_env.specs.Answering as of
use Rattle.hir_env.specs.Answering.{Contents}
use Rattle.hir_env.specs.Layers.{BlockExprLayer}
use Rattle.hir_env.specs.Paths as of_paths
use Rattle.hir_env.specs.Paths.{inside_closure, inside_const_block, inside_coroutine}
use Rattle.hir_env.specs.ResolveCtx.{ResolveCtx}
use Rattle.hir_env.specs.Whole.{resolved_expr, resolved_arg, resolved_segment, contents_part, into, own_level, reader, written}
use Rattle.hir_env.specs.Whole.{block_number, in_block, in_constant, pointer_at}
use Rattle.hir_env.specs.ResolvedTree as tree
use Rattle.hir_env.specs.ResolvedTree.{Arg, Expr, Segment}
use Rattle.hir_env.proofs.Levels.{block_is_level}
use Rattle.hir_env.proofs.PathLevels.{arg_is_level, segment_is_level}
use Rattle.spec_data.specs.Trees.{node, no_range, with_argument}
use Rattle.spec_semantics.specs.Reading.{from}
use Rattle.spec_semantics.specs.ReadAwaits.{anywhere, argument, await_in, await_absent, block_after, block_level, one_closure, closure_kind}
use Rattle.spec_semantics.specs.ReadAwaits.{constant_of, coroutine_of, AwaitsInConstants, InConstants, InsideOfConstants, LengthIs}
use Rattle.spec_semantics.proofs.OneLevel.{expr_made, type_made, value_made}
use Rattle.spec_semantics.proofs.ReadRuns.{ReadTail, contents_are}

module _ (env : Answers) (p : LowerCtx) where
  abbrev at : ResolveCtx
  at = anywhere env p

  abbrev inner : ResolveCtx
  inner = in_constant at

  length_is : (e : AstExpr) (x : Expr) → resolved_expr inner e ≡ x → LengthIs at e x
  length_is e x h = expr_made at 0 (ExprKind-F.RepeatExpr (Some (await_absent 1)) (Some e))
      ∙ (λ j. tree.repeat_expr (from 0 0) (tree.some_expr (expr_made at 1 (ExprKind-F.AwaitExpr None) j)) (constant_of (h j)))

  await_is : resolved_expr inner (await_absent 2) ≡ await_in (Some location.Constant) 2
  await_is = expr_made inner 2 (ExprKind-F.AwaitExpr None)

  abbrev segment_by : Arg → Segment
  segment_by a = tree.name_segment (name.Text (codes "t")) tt
      (tree.segment_args (tree.some_arg_list (tree.more_args a tree.no_args)) tree.no_parens false)

  abbrev arg_of : Expr → Arg
  arg_of e = tree.const_arg (constant_of e)

  argument_is : resolved_arg at argument ≡ arg_of (await_in (Some location.Constant) 2)
  argument_is = arg_is_level at argument
      ∙ ap (λ l. of_paths.generic_arg_step at.answers (reader at.answers (into at)) l at.place)
      (out-roll-GenericArg (GenericArg-F.ConstArg (Some (await_absent 2))))
      ∙ ap arg_of await_is

  segment_is : resolved_segment at (with_argument (codes "t") argument) ≡ segment_by (arg_of (await_in (Some location.Constant) 2))
  segment_is = segment_is_level at (with_argument (codes "t") argument)
      ∙ ap (λ l. of_paths.segment_step at.answers (reader at.answers (into at)) l at.place) (out-roll-PathSegment _)
      ∙ ap segment_by argument_is

  in_constants : InConstants at
  in_constants = record {
    length = length_is (await_absent 2) (await_in (Some location.Constant) 2) await_is;
    length_in_type = type_made at 0 (TypeKind-F.ArrayType None (Some (Some (await_absent 2))))
        ∙ ap (λ e. tree.array_type (from 0 0) (constant_of e) tree.no_type) await_is;
    argument = segment_is;
  }

  -- deeper in a constant

  -- the spot at such a place, and what is read of the `await` there
  abbrev deeper : LowerCtx → ResolveCtx
  deeper q = record { answers = at.answers; place = q }

  abbrev awaited : LowerCtx → Expr
  awaited q = tree.await_expr (pointer_at (deeper q) (node 3) no_range) q.await_location tree.no_expr

  abbrev tail_at : (q : LowerCtx) → ReadTail (deeper q)
  tail_at q = record {
    expr = Some (await_absent 3);
    reading = λ d. of.whole_value (awaited q) d;
    is = value_made (deeper q) 3 (ExprKind-F.AwaitExpr None);
  }

  -- a closure that is made of its body in this way
  closure_is : (is_async : Bool) (made : Expr → Expr)
      → of.expr_at at.answers (reader at.answers (into inner)) (closure_kind is_async) inner.place (from 0 2)
      ≡ made (resolved_expr (deeper (inside_closure is_async inner.place)) (await_absent 3))
      → LengthIs at (one_closure is_async) (made (awaited (inside_closure is_async inner.place)))
  closure_is is_async made h = length_is (one_closure is_async) _ (expr_made inner 2 (closure_kind is_async)
      ∙ (h ∙ ap made (expr_made (deeper (inside_closure is_async inner.place)) 3 (ExprKind-F.AwaitExpr None))))

  -- a block that is made of its contents in this way, at this place
  module _ (m : BlockModifier) (q : LowerCtx) (made : Pointer → Bool → Option BlockId → Contents → Expr) where
    abbrev b : AstBlockExpr
    b = roll-BlockExpr (block_level m)

    abbrev by : BlockExprLayer written → Expr
    by l = made (pointer_at (deeper q) l.id l.range) l.move_ (block_number (deeper q) l.id)
        (contents_part (in_block (deeper q) l.id) l.stmts l.tail)

    block_is : own_level inner (Some m) b ≡ by (out-BlockExpr b)
        → LengthIs at (block_after m) (made (pointer_at (deeper q) (node 2) no_range) false (block_number (deeper q) (node 2))
        (tree.no_stmts, tree.some_expr (awaited (in_block (deeper q) (node 2)).place)))
    block_is h = length_is (block_after m) _ (expr_made inner 4 (ExprKind-F.BlockExpr b)
        ∙ (block_is_level inner b
        ∙ (ap (λ l. own_level inner l.mod_ b) (out-roll-BlockExpr (block_level m))
        ∙ (h
        ∙ (ap by (out-roll-BlockExpr (block_level m))
        ∙ ap (made (pointer_at (deeper q) (node 2) no_range) false (block_number (deeper q) (node 2)))
        (contents_are (in_block (deeper q) (node 2)) [] (tail_at (in_block (deeper q) (node 2)).place)))))))

  coroutine_is : (m : BlockModifier) (kind : CoroutineKind)
      → own_level inner (Some m) (roll-BlockExpr (block_level m))
      ≡ by m (inside_coroutine kind inner.place) (λ s moves n c. tree.coroutine_expr s kind moves n c.0 c.1)
      (out-BlockExpr (roll-BlockExpr (block_level m)))
      → LengthIs at (block_after m) (coroutine_of kind (inside_coroutine kind inner.place).await_location)
  coroutine_is m kind h = block_is m (inside_coroutine kind inner.place) (λ s moves n c. tree.coroutine_expr s kind moves n c.0 c.1) h

  deeper_in_constants : InsideOfConstants at
  deeper_in_constants = record {
    const_block = block_is modifier.Const (inside_const_block inner.place)
        (λ s moves n c. of.const_of s (tree.block s false None tt n c.0 c.1)) refl;
    closure = closure_is false (λ e. tree.closure_expr (from 0 2) false false tree.no_params tree.no_type (tree.some_expr e)) refl;
    async_closure = closure_is true
        (λ e. tree.coroutine_closure_expr (from 0 2) coroutine.Async false tree.no_params tree.no_type (tree.some_expr e)) refl;
    gen_block = coroutine_is modifier.Gen coroutine.Gen refl;
    async_block = coroutine_is modifier.Async coroutine.Async refl;
    async_gen_block = coroutine_is modifier.AsyncGen coroutine.AsyncGen refl;
  }

pub awaits_in_constants : AwaitsInConstants
awaits_in_constants env p = (in_constants env p, deeper_in_constants env p)
