-- What an `await` in a constant stands in, wherever the constant stands.
use Rattle.std.specs.Prelude.{◌≡◌, ℕ, codes, Bool, true, false, [], Option, Some, None}
use Rattle.hir_syntax.specs.declared.ast.BlockExpr.{roll-BlockExpr}
use Rattle.hir_syntax.specs.declared.ast.BlockModifier.{BlockModifier}
use Rattle.hir_syntax.specs.declared.ast.BlockModifier.TheVariants as modifier
use Rattle.hir_syntax.specs.declared.ast.ElseBranch.TheOpen.{ExprKind-F, GenericArg-F, TypeKind-F}
use Rattle.hir_syntax.specs.declared.ast.Expr.{Expr as AstExpr}
use Rattle.hir_syntax.specs.declared.types.GenericArg.{GenericArg as AstGenericArg, roll-GenericArg}
use Rattle.hir_syntax.specs.declared.types.Type_.{Type_ as AstType_}
use Rattle.hir_store.specs.declared.diagnostics.AwaitLocation.{AwaitLocation}
use Rattle.hir_store.specs.declared.diagnostics.AwaitLocation.TheVariants as location
use Rattle.hir_store.specs.declared.hir.CoroutineKind.{CoroutineKind}
use Rattle.hir_store.specs.declared.hir.CoroutineKind.TheVariants as coroutine
use Rattle.hir_store.specs.declared.name.Name.TheVariants as name
use Rattle.hir_env.specs.declared.ctx.LowerCtx.{LowerCtx}
use Rattle.hir_env.specs.declared.ctx.LoweringMode.TheVariants as mode
use Rattle.hir_env.specs.Answers.{Answers}
use Rattle.hir_env.specs.Layers.{BlockExprLayer, ExprKindLayer}
use Rattle.hir_env.specs.ResolveCtx.{ResolveCtx}
use Rattle.hir_env.specs.Whole.{resolved_expr, resolved_segment, resolved_type, written}
use Rattle.hir_env.specs.ResolvedTree as tree
use Rattle.hir_env.specs.ResolvedTree.{Constant, Expr}
use Rattle.spec_data.specs.Trees.{node, no_range, type_at, with_argument}
use Rattle.spec_semantics.specs.Reading.{enabled_env, expr_of, from, rctx_of}

-- where no block has a number
abbrev pub anywhere : Answers → LowerCtx → ResolveCtx
anywhere env p = rctx_of (enabled_env env) (record p { mode = mode.Untracked }) 0

-- what is written

-- an `await`, whose operand is absent
abbrev pub await_absent : ℕ → AstExpr
await_absent n = expr_of n (ExprKind-F.AwaitExpr None)

-- as the length of an array's type, and as the argument in `t<..>`
abbrev pub array_type : AstType_
array_type = type_at 0 (TypeKind-F.ArrayType None (Some (Some (await_absent 2))))

abbrev pub argument : AstGenericArg
argument = roll-GenericArg (GenericArg-F.ConstArg (Some (await_absent 2)))

-- as the body of a closure, which may be async, and in a block with this in front of it
abbrev pub closure_kind : Bool → ExprKindLayer written
closure_kind is_async = ExprKind-F.ClosureExpr None None (Some (await_absent 3)) is_async false false false

abbrev pub one_closure : Bool → AstExpr
one_closure is_async = expr_of 2 (closure_kind is_async)

abbrev pub block_level : BlockModifier → BlockExprLayer written
block_level m =
    record {
      id = node 2;
      range = no_range;
      mod_ = Some m;
      label = None;
      ty = None;
      move_ = false;
      stmts = [];
      tail = Some
          (await_absent 3);
    }

abbrev pub block_after : BlockModifier → AstExpr
block_after m = expr_of 4 (ExprKind-F.BlockExpr (roll-BlockExpr (block_level m)))

-- what it is read as

-- one that stands in this, or in what is async
abbrev pub await_in : Option AwaitLocation → ℕ → Expr
await_in l n = tree.await_expr (from 0 n) l tree.no_expr

abbrev pub constant_of : Expr → Constant
constant_of e = tree.constant (tree.some_expr e)

abbrev pub in_constant : Constant
in_constant = constant_of (await_in (Some location.Constant) 2)

abbrev pub const_block : Expr
const_block = tree.const_expr (from 0 2) (constant_of (tree.block_expr
    (tree.block (from 0 2) false None tt None tree.no_stmts (tree.some_expr (await_in (Some location.ConstantBlock) 3)))))

abbrev pub coroutine_of : CoroutineKind → Option AwaitLocation → Expr
coroutine_of kind l = tree.coroutine_expr (from 0 2) kind false None tree.no_stmts (tree.some_expr (await_in l 3))

-- the theorem

-- The array with an `await` as its element and with e as its length, where e is read as this: the element stands in what the array does.
abbrev pub LengthIs : ResolveCtx → AstExpr → Expr → Type 0
LengthIs at e x = resolved_expr at (expr_of 0 (ExprKind-F.RepeatExpr (Some (await_absent 1)) (Some e)))
    ≡ tree.repeat_expr (from 0 0) (tree.some_expr (await_in at.place.await_location 1)) (constant_of x)

-- The pattern of a type has no other expressions than these, in its paths.
pub record InConstants (at : ResolveCtx) : Type 0 where
  pub length : LengthIs at (await_absent 2) (await_in (Some location.Constant) 2)
  pub length_in_type : resolved_type at array_type ≡ tree.array_type (from 0 0) in_constant tree.no_type
  pub argument : resolved_segment at (with_argument (codes "t") argument)
      ≡ tree.name_segment (name.Text (codes "t")) tt
      (tree.segment_args (tree.some_arg_list (tree.more_args (tree.const_arg in_constant) tree.no_args)) tree.no_parens false)

-- A `const` block in a constant, and what is in a closure or a coroutine there, stands in that and no longer in the constant.
pub record InsideOfConstants (at : ResolveCtx) : Type 0 where
  pub const_block : LengthIs at (block_after modifier.Const) const_block
  pub closure : LengthIs at (one_closure false)
      (tree.closure_expr (from 0 2) false false tree.no_params tree.no_type
      (tree.some_expr (await_in (Some location.NonAsyncClosure) 3)))
  pub async_closure : LengthIs at (one_closure true)
      (tree.coroutine_closure_expr (from 0 2) coroutine.Async false tree.no_params tree.no_type (tree.some_expr (await_in None 3)))
  pub gen_block : LengthIs at (block_after modifier.Gen) (coroutine_of coroutine.Gen (Some location.NonAsyncGenBlock))
  pub async_block : LengthIs at (block_after modifier.Async) (coroutine_of coroutine.Async None)
  pub async_gen_block : LengthIs at (block_after modifier.AsyncGen) (coroutine_of coroutine.AsyncGen None)

abbrev pub AwaitsInConstants : Type 0
AwaitsInConstants = (env : Answers) (p : LowerCtx) → InConstants (anywhere env p) × InsideOfConstants (anywhere env p)
