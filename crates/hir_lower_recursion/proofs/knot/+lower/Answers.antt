use Rattle.std.proofs.Common.{arith, ap, ℕ, suc, sym, ◌∙◌, ◌≡◌, ◌+◌, ◌<◌}
use Rattle.hir_syntax.specs.declared.ast.ExprKind.{out-ExprKind}
use Rattle.hir_syntax.specs.declared.ast.BlockExpr.{out-BlockExpr}
use Rattle.hir_syntax.specs.declared.ast.Path.{out-Path}
use Rattle.hir_syntax.specs.declared.types.TypeKind.{out-TypeKind}
use Rattle.hir_env.specs.Answering.{inside, ptr, numbered}
use Rattle.hir_env.specs.declared.ctx.LowerCtx.{LowerCtx}
use Rattle.hir_env.specs.Count.{count_block, count_path, count_stmts, count_option_expr, count_type}
use Rattle.hir_env.specs.Whole.{resolved_plain, resolved_type, contents_part, pointer_at}
use Rattle.hir_env.proofs.Levels.{expr_is_level, plain_is_level}
use Rattle.hir_env.proofs.PathLevels.{path_as_is_level, type_is_level, use_tree_is_level}
use Rattle.hir_lower_callbacks.specs.Nests.{HandlesArgs, HandlesBlock, HandlesConstant, HandlesExpr, HandlesPat, HandlesPath, HandlesType}
use Rattle.hir_lower_callbacks.specs.Nests.{HandlesCall, HandlesPatCall, HandlesSplice, HandlesTarget, HandlesTargetCall, HandlesTypeCall}
use Rattle.hir_lower_callbacks.specs.ResolveCtxs.{with_all_items, rctx_at}
use Rattle.hir_lower_pat.proofs.AssigneeLemmas.{kept_below}
use Rattle.hir_lower_recursion.proofs.Kids.{kids_expr, kids_block, in_inside, same_number}
use Rattle.hir_lower_recursion.proofs.TypeKids.{args_read, kids_args, kids_path, kids_type, path_less}
use Rattle.hir_lower_recursion.proofs.knot.+lower.Goals as goal

pub maybe_collect_expr-returns : goal.maybe_collect_expr-returns
maybe_collect_expr-returns g t c =
    rw (expr_is_level (rctx_at (g.E.LowerEnv.answers c.args.env.now) c.args.place) c.args.node.now) c.expr_node.ensures

pub maybe_collect_expr-expr_node-requires : goal.maybe_collect_expr-expr_node-requires
maybe_collect_expr-expr_node-requires g t c =
    let d = c.decreases in
    let env = g.E.LowerEnv.answers c.args.env.now in
    let at = rctx_at (with_all_items env) c.args.place in
    let size = kept_below at c.args.node.now in
    kids_expr env (HandlesExpr g.E.LowerEnv.answers _ _ c.args.env.now) (HandlesBlock g.E.LowerEnv.answers _ _ c.args.env.now)
    (HandlesPath g.E.LowerEnv.answers _ _ c.args.env.now) (HandlesType g.E.LowerEnv.answers _ _ c.args.env.now)
    (HandlesArgs g.E.LowerEnv.answers _ _ c.args.env.now) (HandlesConstant g.E.LowerEnv.answers _ _ c.args.env.now) t
    (λ p e h. record {
      callable = λ alloc v old b same is. (rw same (rw is h), λ a m. m);
      lowers = λ alloc v old new b r same is q. rw (← is) (rw (← same) q.2);
    })
    (λ p b h. record {
      callable = λ alloc v old role n same is has. (rw same (rw is h), ((λ a m. m), has));
      lowers = λ alloc v old new role n r same is q. rw (← is) (rw (← same) q.3);
    })
    (λ p x h. let m = path_less (with_all_items env) p x t h in record {
      callable = λ alloc v old walk alone b same is has. (rw same (rw is m), ((λ a k. k), has));
      reads = λ alloc v old new walk alone b r same is q. rw (← is) (rw (← same) q.3);
    })
    (λ p x h. record {
      callable = λ alloc v old binder b same is. (rw same (rw is h), λ a m. m);
      lowers = λ alloc v old new binder b r same is q. rw (← is) (rw (← same) q.2);
    })
    (λ p x h. record {
      callable = λ alloc v old b same is. (rw same (rw is h), λ a m. m);
      lowers = λ alloc v old new b r same is q. args_read g.E.LowerEnv.answers p old.now new.now r same is q.2;
    })
    (λ p e h. record {
      callable = λ alloc v old b same is. (rw same (rw is h), λ a m. m);
      lowers = λ alloc v old new b r same is q. rw (← is) (rw (← same) q.2);
    })
    (λ p. tt)
    c.args.place (pointer_at at c.args.node.now.id c.args.node.now.range) (out-ExprKind c.args.node.now.kind) (omega (arith, d, size))

pub collect_block_inside-returns : goal.collect_block_inside-returns
collect_block_inside-returns g t c =
    let env = g.E.LowerEnv.answers c.args.env.now in
    let node = out-BlockExpr c.args.node.now in
    let found = rw (c.enter-block.ensures.number, c.enter-block.ensures.place) at c.block_node.ensures in
    rw (plain_is_level (rctx_at env c.args.place) c.args.node.now)
    (rw (in_inside (numbered env c.args.place node.id) c.args.place (ptr node.id node.range)) at found)

pub collect_block_inside-block_node-requires-clause-parts : goal.collect_block_inside-block_node-requires-clause-parts
collect_block_inside-block_node-requires-clause-parts g t c =
    let d = c.decreases in
    let env = g.E.LowerEnv.answers c.args.env.now in
    let node = out-BlockExpr c.args.node.now in
    let level : LowerCtx → ℕ = λ q. let contents = contents_part (rctx_at (with_all_items env) q) node.stmts node.tail in
    suc (count_stmts contents.0 + count_option_expr contents.1) in
    let same : numbered (with_all_items env) c.args.place node.id
    ≡ numbered env c.args.place node.id = same_number env c.args.place node.id in
    let size : count_block (resolved_plain (rctx_at (with_all_items env) c.args.place) c.args.node.now) ≡ level c.enter-block.new.place =
    ap count_block (plain_is_level (rctx_at (with_all_items env) c.args.place) c.args.node.now)
    ∙ ap level (ap (λ x. inside x c.args.place) same ∙ sym c.enter-block.ensures.place) in
    kids_block env (HandlesExpr g.E.LowerEnv.answers _ _ c.args.env.now) (HandlesBlock g.E.LowerEnv.answers _ _ c.args.env.now)
    (HandlesPath g.E.LowerEnv.answers _ _ c.args.env.now) (HandlesType g.E.LowerEnv.answers _ _ c.args.env.now)
    (HandlesArgs g.E.LowerEnv.answers _ _ c.args.env.now) (HandlesConstant g.E.LowerEnv.answers _ _ c.args.env.now) t
    (λ p e h. record {
      callable = λ alloc v old b same is. (rw same (rw is h), λ a m. m);
      lowers = λ alloc v old new b r same is q. rw (← is) (rw (← same) q.2);
    })
    (λ p b h. record {
      callable = λ alloc v old role n same is has. (rw same (rw is h), ((λ a m. m), has));
      lowers = λ alloc v old new role n r same is q. rw (← is) (rw (← same) q.3);
    })
    (λ p x h. let m = path_less (with_all_items env) p x t h in record {
      callable = λ alloc v old walk alone b same is has. (rw same (rw is m), ((λ a k. k), has));
      reads = λ alloc v old new walk alone b r same is q. rw (← is) (rw (← same) q.3);
    })
    (λ p x h. record {
      callable = λ alloc v old binder b same is. (rw same (rw is h), λ a m. m);
      lowers = λ alloc v old new binder b r same is q. rw (← is) (rw (← same) q.2);
    })
    (λ p x h. record {
      callable = λ alloc v old b same is. (rw same (rw is h), λ a m. m);
      lowers = λ alloc v old new b r same is q. args_read g.E.LowerEnv.answers p old.now new.now r same is q.2;
    })
    (λ p e h. record {
      callable = λ alloc v old b same is. (rw same (rw is h), λ a m. m);
      lowers = λ alloc v old new b r same is q. rw (← is) (rw (← same) q.2);
    })
    (λ p. tt)
    c.enter-block.new.place c.args.node.now (omega (arith, d, size))

pub read_path_segments-returns : goal.read_path_segments-returns
read_path_segments-returns g t c =
    rw (path_as_is_level c.args.alone (rctx_at (g.E.LowerEnv.answers c.args.env.now) c.args.place) c.args.node.now) c.path_node.ensures

pub read_path_segments-path_node-requires-clause-parts : goal.read_path_segments-path_node-requires-clause-parts
read_path_segments-path_node-requires-clause-parts g t c =
    let d = c.decreases in
    let env = with_all_items (g.E.LowerEnv.answers c.args.env.now) in
    let size = ap count_path (use_tree_is_level (rctx_at env c.args.place) c.args.node.now) in
    kids_path env (record {
      expr = λ e. Unit {0};
      inner = λ p e. Unit {0};
      block = λ p b. Unit {0};
      path = HandlesPath g.E.LowerEnv.answers _ _ c.args.env.now;
      type_ = HandlesType g.E.LowerEnv.answers _ _ c.args.env.now;
      args = HandlesArgs g.E.LowerEnv.answers _ _ c.args.env.now;
      constant = λ p o. Unit {0};
      pat = λ p x. Unit {0};
      target = λ p e. Unit {0};
      call = λ p c. Unit {0};
      pat_call = λ p c. Unit {0};
      target_call = λ p c. Unit {0};
      type_call = λ p c. Unit {0};
      splice = λ p e. Unit {0};
    }) t
    (record {
      types = λ p x h. record {
        callable = λ alloc v old binder b same is. (rw same (rw is h), λ a m. m);
        lowers = λ alloc v old new binder b r same is q. rw (← is) (rw (← same) q.2);
      };
      paths = λ p x h. record {
        callable = λ alloc v old walk alone b same is has. (rw same (rw is h), ((λ a m. m), has));
        reads = λ alloc v old new walk alone b r same is q. rw (← is) (rw (← same) q.3);
      };
      constants = λ p e h. tt;
      no_constant = λ p. tt;
      type_calls = λ p c h. tt;
      pats = λ p x h. tt;
      lists = λ p x h. record {
        callable = λ alloc v old b same is. (rw same (rw is h), λ a m. m);
        lowers = λ alloc v old new b r same is q. args_read g.E.LowerEnv.answers p old.now new.now r same is q.2;
      };
    })
    c.args.place (out-Path c.args.node.now) (omega (arith, d, size))

pub lower_type_node-returns : goal.lower_type_node-returns
lower_type_node-returns g t c =
    rw (type_is_level (rctx_at (g.E.LowerEnv.answers c.args.env.now) c.args.place) c.args.node.now) c.type_node.ensures

pub lower_type_node-type_node-requires : goal.lower_type_node-type_node-requires
lower_type_node-type_node-requires g t c =
    let d = c.decreases in
    let env = with_all_items (g.E.LowerEnv.answers c.args.env.now) in
    let at = rctx_at env c.args.place in
    let size = ap count_type (type_is_level at c.args.node.now) in
    kids_type env (record {
      expr = λ e. Unit {0};
      inner = λ p e. Unit {0};
      block = λ p b. Unit {0};
      path = HandlesPath g.E.LowerEnv.answers _ _ c.args.env.now;
      type_ = HandlesType g.E.LowerEnv.answers _ _ c.args.env.now;
      args = λ p l. Unit {0};
      constant = HandlesConstant g.E.LowerEnv.answers _ _ c.args.env.now;
      pat = HandlesPat g.E.LowerEnv.answers _ _ c.args.env.now;
      target = λ p e. Unit {0};
      call = λ p c. Unit {0};
      pat_call = λ p c. Unit {0};
      target_call = λ p c. Unit {0};
      type_call = HandlesTypeCall g.E.LowerEnv.answers _ _ c.args.env.now;
      splice = λ p e. Unit {0};
    }) t
    (record {
      types = λ p x h. record {
        callable = λ alloc v old binder b same is. (rw same (rw is h), λ a m. m);
        lowers = λ alloc v old new binder b r same is q. rw (← is) (rw (← same) q.2);
      };
      paths = λ p x h. record {
        callable = λ alloc v old walk alone b same is has. (rw same (rw is h), ((λ a m. m), has));
        reads = λ alloc v old new walk alone b r same is q. rw (← is) (rw (← same) q.3);
      };
      constants = λ p e h. record {
        callable = λ alloc v old b same is. (rw same (rw is h), λ a m. m);
        lowers = λ alloc v old new b r same is q. rw (← is) (rw (← same) q.2);
      };
      no_constant = λ p. tt;
      type_calls = λ p x h q y less. let m : count_type (resolved_type (rctx_at env q) y) < t = omega (arith, h, less) in record {
        callable = λ alloc v old binder b same is. (rw same (rw is m), λ a m. m);
        lowers = λ alloc v old new binder b r same is q. rw (← is) (rw (← same) q.2);
      };
      pats = λ p x h q y less. let m = path_less env q y t (omega (arith, h, less)) in record {
        callable = λ alloc v old walk alone b same is has. (rw same (rw is m), ((λ a k. k), has));
        reads = λ alloc v old new walk alone b r same is q. rw (← is) (rw (← same) q.3);
      };
      lists = λ p x h. tt;
    })
    c.args.place (pointer_at at c.args.node.now.id c.args.node.now.range) (out-TypeKind c.args.node.now.kind) (omega (arith, d, size))

pub lower_arg_list-returns : goal.lower_arg_list-returns
lower_arg_list-returns g t c = c.args_node.ensures

pub lower_arg_list-args_node-requires : goal.lower_arg_list-args_node-requires
lower_arg_list-args_node-requires g t c =
    let d = c.decreases in
    let env = with_all_items (g.E.LowerEnv.answers c.args.env.now) in
    kids_args env (record {
      expr = HandlesExpr g.E.LowerEnv.answers _ _ c.args.env.now c.args.place;
      inner = HandlesExpr g.E.LowerEnv.answers _ _ c.args.env.now;
      block = HandlesBlock g.E.LowerEnv.answers _ _ c.args.env.now;
      path = HandlesPath g.E.LowerEnv.answers _ _ c.args.env.now;
      type_ = HandlesType g.E.LowerEnv.answers _ _ c.args.env.now;
      args = HandlesArgs g.E.LowerEnv.answers _ _ c.args.env.now;
      constant = HandlesConstant g.E.LowerEnv.answers _ _ c.args.env.now;
      pat = HandlesPat g.E.LowerEnv.answers _ _ c.args.env.now;
      target = HandlesTarget g.E.LowerEnv.answers _ _ _ _ c.args.env.now;
      call = HandlesCall g.E.LowerEnv.answers _ _ c.args.env.now;
      pat_call = HandlesPatCall g.E.LowerEnv.answers _ _ c.args.env.now;
      target_call = HandlesTargetCall g.E.LowerEnv.answers _ _ _ _ c.args.env.now;
      type_call = HandlesTypeCall g.E.LowerEnv.answers _ _ c.args.env.now;
      splice = HandlesSplice g.E.LowerEnv.answers _ _ _ _ _ _ _ _ c.args.env.now;
    }) t
    (record {
      types = λ p x h. record {
        callable = λ alloc v old binder b same is. (rw same (rw is h), λ a m. m);
        lowers = λ alloc v old new binder b r same is q. rw (← is) (rw (← same) q.2);
      };
      paths = λ p x h. record {
        callable = λ alloc v old walk alone b same is has. (rw same (rw is h), ((λ a m. m), has));
        reads = λ alloc v old new walk alone b r same is q. rw (← is) (rw (← same) q.3);
      };
      constants = λ p e h. record {
        callable = λ alloc v old b same is. (rw same (rw is h), λ a m. m);
        lowers = λ alloc v old new b r same is q. rw (← is) (rw (← same) q.2);
      };
      no_constant = λ p. tt;
      type_calls = λ p x h q y less. let m : count_type (resolved_type (rctx_at env q) y) < t = omega (arith, h, less) in record {
        callable = λ alloc v old binder b same is. (rw same (rw is m), λ a m. m);
        lowers = λ alloc v old new binder b r same is q. rw (← is) (rw (← same) q.2);
      };
      pats = λ p x h q y less. let m = path_less env q y t (omega (arith, h, less)) in record {
        callable = λ alloc v old walk alone b same is has. (rw same (rw is m), ((λ a k. k), has));
        reads = λ alloc v old new walk alone b r same is q. rw (← is) (rw (← same) q.3);
      };
      lists = λ p x h. record {
        callable = λ alloc v old b same is. (rw same (rw is h), λ a m. m);
        lowers = λ alloc v old new b r same is q. args_read g.E.LowerEnv.answers p old.now new.now r same is q.2;
      };
    })
    c.args.place c.args.node.now (omega (arith, d))
