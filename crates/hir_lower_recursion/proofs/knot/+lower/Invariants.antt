use Rattle.std.proofs.Common.{suc}
use Rattle.hir_env.specs.Count.{count_args, count_expr, count_block, count_path, count_type}
use Rattle.hir_env.specs.Whole.{resolved_expr, resolved_arg_list, resolved_plain, resolved_type, resolved_use_tree}
use Rattle.hir_lower_callbacks.specs.ResolveCtxs.{with_all_items, rctx_at}
use Rattle.hir_lower_recursion.proofs.knot.+lower.Given as goal

abbrev pub decreases-maybe_collect_expr : goal.decreases-maybe_collect_expr
decreases-maybe_collect_expr g l = count_expr (resolved_expr (rctx_at (with_all_items (g.E.LowerEnv.answers l.env.now)) l.place) l.node.now)

abbrev pub decreases-collect_block_inside : goal.decreases-collect_block_inside
decreases-collect_block_inside g l =
    count_block (resolved_plain (rctx_at (with_all_items (g.E.LowerEnv.answers l.env.now)) l.place) l.node.now)

abbrev pub decreases-read_path_segments : goal.decreases-read_path_segments
decreases-read_path_segments g l =
    count_path (resolved_use_tree (rctx_at (with_all_items (g.E.LowerEnv.answers l.env.now)) l.place) l.node.now)

abbrev pub decreases-lower_type_node : goal.decreases-lower_type_node
decreases-lower_type_node g l = count_type (resolved_type (rctx_at (with_all_items (g.E.LowerEnv.answers l.env.now)) l.place) l.node.now)

abbrev pub decreases-lower_arg_list : goal.decreases-lower_arg_list
decreases-lower_arg_list g l =
    suc (count_args (resolved_arg_list (rctx_at (with_all_items (g.E.LowerEnv.answers l.env.now)) l.place) l.node.now))
