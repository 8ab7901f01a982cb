use Rattle.hir_env.specs.Paths.{inside_constant}
use Rattle.hir_lower_callbacks.specs.Nests.{HandlesExpr}
use Rattle.hir_lower_recursion.proofs.Kids.{so_of_present}
use Rattle.hir_lower_recursion.proofs.items.lower_constant.Goals as goal

pub collect_constant-requires : goal.collect_constant-requires
collect_constant-requires g c =
    so_of_present (HandlesExpr g.E.LowerEnv.answers _ _ c.args.env.now (inside_constant c.args.place))
    (λ e. record {
      callable = λ alloc v old b same is. tt;
      lowers = λ alloc v old new b r same is q. rw (← is) (rw (← same) q.2);
    })
    c.args.expr.now
