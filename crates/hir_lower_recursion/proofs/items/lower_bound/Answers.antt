use Rattle.hir_syntax.specs.declared.types.TypeBound.{out-TypeBound}
use Rattle.hir_lower_callbacks.specs.Nests.{HandlesPath}
use Rattle.hir_lower_recursion.proofs.BoundKids.{bound_kids}
use Rattle.hir_lower_recursion.proofs.items.lower_bound.Goals as goal

pub bound_node-requires : goal.bound_node-requires
bound_node-requires g c =
    bound_kids (record {
      expr = λ e. Unit {0};
      inner = λ p e. Unit {0};
      block = λ p b. Unit {0};
      path = HandlesPath g.E.LowerEnv.answers _ _ c.args.env.now;
      type_ = λ p t. Unit {0};
      args = λ p a. Unit {0};
      constant = λ p o. Unit {0};
      pat = λ p x. Unit {0};
      target = λ p e. Unit {0};
      call = λ p c. Unit {0};
      pat_call = λ p c. Unit {0};
      target_call = λ p c. Unit {0};
      type_call = λ p c. Unit {0};
      splice = λ p e. Unit {0};
    }) c.args.place
    (λ x. record {
      callable = λ alloc v old walk alone b same is has. has;
      reads = λ alloc v old new walk alone b r same is q. rw (← is) (rw (← same) q.3);
    })
    (out-TypeBound c.args.node.now)
