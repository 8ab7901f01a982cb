use Rattle.hir_lower_callbacks.specs.Nests.{HandlesPat}
use Rattle.hir_lower_recursion.proofs.Kids.{so_of_present}
use Rattle.hir_lower_recursion.proofs.knot.top_pat.Goals as goal

pub top_pat-requires : goal.top_pat-requires
top_pat-requires g c = so_of_present (HandlesPat g.E.LowerEnv.answers _ _ c.args.env.now c.args.place)
    (λ x q y less. record {
      callable = λ alloc v old walk alone b same is has. has;
      reads = λ alloc v old new walk alone b r same is q. rw (← is) (rw (← same) q.3);
    })
    c.args.part.now
