use Rattle.hir_lower_recursion.proofs.knot.lower_path.Goals as goal

pub lower_path-requires : goal.lower_path-requires
lower_path-requires g c = record {
  callable = λ alloc v old walk alone b same is has. has;
  reads = λ alloc v old new walk alone b r same is q. rw (← is) (rw (← same) q.3);
}
