use Rattle.std.proofs.Common.{arith, ◌≡◌, ◌+◌, length, reverse}
use Rattle.std.proofs.lemmas.List.{length-reverse}
use Rattle.hir_lower_scope.specs.declared.stacks.Opened.TheVariants as opened
use Rattle.hir_lower_scope.proofs.StackLemmas.{reverse_push, sorted_barrier}
use Rattle.hir_lower_scope.proofs.stacks.LabelStacks.enter_barrier.Goals as goal

pub invariant_of-self-2 : goal.invariant_of-self-2
invariant_of-self-2 c =
    let i = c.self.inside in
    let deep : c.len-depth.result ≡ length (reverse i.opened.items) =
    omega (arith, c.len-depth.ensures, c.in_ok-reserve.ensures.len, i.opened.ok.0, length-reverse i.opened.items) in
    rw (
      c.push_reserved.ensures.items,
      c.in_ok-reserve.ensures.items,
      c.in_ok-push.ensures.items,
      reverse_push i.opened.items opened.Barrier,
      reverse_push i.barriers.items (c.len-depth.result + 1),
    )
    (sorted_barrier i.names.entries i.labels i.macros (reverse i.opened.items) (reverse i.tries.items) (reverse i.barriers.items)
    c.self.invariant (c.len-depth.result + 1) (omega (arith, deep)))
