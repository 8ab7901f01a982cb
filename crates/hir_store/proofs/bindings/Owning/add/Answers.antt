use Rattle.std.proofs.Common.{◌∙◌, ap, length, sym}
use Rattle.hir_store.specs.Bindings.{binding_id}
use Rattle.hir_store.proofs.OwnerLemmas.{numbered}
use Rattle.hir_store.proofs.bindings.Owning.add.Goals as goal

pub invariant_of-self-2 : goal.invariant_of-self-2
invariant_of-self-2 c =
    let i = c.self.inside in
    rw (
      c.push_reserved.ensures.items,
      c.push_reserved-2.ensures.items,
      c.in_ok-reserve.ensures.items,
      c.in_ok-reserve-2.ensures.items,
    )
    (numbered i.owners.items i.unowned.items (binding_id c.args.at) c.self.invariant (c.requires ∙ ap length (sym c.self.view_is)))
