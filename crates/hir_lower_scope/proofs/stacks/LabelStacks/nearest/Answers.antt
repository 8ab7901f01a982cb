use Rattle.hir_lower_scope.specs.Ribs.{rib_at, is_label, is_outer}
use Rattle.hir_lower_scope.proofs.StackLemmas.{deeper_of}
use Rattle.hir_lower_scope.proofs.stacks.LabelStacks.nearest.Goals as goal

pub returns : goal.returns
returns c = rw c.deeper.ensures
    (deeper_of (λ q. is_label c.args.name.now c.args.hygiene (rib_at q c.args.self.now))
    (λ q. is_outer c.args.outer (rib_at q c.args.self.now)) c.args.below c.label_below.result c.macro_below.result
    c.label_below.ensures c.macro_below.ensures)
