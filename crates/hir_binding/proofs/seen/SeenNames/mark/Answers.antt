use Rattle.std.proofs.Common.{◌≡◌, ◌∙◌, slice_get, Some}
use Rattle.std.specs.BTreeMap.{get}
use Rattle.std.specs.Ordering.{nat_cmp}
use Rattle.hir_binding.proofs.Places.{placed_last, placed_still, either}
use Rattle.hir_binding.proofs.seen.SeenNames.mark.Goals as goal

pub invariant_of-self-2-clause-placed : goal.invariant_of-self-2-clause-placed
invariant_of-self-2-clause-placed c = λ q p e. either _ _ (slice_get c.push.new.self.items p ≡ Some q) c.insert.result
    c.insert.ensures.updates c.insert.ensures.err
    (λ u. placed_last c.args.self.now.marked.items c.push.new.self.items c.args.name c.len-place.result q p
    (get nat_cmp c.args.self.now.last q) (get nat_cmp c.insert.new.self q) c.in_ok-push.ensures.items
    (c.len-place.ensures ∙ c.args.self.now.marked.ok.0) (u.0 q) (c.args.self.now.placed q p) e)
    (λ u. placed_still c.args.self.now.marked.items c.push.new.self.items c.args.name p q c.in_ok-push.ensures.items
    (c.args.self.now.placed q p (rw u at e)))
