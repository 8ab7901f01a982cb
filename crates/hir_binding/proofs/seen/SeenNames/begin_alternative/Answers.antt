use Rattle.std.proofs.Common.{◌∙◌, ap, true}
use Rattle.std.specs.BTreeMap.{get}
use Rattle.std.specs.Ordering.{nat_cmp}
use Rattle.hir_binding.specs.Steps.{Set}
use Rattle.hir_binding.specs.declared.binding.Mark.{Mark}
use Rattle.hir_binding.proofs.Places.{mark_begun}
use Rattle.hir_binding.proofs.seen.SeenNames.begin_alternative.Goals as goal

pub returns : goal.returns
returns c = λ k. ap (λ (m : Mark). let s : Set = record { mark = m; later = true } in s)
    (mark_begun c.args.self.now.marked.items c.len-self.result c.args.self.now.previous c.args.self.now.start k
    (get nat_cmp c.args.self.now.last k) (c.len-self.ensures ∙ c.args.self.now.marked.ok.0) c.args.self.now.in_turn
    (c.args.self.now.placed k))
