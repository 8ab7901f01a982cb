use Rattle.std.proofs.Common.{arith, ◌≡◌, ◌∙◌, sym, ap, length}
use Rattle.hir_lower_scope.proofs.StackLemmas.{length_open}
use Rattle.hir_lower_scope.proofs.stacks.LabelStacks.depth.Goals as goal

pub returns : goal.returns
returns c =
    let os = c.self.inside.opened.items in
    let len : c.len.result ≡ length os = omega (arith, c.len.ensures, c.self.inside.opened.ok.0) in
    len ∙ (sym (length_open c.self.inside.names.entries os) ∙ ap length c.self.view_is)
