use Rattle.std.proofs.Common.{arith, ◌∙◌, ◌<◌, refl, sym, ap, length, Some}
use Rattle.std.proofs.lemmas.Option.{slice_get_read}
use Rattle.hir_lower_scope.specs.Ribs.{rib_at, label_in}
use Rattle.hir_lower_scope.specs.Stacks.{rib_of}
use Rattle.hir_lower_scope.proofs.StackLemmas.{length_open, rib_there, no_label}
use Rattle.hir_lower_scope.proofs.stacks.LabelStacks.look.Goals as goal

pub index-requires : goal.index-requires
index-requires c =
    let all = length_open c.self.inside.names.entries c.self.inside.opened.items in
    let view = ap length c.self.view_is in
    omega (arith, c.requires.inside, all, view, c.self.inside.opened.ok.0)

pub returns-in-Label-clause-label : goal.returns-in-Label-clause-label
returns-in-Label-clause-label c =
    let es = c.self.inside.names.entries in
    let os = c.self.inside.opened.items in
    let all = length_open es os in
    let view = ap length c.self.view_is in
    let inside : c.args.depth < length os = omega (arith, c.requires.inside, all, view) in
    let read = slice_get_read os _ c.args.depth c.index.result.now refl inside c.index.ensures in
    sym (ap (λ rs. label_in (rib_at c.args.depth rs)) (sym c.self.view_is)
    ∙ (ap label_in (rib_there es os c.args.depth c.index.result.now read)
    ∙ ap (λ o. label_in (Some (rib_of es o))) c.in-Label.is))

pub returns-in_default : goal.returns-in_default
returns-in_default c =
    let es = c.self.inside.names.entries in
    let os = c.self.inside.opened.items in
    let all = length_open es os in
    let view = ap length c.self.view_is in
    let inside : c.args.depth < length os = omega (arith, c.requires.inside, all, view) in
    let read = slice_get_read os _ c.args.depth c.index.result.now refl inside c.index.ensures in
    record {
      label = sym (ap (λ rs. label_in (rib_at c.args.depth rs)) (sym c.self.view_is)
          ∙ (ap label_in (rib_there es os c.args.depth c.index.result.now read)
          ∙ no_label es c.index.result.now (λ k h a. c.in_default.not-Label k h a)));
      counted = c.add.ensures;
    }
