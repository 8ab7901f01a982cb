use Rattle.std.proofs.Common.{◌≡◌, ◌∙◌, ap, sym, arith, get_or, None}
use Rattle.std.specs.Prelude.{nat_eq}
use Rattle.std.specs.List.{position}
use Rattle.std.proofs.lemmas.Grind.{common_steps}
use Rattle.lower_listing.proofs.numbering.Numbering.find.Goals as goal

pub returns-in_err-get : goal.returns-in_err-get
returns-in_err-get c =
    let past : get_or c.self.inside.places.items c.args.item None ≡ None
    = grind (arith, common_steps, c.in_err-get.ensures.lookup, c.deref.ensures.value) in
    c.from_residual.ensures ∙ (sym past ∙ (c.self.invariant c.args.item ∙ ap (position (nat_eq c.args.item)) c.self.view_is))

pub returns : goal.returns
returns c =
    let at : c.in_ok-get.field-0.now ≡ get_or c.self.inside.places.items c.args.item None
    = grind (arith, common_steps, c.in_ok-get.ensures.lookup, c.deref.ensures.value) in
    at ∙ (c.self.invariant c.args.item ∙ ap (position (nat_eq c.args.item)) c.self.view_is)
