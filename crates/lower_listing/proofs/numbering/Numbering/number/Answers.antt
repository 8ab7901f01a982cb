use Rattle.std.proofs.Common.{◌≡◌, ◌∙◌, ◌∷◌, ◌++◌, [], ap, sym, arith, cond, get_or, length, ℕ, None, Some}
use Rattle.std.specs.Prelude.{nat_eq}
use Rattle.std.specs.List.{position}
use Rattle.lower_listing.proofs.Numbers.{comes, missing, placed_more, stays}
use Rattle.lower_listing.proofs.numbering.Numbering.number.Goals as goal

pub returns-in-Some-clause-printed : goal.returns-in-Some-clause-printed
returns-in-Some-clause-printed c = stays c.args.self.now c.args.item c.in-Some.number (sym c.find.ensures ∙ c.in-Some.is)

pub invariant_of-self-2 : goal.invariant_of-self-2
invariant_of-self-2 c = λ x.
    let xs = c.self.inside.printed.items in
    let places = c.self.inside.places.items in
    let item = c.args.item in
    let count : c.len-number.result ≡ length c.self.inside.printed.items
    = omega (arith, c.len-number.ensures, c.self.inside.printed.ok.0) in
    let tracked = λ (y : ℕ). c.in_ok-track.ensures.ok y ∙ ap (λ n. cond (nat_eq y item) (Some n) (get_or places y None)) count in
    let new = ap (position (nat_eq item)) c.self.view_is ∙ sym c.in_default.ensures in
    let items = c.push_reserved.ensures.items ∙ ap (λ ys. ys ++ item ∷ []) c.reserve.ensures.items in
    placed_more xs places c.track.new.places.items item c.self.invariant new tracked x ∙ ap (position (nat_eq x)) (sym items)

pub returns-clause-number : goal.returns-clause-number
returns-clause-number c =
    let count : c.len-number.result ≡ length c.self.inside.printed.items
    = omega (arith, c.len-number.ensures, c.self.inside.printed.ok.0) in
    count ∙ (ap length c.self.view_is ∙ sym (missing (nat_eq c.args.item) c.args.self.now (sym c.in_default.ensures)).0)

pub returns-clause-printed : goal.returns-clause-printed
returns-clause-printed c =
    let items = c.push_reserved.ensures.items ∙ ap (λ ys. ys ++ c.args.item ∷ []) c.reserve.ensures.items in
    items ∙ (ap (λ ys. ys ++ c.args.item ∷ []) c.self.view_is ∙ comes c.args.self.now c.args.item (sym c.in_default.ensures))
