use Rattle.std.proofs.Common.{◌∙◌, ap, cond, Some}
use Rattle.std.specs.Prelude.{nat_eq}
use Rattle.lower_listing.proofs.Numbers.{tracked_at}
use Rattle.lower_listing.proofs.numbering.track.Goals as goal

pub returns-clause-ok : goal.returns-clause-ok
returns-clause-ok c = λ x. tracked_at c.reach.new.places.items c.args.item x (Some c.args.place) c.in_ok-reach.ensures.within
    ∙ ap (λ o. cond (nat_eq x c.args.item) (Some c.args.place) o) (c.in_ok-reach.ensures.same x)
