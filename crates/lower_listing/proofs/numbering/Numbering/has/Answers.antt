use Rattle.std.proofs.Common.{◌∙◌, ap, is_some}
use Rattle.std.specs.Prelude.{nat_eq}
use Rattle.lower_listing.proofs.Numbers.{emitted}
use Rattle.lower_listing.proofs.numbering.Numbering.has.Goals as goal

pub returns : goal.returns
returns c = c.is_some.ensures ∙ (ap is_some c.find.ensures ∙ emitted (nat_eq c.args.item) c.args.self.now)
