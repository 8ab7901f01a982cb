use Rattle.std.proofs.Common.{ap}
use Rattle.std.specs.Prelude.{option_map}
use Rattle.json_nodes.specs.declared.type_parts.TypeOf.TheVariants as part
use Rattle.json_nodes.proofs.type_parts.TypesKindGroup.make.Goals as goal

pub returns : goal.returns
returns c = λ e.
    let made = c.in_ok-part.ensures e in
    (made.0, ap (option_map part.Type_) made.1)

pub returns-in_err-part : goal.returns-in_err-part
returns-in_err-part c = λ e.
    let made = c.in_err-part.ensures e in
    absurd (cc made.1)
