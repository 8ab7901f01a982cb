use Rattle.std.proofs.Common.{ap}
use Rattle.std.specs.Prelude.{option_map}
use Rattle.json_nodes.specs.declared.code_parts.ExprPart.TheVariants as part
use Rattle.json_nodes.proofs.code_parts.ExprsKindGroup.make.Goals as goal

pub returns : goal.returns
returns c = λ e.
    let made = c.in_ok-expr.ensures e in
    (made.0, ap (option_map part.Expr) made.1)

pub returns-in_err-expr : goal.returns-in_err-expr
returns-in_err-expr c = λ e.
    let made = c.in_err-expr.ensures e in
    absurd (cc made.1)
