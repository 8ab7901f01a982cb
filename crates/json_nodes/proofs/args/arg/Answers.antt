use Rattle.std.proofs.lemmas.Grind.{common_steps}
use Rattle.std.proofs.Common.{refl, ap, arith}
use Rattle.std.specs.Prelude.{option_map}
use Rattle.json_nodes.specs.declared.path_parts.PathOf.TheVariants as path_part
use Rattle.json_nodes.specs.Args.{arg}
use Rattle.json_nodes.proofs.args.arg.Goals as goal

pub returns-in-TypeArg : goal.returns-in-TypeArg
unfolding arg
returns-in-TypeArg g c = λ e.
    let ty = c.field-ty.ensures e in
    (ty.0, rw c.in-TypeArg.is (rw ty.1 refl))

pub returns-in-ConstArg : goal.returns-in-ConstArg
unfolding arg
returns-in-ConstArg g c = λ e.
    let expr = c.field-expr.ensures e in
    (expr.0, rw c.in-ConstArg.is (rw expr.1 refl))

pub returns-in_ok-assoc_arg-in-AssocTypeArg : goal.returns-in_ok-assoc_arg-in-AssocTypeArg
unfolding arg
returns-in_ok-assoc_arg-in-AssocTypeArg g c = λ e.
    let made = c.in_ok-assoc_arg-in-AssocTypeArg.ensures e in
    (made.0, rw c.in-AssocTypeArg.is (ap (option_map path_part.GenericArg) made.1))

pub returns-in_err-assoc_arg-in-AssocTypeArg : goal.returns-in_err-assoc_arg-in-AssocTypeArg
returns-in_err-assoc_arg-in-AssocTypeArg g c = λ e.
    let made = c.in_err-assoc_arg-in-AssocTypeArg.ensures e in
    absurd (cc made.1)

pub returns-in_ok-lifetime_arg-in-LifetimeArg : goal.returns-in_ok-lifetime_arg-in-LifetimeArg
unfolding arg
returns-in_ok-lifetime_arg-in-LifetimeArg g c = λ e.
    let made = c.in_ok-lifetime_arg-in-LifetimeArg.ensures e in
    (made.0, rw c.in-LifetimeArg.is (ap (option_map path_part.GenericArg) made.1))

pub returns-in_err-lifetime_arg-in-LifetimeArg : goal.returns-in_err-lifetime_arg-in-LifetimeArg
returns-in_err-lifetime_arg-in-LifetimeArg g c = λ e.
    let made = c.in_err-lifetime_arg-in-LifetimeArg.ensures e in
    absurd (cc made.1)

pub field-expr-requires : goal.field-expr-requires
field-expr-requires g c = c.requires

pub field-ty-requires : goal.field-ty-requires
field-ty-requires g c = c.requires

pub lifetime_arg-requires : goal.lifetime_arg-requires
lifetime_arg-requires g c = c.requires

pub assoc_arg-requires : goal.assoc_arg-requires
assoc_arg-requires g c = c.requires

pub returns-in_default : goal.returns-in_default
unfolding arg
returns-in_default g c = grind (arith, common_steps)
