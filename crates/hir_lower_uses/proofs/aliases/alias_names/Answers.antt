use Rattle.std.proofs.Common.{◌≡◌, ◌∙◌, ap, sym, Some}
use Rattle.std.specs.Option.{option_copied}
use Rattle.hir_lower_uses.proofs.aliases.alias_names.Goals as goal

pub returns-in-Some : goal.returns-in-Some
returns-in-Some g c =
    let answered : (g.E.LowerEnv.answers c.args.env.now).alias c.args.id ≡ Some c.in-Some.alias.now =
    sym c.alias.ensures ∙ ap option_copied c.in-Some.is in
    rw answered c.is_constrained.ensures.emitted
