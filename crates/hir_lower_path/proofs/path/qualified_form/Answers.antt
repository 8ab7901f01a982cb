use Rattle.std.proofs.Common.{arith, ◌≡◌, ◌∙◌, ap}
use Rattle.std.proofs.lemmas.Grind.{common_steps}
use Rattle.hir_env.proofs.PathLevels.{path_type_is_level}
use Rattle.hir_lower_builder.proofs.Walked.{anchored_has}
use Rattle.hir_env.specs.Paths.{inside_projection}
use Rattle.hir_lower_builder.specs.Methods.{at_place}
use Rattle.hir_lower_path.proofs.Rooted.{trait_reads}
use Rattle.hir_lower_path.proofs.path.qualified_form.Goals as goal

pub returns-in_default : goal.returns-in_default
returns-in_default g c = grind (arith, common_steps, path_type_is_level, anchored_has)

pub returns-in-None : goal.returns-in-None
returns-in-None g c = grind (arith, common_steps, path_type_is_level, anchored_has)

pub trait_form-requires-clause-ty : goal.trait_form-requires-clause-ty
trait_form-requires-clause-ty g c = grind (arith, common_steps, path_type_is_level, anchored_has)

pub returns-in_err-id : goal.returns-in_err-id
returns-in_err-id g c = grind (arith, common_steps, path_type_is_level, anchored_has)

pub trait_form-requires-clause-parts : goal.trait_form-requires-clause-parts
trait_form-requires-clause-parts g c = grind (arith, common_steps, path_type_is_level, anchored_has)

pub lower_type-requires : goal.lower_type-requires
lower_type-requires g c = grind (arith, common_steps, path_type_is_level, anchored_has)

pub returns-in-Some : goal.returns-in-Some
returns-in-Some g c =
    let rctx = g.P.LowerParts.rctx c.args.lowerer.now.parts in
    let inner = at_place rctx (inside_projection rctx.place) in
    let here : c.inside_projection-place.result ≡ inside_projection rctx.place =
    c.inside_projection-place.ensures ∙ ap inside_projection c.place.ensures in
    trait_reads inner _ c.args.first c.args.ty.now c.args.trait_.now _ _ _ c.args.walk c.args.state.now _ _ _ _ c.in-Some-true.is-1
    c.in-Some-true.is-0 c.in-Some.is c.get.ensures here c.in_ok-id.ensures (rw here at c.trait_form.ensures)
