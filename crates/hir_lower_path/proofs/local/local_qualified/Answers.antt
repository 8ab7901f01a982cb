use Rattle.std.proofs.lemmas.Grind.{common_steps}
use Rattle.std.proofs.Common.{◌≡◌, ◌∙◌, ap, arith}
use Rattle.hir_env.specs.Paths.{inside_projection}
use Rattle.hir_env.specs.Whole.{path_type_level}
use Rattle.hir_lower_builder.specs.Methods.{at_place}
use Rattle.hir_lower_path.proofs.Rooted.{qualified_lowers}
use Rattle.hir_lower_path.proofs.local.local_qualified.Goals as goal

pub returns-in-Ok : goal.returns-in-Ok
returns-in-Ok g c =
    let rctx = g.P.LowerParts.rctx c.args.lowerer.now.parts in
    let inner = at_place rctx (inside_projection rctx.place) in
    let here : c.inside_projection-place.result ≡ inside_projection rctx.place =
    c.inside_projection-place.ensures ∙ ap inside_projection c.place.ensures in
    qualified_lowers inner _ c.args.ty.now _ _ (path_type_level inner c.args.trait_.now) c.args.walk c.args.root _ c.args.state.now
    _ _ _ _ _ c.in-Some.is c.get.ensures here c.in-Ok.is c.lower_type.ensures (rw here at c.local_trait.ensures)

pub returns-in_default : goal.returns-in_default
returns-in_default g c = grind (arith, common_steps)

pub local_trait-requires-clause-ty : goal.local_trait-requires-clause-ty
local_trait-requires-clause-ty g c = grind (arith, common_steps)

pub local_trait-requires-clause-parts : goal.local_trait-requires-clause-parts
local_trait-requires-clause-parts g c = grind (arith, common_steps)

pub lower_type-requires : goal.lower_type-requires
lower_type-requires g c = grind (arith, common_steps)

pub returns-in-Err : goal.returns-in-Err
returns-in-Err g c = grind (arith, common_steps)
