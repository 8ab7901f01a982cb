use Rattle.hir_lower_type.proofs.Here.{pat_here}
use Rattle.hir_lower_type.proofs.part.OptionBoxedAstPatTypePatPart.lower_inside.Goals as goal

pub lower_type_pat-requires : goal.lower_type_pat-requires
lower_type_pat-requires g c = rw (c.inside_constant.ensures, c.place.ensures) c.requires

pub returns : goal.returns
returns g c =
    let at = g.P.LowerParts.rctx c.args.lowerer.now.parts in
    pat_here at c.inside_constant.result c.place.result c.args.self.now _ c.lower_type_pat.result _
    c.inside_constant.ensures c.place.ensures c.lower_type_pat.ensures
