use Rattle.std.proofs.Common.{arith}
use Rattle.std.proofs.lemmas.Grind.{common_steps}
use Rattle.hir_lower_builder.specs.Methods.{at_place}
use Rattle.hir_lower_pat.proofs.TypePats.{other_is}
use Rattle.hir_lower_type.proofs.type_pats.other_form.Goals as goal

pub returns : goal.returns
returns g c =
    let here = at_place (g.P.LowerParts.rctx c.args.lowerer.now.parts) c.args.place in
    rw (other_is here.answers.lang_items here c.args.node.now c.requires) (rw c.pointer_in.ensures at c.alloc_pat.ensures)

pub alloc_pat-requires : goal.alloc_pat-requires
alloc_pat-requires g c = grind (arith, common_steps)
