use Rattle.hir_lower_expr.proofs.consts.inner_block.Goals as goal

pub lower_inside-requires-clause-part : goal.lower_inside-requires-clause-part
lower_inside-requires-clause-part g c = rw (c.inside_const_block.ensures, c.place.ensures) c.requires

pub returns : goal.returns
returns g c = rw (c.inside_const_block.ensures, c.place.ensures) at c.lower_inside.ensures
