use Rattle.std.proofs.lemmas.Grind.{common_steps}
use Rattle.std.proofs.Common.{arith}
use Rattle.hir_lower_dispatch.proofs.exprs.expr_form.Goals as goal

pub leaf_kind-requires-clause-parts : goal.leaf_kind-requires-clause-parts
leaf_kind-requires-clause-parts g c = c.requires.parts

pub matching_kind-requires-clause-parts : goal.matching_kind-requires-clause-parts
matching_kind-requires-clause-parts g c = c.requires.parts

pub typed_kind-requires-clause-parts : goal.typed_kind-requires-clause-parts
typed_kind-requires-clause-parts g c = c.requires.parts

pub leaving_kind-requires-clause-parts : goal.leaving_kind-requires-clause-parts
leaving_kind-requires-clause-parts g c = c.requires.parts

pub operator_kind-requires-clause-parts : goal.operator_kind-requires-clause-parts
operator_kind-requires-clause-parts g c = c.requires.parts

pub access_kind-requires-clause-parts : goal.access_kind-requires-clause-parts
access_kind-requires-clause-parts g c = c.requires.parts

pub listing_kind-requires-clause-parts : goal.listing_kind-requires-clause-parts
listing_kind-requires-clause-parts g c = c.requires.parts

pub control_kind-requires-clause-parts : goal.control_kind-requires-clause-parts
control_kind-requires-clause-parts g c = c.requires.parts

pub returns-in-Literal : goal.returns-in-Literal
returns-in-Literal g c = rw c.pointer-at.ensures at c.leaf_kind.ensures

pub returns-in-LetExpr : goal.returns-in-LetExpr
returns-in-LetExpr g c = rw c.pointer-at.ensures at c.matching_kind.ensures

pub returns-in-PathExpr : goal.returns-in-PathExpr
returns-in-PathExpr g c = rw c.pointer-at.ensures at c.typed_kind.ensures

pub returns-in-ReturnExpr : goal.returns-in-ReturnExpr
returns-in-ReturnExpr g c = rw c.pointer-at.ensures at c.leaving_kind.ensures

pub returns-in-PrefixExpr : goal.returns-in-PrefixExpr
returns-in-PrefixExpr g c = rw c.pointer-at.ensures at c.operator_kind.ensures

pub returns-in-ParenExpr : goal.returns-in-ParenExpr
returns-in-ParenExpr g c = rw c.pointer-at.ensures at c.access_kind.ensures

pub returns-in-CallExpr : goal.returns-in-CallExpr
returns-in-CallExpr g c = rw c.pointer-at.ensures at c.listing_kind.ensures

pub returns-in-IfExpr : goal.returns-in-IfExpr
returns-in-IfExpr g c = rw c.pointer-at.ensures at c.control_kind.ensures

pub leaving_kind-requires-clause-family : goal.leaving_kind-requires-clause-family
leaving_kind-requires-clause-family g c = grind (arith, common_steps)

pub access_kind-requires-clause-family : goal.access_kind-requires-clause-family
access_kind-requires-clause-family g c = grind (arith, common_steps)

pub leaf_kind-requires-clause-family : goal.leaf_kind-requires-clause-family
leaf_kind-requires-clause-family g c = grind (arith, common_steps)

pub control_kind-requires-clause-family : goal.control_kind-requires-clause-family
control_kind-requires-clause-family g c = grind (arith, common_steps)

pub matching_kind-requires-clause-family : goal.matching_kind-requires-clause-family
matching_kind-requires-clause-family g c = grind (arith, common_steps)

pub typed_kind-requires-clause-family : goal.typed_kind-requires-clause-family
typed_kind-requires-clause-family g c = grind (arith, common_steps)

pub listing_kind-requires-clause-family : goal.listing_kind-requires-clause-family
listing_kind-requires-clause-family g c = grind (arith, common_steps)

pub unreachable-requires : goal.unreachable-requires
unreachable-requires g c = grind (arith, common_steps)

pub operator_kind-requires-clause-family : goal.operator_kind-requires-clause-family
operator_kind-requires-clause-family g c = grind (arith, common_steps)
