use Rattle.std.proofs.lemmas.Grind.{common_steps}
use Rattle.std.proofs.Common.{◌∙◌, sym, arith}
use Rattle.hir_syntax.specs.declared.ast.ExprKind.TheVariants as kind
use Rattle.hir_lower_dispatch.proofs.OfFamily.{opened, only_leaf}
use Rattle.hir_lower_dispatch.proofs.families.leaf_kind.Goals as goal

pub returns-in-Literal : goal.returns-in-Literal
returns-in-Literal g c = rw (opened (kind.rolls-Literal _ ∙ sym c.in-Literal.is)) c.literal_form.ensures

pub returns-in-CfgPredExpr : goal.returns-in-CfgPredExpr
returns-in-CfgPredExpr g c = rw (opened (kind.rolls-CfgPredExpr _ ∙ sym c.in-CfgPredExpr.is)) c.predicate_form.ensures

pub returns-in-UnderscoreExpr : goal.returns-in-UnderscoreExpr
returns-in-UnderscoreExpr g c = rw (opened (kind.rolls-UnderscoreExpr ∙ sym c.in-UnderscoreExpr.is)) c.underscore_form.ensures

pub returns-in-IncludeBytesExpr : goal.returns-in-IncludeBytesExpr
returns-in-IncludeBytesExpr g c = rw (opened (kind.rolls-IncludeBytesExpr ∙ sym c.in-IncludeBytesExpr.is)) c.include_bytes_form.ensures

pub returns-in-AsmExpr : goal.returns-in-AsmExpr
returns-in-AsmExpr g c = grind (arith, common_steps, only_leaf)

pub unreachable-requires : goal.unreachable-requires
unreachable-requires g c = grind (arith, common_steps, only_leaf)
