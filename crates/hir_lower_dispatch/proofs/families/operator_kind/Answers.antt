use Rattle.std.proofs.lemmas.Grind.{common_steps}
use Rattle.std.proofs.Common.{◌∙◌, sym, arith}
use Rattle.hir_syntax.specs.declared.ast.ExprKind.TheVariants as kind
use Rattle.hir_lower_dispatch.proofs.OfFamily.{opened, only_operator}
use Rattle.hir_lower_dispatch.proofs.families.operator_kind.Goals as goal

pub prefix_form-requires : goal.prefix_form-requires
prefix_form-requires g c = rw (opened (kind.rolls-PrefixExpr _ _ ∙ sym c.in-PrefixExpr.is)) at c.requires.parts

pub bin_form-requires : goal.bin_form-requires
bin_form-requires g c =
    let parts = rw (opened (kind.rolls-BinExpr _ _ _ ∙ sym c.in-BinExpr.is)) at c.requires.parts in
    record { lhs = parts.0; rhs = parts.1; target = parts.2 }

pub await_form-requires : goal.await_form-requires
await_form-requires g c = rw (opened (kind.rolls-AwaitExpr _ ∙ sym c.in-AwaitExpr.is)) at c.requires.parts

pub range_form-requires : goal.range_form-requires
range_form-requires g c =
    let parts = rw (opened (kind.rolls-RangeExpr _ _ _ ∙ sym c.in-RangeExpr.is)) at c.requires.parts in
    record { start = parts.0; end = parts.1 }

pub returns-in-PrefixExpr : goal.returns-in-PrefixExpr
returns-in-PrefixExpr g c = rw (opened (kind.rolls-PrefixExpr _ _ ∙ sym c.in-PrefixExpr.is)) c.prefix_form.ensures

pub returns-in-BinExpr : goal.returns-in-BinExpr
returns-in-BinExpr g c = rw (opened (kind.rolls-BinExpr _ _ _ ∙ sym c.in-BinExpr.is)) c.bin_form.ensures

pub returns-in-AwaitExpr : goal.returns-in-AwaitExpr
returns-in-AwaitExpr g c = rw (opened (kind.rolls-AwaitExpr _ ∙ sym c.in-AwaitExpr.is)) c.await_form.ensures

pub returns-in-RangeExpr : goal.returns-in-RangeExpr
returns-in-RangeExpr g c = rw (opened (kind.rolls-RangeExpr _ _ _ ∙ sym c.in-RangeExpr.is)) c.range_form.ensures

pub unreachable-requires : goal.unreachable-requires
unreachable-requires g c = grind (arith, common_steps, only_operator)
