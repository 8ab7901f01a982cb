-- What is read alike outside of what is disabled is lowered alike.
use Rattle.std.proofs.Common.{◌≡◌, ◌∙◌, sym}
use Rattle.hir_env.specs.ResolvedTree as tree
use Rattle.hir_env.specs.ResolvedTree.{Expr, OptionExpr}
use Rattle.hir_env.specs.Whole.{resolved_expr}
use Rattle.thm_frame.specs.Theorems.{body_at, rctx}
use Rattle.thm_enabled.specs.Theorems.{OutsideAsked, OutsideBodies, PathsAsked, TypesAsked}
use Rattle.thm_enabled.specs.Pruned.{pruned, pruned_part}
use Rattle.hir_lower_builder.specs.Lower.{lower, lower_part, lower_path, lower_type}
use Rattle.thm_enabled.specs.Lowered.{BodiesKept, ExprsKept, PathsKept, TypesKept}
use Rattle.thm_enabled.proofs.Described.{lower_is, part_is}

exprs_alike : (x y : Expr) → pruned x ≡ pruned y → lower x ≡ lower y
exprs_alike x y e = sym (lower_is x) ∙ ((λ i. lower (e i)) ∙ lower_is y)

pub parts_alike : (x y : OptionExpr) → pruned_part x ≡ pruned_part y → lower_part x ≡ lower_part y
parts_alike x y e = sym (part_is x) ∙ ((λ i. lower_part (e i)) ∙ part_is y)

pub types_kept : TypesAsked → TypesKept
types_kept theorem a b p t x h g binder = λ i. lower_type binder (theorem a b p t x h g i)

pub paths_kept : PathsAsked → PathsKept
paths_kept theorem a b p x y h g = λ i. lower_path (tree.some_path (theorem a b p x y h g i))

pub exprs_kept : OutsideAsked → ExprsKept
exprs_kept theorem a b p e x h g = exprs_alike x (resolved_expr (rctx p b) e) (theorem a b p e x h g)

pub bodies_kept : OutsideBodies → BodiesKept
bodies_kept theorem a b item p q ps e fs x h k g =
    let same = theorem a b item p q ps e fs x h k g in
    λ i. record {
      skipped = (same i).skipped;
      container = (same i).container;
      formals = (same i).formals;
      steps = parts_alike x (body_at b item p q ps e).read (λ j. (same j).read) i;
    }
