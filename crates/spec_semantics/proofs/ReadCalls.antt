-- Calls as expressions, patterns and types, computed level by level.
use Rattle.std.proofs.Common.{◌∙◌, ap, ℕ}
use Rattle.hir_env.specs.declared.expand.FragmentKind.TheVariants as kind
use Rattle.hir_env.specs.Calls.{around}
use Rattle.hir_env.specs.ResolvedTree as tree
use Rattle.hir_env.specs.ResolvedTree.{Called, Expr}
use Rattle.spec_semantics.specs.Reading.{expanding_env, from, entering_to}
use Rattle.spec_semantics.specs.ReadCalls.{EntersBelowTheLimit, endless_expr, endless_pat, endless_type}
use Rattle.spec_semantics.proofs.OneLevel.{rctx_in, expr_made, pat_made, type_made, expr_called, pat_called, type_called}

-- what stands behind a call, in its place
abbrev through : ℕ → ℕ → Called → Expr → Expr
through f n c e = around (from f n) c (tree.some_expr e)

pub enters_below_the_limit : EntersBelowTheLimit
enters_below_the_limit env p =
    let e = expanding_env env kind.Expr endless_expr in
    let q = expanding_env env kind.Pat endless_pat in
    let t = expanding_env env kind.Type_ endless_type in
    record {
      expr = expr_called e p 0 1 2 3 ∙ ap (through 0 2 (tree.entered (entering_to 0 3 1))) (expr_called e p 1 0 2 3
          ∙ ap (through 1 2 (tree.entered (entering_to 1 3 2))) (expr_made (rctx_in e p 2 0) 2 _));
      pat = pat_called q p 0 1 2 3 ∙ ap (λ x. tree.macro_pat (from 0 2) (tree.entered (entering_to 0 3 1)) (tree.some_pat x))
          (pat_called q p 1 0 2 3 ∙ ap (λ x. tree.macro_pat (from 1 2) (tree.entered (entering_to 1 3 2)) (tree.some_pat x))
          (pat_made (rctx_in q p 2 0) 2 _));
      type_ = type_called t p 0 1 2 3 ∙ ap (λ x. tree.macro_type (from 0 2) (tree.entered (entering_to 0 3 1)) (tree.some_type x))
          (type_called t p 1 0 2 3 ∙ ap (λ x. tree.macro_type (from 1 2) (tree.entered (entering_to 1 3 2)) (tree.some_type x))
          (type_made (rctx_in t p 2 0) 2 _));
    }
