-- What the walk over the condition of a `while` asks on its way.
use Rattle.std.specs.Prelude.{Bool, true, false, Option, Some, None}
use Rattle.hir_base.specs.declared.op.BinaryOp.{BinaryOp}
use Rattle.hir_base.specs.declared.op.BinaryOp.TheVariants as op
use Rattle.hir_base.specs.declared.op.LogicOp.TheVariants as logic
use Rattle.hir_env.specs.Conditions.{is_with_let}
use Rattle.hir_env.specs.ResolveCtx.{ResolveCtx}
use Rattle.hir_env.specs.Whole.{resolved_expr}
use Rattle.hir_lower_builder.specs.Methods.{at_place}
use Rattle.hir_lower_pat.specs.Calls.{ExprThere}

abbrev pub is_and : Option BinaryOp → Bool
is_and (Some (op.LogicOp logic.And)) = true
is_and _ = false

-- whether what stands behind a call holds a `let`
abbrev pub let_there : ResolveCtx → ExprThere → Bool
let_there at None = false
let_there at (Some x) = is_with_let (resolved_expr (at_place at x.0) x.1)
