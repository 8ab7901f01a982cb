-- A binary expression is lowered alike whether or not its operator is lazy, unless it is an assignment.
use Rattle.std.proofs.Common.{◌≡◌, Bool, Option, Some, None, refl}
use Rattle.hir_base.specs.declared.op.BinaryOp.{BinaryOp}
use Rattle.hir_base.specs.declared.op.BinaryOp.TheVariants as operator
use Rattle.hir_store.specs.Pointers.{Pointer}
use Rattle.hir_store.specs.declared.hir.Expr.TheVariants as hir
use Rattle.hir_env.specs.ResolvedTree.{Path, OptionExpr}
use Rattle.hir_env.specs.Answering.{bin_expr}
use Rattle.hir_lower_builder.specs.Lower.{lower, lower_part, operands_form}

pub binary_is : (is_found : Path → Bool) (at : Pointer) (op : Option BinaryOp) (a b : OptionExpr) → (op ≡ Some operator.Assign → ⊥)
    → lower (bin_expr is_found at op a b) ≡ operands_form at (hir.BinaryOp op) (lower_part a) (lower_part b)
binary_is is_found at None a b other = refl
binary_is is_found at (Some (operator.LogicOp o)) a b other = refl
binary_is is_found at (Some (operator.ArithOp o)) a b other = refl
binary_is is_found at (Some (operator.CmpOp o)) a b other = refl
binary_is is_found at (Some (operator.Assignment o)) a b other = refl
binary_is is_found at (Some operator.Assign) a b other = absurd (other refl)
