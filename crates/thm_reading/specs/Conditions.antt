-- What holds a `let` (Rust Reference, temporary scopes, `while`): a `let`, and `&&` of which an operand holds one; parentheses and calls
-- that are entered are passed. Nothing else does: no block, no call, no `if`, no other operator, and nothing that is disabled.
use Rattle.std.specs.Prelude.{◌≡◌, ◌↔◌, true}
use Rattle.hir_base.specs.declared.op.LogicOp.TheVariants as logic
use Rattle.hir_env.specs.ResolvedTree as tree
use Rattle.hir_env.specs.ResolvedTree.{OptionExpr}
use Rattle.hir_env.specs.Conditions.{holds_let}

pub data HoldsLet : OptionExpr → Type 0 where
  it_is_one : {s p e : _} → HoldsLet (tree.some_expr (tree.let_expr s p e))
  in_parentheses : {s e : _} → HoldsLet e → HoldsLet (tree.some_expr (tree.paren_expr s e))
  in_its_call : {s c e : _} → HoldsLet e → HoldsLet (tree.some_expr (tree.macro_expr s c e))
  on_the_left : {s a b : _} → HoldsLet a → HoldsLet (tree.some_expr (tree.lazy_expr s logic.And a b))
  on_the_right : {s a b : _} → HoldsLet b → HoldsLet (tree.some_expr (tree.lazy_expr s logic.And a b))

-- of each condition
abbrev pub EmitsLets : Type 0
EmitsLets = (e : OptionExpr) → (holds_let e ≡ true) ↔ HoldsLet e
