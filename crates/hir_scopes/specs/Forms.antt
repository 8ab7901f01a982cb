-- Which forms open scopes.
use Rattle.std.specs.Prelude.{Bool, true, false}
use Rattle.hir_store.specs.declared.hir.Expr.{Expr}
use Rattle.hir_store.specs.declared.hir.Expr.TheVariants as hir
use Rattle.hir_store.specs.declared.hir.Array.TheVariants as array

abbrev pub is_block : Expr → Bool
is_block (hir.Block is_unsafe label id statements tail) = true
is_block _ = false

-- whether its parts stand in the scopes that it stands in, one behind the other
abbrev pub is_plain : Expr → Bool
is_plain (hir.Block is_unsafe label id statements tail) = false
is_plain (hir.Const c) = false
is_plain (hir.Loop b label source) = false
is_plain (hir.Closure args arg_types ret_type body kind capture) = false
is_plain (hir.Array (array.Repeat e c)) = false
is_plain (hir.Match e arms) = false
is_plain (hir.If c t e) = false
is_plain (hir.Let p e) = false
is_plain _ = true
