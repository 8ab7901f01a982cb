-- What an expression statement becomes.
use Rattle.std.specs.Prelude.{Bool, Option, option_map}
use Rattle.hir_store.specs.declared.hir.Statement.{Statement}
use Rattle.hir_store.specs.declared.hir.Statement.TheVariants as statement
use Rattle.hir_store.specs.declared.ids.ExprId.{ExprId}

abbrev pub statement_of : Bool → Option ExprId → Option Statement
statement_of semi o = option_map (λ id. statement.Expr id semi) o
