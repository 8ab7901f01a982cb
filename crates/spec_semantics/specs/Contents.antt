-- What a stored block has of the statements and the tail that its parts became.
use Rattle.std.specs.Prelude.{◌≡◌, Bool, true, false, List, [], ◌∷◌, ◌++◌, Option, Some}
use Rattle.hir_store.specs.declared.hir.Statement.{Statement}
use Rattle.hir_store.specs.declared.hir.Statement.TheVariants as statement
use Rattle.hir_store.specs.declared.ids.ExprId.{ExprId}

-- Where a statement gives the value (`gives_value`), the last one is the tail and no statement; else they are as they are.
abbrev pub BlockContents : Bool → List Statement → Option ExprId → List Statement × Option ExprId → Type 0
BlockContents false ss tail r = r ≡ (ss, tail)
BlockContents true ss tail r = (last : ExprId) × (ss ≡ r.0 ++ statement.Expr last false ∷ []) × (r.1 ≡ Some last)
