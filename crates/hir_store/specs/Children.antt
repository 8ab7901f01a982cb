-- The expressions that an expression names, in the order in which its parts stand in it. Those in its patterns and its arguments aren't
-- among them.
use Rattle.std.specs.Prelude.{ℕ, List, [], ◌∷◌, ◌++◌, map, slice_get, Option, Some, None}
use Rattle.std.specs.List.{flat_map}
use Rattle.std.specs.Option.{option_to_list}
use Rattle.hir_store.specs.declared.hir.Expr.{Expr}
use Rattle.hir_store.specs.declared.hir.Expr.TheVariants as hir
use Rattle.hir_store.specs.declared.hir.Array.TheVariants as array
use Rattle.hir_store.specs.declared.hir.Statement.{Statement}
use Rattle.hir_store.specs.declared.hir.Statement.TheVariants as statement
use Rattle.hir_store.specs.declared.hir.MatchArm.{MatchArm}
use Rattle.hir_store.specs.declared.hir.RecordLitField.{RecordLitField}
use Rattle.hir_store.specs.declared.hir.RecordSpread.{RecordSpread}
use Rattle.hir_store.specs.declared.hir.RecordSpread.TheVariants as spread
use Rattle.hir_store.specs.declared.ids.ExprId.{ExprId}

abbrev pub statement_children : Statement → List ExprId
statement_children (statement.Let p type_ref initializer else_branch) = option_to_list initializer ++ option_to_list else_branch
statement_children (statement.Expr id semi) = id ∷ []
statement_children statement.Item = []
statement_children (statement.MacroDef d) = []

abbrev pub arm_children : MatchArm → List ExprId
arm_children a = option_to_list a.guard ++ a.expr ∷ []

abbrev pub field_child : RecordLitField → ExprId
field_child f = f.expr

abbrev pub spread_child : RecordSpread → Option ExprId
spread_child (spread.Expr id) = Some id
spread_child _ = None

abbrev pub children : Expr → List ExprId
children (hir.If c t e) = c ∷ t ∷ option_to_list e
children (hir.Let p e) = e ∷ []
children (hir.Block is_unsafe label id ss tail) = flat_map statement_children ss ++ option_to_list tail
children (hir.Const c) = c.expr ∷ []
children (hir.Loop b label source) = b ∷ []
children (hir.Call f es) = f ∷ es
children (hir.Match e arms) = e ∷ flat_map arm_children arms
children (hir.Break label e) = option_to_list e
children (hir.MethodCall receiver name generics es) = receiver ∷ es
children (hir.RecordLit p fields spread) = map field_child fields ++ option_to_list (spread_child spread)
children (hir.Field e name) = e ∷ []
children (hir.UnaryOp op e) = e ∷ []
children (hir.BinaryOp op lhs rhs) = lhs ∷ rhs ∷ []
children (hir.Assignment target value) = value ∷ []
children (hir.Index base index) = base ∷ index ∷ []
children (hir.Ref rawness mutability e) = e ∷ []
children (hir.Closure args arg_types ret_type body kind capture) = body ∷ []
children (hir.Tuple es) = es
children (hir.Array (array.ElementList es)) = es
children (hir.Array (array.Repeat e c)) = e ∷ c.expr ∷ []
children (hir.Return e) = option_to_list e
children (hir.Become e) = e ∷ []
children (hir.Yield e) = option_to_list e
children (hir.Yeet e) = option_to_list e
children (hir.Await e) = e ∷ []
children (hir.Cast e type_ref) = e ∷ []
children _ = []

abbrev pub children_of : Option Expr → List ExprId
children_of None = []
children_of (Some e) = children e

-- those of the expression with this number; none where there is no such expression
abbrev pub children_at : List Expr → ℕ → List ExprId
children_at es n = children_of (slice_get es n)
