-- The children of an expression exist where all that it names does.
use Rattle.std.proofs.Common.{arith, ◌≡◌, ◌≤◌, ℕ, zero, suc, max, refl, List, [], ◌∷◌, ◌++◌, length, map, Option, Some, None}
use Rattle.std.proofs.lemmas.List.{append-nil}
use Rattle.std.specs.List.{flat_map}
use Rattle.std.specs.Option.{option_to_list}
use Rattle.hir_store.specs.Arenas.{past, past_option}
use Rattle.hir_store.specs.Past.{past_arms, past_expr_id, past_present, past_statement, past_statements}
use Rattle.hir_store.specs.Range.{StoreInRange, exprs_in, past_expr, past_field, past_spread}
use Rattle.hir_store.specs.Stored.{Store}
use Rattle.hir_store.specs.Children.{arm_children, children, children_at, field_child, spread_child, statement_children}
use Rattle.hir_store.specs.declared.hir.Expr.{Expr}
use Rattle.hir_store.specs.declared.hir.Expr.TheVariants as hir
use Rattle.hir_store.specs.declared.hir.Array.TheVariants as array
use Rattle.hir_store.specs.declared.hir.Statement.{Statement}
use Rattle.hir_store.specs.declared.hir.Statement.TheVariants as statement
use Rattle.hir_store.specs.declared.hir.MatchArm.{MatchArm}
use Rattle.hir_store.specs.declared.hir.RecordLitField.{RecordLitField}
use Rattle.hir_store.specs.declared.hir.RecordSpread.{RecordSpread}
use Rattle.hir_store.specs.declared.hir.RecordSpread.TheVariants as spread
use Rattle.hir_store.specs.declared.ids.ExprId.{ExprId}

pub none_behind : (ids : List ExprId) → ids ++ [] ≡ ids
none_behind = append-nil

past_both : {A : Type 0} (f : A → ℕ) (xs ys : List A) → past f (xs ++ ys) ≡ max (past f xs) (past f ys)
past_both f [] ys = omega arith
past_both f (x ∷ xs) ys = let more = past_both f xs ys in omega (arith, more)

option_past : (o : Option ExprId) → past past_expr (option_to_list o) ≡ past_option past_expr o
option_past None = refl
option_past (Some id) = omega arith

statement_past : (s : Statement) → past past_expr (statement_children s) ≤ (past_statement s).exprs
statement_past (statement.Let p t None None) = omega arith
statement_past (statement.Let p t None (Some e)) = omega arith
statement_past (statement.Let p t (Some i) None) = omega arith
statement_past (statement.Let p t (Some i) (Some e)) = omega arith
statement_past (statement.Expr id semi) = omega arith
statement_past statement.Item = omega arith
statement_past (statement.MacroDef d) = omega arith

statements_past : (ss : List Statement) → past past_expr (flat_map statement_children ss) ≤ (past_statements ss).exprs
statements_past [] = omega arith
statements_past (s ∷ ss) =
    let both = past_both past_expr (statement_children s) (flat_map statement_children ss) in
    let one = statement_past s in
    let more = statements_past ss in
    omega (arith, both, one, more)

guarded_past : (guard : Option ExprId) (e : ExprId)
    → past past_expr (option_to_list guard ++ e ∷ []) ≤ max (past_present past_expr_id guard).exprs (suc e.0)
guarded_past None e = omega arith
guarded_past (Some g) e = omega arith

arms_past : (arms : List MatchArm) → past past_expr (flat_map arm_children arms) ≤ (past_arms arms).exprs
arms_past [] = omega arith
arms_past (a ∷ arms) =
    let both = past_both past_expr (arm_children a) (flat_map arm_children arms) in
    let one = guarded_past a.guard a.expr in
    let more = arms_past arms in
    omega (arith, both, one, more)

fields_past : (fs : List RecordLitField) → past past_expr (map field_child fs) ≡ past past_field fs
fields_past [] = refl
fields_past (f ∷ fs) = let more = fields_past fs in omega (arith, more)

spread_past : (s : RecordSpread) → past past_expr (option_to_list (spread_child s)) ≡ past_spread s
spread_past (spread.Expr id) = omega arith
spread_past spread.None = refl
spread_past spread.FieldDefaults = refl

pub children_past : (e : Expr) → past past_expr (children e) ≤ exprs_in e
children_past hir.Missing = omega arith
children_past (hir.Path p hygiene) = omega arith
children_past (hir.If c t e) = let more = option_past e in omega (arith, more)
children_past (hir.Let p e) = omega arith
children_past (hir.Block is_unsafe label id ss tail) =
    let both = past_both past_expr (flat_map statement_children ss) (option_to_list tail) in
    let before = statements_past ss in
    let last = option_past tail in
    omega (arith, both, before, last)
children_past (hir.Const c) = omega arith
children_past (hir.Loop b label source) = omega arith
children_past (hir.Call f es) = omega arith
children_past (hir.Match e arms) = let more = arms_past arms in omega (arith, more)
children_past (hir.Continue label) = omega arith
children_past (hir.Break label e) = let one = option_past e in omega (arith, one)
children_past (hir.Literal l) = omega arith
children_past (hir.MethodCall receiver name generics es) = omega arith
children_past (hir.RecordLit p fields s) =
    let both = past_both past_expr (map field_child fields) (option_to_list (spread_child s)) in
    let before = fields_past fields in
    let last = spread_past s in
    omega (arith, both, before, last)
children_past (hir.Field e name) = omega arith
children_past (hir.UnaryOp op e) = omega arith
children_past (hir.BinaryOp op lhs rhs) = omega arith
children_past (hir.Assignment target value) = omega arith
children_past (hir.Index base index) = omega arith
children_past (hir.Ref rawness mutability e) = omega arith
children_past (hir.Closure args arg_types ret_type body kind capture) = omega arith
children_past (hir.Tuple es) = omega arith
children_past (hir.Array (array.ElementList es)) = omega arith
children_past (hir.Array (array.Repeat e c)) = omega arith
children_past (hir.Return e) = let one = option_past e in omega (arith, one)
children_past (hir.Become e) = omega arith
children_past (hir.Yield e) = let one = option_past e in omega (arith, one)
children_past (hir.Yeet e) = let one = option_past e in omega (arith, one)
children_past (hir.Await e) = omega arith
children_past (hir.Cast e type_ref) = omega arith
children_past (hir.OffsetOf container fields) = omega arith
children_past hir.Underscore = omega arith
children_past hir.IncludeBytes = omega arith

pub children_named : (es : List Expr) (n : ℕ) → past past_expr (children_at es n) ≤ past exprs_in es
children_named [] n = omega arith
children_named (e ∷ es) zero = let one = children_past e in omega (arith, one)
children_named (e ∷ es) (suc n) = let more = children_named es n in omega (arith, more)

pub children_exist : (s : Store) (n : ℕ) → StoreInRange s → past past_expr (children_at s.exprs n) ≤ length s.exprs
children_exist s n h = let named = children_named s.exprs n in let exprs = h.exprs in omega (arith, named, exprs)
