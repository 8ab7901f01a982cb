-- Which names are in scope at each expression of a resolved tree (Rust Reference, scopes). Nothing here knows a store.
--
-- A `let` that is a condition binds for what stands behind it. Rust allows one only in a chain of `&&`. Where it stands elsewhere, it binds
-- for the operands behind it, and for what stands behind the whole.
use Rattle.std.specs.Prelude.{◌≡◌, ◌⊎◌, Bool, true, false, List, [], ◌∷◌, ◌++◌, Option, Some, None, if◌then◌else◌}
use Rattle.hir_store.specs.declared.ids.MacroDefId.{MacroDefId}
use Rattle.hir_lower_scope.specs.ScopeRibs.{macro_rib, label_rib}
use Rattle.hir_env.specs.Conditions.{holds_let}
use Rattle.hir_env.specs.ResolvedTree as tree
use Rattle.hir_env.specs.ResolvedTree.{Arm, Arms, Block, Constant, Expr, Exprs, Fields, Formal, Guard, OptionBlock, OptionExpr, OptionPat}
use Rattle.hir_env.specs.ResolvedTree.{Params, RangeForm, SelfFormal, Spread, Stmts, Target, Targets, TargetFields}
use Rattle.spec_data.specs.Patterns.{if_path}
use Rattle.spec_data.specs.Tops.{Tops, params_tops}
use Rattle.spec_data.specs.Written.{path_of}
use Rattle.spec_scoping.specs.Bound.{InScope, self_name, with_each, with_top, with_tops}

-- What is in scope where an expression stands, and what would be for a constant in its place: of the variables the parameters alone.
pub record Where : Type 0 where
  pub names : InScope
  pub items : InScope

abbrev pub where_constant : Where → Where
where_constant w = record { names = w.items; items = w.items }

abbrev pub naming : Where → InScope → Where
naming w ns = record { names = ns; items = w.items }

-- Behind the definition of a macro, which constants see, too.
abbrev pub behind_macro : MacroDefId → Where → Where
behind_macro d w = record { names = macro_rib d ∷ w.names; items = macro_rib d ∷ w.items }

-- operands, in their order

abbrev pub is_enabled : Expr → Bool
is_enabled (tree.disabled_expr why e) = false
is_enabled _ = true

-- a disabled element of a list or a block is left out
abbrev pub if_enabled : Expr → List Expr
if_enabled e = if is_enabled e then e ∷ [] else []

abbrev pub part : OptionExpr → List Expr
part tree.no_expr = []
part (tree.some_expr e) = e ∷ []

abbrev pub enabled_part : OptionExpr → List Expr
enabled_part tree.no_expr = []
enabled_part (tree.some_expr e) = if_enabled e

abbrev pub block_part : OptionBlock → List Expr
block_part tree.no_block = []
block_part (tree.some_block b) = tree.block_expr b ∷ []

abbrev pub elements : Exprs → List Expr
elements tree.no_exprs = []
elements (tree.more_exprs e es) = if_enabled e ++ elements es

abbrev pub field_values : Fields → List Expr
field_values tree.no_fields = []
field_values (tree.more_fields (tree.named_field at name e) fs) = part e ++ field_values fs
field_values (tree.more_fields f fs) = field_values fs

abbrev pub rest_of : Spread → List Expr
rest_of (tree.spread_of e) = e ∷ []
rest_of s = []

-- without its item a range is missing
abbrev pub ends : RangeForm → OptionExpr → OptionExpr → List Expr
ends (tree.record_range item last) low high = part low ++ part high
ends (tree.call_range item) low high = part low ++ part high
ends tree.itemless_range low high = []

abbrev mutual
  -- the places in what is assigned to
  pub places : Target → List Expr
  places (tree.absent_target call) = []
  places (tree.place_target at e) = e ∷ []
  places (tree.macro_target at called t) = places t
  places (tree.wild_target at) = []
  places (tree.path_target at p h) = []
  places (tree.tuple_target at ts) = places_of_each ts
  places (tree.call_target at p ts) = if_path (path_of p) (λ _. places_of_each ts) []
  places (tree.array_target at before dots behind) = places_of_each before ++ places_of_each behind
  places (tree.record_target at p fs dots spread) = if_path (path_of p) (λ _. places_of_fields fs) []

  pub places_of_each : Targets → List Expr
  places_of_each tree.no_targets = []
  places_of_each (tree.more_targets t ts) = places t ++ places_of_each ts
  places_of_each (tree.dots_targets ts) = places_of_each ts
  places_of_each (tree.tracked_targets called ts) = places_of_each ts

  -- a field without a name is no part of the record
  pub places_of_fields : TargetFields → List Expr
  places_of_fields tree.no_target_fields = []
  places_of_fields (tree.more_target_fields (tree.target_field at (Some n) t) fs) = places t ++ places_of_fields fs
  places_of_fields (tree.more_target_fields f fs) = places_of_fields fs

-- The operands of a form that opens no scope. A prefix without its operator is missing, and nothing in it stands anywhere.
abbrev pub operands : Expr → List Expr
operands (tree.question_expr at items e) = part e
operands (tree.call_expr at f has_list es) = part f ++ elements es
operands (tree.break_expr at jump e) = part e
operands (tree.paren_expr at e) = part e
operands (tree.macro_expr at called e) = part e
operands (tree.unary_expr at form e) = part e
operands (tree.binary_expr at form a b) = part a ++ part b
operands (tree.lazy_expr at op a b) = part a ++ part b
operands (tree.list_expr at form es) = elements es
operands (tree.method_call_expr at e name es generics) = part e ++ elements es
operands (tree.leaving_expr at form e) = part e
operands (tree.become_expr at e) = part e
operands (tree.yield_expr at e) = part e
operands (tree.await_expr at location e) = part e
operands (tree.cast_expr at e t) = part e
operands (tree.record_expr at p head fs s) = if_path (path_of p) (λ _. field_values fs ++ rest_of s) []
operands (tree.let_expr at p e) = part e
operands (tree.range_expr at form low high) = ends form low high
operands (tree.assign_expr at own t e) = places t ++ part e
operands _ = []

-- those of both ends, if there is a range
abbrev pub of_ends : RangeForm → Tops → Tops → Tops
of_ends (tree.record_range item last) low high = low ++ high
of_ends (tree.call_range item) low high = low ++ high
of_ends tree.itemless_range low high = []

abbrev mutual
  -- the patterns that bind for what stands behind an expression
  pub lets : Expr → Tops
  lets (tree.question_expr at items e) = lets_of_part e
  lets (tree.call_expr at f has_list es) = lets_of_part f ++ lets_of_each es
  lets (tree.break_expr at jump e) = lets_of_part e
  lets (tree.paren_expr at e) = lets_of_part e
  lets (tree.macro_expr at called e) = lets_of_part e
  lets (tree.unary_expr at form e) = lets_of_part e
  lets (tree.binary_expr at form a b) = lets_of_part a ++ lets_of_part b
  lets (tree.lazy_expr at op a b) = lets_of_part a ++ lets_of_part b
  lets (tree.list_expr at form es) = lets_of_each es
  lets (tree.method_call_expr at e name es generics) = lets_of_part e ++ lets_of_each es
  lets (tree.leaving_expr at form e) = lets_of_part e
  lets (tree.become_expr at e) = lets_of_part e
  lets (tree.yield_expr at e) = lets_of_part e
  lets (tree.await_expr at location e) = lets_of_part e
  lets (tree.cast_expr at e t) = lets_of_part e
  lets (tree.record_expr at p head fs s) = if_path (path_of p) (λ _. lets_of_fields fs ++ lets_of_rest s) []
  lets (tree.let_expr at p e) = lets_of_part e ++ p ∷ []
  lets (tree.range_expr at form low high) = of_ends form (lets_of_part low) (lets_of_part high)
  lets (tree.assign_expr at own t e) = lets_of_places t ++ lets_of_part e
  -- of a form that opens scopes, those of what stands in none of these
  lets (tree.if_expr at c t e) = lets_of_part e
  lets (tree.for_expr at items label _ p h b) = lets_of_part h
  lets (tree.match_expr at e arms) = lets_of_part e
  lets (tree.repeat_expr at e c) = lets_of_part e
  lets _ = []

  pub lets_of_part : OptionExpr → Tops
  lets_of_part tree.no_expr = []
  lets_of_part (tree.some_expr e) = lets e

  -- of a disabled one it is none
  pub lets_of_each : Exprs → Tops
  lets_of_each tree.no_exprs = []
  lets_of_each (tree.more_exprs e es) = lets e ++ lets_of_each es

  pub lets_of_fields : Fields → Tops
  lets_of_fields tree.no_fields = []
  lets_of_fields (tree.more_fields (tree.named_field at name e) fs) = lets_of_part e ++ lets_of_fields fs
  lets_of_fields (tree.more_fields f fs) = lets_of_fields fs

  pub lets_of_rest : Spread → Tops
  lets_of_rest (tree.spread_of e) = lets e
  lets_of_rest s = []

  pub lets_of_places : Target → Tops
  lets_of_places (tree.place_target at e) = lets e
  lets_of_places (tree.macro_target at called t) = lets_of_places t
  lets_of_places (tree.tuple_target at ts) = lets_of_targets ts
  lets_of_places (tree.call_target at p ts) = if_path (path_of p) (λ _. lets_of_targets ts) []
  lets_of_places (tree.array_target at before dots behind) = lets_of_targets before ++ lets_of_targets behind
  lets_of_places (tree.record_target at p fs dots spread) = if_path (path_of p) (λ _. lets_of_target_fields fs) []
  lets_of_places t = []

  pub lets_of_targets : Targets → Tops
  lets_of_targets tree.no_targets = []
  lets_of_targets (tree.more_targets t ts) = lets_of_places t ++ lets_of_targets ts
  lets_of_targets (tree.dots_targets ts) = lets_of_targets ts
  lets_of_targets (tree.tracked_targets called ts) = lets_of_targets ts

  pub lets_of_target_fields : TargetFields → Tops
  lets_of_target_fields tree.no_target_fields = []
  lets_of_target_fields (tree.more_target_fields (tree.target_field at (Some n) t) fs) = lets_of_places t ++ lets_of_target_fields fs
  lets_of_target_fields (tree.more_target_fields f fs) = lets_of_target_fields fs

-- where the next expression stands
abbrev pub behind : Expr → Where → Where
behind e w = naming w (with_each (lets e) w.names)

abbrev pub behind_part : OptionExpr → Where → Where
behind_part e w = naming w (with_each (lets_of_part e) w.names)

-- The condition of a `while` binds for the body where it is a chain with a `let` in it.
abbrev pub behind_condition : OptionExpr → Where → Where
behind_condition c w = if holds_let c then behind_part c w else w

-- the parts of an expression, each with where it stands

abbrev pub Standing : Type 0
Standing = Expr × Where

-- one behind the other
abbrev pub in_turn : List Expr → Where → List Standing
in_turn [] w = []
in_turn (e ∷ es) w = (e, w) ∷ in_turn es (behind e w)

-- The statements, and then the tail. The names of a `let` are in scope behind it, and neither in its initializer nor in its `else`.
abbrev pub contents : Stmts → OptionExpr → Where → List Standing
contents tree.no_stmts e w = in_turn (enabled_part e) w
contents (tree.more_stmts (tree.expr_stmt f semi) ss) e w = in_turn (enabled_part f) w ++ contents ss e (behind_part f w)
contents (tree.more_stmts (tree.let_stmt p t i b) ss) e w =
    in_turn (part i ++ block_part b) w ++ contents ss e (naming w (with_top p (behind_part i w).names))
contents (tree.more_stmts (tree.macro_stmt k (Some d)) ss) e w = contents ss e (behind_macro d w)
contents (tree.more_stmts s ss) e w = contents ss e w

-- a guard sees the names of its arm, and the value also those that the guard binds
abbrev pub of_arm : OptionExpr → Guard → Where → List Standing
of_arm e tree.no_guard w = in_turn (part e) w
of_arm e (tree.guard c) w = in_turn (part c ++ part e) w

abbrev pub of_arms : Arms → Where → List Standing
of_arms tree.no_arms w = []
of_arms (tree.more_arms (tree.arm p e g) arms) w = of_arm e g (naming w (with_top p w.names)) ++ of_arms arms w
of_arms (tree.more_arms a arms) w = of_arms arms w

abbrev pub of_constant : Constant → Where → List Standing
of_constant (tree.constant e) w = in_turn (part e) (where_constant w)

abbrev pub parts : Expr → Where → List Standing
-- `else` stands outside
parts (tree.if_expr at c t e) w = in_turn (part c ++ block_part t) w ++ in_turn (part e) w
parts (tree.block_expr (tree.block at is_unsafe label _ number ss e)) w = contents ss e w
parts (tree.loop_expr at label _ b) w = in_turn (block_part b) w
parts (tree.while_expr at label _ c b) w = in_turn (part c) w ++ in_turn (block_part b) (behind_condition c w)
-- the head stands outside of the pattern
parts (tree.for_expr at items label _ p h b) w = in_turn (part h) w ++ in_turn (part b) (naming w (with_top p (behind_part h w).names))
parts (tree.try_expr at item t number ss e) w = contents ss e w
parts (tree.coroutine_expr at kind moves number ss e) w = contents ss e w
parts (tree.closure_expr at moves is_static xs t e) w = in_turn (part e) (naming w (with_tops (params_tops xs) w.names))
-- the parameters of a coroutine are bound by `let`s
parts (tree.coroutine_closure_expr at kind moves xs t e) w = in_turn (part e) (naming w (with_each (params_tops xs) w.names))
parts (tree.match_expr at e arms) w = in_turn (part e) w ++ of_arms arms (behind_part e w)
parts (tree.repeat_expr at e c) w = in_turn (part e) w ++ of_constant c w
parts (tree.const_expr at c) w = of_constant c w
parts e w = in_turn (operands e) w

-- The parameters of a function, all at once. As in rust-analyzer, a constant sees them, which Rust refuses.

abbrev pub self_names : SelfFormal → InScope
self_names (tree.self_formal at u _) = label_rib u.name u.hygiene self_name ∷ []
self_names s = []

abbrev pub outside : SelfFormal → Tops → Where
outside s ps = let ns = self_names s ++ with_tops ps [] in record { names = ns; items = ns }

abbrev pub IsAmong : Standing → List Standing → Type 0
IsAmong s [] = ⊥
IsAmong s (t ∷ ts) = (s ≡ t) ⊎ IsAmong s ts

-- The expression stands there in the body, of which this is in scope at the start.
pub data Stands (body : OptionExpr) (start : Where) : Expr → Where → Type 0 where
  as_part : {e : Expr} {w : Where} → IsAmong (e, w) (in_turn (part body) start) → Stands body start e w
  inside : {e c : Expr} {w v : Where} → Stands body start e w → IsAmong (c, v) (parts e w) → Stands body start c v
