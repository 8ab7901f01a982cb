-- In which scopes each expression of a body stands (rust-analyzer, `compute_expr_scopes`).
use Rattle.std.specs.Prelude.{◌≡◌, ◌⊎◌, ◌<◌, ℕ, zero, suc, nat_lt, List, [], ◌∷◌, ◌++◌, slice_get, Option, Some, None, if◌then◌else◌}
use Rattle.std.specs.List.{flat_map}
use Rattle.std.specs.Option.{option_to_list}
use Rattle.hir_store.specs.Stored.{Store}
use Rattle.hir_store.specs.declared.hir.Expr.{Expr}
use Rattle.hir_store.specs.declared.hir.Expr.TheVariants as hir
use Rattle.hir_store.specs.declared.hir.Array.TheVariants as array
use Rattle.hir_store.specs.declared.hir.Statement.{Statement}
use Rattle.hir_store.specs.declared.hir.Statement.TheVariants as statement
use Rattle.hir_store.specs.declared.hir.MatchArm.{MatchArm}
use Rattle.hir_store.specs.declared.ids.BindingId.{BindingId}
use Rattle.hir_store.specs.declared.ids.BlockId.{BlockId}
use Rattle.hir_store.specs.declared.ids.ExprId.{ExprId}
use Rattle.hir_store.specs.declared.ids.MacroDefId.{MacroDefId}
use Rattle.hir_store.specs.declared.ids.PatId.{PatId}
use Rattle.hir_walks.specs.Pats.{bindings_in}
use Rattle.hir_walks.specs.Exprs.{exprs_in_pat, exprs_without_pats}
use Rattle.spec_scopes.specs.Scopes.{Scopes, binding_scope, block_scope, loop_scope, macro_def_scope, pat_scope, pats_scope}

-- The scopes that an expression stands in, and those that a constant in its place would: of all around it but the outermost, only the
-- definitions of macros and the blocks with an id.
pub record Spot : Type 0 where
  pub names : Scopes
  pub items : Scopes

abbrev pub in_constant : Spot → Spot
in_constant x = record { names = x.items; items = x.items }

-- inside one scope more, which constants don't see
abbrev pub in_scope : Spot → Scopes → Spot
in_scope x ss = record { names = ss; items = x.items }

-- a block with an id may have items, which constants see
abbrev pub block_items : Option BlockId → Scopes → Scopes
block_items None ss = ss
block_items (Some id) ss = block_scope (Some id) None ∷ ss

-- behind the definition of a macro
abbrev pub past_macro_def : MacroDefId → Spot → Spot
past_macro_def d x = record { names = macro_def_scope d ∷ x.names; items = macro_def_scope d ∷ x.items }

-- each with where it stands
abbrev pub Placed : Type 0
Placed = List (ExprId × Spot)

abbrev pub Among : ExprId → Spot → Placed → Type 0
Among e x [] = ⊥
Among e x (p ∷ ps) = ((e, x) ≡ p) ⊎ Among e x ps

module _ (store : Store) where
  -- the parts of an expression that opens no scope, in the order in which they are gone through
  abbrev pub plain_parts : Expr → List ExprId
  plain_parts (hir.Assignment target value) = exprs_in_pat store target ++ value ∷ []
  plain_parts f = exprs_without_pats f

  -- With the scopes behind each part, where these are the scopes around it: a `let` that is a condition binds for what comes behind.
  module _ (after : ExprId → Scopes → Scopes) where
    abbrev pub after_option : Option ExprId → Scopes → Scopes
    after_option None ss = ss
    after_option (Some e) ss = after e ss

    abbrev pub after_each : List ExprId → Scopes → Scopes
    after_each [] ss = ss
    after_each (e ∷ es) ss = after_each es (after e ss)

    -- the scopes behind an expression of this form
    abbrev pub after_form : Expr → Scopes → Scopes
    after_form (hir.Let p e) ss = pat_scope store p ∷ after e ss
    after_form (hir.Block is_unsafe label id statements tail) ss = ss
    after_form (hir.Const c) ss = ss
    after_form (hir.Loop b label source) ss = ss
    after_form (hir.Closure args arg_types ret_type body kind capture) ss = ss
    after_form (hir.Array (array.Repeat e c)) ss = after e ss
    after_form (hir.Match e arms) ss = after e ss
    after_form (hir.If c t e) ss = after_option e ss
    after_form f ss = after_each (plain_parts f) ss

    abbrev pub past : ExprId → Spot → Spot
    past e x = in_scope x (after e x.names)

    abbrev pub past_option : Option ExprId → Spot → Spot
    past_option e x = in_scope x (after_option e x.names)

    abbrev pub placed_option : Option ExprId → Spot → Placed
    placed_option None x = []
    placed_option (Some e) x = (e, x) ∷ []

    abbrev pub placed_each : List ExprId → Spot → Placed
    placed_each [] x = []
    placed_each (e ∷ es) x = (e, x) ∷ placed_each es (past e x)

    -- the names of a `let` are in scope behind it, not in its initializer and its `else`
    abbrev pub past_statement : Statement → Spot → Spot
    past_statement (statement.Let p t i e) x =
        in_scope x (pat_scope store p ∷ after_option e (after_option i x.names))
    past_statement (statement.Expr e semi) x = past e x
    past_statement statement.Item x = x
    past_statement (statement.MacroDef d) x = past_macro_def d x

    abbrev pub placed_statement : Statement → Spot → Placed
    placed_statement (statement.Let p t i e) x = placed_option i x ++ placed_option e (past_option i x)
    placed_statement (statement.Expr e semi) x = (e, x) ∷ []
    placed_statement statement.Item x = []
    placed_statement (statement.MacroDef d) x = []

    -- each statement behind those before it, and then the tail
    abbrev pub placed_block : List Statement → Option ExprId → Spot → Placed
    placed_block [] tail x = placed_option tail x
    placed_block (s ∷ ss) tail x = placed_statement s x ++ placed_block ss tail (past_statement s x)

    -- a guard sees the names of its arm, and the value also those that the guard binds
    abbrev pub placed_guarded : Option ExprId → ExprId → Spot → Placed
    placed_guarded None e x = (e, x) ∷ []
    placed_guarded (Some g) e x =
        let inner = in_scope x (binding_scope [] ∷ x.names) in
        (g, inner) ∷ (e, past g inner) ∷ []

    abbrev pub placed_arm : Spot → MatchArm → Placed
    placed_arm x a = placed_guarded a.guard a.expr (in_scope x (pat_scope store a.pat ∷ x.names))

    abbrev pub placed_branch : ExprId → ExprId → Spot → Placed
    placed_branch c t x = (c, x) ∷ (t, past c x) ∷ []

    -- the expressions that an expression of this form names, each with where it stands, if the whole stands there
    abbrev pub placed : Expr → Spot → Placed
    placed (hir.Block is_unsafe label id statements tail) x =
        placed_block statements tail (record { names = block_scope id label ∷ x.names; items = block_items id x.items })
    placed (hir.Const c) x = (c.expr, in_constant x) ∷ []
    placed (hir.Array (array.Repeat e c)) x = (e, x) ∷ (c.expr, in_constant x) ∷ []
    placed (hir.Loop b label source) x = (b, in_scope x (loop_scope label ∷ x.names)) ∷ []
    placed (hir.Closure args arg_types ret_type body kind capture) x = (body, in_scope x (pats_scope store args ∷ x.names)) ∷ []
    placed (hir.Match e arms) x = (e, x) ∷ flat_map (placed_arm (past e x)) arms
    placed (hir.If c t e) x = placed_branch c t (in_scope x (binding_scope [] ∷ x.names)) ++ placed_option e x
    placed (hir.Let p e) x = (e, x) ∷ []
    placed f x = placed_each (plain_parts f) x

  -- a part is gone into if its id is less than the whole's
  abbrev pub after_below : (ExprId → Scopes → Scopes) → ExprId → ExprId → Scopes → Scopes
  after_below after e c ss = if nat_lt c.0 e.0 then after c ss else ss

  abbrev pub after_found : (ExprId → Scopes → Scopes) → Option Expr → Scopes → Scopes
  after_found after None ss = ss
  after_found after (Some f) ss = after_form after f ss

  -- with at most so many expressions inside one another
  unfoldable pub after_to : ℕ → ExprId → Scopes → Scopes
  after_to zero e ss = ss
  after_to (suc d) e ss = after_found (after_below (after_to d) e) (slice_get store.exprs e.0) ss

  -- the scopes behind an expression, where these are the scopes around it
  abbrev pub after : ExprId → Scopes → Scopes
  after e ss = after_to (suc e.0) e ss

  abbrev pub after_part : ExprId → ExprId → Scopes → Scopes
  after_part e = after_below after e

  -- The expression stands there in what stands at the start.
  pub data Sees (root : ExprId) (start : Spot) : ExprId → Spot → Type 0 where
    at_root : Sees root start root start
    inside : {e c : ExprId} {x y : Spot} (f : Expr) → Sees root start e x → slice_get store.exprs e.0 ≡ Some f
        → Among c y (placed (after_part e) f x) → c.0 < e.0 → Sees root start c y

  -- the scopes that are recorded for an expression: of a block those inside it
  abbrev pub own_scopes : Option Expr → Scopes → Scopes
  own_scopes (Some (hir.Block is_unsafe label id statements tail)) ss = block_scope id label ∷ ss
  own_scopes _ ss = ss

  -- what is recorded for an expression that stands there
  abbrev pub recorded : ExprId → Spot → Scopes
  recorded e x = own_scopes (slice_get store.exprs e.0) x.names

  -- `self` and the parameters; a constant sees them, too
  abbrev pub outermost : Option BindingId → List PatId → Spot
  outermost self_param params =
      let ss = binding_scope (option_to_list self_param ++ flat_map (bindings_in store) params) ∷ [] in
      record { names = ss; items = ss }

  -- a constant of a signature
  abbrev pub outermost_constant : Spot
  outermost_constant = record { names = binding_scope [] ∷ binding_scope [] ∷ []; items = binding_scope [] ∷ binding_scope [] ∷ [] }
