-- What the body of a closure mentions from outside.
use Rattle.std.specs.Prelude.{◌≡◌, ℕ, zero, suc, nat_eq, nat_lt, Bool, true, false, ◌||◌, if◌then◌else◌, List, [], ◌∷◌, ◌++◌, slice_get}
use Rattle.std.specs.Prelude.{Option, Some, None}
use Rattle.std.specs.List.{flat_map}
use Rattle.hir_scopes.specs.Parts.{joined}
use Rattle.hir_store.specs.Bindings.{owner_at}
use Rattle.hir_store.specs.Stored.{Store}
use Rattle.hir_store.specs.declared.hir.Expr.{Expr}
use Rattle.hir_store.specs.declared.hir.Expr.TheVariants as hir
use Rattle.hir_store.specs.declared.ids.BindingId.{BindingId}
use Rattle.hir_store.specs.declared.ids.ExprId.{ExprId}
use Rattle.hir_walks.specs.Exprs.{exprs_with_pats}
use Rattle.hir_walks.specs.Pats.{of_found}

abbrev pub body_in : Option Expr → Option ExprId
body_in (Some (hir.Closure args arg_types ret_type body kind capture)) = Some body
body_in _ = None

-- whether it is one of these
abbrev pub has_expr : List ExprId → ExprId → Bool
has_expr [] e = false
has_expr (d ∷ ds) e = nat_eq d.0 e.0 || has_expr ds e

abbrev pub has_binding : List BindingId → BindingId → Bool
has_binding [] b = false
has_binding (d ∷ ds) b = nat_eq d.0 b.0 || has_binding ds b

module _ (store : Store) where
  -- the expressions that an expression names, also those in its patterns
  abbrev pub parts_of : ExprId → List ExprId
  parts_of e = of_found (exprs_with_pats store) (slice_get store.exprs e.0)

  -- a part is gone into if its id is less than the whole's
  abbrev pub if_below : ExprId → (ExprId → List ExprId) → ExprId → List ExprId
  if_below e f c = if nat_lt c.0 e.0 then f c else []

  -- the expression and all inside it, down to so many levels, each whole before its parts
  unfoldable pub exprs_to : ℕ → ExprId → List ExprId
  exprs_to zero e = []
  exprs_to (suc d) e = e ∷ flat_map (if_below e (exprs_to d)) (parts_of e)

  abbrev pub exprs_in : ExprId → List ExprId
  exprs_in e = exprs_to (suc e.0) e

  abbrev pub exprs_of_body : ExprId → Option ExprId → List ExprId
  exprs_of_body closure None = []
  exprs_of_body closure (Some body) = if_below closure exprs_in body

  -- the expressions in the body of a closure, the body first
  abbrev pub body_exprs : ExprId → List ExprId
  body_exprs closure = exprs_of_body closure (body_in (slice_get store.exprs closure.0))

  -- whether the owner is the closure or stands in its body
  abbrev pub is_inside : ExprId → Option ExprId → Bool
  is_inside closure None = false
  is_inside closure (Some owner) = nat_eq owner.0 closure.0 || has_expr (body_exprs closure) owner

  -- whether the binding is made by the closure's parameters or in its body
  abbrev pub is_made_in : ExprId → BindingId → Bool
  is_made_in closure b = is_inside closure (owner_at store.binding_owners b.0)

  module _ (meanings : List (Option BindingId)) (closure : ExprId) where
    abbrev pub with_upvar : List BindingId → Option BindingId → List BindingId
    with_upvar bs None = bs
    with_upvar bs (Some b) = if is_made_in closure b || has_binding bs b then bs else bs ++ b ∷ []

    -- these, and behind them what the expressions mean that isn't made inside, each binding once, at its first mention
    abbrev pub with_upvars : List BindingId → List ExprId → List BindingId
    with_upvars bs [] = bs
    with_upvars bs (e ∷ es) = with_upvars (with_upvar bs (joined (slice_get meanings e.0))) es

    -- An expression in the body means it, and it is made outside.
    abbrev pub IsUpvar : BindingId → Type 0
    IsUpvar b = ((e : ExprId) × (has_expr (body_exprs closure) e ≡ true) × (joined (slice_get meanings e.0) ≡ Some b))
        × (is_made_in closure b ≡ false)
