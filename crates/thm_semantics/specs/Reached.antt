-- Which numbers a stored body reaches, and that it reaches each in one way only.
use Rattle.std.specs.Prelude.{◌≢◌, ℕ, zero, suc, ◌<◌, ◌≤◌, length, map, List, [], ◌∷◌, ◌++◌, Option, Some, None, slice_get}
use Rattle.hir_store.specs.Stored.{Store, store_of}
use Rattle.hir_store.specs.declared.hir.Expr.{Expr}
use Rattle.hir_store.specs.declared.hir.Array.TheVariants as array
use Rattle.hir_store.specs.declared.hir.Expr.TheVariants as hir
use Rattle.hir_store.specs.declared.hir.MatchArm.{MatchArm}
use Rattle.hir_store.specs.declared.hir.Statement.{Statement}
use Rattle.hir_store.specs.declared.hir.Statement.TheVariants as statement
use Rattle.hir_store.specs.declared.hir.RecordLitField.{RecordLitField}
use Rattle.hir_store.specs.declared.hir.RecordSpread.{RecordSpread}
use Rattle.hir_store.specs.declared.hir.RecordSpread.TheVariants as spread
use Rattle.hir_store.specs.declared.ids.ExprId.{ExprId}
use Rattle.spec_semantics.specs.Places.{places}
use Rattle.hir_lower_scope.specs.Each.{Each}
use Rattle.thm_semantics.specs.Headline.{InLaterStores}

-- The numbers that are reached by running, one for each way. Of a pattern the places of the assignee expression run, the rest is data.

module _ (f : ExprId → List ℕ) where
  abbrev pub of_some : Option ExprId → List ℕ
  of_some None = []
  of_some (Some i) = f i

  abbrev pub of_each : List ExprId → List ℕ
  of_each [] = []
  of_each (i ∷ is) = f i ++ of_each is

  abbrev pub of_fields : List RecordLitField → List ℕ
  of_fields fields = of_each (map (λ x. x.expr) fields)

  abbrev pub of_others : RecordSpread → List ℕ
  of_others (spread.Expr i) = f i
  of_others others = []

  abbrev pub of_statement : Statement → List ℕ
  of_statement statement.Item = []
  of_statement (statement.MacroDef def) = []
  of_statement (statement.Expr i semi) = f i
  of_statement (statement.Let p t e b) = of_some e ++ of_some b

  abbrev pub of_arms : List MatchArm → List ℕ
  of_arms [] = []
  of_arms (a ∷ arms) = (f a.expr ++ of_some a.guard) ++ of_arms arms

  abbrev pub of_statements : List Statement → List ℕ
  of_statements [] = []
  of_statements (s ∷ ss) = of_statement s ++ of_statements ss

  module _ (store : Store) where
    abbrev pub below : Expr → List ℕ
    below hir.Missing = []
    below (hir.Literal l) = []
    below (hir.Path p h) = []
    below (hir.Call g xs) = f g ++ of_each xs
    below (hir.If c t e) = f c ++ (f t ++ of_some e)
    below (hir.Loop b l source) = f b
    below (hir.Block is_unsafe l number ss tail) = of_statements ss ++ of_some tail
    below (hir.Break l e) = of_some e
    below (hir.Continue l) = []
    below hir.Underscore = []
    below hir.IncludeBytes = []
    below (hir.Field e name) = f e
    below (hir.UnaryOp op e) = f e
    below (hir.Ref rawness mutability e) = f e
    below (hir.Await e) = f e
    below (hir.Become e) = f e
    below (hir.BinaryOp op a b) = f a ++ f b
    below (hir.Index a b) = f a ++ f b
    below (hir.Tuple es) = of_each es
    below (hir.Array (array.ElementList es)) = of_each es
    -- the length is a body by itself, and so is what is in a const block
    below (hir.Array (array.Repeat e c)) = f e
    below (hir.Const c) = []
    -- what is in a closure or in a coroutine block runs by itself, later
    below (hir.Closure args types ret body kind capture) = []
    below (hir.MethodCall e name generics es) = f e ++ of_each es
    below (hir.Cast e t) = f e
    below (hir.RecordLit p fields others) = of_fields fields ++ of_others others
    below (hir.OffsetOf t names) = []
    below (hir.Return e) = of_some e
    below (hir.Yeet e) = of_some e
    below (hir.Yield e) = of_some e
    below (hir.Let p e) = f e
    below (hir.Match e arms) = f e ++ of_arms arms
    below (hir.Assignment t v) = of_each (places store t []) ++ f v

    abbrev pub below_found : Option Expr → List ℕ
    below_found None = []
    below_found (Some e) = below e

-- so deep
unfoldable pub reached_to : Store → ℕ → ExprId → List ℕ
reached_to store zero i = []
reached_to store (suc depth) i = i.0 ∷ below_found (reached_to store depth) store (slice_get store.exprs i.0)

-- each in one way, and in a range

abbrev pub Distinct : List ℕ → Type 0
Distinct [] = Unit {0}
Distinct (k ∷ ks) = Each (λ j. k ≢ j) ks × Distinct ks

abbrev pub Between : ℕ → ℕ → ℕ → Type 0
Between lo hi k = (lo ≤ k) × (k < hi)

pub record Spread (lo hi : ℕ) (ks : List ℕ) : Type 0 where
  pub within : Each (Between lo hi) ks
  pub distinct : Distinct ks

-- However deep one looks, each number that the body reaches is reached in one way, so none reaches itself, and is one of
-- those that its lowering gave out.
abbrev pub ReachedOnce : Type 0
ReachedOnce = InLaterStores (λ e b i b' final.
    (depth : ℕ) → length final.exprs.entries ≤ depth
    → Spread (length b.stored.exprs.entries) (length b'.stored.exprs.entries) (reached_to (store_of final) depth i))
