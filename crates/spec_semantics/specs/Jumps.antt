-- That each labelled jump that a stored body reaches names a loop or a block around it.
use Rattle.std.specs.Prelude.{◌≡◌, ◌⊎◌, ℕ, zero, suc, length, map, List, [], ◌∷◌, Option, Some, None, slice_get}
use Rattle.hir_store.specs.declared.hir.Expr.{Expr}
use Rattle.hir_store.specs.declared.hir.Array.TheVariants as array
use Rattle.hir_store.specs.declared.hir.Expr.TheVariants as hir
use Rattle.hir_store.specs.Stored.{Store}
use Rattle.hir_store.specs.declared.hir.MatchArm.{MatchArm}
use Rattle.hir_store.specs.declared.hir.Statement.{Statement}
use Rattle.hir_store.specs.declared.hir.Statement.TheVariants as statement
use Rattle.hir_store.specs.declared.hir.RecordSpread.{RecordSpread}
use Rattle.hir_store.specs.declared.hir.RecordSpread.TheVariants as spread
use Rattle.hir_store.specs.declared.ids.ExprId.{ExprId}
use Rattle.hir_store.specs.declared.ids.LabelId.{LabelId}
use Rattle.hir_lower_scope.specs.Each.{Each, IfPresent}
use Rattle.spec_semantics.specs.Places.{places}

-- a number among others
abbrev pub Among : List LabelId → LabelId → Type 0
Among [] n = ⊥
Among (l ∷ ls) n = (l ≡ n) ⊎ Among ls n

abbrev pub NamesAmong : List LabelId → Option LabelId → Type 0
NamesAmong ls None = Unit {0}
NamesAmong ls (Some n) = Among ls n

abbrev pub and_label : Option LabelId → List LabelId → List LabelId
and_label None ls = ls
and_label (Some n) ls = n ∷ ls

abbrev pub EachStatement : (ExprId → Type 0) → List Statement → Type 0
EachStatement P [] = Unit {0}
EachStatement P (statement.Item ∷ ss) = EachStatement P ss
EachStatement P (statement.MacroDef def ∷ ss) = EachStatement P ss
EachStatement P (statement.Expr i semi ∷ ss) = P i × EachStatement P ss
EachStatement P (statement.Let p t e b ∷ ss) = IfPresent P e × IfPresent P b × EachStatement P ss

abbrev pub EachArm : (ExprId → Type 0) → List MatchArm → Type 0
EachArm P [] = Unit {0}
EachArm P (a ∷ arms) = IfPresent P a.guard × P a.expr × EachArm P arms

abbrev pub OthersEnclosed : (ExprId → Type 0) → RecordSpread → Type 0
OthersEnclosed P (spread.Expr i) = P i
OthersEnclosed P others = Unit {0}

-- The jumps of a node and of its parts name what encloses them; `ls` are the numbers around the node.
module _ (store : Store) (Part : List LabelId → ExprId → Type 0) (ls : List LabelId) where
  abbrev pub StoredEnclosed : Expr → Type 0
  StoredEnclosed hir.Missing = Unit {0}
  StoredEnclosed (hir.Literal l) = Unit {0}
  StoredEnclosed (hir.Path p h) = Unit {0}
  StoredEnclosed (hir.Call f xs) = Part ls f × Each (Part ls) xs
  StoredEnclosed (hir.If c t e) = Part ls c × Part ls t × IfPresent (Part ls) e
  StoredEnclosed (hir.Loop b l source) = Part (and_label l ls) b
  StoredEnclosed (hir.Block is_unsafe l number ss tail) = EachStatement (Part (and_label l ls)) ss × IfPresent (Part (and_label l ls)) tail
  StoredEnclosed (hir.Break l e) = NamesAmong ls l × IfPresent (Part ls) e
  StoredEnclosed (hir.Continue l) = NamesAmong ls l
  StoredEnclosed hir.Underscore = Unit {0}
  StoredEnclosed hir.IncludeBytes = Unit {0}
  StoredEnclosed (hir.Field e name) = Part ls e
  StoredEnclosed (hir.UnaryOp op e) = Part ls e
  StoredEnclosed (hir.Ref rawness mutability e) = Part ls e
  StoredEnclosed (hir.Await e) = Part ls e
  StoredEnclosed (hir.Become e) = Part ls e
  StoredEnclosed (hir.BinaryOp op a b) = Part ls a × Part ls b
  StoredEnclosed (hir.Index a b) = Part ls a × Part ls b
  StoredEnclosed (hir.Tuple es) = Each (Part ls) es
  StoredEnclosed (hir.Array (array.ElementList es)) = Each (Part ls) es
  StoredEnclosed (hir.Array (array.Repeat e c)) = Part ls e
  StoredEnclosed (hir.Const c) = Unit {0}
  StoredEnclosed (hir.Closure args types ret body kind capture) = Unit {0}
  StoredEnclosed (hir.MethodCall e name generics es) = Part ls e × Each (Part ls) es
  StoredEnclosed (hir.Cast e t) = Part ls e
  StoredEnclosed (hir.RecordLit p fields others) = Each (Part ls) (map (λ f. f.expr) fields) × OthersEnclosed (Part ls) others
  StoredEnclosed (hir.OffsetOf t names) = Unit {0}
  StoredEnclosed (hir.Return e) = IfPresent (Part ls) e
  StoredEnclosed (hir.Yeet e) = IfPresent (Part ls) e
  StoredEnclosed (hir.Yield e) = IfPresent (Part ls) e
  StoredEnclosed (hir.Let p e) = Part ls e
  StoredEnclosed (hir.Match e arms) = Part ls e × EachArm (Part ls) arms
  StoredEnclosed (hir.Assignment t v) = Part ls v × Each (Part ls) (places store t [])

  abbrev pub FoundEnclosed : Option Expr → Type 0
  FoundEnclosed None = Unit {0}
  FoundEnclosed (Some e) = StoredEnclosed e

module _ (store : Store) where
  unfoldable pub EnclosedTo : ℕ → List LabelId → ExprId → Type 0
  EnclosedTo zero ls i = Unit {0}
  EnclosedTo (suc depth) ls i = FoundEnclosed store (EnclosedTo depth) ls (slice_get store.exprs i.0)

  -- around the body itself stands nothing
  unfoldable pub Enclosed : ExprId → Type 0
  Enclosed i = EnclosedTo (length store.exprs) [] i
