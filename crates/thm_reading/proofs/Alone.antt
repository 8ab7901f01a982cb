-- What it takes that two trees which the rules allow are the same: answers are one thing alone, and what follows from that.
use Rattle.std.proofs.Common.{◌≡◌, ◌∙◌, refl, sym, subst, Bool, true, false, List, Option, Some, None, Result, Ok, Err}
use Rattle.hir_syntax.specs.declared.ast.PathSegment.{PathSegment as AstPathSegment}
use Rattle.hir_store.specs.Names.{IsWritten}
use Rattle.hir_store.specs.Pointers.{Pointer}
use Rattle.hir_store.specs.declared.ids.BlockId.{BlockId}
use Rattle.hir_store.specs.declared.ids.ModuleId.{ModuleId}
use Rattle.hir_store.specs.declared.name.Name.{Name}
use Rattle.hir_store.specs.declared.name.Name.TheVariants as name
use Rattle.hir_env.specs.ResolvedTree as tree
use Rattle.hir_env.specs.ResolvedTree.{Called, Expr, Gone, IsWrittenLabel, Label, OptionExpr, OptionPath, OptionType, Segment, Segments}
use Rattle.hir_env.specs.ResolvedTree.{Stmts, Type_, Use}
use Rattle.hir_env.specs.Answers.{Answers, Expanding}
use Rattle.hir_env.specs.Calls.{around, around_if, spliced_last}
use Rattle.hir_env.specs.Layers.{BlockExprLayer, Defined, written}
use Rattle.hir_env.specs.PathNames.{mod_path_of}
use Rattle.hir_env.specs.declared.ctx.LowerCtx.{LowerCtx}
use Rattle.thm_reading.specs.LowerCtx as says
use Rattle.thm_reading.specs.LowerCtx.{CallAs, alias_here}
use Rattle.thm_reading.specs.Rules.{ContentsAs}
use Rattle.thm_reading.specs.Shapes as shape
use Rattle.thm_reading.specs.Shapes.{AroundAs, LastAs, Start, at_root}

-- pairs and triples

abbrev pub Two : {A B : Type 0} → A → B → A → B → Type 0
Two {A} {B} x y z w = ◌≡◌ {A = A × B} (x, y) (z, w)

abbrev pub Three : {A B C : Type 0} → A → B → C → A → B → C → Type 0
Three {A} {B} {C} x y z u v w = ◌≡◌ {A = A × (B × C)} (x, (y, z)) (u, (v, w))

-- answers that exclude each other

abbrev holds : Bool → Type 0
holds true = Unit {0}
holds false = ⊥

pub bool_clash : {A : Type 0} → false ≡ true → A
bool_clash e = absurd (coe 0 1 (i. holds (sym e i)) tt)

abbrev is_none : {X : Type 0} → Option X → Type 0
is_none None = Unit {0}
is_none (Some x) = ⊥

pub presence : {A X : Type 0} {x : X} → None ≡ Some x → A
presence e = absurd (coe 0 1 (i. is_none (e i)) tt)

abbrev is_ok : {X Y : Type 0} → Result X Y → Type 0
is_ok (Ok x) = Unit {0}
is_ok (Err y) = ⊥

pub ok_not_err : {A X Y : Type 0} {x : X} {y : Y} → Ok x ≡ Err y → A
ok_not_err e = absurd (coe 0 1 (i. is_ok (e i)) tt)

-- what an answer tells, or else what is handed in

abbrev pub some_of : {X : Type 0} → X → Option X → X
some_of d None = d
some_of d (Some x) = x

abbrev pub error_or : {X Y : Type 0} → Y → Result X Y → Y
error_or d (Ok x) = d
error_or d (Err y) = y

abbrev pub type_in : Type_ → OptionType → Type_
type_in d tree.no_type = d
type_in d (tree.some_type x) = x

pub numbers : (d : BlockId × ModuleId) {n m : BlockId × ModuleId} → Some n ≡ Some m → n ≡ m
numbers d e = λ i. some_of d (e i)

-- names and labels that a text has: that it has them is told in one way alone

one_written : (n : Name) (w v : IsWritten n) → w ≡ v
one_written (name.Text t) w v = refl
one_written name.Missing w v = refl
one_written (name.Generated k) w v = absurd w

one_written_label : (l : Option Label) (w v : IsWrittenLabel l) → w ≡ v
one_written_label None w v = refl
one_written_label (Some l) w v = one_written l.name w v

pub labels : {m n l : Option Label} (w : IsWrittenLabel m) (v : IsWrittenLabel n) → m ≡ l → n ≡ l
    → ◌≡◌ {A = (x : Option Label) × IsWrittenLabel x} (m, w) (n, v)
labels {m = m} w v e k = subst (λ x. (y : IsWrittenLabel x) → ◌≡◌ {A = (x : Option Label) × IsWrittenLabel x} (m, w) (x, y))
    (e ∙ sym k) (λ y i. (m, one_written_label m w y i)) v

pub uses : {m n l : Use} (w : IsWritten m.name) (v : IsWritten n.name) → m ≡ l → n ≡ l
    → ◌≡◌ {A = (x : Use) × IsWritten x.name} (m, w) (n, v)
uses {m = m} w v e k = subst (λ x. (y : IsWritten x.name) → ◌≡◌ {A = (x : Use) × IsWritten x.name} (m, w) (x, y))
    (e ∙ sym k) (λ y i. (m, one_written m.name w y i)) v

-- where a path begins

abbrev Same : Start → Start → Type 0
Same shape.as_written shape.as_written = Unit {0}
Same shape.lacking shape.lacking = Unit {0}
Same (shape.by_its_macro s) (shape.by_its_macro t) = Unit {0}
Same _ _ = ⊥

itself : (s : Start) → Same s s
itself shape.as_written = tt
itself shape.lacking = tt
itself (shape.by_its_macro s) = tt

pub starts : {A : Type 0} {s t : Start} → s ≡ t → (Same s t → ⊥) → A
starts {s = s} e h = absurd (h (subst (Same s) e (itself s)))

abbrev its_segment : AstPathSegment → Start → AstPathSegment
its_segment d (shape.by_its_macro s) = s
its_segment d _ = d

module _ (env : Answers) (p : LowerCtx) where
  pub path_as : (leading : Bool) {f g : Segment} {r q : Segments} {u v : OptionPath} {a b : Option (List Bool)}
      → Two f r g q → u ≡ v → a ≡ alias_here env p p.lifetimes (mod_path_of (tree.some_path (tree.path None leading f r u)))
      → b ≡ alias_here env p p.lifetimes (mod_path_of (tree.some_path (tree.path None leading g q v)))
      → tree.path a leading f r u ≡ tree.path b leading g q v
  path_as leading fr uu e k = λ i. tree.path ((e
      ∙ ((λ j. alias_here env p p.lifetimes (mod_path_of (tree.some_path (tree.path None leading (fr j).0 (fr j).1 (uu j))))) ∙ sym k)) i)
      leading (fr i).0 (fr i).1 (uu i)

  pub root_as : (leading : Bool) (s : AstPathSegment) {t : AstPathSegment} {f g : Segment} {r q : Segments} {u v : OptionPath}
      → shape.by_its_macro s ≡ shape.by_its_macro t → Two f r g q → u ≡ at_root env p s (tree.path None leading f r tree.no_path)
      → v ≡ at_root env p t (tree.path None leading g q tree.no_path) → u ≡ v
  root_as leading s st fr e k =
      e ∙ ((λ j. at_root env p (its_segment s (st j)) (tree.path None leading (fr j).0 (fr j).1 tree.no_path)) ∙ sym k)

  -- what is in a block, read in the module that is its
  pub moved : (b : BlockExprLayer written) {m n : ModuleId} {d : Defined} {xs : Stmts} {e : OptionExpr} {d1 : Defined} → m ≡ n
      → ContentsAs env (record p { module_id = n }) b.stmts b.tail d xs e d1
      → ContentsAs env (record p { module_id = m }) b.stmts b.tail d xs e d1
  moved b {d = d} {xs = xs} {e = e} {d1 = d1} same h =
      subst (λ m. ContentsAs env (record p { module_id = m }) b.stmts b.tail d xs e d1) (sym same) h

-- calls

pub one_called : {s : Pointer} {x : Option Expanding} {y z : Called} → CallAs s x y → CallAs s x z → y ≡ z
one_called says.too_deep says.too_deep = refl
one_called says.not_expanded says.not_expanded = refl
one_called says.not_found says.not_found = refl
one_called says.goes_in says.goes_in = refl

-- around what a call stands for there is what the reading makes of it
pub around_only : {s : Pointer} {y : Called} {e : OptionExpr} {x : Expr} → AroundAs s y e x → x ≡ around s y e
around_only shape.around_nothing = refl
around_only {s = s} {y = y} (shape.around_expr {e = e} h) = λ i. around_if (sym h i) s y (tree.some_expr e)
around_only {s = s} {y = y} (shape.around_gone {e = e} {why = why} h) = by y ∙ (λ i. around_if (sym h i) s y (tree.some_expr e))
  where
    by : (y : Called) → tree.disabled_expr (record { entered = shape.entered_too y why.entered; condition = why.condition })
        (tree.macro_expr s y (tree.some_expr e)) ≡ around_if (Some why) s y (tree.some_expr e)
    by (tree.entered c) = refl
    by tree.callless = refl
    by tree.unentered = refl
    by (tree.unresolved x z) = refl
    by tree.spliced = refl

pub last_only : {s : Pointer} {e x : OptionExpr} → LastAs s e x → x ≡ spliced_last s e
last_only shape.no_last = refl
last_only (shape.some_last h) = λ i. tree.some_expr (around_only h i)
