-- What stands for one node, given what stands for its parts: a node over none, one, two or three parts, a record, a list, a path, a
-- literal, a range and what is in a label; and a pattern over its parts.
use Rattle.std.specs.Prelude.{◌≡◌, ℕ, Bool, true, false, List, [], ◌∷◌, ◌++◌, Option, Some, None, option_to_list, slice_get}
use Rattle.hir_base.specs.declared.op.RangeOp.{RangeOp}
use Rattle.hir_syntax.specs.declared.ast.Literal.{Literal as AstLiteral}
use Rattle.hir_store.specs.Pointers.{Pointer}
use Rattle.hir_store.specs.Stored.{Store, SourceMap}
use Rattle.hir_store.specs.declared.hir.Array.TheVariants as array
use Rattle.hir_store.specs.declared.hir.Expr.{Expr as HirExpr}
use Rattle.hir_store.specs.declared.hir.Expr.TheVariants as hir
use Rattle.hir_store.specs.declared.hir.Literal.{Literal}
use Rattle.hir_store.specs.declared.hir.RecordLitField.{RecordLitField}
use Rattle.hir_store.specs.declared.hir.RecordSpread.{RecordSpread}
use Rattle.hir_store.specs.declared.hir.RecordSpread.TheVariants as spread
use Rattle.hir_store.specs.declared.pat.Pat.{Pat as HirPat}
use Rattle.hir_store.specs.declared.pat.Pat.TheVariants as pat
use Rattle.hir_store.specs.declared.name.Name.{Name}
use Rattle.hir_store.specs.declared.name.Name.TheVariants as name
use Rattle.hir_store.specs.declared.path.Path.{Path}
use Rattle.hir_store.specs.declared.path.Path.TheVariants.{LangItem}
use Rattle.hir_store.specs.declared.ids.ExprId.{ExprId}
use Rattle.hir_store.specs.declared.ids.LabelId.{LabelId}
use Rattle.hir_store.specs.declared.ids.LangItemId.{LangItemId}
use Rattle.hir_store.specs.declared.ids.HygieneId.{HygieneId}
use Rattle.hir_store.specs.declared.ids.PatId.{PatId}
use Rattle.hir_env.specs.ResolvedTree as tree
use Rattle.hir_env.specs.ResolvedTree.{Listing, Label, RangeForm, Signed}
use Rattle.spec_data.specs.Data.{PathData}
use Rattle.spec_data.specs.Reading.{stored_path}
use Rattle.spec_data.specs.Written.{signed_data}
use Rattle.spec_data.specs.Lookup.{lookup_hygiene}
use Rattle.spec_semantics.specs.Data.{literal_data, literal_read}
use Rattle.thm_body_result.specs.Forms.{item_or_missing, no_macro, path_of_name, range_fields}
use Rattle.thm_body_result.specs.Leads.{Mappings, OneMapping, OneUnled, OneLabelMapping, ◌&◌}
use Rattle.thm_body_result.specs.CorrespondsParts.{ExprAt, LabelAt, Open, opened, Absent, There, ReadsAs, BehindFront}

module _ (store : Store) (source_map : SourceMap) where
  abbrev pub CorrespondsMissing : ExprId → Mappings
  CorrespondsMissing i = λ ws. ExprAt store source_map i hir.Missing None × OneUnled i ws

  -- a form that names no part
  abbrev pub CorrespondsAlone : HirExpr → Pointer → ExprId → Mappings
  CorrespondsAlone e at i = λ ws. ExprAt store source_map i e (Some at) × OneMapping at i ws

  -- a node over one part, and over two, of the form that is made of their numbers
  abbrev pub CorrespondsOver : {A : Type 0} → (A → HirExpr) → Pointer → (A → Mappings) → ExprId → Mappings
  CorrespondsOver {A = A} form at S i = λ ws. (part : A) × ExprAt store source_map i (form part) (Some at) × (S part & OneMapping at i) ws

  abbrev pub CorrespondsOverTwo : {A B : Type 0} → (A → B → HirExpr) → Pointer → (A → Mappings) → (B → Mappings) → ExprId → Mappings
  CorrespondsOverTwo {A = A} {B = B} form at S T i = λ ws.
      (one : A) × (other : B) × ExprAt store source_map i (form one other) (Some at) × (S one & T other & OneMapping at i) ws

  abbrev pub CorrespondsOverThree : {A B C : Type 0} → (A → B → C → HirExpr) → Pointer → (A → Mappings) → (B → Mappings) → (C → Mappings)
      → ExprId → Mappings
  CorrespondsOverThree {A = A} {B = B} {C = C} form at S T U i = λ ws.
      (one : A) × (other : B) × (third : C) × ExprAt store source_map i (form one other third) (Some at)
      × (S one & T other & U third & OneMapping at i) ws

  -- of what is stored for a record: its fields, and what the others come from
  abbrev pub StoredRecord : Type 0
  StoredRecord = List RecordLitField × RecordSpread

  -- where the path is absent or refused it is missing, without a node
  abbrev pub CorrespondsRecord : Pointer → Option PathData → (StoredRecord → Mappings) → ExprId → Mappings
  CorrespondsRecord at None S i = CorrespondsMissing i
  CorrespondsRecord at (Some d) S i =
      CorrespondsOverTwo (λ path r. hir.RecordLit path r.0 r.1) at (ReadsAs (stored_path store source_map) d) S i

  -- in front of a tuple with a leading comma stands a missing element
  abbrev pub CorrespondsList : Pointer → Listing → (List ExprId → Mappings) → ExprId → Mappings
  CorrespondsList at (tree.tuple_of false) S i = CorrespondsOver hir.Tuple at S i
  CorrespondsList at (tree.tuple_of true) S i =
      CorrespondsOverTwo (λ elements front. hir.Tuple (front ∷ elements)) at S CorrespondsMissing i
  CorrespondsList at tree.array_of S i = CorrespondsOver (λ elements. hir.Array (array.ElementList elements)) at S i

  -- It is read as it was written. An absent or refused path is a missing expression.
  abbrev pub CorrespondsPath : Pointer → Option PathData → HygieneId → ExprId → Mappings
  CorrespondsPath at None h i = CorrespondsAlone hir.Missing at i
  CorrespondsPath at (Some p) h i = λ ws.
      (path : Path) × (stored_path store source_map path ≡ p) × CorrespondsAlone (hir.Path path (lookup_hygiene p h)) at i ws

  abbrev pub CorrespondsLiteral : Pointer → AstLiteral → ExprId → Mappings
  CorrespondsLiteral at l i =
      λ ws. (literal : Literal) × (literal_read literal ≡ literal_data l) × CorrespondsAlone (hir.Literal literal) at i ws

  -- inside the label, where there is one
  abbrev pub InLabel : Open → Option Label → (Open → Option LabelId → Mappings) → Mappings
  InLabel rs None S = S rs None
  InLabel rs (Some l) S = λ ws. (n : LabelId) × LabelAt store source_map n l × (OneLabelMapping l.pointer n & S (opened l n rs) (Some n)) ws

  -- an item of the language comes from no node
  abbrev pub CorrespondsItem : Option LangItemId → ExprId → Mappings
  CorrespondsItem item i = λ ws. ExprAt store source_map i (item_or_missing item) None × OneUnled i ws

  -- a range is a record of an item, or a call of one
  abbrev pub CorrespondsRange : Pointer → RangeForm → (Option ExprId → Mappings) → (Option ExprId → Mappings) → ExprId → Mappings
  CorrespondsRange at (tree.record_range item last) S T i =
      CorrespondsOverTwo (λ low high. hir.RecordLit (LangItem item) (range_fields last low high) spread.None) at S T i
  CorrespondsRange at (tree.call_range item) S T i =
      CorrespondsOverThree (λ low high callee. hir.Call callee (option_to_list low ++ option_to_list high)) at S T
      (λ f. CorrespondsItem item f) i
  CorrespondsRange at tree.itemless_range S T i = CorrespondsOverTwo (λ low high. hir.Missing) at S T i

  -- parts of patterns

  abbrev pub PatIs : PatId → HirPat → Type 0
  PatIs i p = slice_get store.pats i.0 ≡ Some p

  -- a literal with its minus
  abbrev pub CorrespondsSigned : Pointer → Signed → ExprId → Mappings
  CorrespondsSigned at l i =
      λ ws. (literal : Literal) × (literal_read literal ≡ signed_data l) × CorrespondsAlone (hir.Literal literal) at i ws

  abbrev pub CorrespondsSidePath : Pointer → PathData → ExprId → Mappings
  CorrespondsSidePath at d i =
      λ ws. (path : Path) × (stored_path store source_map path ≡ d) × CorrespondsAlone (hir.Path path no_macro) at i ws

  abbrev pub CorrespondsOneName : Pointer → Name → ExprId → Mappings
  CorrespondsOneName at n i = CorrespondsAlone (hir.Path (path_of_name n) no_macro) at i

  abbrev pub CorrespondsNameSide : Pointer → Name → Option ExprId → Mappings
  CorrespondsNameSide at name.Missing o = Absent o
  CorrespondsNameSide at n o = There (λ i. CorrespondsOneName at n i) o

  -- the parts of a tuple, or of what is called
  abbrev pub CorrespondsTuple : (Option ℕ → List PatId → HirPat) → Bool → (List PatId → Mappings) → PatId → Mappings
  CorrespondsTuple form comma S i = λ ws.
      (dots : Option ℕ) × (is : List PatId) × (others : List PatId) × PatIs i (form dots is) × BehindFront comma is others × S others ws

  -- one alternative is that pattern
  abbrev pub OrIs : List PatId → PatId → Type 0
  OrIs (j ∷ []) i = j ≡ i
  OrIs is i = PatIs i (pat.Or is)

  -- without its operator it is missing
  abbrev pub RangeIs : Option RangeOp → PatId → Option ExprId → Option ExprId → Type 0
  RangeIs None i low high = PatIs i pat.Missing
  RangeIs (Some op) i low high = PatIs i (pat.Range op low high)
