-- Where something stands in a store; and what stands for parts that may be absent, that are read as far as something is, or that have
-- names.
use Rattle.std.specs.Prelude.{◌≡◌, Bool, true, false, List, ◌∷◌, Option, Some, None, slice_get}
use Rattle.hir_store.specs.Pointers.{Pointer}
use Rattle.hir_store.specs.Stored.{Store, SourceMap}
use Rattle.hir_store.specs.declared.hir.Expr.{Expr as HirExpr}
use Rattle.hir_store.specs.declared.ids.BindingId.{BindingId}
use Rattle.hir_store.specs.declared.ids.ExprId.{ExprId}
use Rattle.hir_store.specs.declared.ids.LabelId.{LabelId}
use Rattle.hir_store.specs.declared.ids.PatId.{PatId}
use Rattle.hir_store.specs.declared.type_ref.ConstRef.{ConstRef}
use Rattle.hir_lower_scope.specs.ScopeRibs.{Rib, label_rib}
use Rattle.hir_env.specs.ResolvedTree.{Label, Use}
use Rattle.spec_data.specs.Data.{PathData}
use Rattle.spec_data.specs.Uses.{FirstUses, number_of}
use Rattle.thm_logic.specs.PathSeen.{Seen, Read, goes_on}
use Rattle.thm_logic.specs.PatNames.{is_known}
use Rattle.thm_body_result.specs.Leads.{Mappings, No, OneBindingMapping, ◌&◌}

-- the numbers of the labels that are open, innermost first
abbrev pub Open : Type 0
Open = List (Rib LabelId)

abbrev pub opened : Label → LabelId → Open → Open
opened l n rs = label_rib l.name l.hygiene n ∷ rs

module _ (store : Store) (source_map : SourceMap) where
  -- the expression of this number, and the node that it came from
  pub record ExprAt (i : ExprId) (e : HirExpr) (from : Option Pointer) : Type 0 where
    pub stored : slice_get store.exprs i.0 ≡ Some e
    pub source : slice_get source_map.expr_sources i.0 ≡ Some from

  -- the label of this number has the name of the written one and came from it
  pub record LabelAt (n : LabelId) (l : Label) : Type 0 where
    pub stored : slice_get store.labels n.0 ≡ Some (record { name = l.name })
    pub source : slice_get source_map.label_sources n.0 ≡ Some (Some l.pointer)

-- parts that may be absent in the store too

abbrev pub Absent : {A : Type 0} → Option A → Mappings
Absent o = λ ws. (o ≡ None) × No ws

abbrev pub There : {A : Type 0} → (A → Mappings) → Option A → Mappings
There {A = A} S o = λ ws. (a : A) × (o ≡ Some a) × S a ws

abbrev pub ThereIf : {A : Type 0} → Bool → (A → Mappings) → Option A → Mappings
ThereIf true S o = There S o
ThereIf false S o = Absent o

-- a part that is no expression: it reads back as this
abbrev pub ReadsAs : {A D : Type 0} → (A → D) → D → A → Mappings
ReadsAs read d a = λ ws. (read a ≡ d) × No ws

-- of some expression, whatever its number
abbrev pub SomeExpr : (ExprId → Mappings) → Mappings
SomeExpr S = λ ws. (i : ExprId) × S i ws

-- of some constant
abbrev pub SomeConst : (ConstRef → Mappings) → Mappings
SomeConst S = λ ws. (n : ConstRef) × S n ws

-- what stands before is read where the reading goes on
abbrev pub WhereOn : Read → (Seen → Mappings) → Mappings
WhereOn (goes_on x) W = W x
WhereOn read W = No

abbrev pub Unless : Bool → Mappings → Mappings
Unless true W = No
Unless false W = W

-- one part before others, or none where two dots stand
abbrev pub CorrespondsBefore : {A : Type 0} → Bool → (A → Mappings) → (List A → Mappings) → List A → Mappings
CorrespondsBefore true S T is = T is
CorrespondsBefore {A = A} false S T is = λ ws. (i : A) × (others : List A) × (is ≡ i ∷ others) × (S i & T others) ws

-- what is so where the path is read, and where it isn't
abbrev pub WherePath : Option PathData → (PathData → Mappings) → Mappings → Mappings
WherePath None S T = T
WherePath (Some d) S T = S d

-- in front of parts with a leading comma stands one that is missing
abbrev pub BehindFront : Bool → List PatId → List PatId → Type 0
BehindFront false is others = is ≡ others
BehindFront true is others = (front : PatId) × (is ≡ front ∷ others)

-- the names of a top pattern have these bindings, in the order of their first uses
abbrev pub Names : Type 0
Names = List BindingId

-- where a name is used first, its binding is new
abbrev pub NewName : Bool → BindingId → Mappings
NewName true b = No
NewName false b = OneBindingMapping b

abbrev pub CorrespondsName : Names → FirstUses → Use → BindingId → Mappings
CorrespondsName ks us u b = λ ws. (slice_get ks (number_of us u) ≡ Some b) × NewName (is_known us u) b ws
