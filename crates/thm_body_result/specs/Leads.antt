-- Where the source map leads from a written node, and what owns each binding.
use Rattle.std.specs.Prelude.{◌≡◌, ◌≤◌, ◌<◌, ◌⊎◌, ℕ, suc, Bool, if◌then◌else◌, List, [], ◌∷◌, ◌++◌, map, Option, Some, None, Contains}
use Rattle.std.specs.Prelude.{slice_get}
use Rattle.hir_store.specs.Bindings.{owned_else}
use Rattle.hir_store.specs.Pointers.{Pointer, value_at, same_pointer}
use Rattle.hir_store.specs.FirstMap.{found_by}
use Rattle.hir_store.specs.StoreSink.{same_expr, same_pat}
use Rattle.hir_store.specs.Stored.{SourceMap}
use Rattle.hir_store.specs.declared.ids.BindingId.{BindingId}
use Rattle.hir_store.specs.declared.ids.ExprId.{ExprId}
use Rattle.hir_store.specs.declared.ids.LabelId.{LabelId}
use Rattle.hir_store.specs.declared.ids.PatId.{PatId}

-- a written node, and the number of what it became; or the number of what is missing, of what is called for a range, of what is
-- in the loop that a `while` became, of the block in a coroutine, of the coroutine of a closure or a function and what is read in front
-- of its body, or of what is made up for the condition of a `while`, a `for`, a `?` or a `try`, to which no node leads
pub data Mapping : Type 0 where
  expr_mapping : Pointer → ExprId → Mapping
  label_mapping : Pointer → LabelId → Mapping
  unled_mapping : ExprId → Mapping
  -- the value of a record's field, and the node of the field
  field_mapping : ExprId → Pointer → Mapping
  -- the same in a pattern
  pat_field_mapping : PatId → Pointer → Mapping
  -- the binding of a name, where that is used first, or is made up, and what owns it, where something does
  binding_mapping : BindingId → Option ExprId → Mapping

-- how many of them are those of labels
abbrev pub label_mappings : List Mapping → ℕ
label_mappings [] = 0
label_mappings (expr_mapping p i ∷ ws) = label_mappings ws
label_mappings (label_mapping p n ∷ ws) = suc (label_mappings ws)
label_mappings (unled_mapping i ∷ ws) = label_mappings ws
label_mappings (field_mapping i p ∷ ws) = label_mappings ws
label_mappings (pat_field_mapping i p ∷ ws) = label_mappings ws
label_mappings (binding_mapping b o ∷ ws) = label_mappings ws

-- Each expression from one number on and below another is the end of one of these ways, so none is stored besides.
abbrev pub Covers : List Mapping → ℕ → ℕ → Type 0
Covers ws from to = (i : ExprId) → from ≤ i.0 → i.0 < to → ((p : Pointer) × Contains ws (expr_mapping p i)) ⊎ Contains ws (unled_mapping i)

-- Each label from one number on and below another is the end of one of these ways.
abbrev pub CoversLabels : List Mapping → ℕ → ℕ → Type 0
CoversLabels ws from to = (n : LabelId) → from ≤ n.0 → n.0 < to → (p : Pointer) × Contains ws (label_mapping p n)

-- Each binding from one number on and below another is the end of one of these ways.
abbrev pub CoversBindings : List Mapping → ℕ → ℕ → Type 0
CoversBindings ws from to = (b : BindingId) → from ≤ b.0 → b.0 < to → (o : Option ExprId) × Contains ws (binding_mapping b o)

-- What owns the binding at the end of each of these ways is what the way says, and so it is where nothing does.
abbrev pub OwnersAre : List (Option ExprId) → List Mapping → Type 0
OwnersAre owners ws = (b : BindingId) (o : Option ExprId) → Contains ws (binding_mapping b o) → slice_get owners b.0 ≡ Some o

-- At the node of each of these ways that begins at one something is found, and what is found anywhere is the end of one of
-- these ways from there. So where one way alone begins at a node, its own end is found.
pub record Leads {T : Type 0} (entries : List (Pointer × T)) (mapping : Pointer → T → Mapping) (mappings : List Mapping) : Type 0 where
  pub each : (p : Pointer) (t : T) → Contains mappings (mapping p t) → (u : T) × (value_at entries p ≡ Some u)
  pub only : (p : Pointer) (t : T) → value_at entries p ≡ Some t → Contains mappings (mapping p t)

-- in the same sense, from the values of fields to the nodes of the fields
pub record FieldsLead {I : Type 0} (same : I → I → Bool) (entries : List (I × Pointer)) (mapping : I → Pointer → Mapping)
    (mappings : List Mapping)
    : Type 0 where
  pub each : (i : I) (p : Pointer) → Contains mappings (mapping i p) → (q : Pointer) × (found_by same entries i ≡ Some q)
  pub only : (i : I) (p : Pointer) → found_by same entries i ≡ Some p → Contains mappings (mapping i p)

pub record MapLeads (map : SourceMap) (mappings : List Mapping) : Type 0 where
  pub exprs : Leads map.expr_map expr_mapping mappings
  pub labels : Leads map.label_map label_mapping mappings
  pub fields : FieldsLead same_expr map.field_map_back field_mapping mappings
  pub pat_fields : FieldsLead same_pat map.pat_field_map_back pat_field_mapping mappings

-- where it led by some ways, it leads by those and these
abbrev pub Led : SourceMap → SourceMap → List Mapping → Type 0
Led old new mappings = (before : List Mapping) → MapLeads old before → MapLeads new (before ++ mappings)

-- What a node leads to came from it, where the node isn't that of one of these calls, and a node that something came from leads to it, or
-- to what came later.
pub record LeadBack {I : Type 0} (place : I → ℕ) (entries : List (Pointer × I)) (sources : List (Option Pointer)) (calls : List Pointer)
    : Type 0 where
  pub to_source : (p : Pointer) (i : I) → value_at entries p ≡ Some i → (slice_get sources (place i) ≡ Some (Some p)) ⊎ Contains calls p
  pub to_entry : (n : ℕ) (p : Pointer) → slice_get sources n ≡ Some (Some p) → (i : I) × (value_at entries p ≡ Some i) × (n ≤ place i)

-- what the ways of a tree are

abbrev pub Mappings : Type 1
Mappings = List Mapping → Type 0

abbrev pub No : Mappings
No = λ ws. ws ≡ []

abbrev pub OneMapping : Pointer → ExprId → Mappings
OneMapping p i = λ ws. ws ≡ expr_mapping p i ∷ []

abbrev pub OneUnled : ExprId → Mappings
OneUnled i = λ ws. ws ≡ unled_mapping i ∷ []

abbrev pub OneLabelMapping : Pointer → LabelId → Mappings
OneLabelMapping p n = λ ws. ws ≡ label_mapping p n ∷ []

abbrev pub OneFieldMapping : ExprId → Pointer → Mappings
OneFieldMapping i p = λ ws. ws ≡ field_mapping i p ∷ []

abbrev pub OnePatFieldMapping : PatId → Pointer → Mappings
OnePatFieldMapping i p = λ ws. ws ≡ pat_field_mapping i p ∷ []

-- one that nothing owns where it is made
abbrev pub OneBindingMapping : BindingId → Mappings
OneBindingMapping b = λ ws. ws ≡ binding_mapping b None ∷ []

-- What a way is where this expression owns each binding that nothing in it owns.
abbrev pub owned_mapping : ExprId → Mapping → Mapping
owned_mapping i (binding_mapping b o) = binding_mapping b (owned_else i o)
owned_mapping i w = w

abbrev pub OwnedBy : ExprId → Mappings → Mappings
OwnedBy i W = λ ws. (vs : List Mapping) × (ws ≡ map (owned_mapping i) vs) × W vs

-- What a way is where something more came from this node: one that began there leads nowhere now.
abbrev pub mapping_after : Pointer → Mapping → Mapping
mapping_after p (expr_mapping q i) = if same_pointer p q then unled_mapping i else expr_mapping q i
mapping_after p w = w

abbrev pub Overtaken : Pointer → Mappings → Mappings
Overtaken p W = λ ws. (vs : List Mapping) × (ws ≡ map (mapping_after p) vs) × W vs

-- those of the one, and those of the other
pub record Appended (P Q : Mappings) (ws : List Mapping) : Type 0 where
  pub left : List Mapping
  pub right : List Mapping
  pub is : ws ≡ left ++ right
  pub first : P left
  pub second : Q right

infixr 5 ◌&◌
abbrev pub ◌&◌ : Mappings → Mappings → Mappings
P & Q = Appended P Q
