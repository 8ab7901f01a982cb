-- Where nodes lead, behind where they led; and that no arena gets shorter.
use Rattle.std.specs.Prelude.{◌≡◌, ◌≤◌, ◌⊎◌, ℕ, List, length, Ok, Option, Some}
use Rattle.hir_store.specs.Arenas.{Prefix, Sourced}
use Rattle.hir_store.specs.Pointers.{Pointer, value_at}
use Rattle.hir_store.specs.Stored.{Stored}
use Rattle.hir_store.specs.declared.ids.ExprId.{ExprId}
use Rattle.hir_store.specs.declared.ids.LabelId.{LabelId}
use Rattle.hir_store.specs.declared.ids.LifetimeRefId.{LifetimeRefId}
use Rattle.hir_store.specs.declared.ids.PatId.{PatId}
use Rattle.hir_store.specs.declared.ids.TypeRefId.{TypeRefId}
use Rattle.hir_env.specs.ResolvedTree.{Binder, OptionExpr, OptionPat, OptionPath, Target, Type_}
use Rattle.hir_lower_builder.specs.Builder.{Builder}
use Rattle.hir_lower_builder.specs.Lower.{lower_part, lower_path, lower_target, lower_top, lower_type}
use Rattle.hir_lower_builder.specs.Lowering.{Checked, Lowering}
use Rattle.thm_body_result.specs.Theorems.{MayBeOwned}

-- a node that led somewhere leads there still, or to an entry from number `n` on
abbrev pub LeadsOn : {I : Type 0} → (I → ℕ) → ℕ → List (Pointer × I) → List (Pointer × I) → Type 0
LeadsOn {I = I} place n old new =
    (p : Pointer) (t : I) → value_at old p ≡ Some t → (u : I) × ((value_at new p ≡ Some u) × ((u ≡ t) ⊎ (n ≤ place u)))

-- an arena that gets no shorter, whose nodes lead on
pub record Onward {E I : Type 0} (place : I → ℕ) (a b : Sourced E I) : Type 0 where
  pub grown : length a.entries ≤ length b.entries
  pub mappings : LeadsOn place (length a.entries) a.map b.map

abbrev pub expr_place : ExprId → ℕ
expr_place i = i.0

abbrev pub label_place : LabelId → ℕ
label_place n = n.0

abbrev pub pat_place : PatId → ℕ
pat_place p = p.0

abbrev pub type_place : TypeRefId → ℕ
type_place i = i.0

abbrev pub lifetime_place : LifetimeRefId → ℕ
lifetime_place i = i.0

-- what owns bindings stays, and it is stored of each that came too
abbrev pub OwnersStay : Stored → Stored → Type 0
OwnersStay a b = MayBeOwned a → Prefix a.bindings.owners b.bindings.owners × MayBeOwned b

pub record Went (a b : Stored) : Type 0 where
  pub exprs : Onward expr_place a.exprs b.exprs
  pub labels : Onward label_place a.labels b.labels
  pub pats : Onward pat_place a.pats b.pats
  -- so do the nodes of the assignee expression
  pub targets : LeadsOn pat_place (length a.pats.entries) a.target_map b.target_map
  pub types : Onward type_place a.types b.types
  pub lifetimes : Onward lifetime_place a.lifetimes b.lifetimes
  pub bindings : Prefix a.bindings.entries b.bindings.entries
  pub owners : OwnersStay a b

-- theorems: whether steps answer or not, and what they answer came since

abbrev pub Leads : {A : Type 0} → (A → Stored → Type 0) → Lowering A → Type 0
Leads {A = A} came p = (old new : Builder) (o : Checked A) → p old ≡ (o, new)
    → Went old.stored new.stored × ((a : A) → o ≡ Ok a → came a old.stored)

abbrev pub ExprsLead : Type 0
ExprsLead = (e : OptionExpr) → Leads (λ i old. length old.exprs.entries ≤ i.0) (lower_part e)

abbrev pub TypesLead : Type 0
TypesLead = (b : Option Binder) (t : Type_) → Leads (λ i old. length old.types.entries ≤ i.0) (lower_type b t)

abbrev pub TargetsLead : Type 0
TargetsLead = (t : Target) → Leads (λ i old. length old.pats.entries ≤ i.0) (lower_target t)

abbrev pub PatsLead : Type 0
PatsLead = (p : OptionPat) → Leads (λ i old. Unit {0}) (lower_top p)

abbrev pub PathsLead : Type 0
PathsLead = (p : OptionPath) → Leads (λ r old. Unit {0}) (lower_path p)
