-- When two keys of a table are one, and which of its entries is answered.
use Rattle.std.specs.Prelude.{◌≡◌, ◌&&◌, ℕ, nat_eq, Bool, true, false, List, [], ◌∷◌, Option, Some, None, if◌then◌else◌, unwrap_or}
use Rattle.std.specs.Ordering.{eq_by_cmp}
use lib.Pointwise.{pointwise}
use Rattle.hir_alias.specs.Alias.{Alias}
use Rattle.hir_env.specs.NodeMap.{Site}
use Rattle.hir_env.specs.declared.resolved.Resolved.{Resolved}
use Rattle.hir_env.specs.declared.resolved.BuiltinShadowMode.{BuiltinShadowMode}
use Rattle.hir_store.specs.NameOrder.{name_cmp, path_cmp}
use Rattle.hir_store.specs.Names.{same_name}
use Rattle.hir_store.specs.declared.ids.MacroDefId.{MacroDefId}
use Rattle.hir_store.specs.declared.ids.ModuleId.{ModuleId}
use Rattle.hir_store.specs.declared.ids.TypeAliasId.{TypeAliasId}
use Rattle.hir_store.specs.declared.name.Name.{Name}
use Rattle.hir_store.specs.declared.path.ModPath.{ModPath}
use Rattle.hir_store.specs.declared.path.PathKind.{PathKind}
use Rattle.hir_store.specs.declared.path.PathKind.TheVariants as kind
use Rattle.hir_tables.specs.Tables.{Tables, answers_of, place, place_cmp, site_value, with_first, with_path}
use Rattle.hir_tables.specs.Tables.{alias_found, with_alias, definition_found, with_definition, legacy_found, with_legacy}
use Rattle.hir_tables.specs.declared.table.MacroAnswer.{MacroAnswer}

-- paths are the same where they begin alike, and their names are the same one by one
abbrev pub same_kind : PathKind → PathKind → Bool
same_kind kind.Plain kind.Plain = true
same_kind (kind.Super a) (kind.Super b) = nat_eq a b
same_kind kind.Crate kind.Crate = true
same_kind kind.Abs kind.Abs = true
same_kind (kind.DollarCrate a) (kind.DollarCrate b) = nat_eq a.0 b.0
same_kind _ _ = false

abbrev pub same_path : ModPath → ModPath → Bool
same_path a b = same_kind a.kind b.kind && pointwise same_name a.segments b.segments

-- nodes are the same where they have one number in one file
abbrev pub same_node : Site → Site → Bool
same_node a b = nat_eq a.file_id.0 b.file_id.0 && nat_eq a.value.0 b.value.0

-- neither of two keys stands in front of the other exactly where they are the same
abbrev pub PathsAsKeys : Type 0
PathsAsKeys = (a b : ModPath) → eq_by_cmp path_cmp a b ≡ same_path a b

-- and these are one value
abbrev pub SamePathsAreOne : Type 0
SamePathsAreOne = (a b : ModPath) → same_path a b ≡ true → a ≡ b

abbrev pub NamesAsKeys : Type 0
NamesAsKeys = (a b : Name) → eq_by_cmp name_cmp a b ≡ same_name a b

abbrev pub PlacesAsKeys : Type 0
PlacesAsKeys = (a b : Site) → eq_by_cmp place_cmp (place a) (place b) ≡ same_node a b

-- what was said before counts, and else what is said now, where that is of the same
abbrev pub said : {T : Type 0} → Option T → Bool → T → Option T
said (Some before) same now = Some before
said None true now = Some now
said None false now = None

abbrev pub FirstOfCall : Type 0
FirstOfCall = (es : List ((ℕ × ℕ) × MacroAnswer)) (a b : Site) (answer : MacroAnswer)
    → site_value (with_first es a answer) b ≡ said (site_value es b) (same_node b a) answer

abbrev pub FirstOfAlias : Type 0
FirstOfAlias = (es : List (ℕ × Alias)) (i j : TypeAliasId) (a : Alias)
    → alias_found (with_alias es i a) j ≡ said (alias_found es j) (nat_eq j.0 i.0) a

abbrev pub FirstOfDefinition : Type 0
FirstOfDefinition = (es : List (Name × List (ℕ × MacroDefId))) (i j : ModuleId) (a b : Name) (d : MacroDefId)
    → definition_found (with_definition es i a d) j b ≡ said (definition_found es j b) (same_name b a && nat_eq j.0 i.0) d

abbrev pub FirstOfLegacy : Type 0
FirstOfLegacy = (es : List (Name × List ((ℕ × ℕ) × MacroDefId))) (i j : ModuleId) (a b : Name) (k l : ℕ) (d : MacroDefId)
    → legacy_found (with_legacy es i a k d) j b l ≡ said (legacy_found es j b l) (same_name b a && (nat_eq j.0 i.0 && nat_eq l k)) d

-- an entry of a path: that in this module the path stands for this
pub record PathEntry : Type 0 where
  pub inside : ModuleId
  pub path : ModPath
  pub resolved : Resolved

abbrev pub is_of : ModuleId → ModPath → PathEntry → Bool
is_of inside p e = nat_eq inside.0 e.inside.0 && same_path p e.path

-- tables that are told these entries, one after the other
abbrev pub emitted : Tables → List PathEntry → Tables
emitted t [] = t
emitted t (e ∷ es) = emitted (record t { paths = with_path t.paths e.inside e.path e.resolved }) es

abbrev pub first_emitted : List PathEntry → ModuleId → ModPath → Option Resolved
first_emitted [] inside p = None
first_emitted (e ∷ es) inside p = if is_of inside p e then Some e.resolved else first_emitted es inside p

-- of tables that had no path the first entry of the same path in the module is answered, and that of another path never
abbrev pub FirstOfPath : Type 0
FirstOfPath = (t : Tables) (es : List PathEntry) (inside : ModuleId) (p : ModPath) (shadow : BuiltinShadowMode) → t.paths ≡ []
    → (answers_of (emitted t es)).resolve inside p shadow
    ≡ unwrap_or (first_emitted es inside p) (record { types = None; values = None; rest = None })
