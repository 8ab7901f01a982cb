-- What a collector has stored: what its calls left, one behind the other, and nothing else.
use Rattle.std.specs.Prelude.{◌≡◌, ℕ, List, [], ◌∷◌, length, Option}
use Rattle.hir_store.specs.Pointers.{Pointer}
use Rattle.hir_store.specs.Stored.{SourceMap, Store, Stored, store_of, map_of}
use Rattle.hir_store.specs.declared.ids.ExprId.{ExprId}
use Rattle.hir_store.specs.declared.ids.TypeRefId.{TypeRefId}
use Rattle.hir_store.specs.declared.path.Path.{Path}
use Rattle.hir_store.specs.declared.type_ref.TypeRef.{TypeRef}
use Rattle.hir_env.specs.ResolvedTree.{OptionExpr, OptionPath, OptionType}
use Rattle.thm_body_result.specs.Leads.{Covers, CoversBindings, CoversLabels, MapLeads, No, OwnedBy, OwnersAre, Mapping, Mappings, ◌&◌}
use Rattle.thm_body_result.specs.Corresponds.{CorrespondsPart, TypePartMappings, WholeMappings}
use Rattle.hir_lower.specs.Means.{AddsType, PathRooted, Rooted, TypeRooted}
use Rattle.hir_lower.specs.Roots.{new_builder}
use Rattle.hir_lower.specs.Stays.{Stays}

-- a call that was answered `Ok`, with the tree that it was of and what it answered
pub data Call : Type 0 where
  of_constant : OptionExpr → ExprId → Call
  of_path : OptionPath → Option Path → Call
  of_type_ref : OptionType → TypeRefId → Call
  -- what an `impl` at this node became
  of_type : Pointer → TypeRef → TypeRefId → Call

-- Each entry, each source, each way of the source map, each root, fault, block and recorded expansion that came is one of the tree's, and
-- what was there stays.
abbrev pub Leaves : Call → Stored → Stored → Type 0
Leaves (of_constant e i) old new = Rooted old new i e × Stays old new
Leaves (of_path p r) old new = PathRooted old new r p × Stays old new
Leaves (of_type_ref t i) old new = TypeRooted old new i t × Stays old new
Leaves (of_type at t i) old new = AddsType old new i t at

-- what they left, the last of them first, behind what was stored at first
abbrev pub LeftBy : List Call → Stored → Stored → Type 0
LeftBy [] first now = now ≡ first
LeftBy (c ∷ cs) first now = (before : Stored) × (LeftBy cs first before × Leaves c before now)

-- from nothing
pub record Collected (s : Stored) : Type 0 where
  pub limit : ℕ
  pub calls : List Call
  pub left : LeftBy calls (new_builder limit).stored s

-- what stands for the tree of a call, and its ways; a type that an `impl` became has none of expressions, labels and bindings
abbrev pub CorrespondsTo : Store → SourceMap → Call → Mappings
CorrespondsTo store source_map (of_constant e i) = OwnedBy i (CorrespondsPart store source_map [] e i)
CorrespondsTo store source_map (of_path p r) = WholeMappings store source_map [] p
CorrespondsTo store source_map (of_type_ref t i) = TypePartMappings store source_map [] t
CorrespondsTo store source_map (of_type at t i) = No

-- in the order of the calls
abbrev pub AllStand : Store → SourceMap → List Call → Mappings
AllStand store source_map [] = No
AllStand store source_map (c ∷ cs) = AllStand store source_map cs & CorrespondsTo store source_map c

-- Store and source map hold what calls left, and nothing else. For the tree of each stands what is stored; each expression, each label and
-- each binding is what a written one became, or is made up, and what owns a binding is what its way says. The source map leads from
-- each written expression and label to what it became, and from nowhere else.
pub record OfCalls (store : Store) (source_map : SourceMap) : Type 0 where
  pub last : Stored
  pub store_is : store ≡ store_of last
  pub source_map_is : source_map ≡ map_of last
  pub collected : Collected last
  pub mappings : List Mapping
  pub stand : AllStand store source_map collected.calls mappings
  pub covers : Covers mappings 0 (length store.exprs)
  pub covers_labels : CoversLabels mappings 0 (length store.labels)
  pub covers_bindings : CoversBindings mappings 0 (length store.bindings)
  pub owner_mappings : OwnersAre store.binding_owners mappings
  pub leads : MapLeads source_map mappings
