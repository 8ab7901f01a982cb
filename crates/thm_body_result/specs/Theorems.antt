-- What lowering a tree does to what is stored.
use Rattle.std.specs.Prelude.{◌≡◌, ◌+◌, Bool, List, ◌++◌, length, Option, Ok, Err}
use Rattle.hir_store.specs.Arenas.{Prefix}
use Rattle.hir_store.specs.Stored.{Stored, store_of, map_of}
use Rattle.hir_store.specs.StoreSink.{Checked, Extends, pat_id, type_id}
use Rattle.hir_store.specs.declared.hir.CoroutineKind.{CoroutineKind}
use Rattle.hir_store.specs.declared.ids.ExprId.{ExprId}
use Rattle.hir_store.specs.declared.ids.LabelId.{LabelId}
use Rattle.hir_env.specs.ResolvedTree.{Binder, Formals, OptionType, OptionPath, OptionExpr}
use Rattle.hir_lower_scope.specs.ScopeRibs.{Rib}
use Rattle.hir_lower_scope.specs.Scopes.{Scope}
use Rattle.hir_lower_builder.specs.Builder.{Builder}
use Rattle.hir_lower_builder.specs.Lower.{type_part, lower_path, lower_part}
use Rattle.thm_logic.specs.Keeps.{Paired}
use Rattle.thm_body_result.specs.Definitions.{DefinitionsAre}
use Rattle.thm_body_result.specs.Formals.{lower_body}
use Rattle.thm_body_result.specs.Leads.{Mapping, label_mappings, Covers, CoversLabels, CoversBindings, Led, OwnersAre}
use Rattle.thm_body_result.specs.Corresponds.{CorrespondsPart}
use Rattle.thm_body_result.specs.Diagnostics.{part_diagnostics, Around}
use Rattle.thm_body_result.specs.Blocks.{blocks_of_part}
use Rattle.thm_body_result.specs.Size.{Size, led_by, placed_owners, targets_led}
use Rattle.thm_body_result.specs.Room.{Short, body_size, size_part, type_part_size, whole_size}

-- what is claimed where the tree is lowered into a `Paired` store
abbrev pub WhereLowered : (OptionExpr → Builder → ExprId → Builder → Type 0) → Type 0
WhereLowered R =
    (e : OptionExpr) (old : Builder) (id : ExprId) (new : Builder) → Paired old.stored → lower_part e old ≡ (Ok id, new) → R e old id new

-- forms, parts and sources, and reverse mappings

-- what was settled of the bindings by then stays, also what is wrong about them
abbrev pub Settled : Stored → Stored → Type 0
Settled old new = Prefix old.bindings.entries new.bindings.entries

-- each binding has the patterns that make it
abbrev pub Defined : Stored → Type 0
Defined s = DefinitionsAre s.pats.entries (length s.bindings.entries) s.bindings.definitions

-- Of each binding it is stored what owns it, or that nothing does.
abbrev pub MayBeOwned : Stored → Type 0
MayBeOwned s = length s.bindings.owners ≡ length s.bindings.entries

-- What is stored between these two is what these ways lead to: what led somewhere before leads there or by the ways, and each
-- expression, label and binding more is the end of one. What owns a binding is what its way says.
pub record Reaches (old new : Stored) (mappings : List Mapping) : Type 0 where
  pub covers : Covers mappings (length old.exprs.entries) (length new.exprs.entries)
  pub covers_labels : CoversLabels mappings (length old.labels.entries) (length new.labels.entries)
  pub covers_bindings : CoversBindings mappings (length old.bindings.entries) (length new.bindings.entries)
  pub led : Led (map_of old) (map_of new) mappings
  pub labels : length new.labels.entries ≡ length old.labels.entries + label_mappings mappings
  pub settled : Settled old new
  pub defined : Defined old → Defined new
  pub owner_mappings : MayBeOwned old → OwnersAre new.bindings.owners mappings

-- The expression stands for the tree, and so does each one that is stored with it.
pub record Standing (final : Stored) (e : OptionExpr) (old new : Builder) (id : ExprId) : Type 0 where
  pub mappings : List Mapping
  pub corresponds : CorrespondsPart (store_of final) (map_of final) old.scopes e id mappings
  pub reaches : Reaches old.stored new.stored mappings

-- so it is in each final store that begins with what is stored by then
abbrev pub AllStand : Type 0
AllStand = WhereLowered (λ e old id new.
    (final : Stored) → Extends new.stored final → Settled new.stored final → Standing final e old new id)

-- diagnostics

-- in whatever scopes it is lowered, its faults come behind those that were met before, in the order of lowering
abbrev pub DiagnosticsAre : Type 0
DiagnosticsAre = WhereLowered (λ e old id new. (ss : List Scope) → Around ss old.scopes
    → new.stored.diagnostics ≡ old.stored.diagnostics ++ part_diagnostics ss e)

-- and there are scopes for whatever is open
abbrev pub ScopesAround : Type 0
ScopesAround = (rs : List (Rib LabelId)) → (ss : List Scope) × Around ss rs

-- block scopes

-- the numbers of the blocks that it enters come behind those of the blocks entered before
abbrev pub BlocksAre : Type 0
BlocksAre = WhereLowered (λ e old id new. new.stored.block_scopes ≡ old.stored.block_scopes ++ blocks_of_part e)

-- numbers

-- So many expressions, labels and bindings come behind those that were stored, and patterns, types and lifetimes with these sources. Of
-- patterns it is said which the nodes lead to, and which the assignee expression leads to, and of bindings the numbers of what owns them,
-- in the order in which they come.
pub record Grown (n : Size) (old new : Stored) : Type 0 where
  pub exprs : length new.exprs.entries ≡ length old.exprs.entries + n.exprs
  pub labels : length new.labels.entries ≡ length old.labels.entries + n.labels
  pub bindings : length new.bindings.entries ≡ length old.bindings.entries + n.bindings
  pub owners : MayBeOwned old → new.bindings.owners ≡ old.bindings.owners ++ placed_owners (length old.exprs.entries) n.owners
  pub may_be_owned : MayBeOwned old → MayBeOwned new
  pub pats : length new.pats.entries ≡ length old.pats.entries + length n.pats
  pub pat_sources : new.pats.sources ≡ old.pats.sources ++ n.pats
  pub pat_map : new.pats.map ≡ led_by pat_id (length old.pats.entries) n.pat_leads old.pats.map
  pub target_map : new.target_map ≡ targets_led pat_id (length old.pats.entries) n.pat_leads old.target_map
  pub types : length new.types.entries ≡ length old.types.entries + length n.types
  pub lifetimes : length new.lifetimes.entries ≡ length old.lifetimes.entries + length n.lifetimes
  pub type_sources : new.types.sources ≡ old.types.sources ++ n.types
  pub lifetime_sources : new.lifetimes.sources ≡ old.lifetimes.sources ++ n.lifetimes
  pub types_map : new.types.map ≡ led_by type_id (length old.types.entries) n.type_leads old.types.map

-- where lowering is refused there is no room for them
abbrev pub GrownUnless : {A : Type 0} → Size → Builder → Checked A → Builder → Type 0
GrownUnless n old (Ok a) new = Grown n old.stored new.stored
GrownUnless n old (Err fault) new = Short n old

abbrev pub Fits : OptionExpr → Stored → Stored → Type 0
Fits e old new = Grown (size_part e) old new

abbrev pub FitsUnless : OptionExpr → Builder → Checked ExprId → Builder → Type 0
FitsUnless e old result new = GrownUnless (size_part e) old result new

abbrev pub AllFit : Type 0
AllFit = (e : OptionExpr) (old : Builder) → Paired old.stored → FitsUnless e old (lower_part e old).0 (lower_part e old).1

-- so it is of types and paths by themselves

abbrev pub TypesFit : Type 0
TypesFit = (binder : Option Binder) (t : OptionType) (old : Builder) → Paired old.stored
    → GrownUnless (type_part_size t) old (type_part binder t old).0 (type_part binder t old).1

abbrev pub PathsFit : Type 0
PathsFit = (p : OptionPath) (old : Builder) → Paired old.stored
    → GrownUnless (whole_size p) old (lower_path p old).0 (lower_path p old).1

-- and of bodies behind their parameters

abbrev pub BodiesFit : Type 0
BodiesFit = (kind : Option CoroutineKind) (skipped : Bool) (f : Formals) (e : OptionExpr) (old : Builder) → Paired old.stored
    → GrownUnless (body_size kind skipped f e) old (lower_body kind skipped f e old).0 (lower_body kind skipped f e old).1
