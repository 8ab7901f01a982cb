-- The parts of a scope.
use Rattle.std.specs.Prelude.{List, [], Option, Some, None, take, drop, ◌-◌}
use Rattle.hir_store.specs.declared.ids.BindingId.{BindingId}
use Rattle.hir_store.specs.declared.ids.BlockId.{BlockId}
use Rattle.hir_store.specs.declared.ids.LabelId.{LabelId}
use Rattle.hir_store.specs.declared.ids.MacroDefId.{MacroDefId}
use Rattle.hir_scopes.specs.declared.scope.ScopeData.{ScopeData}
use Rattle.hir_scopes.specs.declared.scope.ScopeId.{ScopeId}
use Rattle.hir_scopes.specs.declared.scope.ScopeKind.{ScopeKind}
use Rattle.hir_scopes.specs.declared.scope.ScopeKind.TheVariants as kind

abbrev pub parent_in : Option ScopeData → Option ScopeId
parent_in None = None
parent_in (Some d) = d.parent

abbrev pub entries_in : List BindingId → Option ScopeData → List BindingId
entries_in bs None = []
entries_in bs (Some d) = of_kind d.kind
  where
    of_kind : ScopeKind → List BindingId
    of_kind (kind.Bindings start end) = take (end - start) (drop start bs)
    of_kind _ = []

abbrev pub block_in : Option ScopeData → Option BlockId
block_in None = None
block_in (Some d) = of_kind d.kind
  where
    of_kind : ScopeKind → Option BlockId
    of_kind (kind.Block id label) = id
    of_kind _ = None

abbrev pub label_in : Option ScopeData → Option LabelId
label_in None = None
label_in (Some d) = of_kind d.kind
  where
    of_kind : ScopeKind → Option LabelId
    of_kind (kind.Block id label) = label
    of_kind (kind.Loop label) = label
    of_kind _ = None

abbrev pub macro_def_in : Option ScopeData → Option MacroDefId
macro_def_in None = None
macro_def_in (Some d) = of_kind d.kind
  where
    of_kind : ScopeKind → Option MacroDefId
    of_kind (kind.MacroDef d) = Some d
    of_kind _ = None

-- of what was looked up, what it is, if there was anything
abbrev pub joined : {A : Type 0} → Option (Option A) → Option A
joined None = None
joined (Some a) = a
