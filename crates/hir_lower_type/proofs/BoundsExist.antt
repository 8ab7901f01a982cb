-- What the bound by a trait names exists.
use Rattle.std.proofs.Common.{arith, Bool, List, [], ◌∷◌}
use Rattle.hir_store.specs.Stored.{Stored}
use Rattle.hir_store.specs.Range.{HasBound, HasType}
use Rattle.hir_store.specs.declared.ids.TypeRefId.{TypeRefId}
use Rattle.hir_store.specs.declared.name.Name.{Name}
use Rattle.hir_lower_builder.specs.Types.{stored_path_bound}

pub path_bound_has : (s : Stored) (maybe : Bool) (ns : List Name) (id : TypeRefId) → HasType s id
    → HasBound s (stored_path_bound maybe ns id)
path_bound_has s maybe [] id h = (omega arith, h, omega arith, omega arith)
path_bound_has s maybe (n ∷ ns) id h = (omega arith, h, omega arith, omega arith)
