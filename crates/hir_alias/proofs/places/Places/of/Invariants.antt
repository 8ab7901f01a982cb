use Rattle.std.proofs.Common.{◌≡◌, drop}
use Rattle.std.specs.List.{position_from}
use Rattle.hir_store.specs.Params.{is_called}
use Rattle.hir_store.specs.declared.name.Name.{Name}
use Rattle.hir_alias.specs.Placing.{place_of_name}
use Rattle.hir_alias.proofs.First.{or_later}
use Rattle.hir_alias.proofs.places.Places.of.Given as goal

abbrev pub invariant-loop-one : goal.invariant-loop-one
invariant-loop-one l = record {
  counted : l.at ≡ l.one-index;
  so_far : (name : Name) → or_later (place_of_name l.done name) (position_from (is_called name) l.at (drop l.one-index l.params))
      ≡ position_from (is_called name) 0 l.params;
}
