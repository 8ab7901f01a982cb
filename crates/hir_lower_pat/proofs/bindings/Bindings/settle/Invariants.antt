use Rattle.std.proofs.Common.{◌≡◌}
use Rattle.std.specs.Prelude.{drop}
use Rattle.hir_binding.specs.Bindings.{tracked}
use Rattle.hir_store.specs.Range.{Grows}
use Rattle.hir_lower_builder.specs.Pats.{settle_from}
use Rattle.hir_lower_pat.specs.Bindings.{HasNames}
use Rattle.hir_lower_pat.proofs.bindings.Bindings.settle.Given as goal

abbrev pub invariant-loop-number : goal.invariant-loop-number
invariant-loop-number g l = let names = tracked l.self.list in let all = l.self.ids in record {
  so_far : settle_from names 0 all l.fn.state ≡ settle_from names l.number (drop l.number all) l.state;
  placed : Grows l.fn.state.stored l.state.stored × HasNames l.state.stored l.self;
}
