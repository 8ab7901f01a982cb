use Rattle.std.proofs.Common.{subst}
use Rattle.hir_store.specs.Stored.{Stored, map_of, store_of}
use Rattle.hir_store.specs.Range.{InRange}
use Rattle.hir_store.proofs.builder.ExpressionStoreBuilder.in_range.Goals as goal

pub returns : goal.returns
returns c =
    let P : Stored → Type 0 = λ v. InRange (store_of v) (map_of v) in
    let exprs = c.kept.ensures in
    let labels = c.kept-2.ensures in
    let types = c.kept-3.ensures in
    let lifetimes = c.kept-4.ensures in
    let pats = c.kept-5.ensures in
    let bindings = c.kept-6.ensures in
    subst P c.self.view_is (record {
      store = c.self.invariant.0;
      source_map = record {
        expr_sources = exprs.as_many;
        label_sources = labels.as_many;
        pat_sources = pats.as_many;
        type_sources = types.as_many;
        lifetime_sources = lifetimes.as_many;
        exprs = exprs.mappings;
        labels = labels.mappings;
        pats = pats.mappings;
        targets = c.self.invariant.4;
        fields = c.self.invariant.1;
        pat_fields = c.self.invariant.2;
        as_many_bindings = bindings.as_many;
        definitions = c.self.invariant.3;
        types = types.mappings;
        lifetimes = lifetimes.mappings;
      };
    })
