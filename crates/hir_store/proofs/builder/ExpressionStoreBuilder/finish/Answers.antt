use Rattle.std.proofs.lemmas.Grind.{common_steps}
use Rattle.std.proofs.Common.{subst, arith}
use Rattle.hir_store.specs.declared.builder.ExpressionStoreBuilder.TheView.{view}
use Rattle.hir_store.specs.Stored.{Stored, map_of, store_of}
use Rattle.hir_store.specs.Range.{InRange}
use Rattle.hir_store.proofs.builder.ExpressionStoreBuilder.finish.Goals as goal

pub returns-clause-in_range : goal.returns-clause-in_range
returns-clause-in_range c =
    let s : Stored = view c.self.inside in
    let P : Stored → Type 0 = λ v. InRange (store_of v) (map_of v) in
    let exprs = c.split-exprs.ensures.kept in
    let labels = c.split-labels.ensures.kept in
    let types = c.split-types.ensures.kept in
    let lifetimes = c.split-lifetimes.ensures.kept in
    let pats = c.split-pats.ensures.kept in
    let bindings = c.split-bindings.ensures.kept in
    subst P c.self.view_is (record {
      store = c.self.invariant.0;
      source_map = record {
        expr_sources = exprs.as_many;
        label_sources = labels.as_many;
        pat_sources = pats.as_many;
        type_sources = types.as_many;
        lifetime_sources = lifetimes.as_many;
        exprs = exprs.mappings;
        labels = labels.mappings;
        pats = pats.mappings;
        targets = c.self.invariant.4;
        fields = c.self.invariant.1;
        pat_fields = c.self.invariant.2;
        as_many_bindings = bindings.as_many;
        definitions = c.self.invariant.3;
        types = types.mappings;
        lifetimes = lifetimes.mappings;
      };
    })

pub invariant_of-store : goal.invariant_of-store
invariant_of-store c = grind (arith, common_steps)

pub returns-clause-store : goal.returns-clause-store
returns-clause-store c = grind (arith, common_steps)

pub returns-clause-source_map : goal.returns-clause-source_map
returns-clause-source_map c = grind (arith, common_steps)
