use Rattle.std.proofs.Common.{arith, rules, get_or, ◌∙◌}
use Rattle.hir_store.specs.declared.ids.BindingId.{BindingId}
use Rattle.hir_scopes.specs.Lookup.{sought_of}
use Rattle.hir_scopes.proofs.FoundLemmas.{entry_end, entry_other}
use Rattle.hir_scopes.proofs.Lists.{first_and_rest, no_first}
use Rattle.hir_scopes.proofs.resolve.find_entry.Goals as goal

pub loop-left-preserved : goal.loop-left-preserved
loop-left-preserved c =
    let left = c.loop-left.left.now in
    let none : BindingId = record { 0 = 0 } in
    λ contexts rs.
    c.loop-left.invariant contexts rs
    ∙ entry_other c.args.store.now contexts c.args.name.now (sought_of c.args.wanted) left (get_or left 0 none) _ rs
    (first_and_rest left none c.in-len1-up.len_at_least) (search rules)

pub returns : goal.returns
returns c =
    let left = c.loop-left.left.now in
    λ contexts rs.
    c.loop-left.invariant contexts rs
    ∙ entry_end c.args.store.now contexts c.args.name.now (sought_of c.args.wanted) left rs (no_first left (omega arith))
