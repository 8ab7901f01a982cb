use Rattle.std.proofs.Common.{arith, ◌∙◌, sym}
use Rattle.hir_walks.specs.Pats.{bindings_in}
use Rattle.hir_scopes.proofs.ChainLemmas.{entries_end, entries_next}
use Rattle.hir_scopes.proofs.Lists.{first_and_rest, no_first}
use Rattle.hir_scopes.proofs.opening.add_params_bindings.Goals as goal

pub loop-left-preserved : goal.loop-left-preserved
loop-left-preserved c =
    let left = c.loop-left.left.now in
    c.loop-left.invariant
    ∙ entries_next (bindings_in c.args.store.now) c.loop-left.scopes c.add_pat_bindings.new.scopes left _ _
    (first_and_rest left _ c.in-len1-up.len_at_least) c.in_ok-add_pat_bindings.ensures

pub returns : goal.returns
returns c =
    let left = c.loop-left.left.now in
    sym (c.loop-left.invariant ∙ entries_end (bindings_in c.args.store.now) c.loop-left.scopes left (no_first left (omega arith)))
