use Rattle.std.proofs.Common.{◌∙◌}
use Rattle.hir_walks.specs.Pats.{bindings_in}
use Rattle.hir_scopes.proofs.ChainLemmas.{taken_entries}
use Rattle.hir_scopes.proofs.opening.add_pat_bindings.Goals as goal

pub returns : goal.returns
returns c = c.in_ok-walk_bindings_in_pat.ensures ∙ taken_entries (bindings_in c.args.store.now c.args.pat) c.args.scopes.now
