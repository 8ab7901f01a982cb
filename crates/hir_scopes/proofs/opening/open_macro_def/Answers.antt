use Rattle.std.proofs.Common.{arith}
use Rattle.spec_scopes.specs.Scopes.{macro_def_scope}
use Rattle.hir_scopes.proofs.ChainLemmas.{enters_both, scopes_grown}
use Rattle.hir_scopes.proofs.opening.open_macro_def.Goals as goal

pub open-requires-2-clause-parent : goal.open-requires-2-clause-parent
open-requires-2-clause-parent c =
    omega (arith, c.requires.const_scope, scopes_grown c.args.scopes.now c.open.new.scopes c.in_ok-scope.ensures.grown)

pub returns : goal.returns
returns c =
    enters_both c.args.scopes.now c.open.new.scopes c.open-2.new.scopes c.args.around c.in_ok-scope.scope c.in_ok-const_scope.const_scope
    (macro_def_scope c.args.def) (macro_def_scope c.args.def) c.requires c.in_ok-scope.ensures c.in_ok-const_scope.ensures
