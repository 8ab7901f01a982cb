use Rattle.std.proofs.Common.{arith, sym, subst, None, Some}
use Rattle.spec_scopes.specs.Scopes.{block_scope}
use Rattle.hir_scopes.specs.Chains.{Enters, Opens, in_block}
use Rattle.hir_scopes.proofs.ChainLemmas.{enters_both, enters_names, scopes_grown}
use Rattle.hir_scopes.proofs.opening.open_block.Goals as goal

pub open-requires-in-Some-clause-parent : goal.open-requires-in-Some-clause-parent
open-requires-in-Some-clause-parent c =
    omega (arith, c.requires.const_scope, scopes_grown c.args.scopes.now c.open.new.scopes c.in_ok-scope.ensures.grown)

pub returns-in-None : goal.returns-in-None
returns-in-None c =
    let m = c.args.scopes.now in
    let n = c.open.new.scopes in
    let a = c.args.around in
    let label = c.args.label in
    let s = c.in_ok-scope.scope in
    subst (λ id. Enters m n a (in_block id label) (record { scope = s; const_scope = a.const_scope })) (sym c.in-None.is)
    (enters_names m n a s (block_scope None label) c.requires
    (subst (λ id. Opens m n a.scope (block_scope id label) s) c.in-None.is c.in_ok-scope.ensures))

pub returns-in_ok-const_scope-in-Some : goal.returns-in_ok-const_scope-in-Some
returns-in_ok-const_scope-in-Some c =
    let m = c.args.scopes.now in
    let n = c.open.new.scopes in
    let o = c.open-in-Some.new.scopes in
    let a = c.args.around in
    let label = c.args.label in
    let s = c.in_ok-scope.scope in
    let t = c.in_ok-const_scope-in-Some.const_scope in
    let id = Some c.in-Some.field-0 in
    subst (λ i. Enters m o a (in_block i label) (record { scope = s; const_scope = t })) (sym c.in-Some.is)
    (enters_both m n o a s t (block_scope id label) (block_scope id None) c.requires
    (subst (λ i. Opens m n a.scope (block_scope i label) s) c.in-Some.is c.in_ok-scope.ensures)
    (subst (λ i. Opens n o a.const_scope (block_scope i None) t) c.in-Some.is c.in_ok-const_scope-in-Some.ensures))
