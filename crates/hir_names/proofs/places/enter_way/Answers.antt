use Rattle.std.proofs.Common.{arith, ◌∙◌, ap, sym, length, length-append, [], ◌∷◌}
use Rattle.hir_names.proofs.WayLemmas.{last_entered, none_entered}
use Rattle.hir_names.proofs.places.enter_way.Goals as goal

pub loop-scope-preserved : goal.loop-scope-preserved
loop-scope-preserved c = c.loop-scope.invariant
    ∙ last_entered c.args.store.now c.args.scopes.now c.loop-scope.left c.pop.new.self c.in-Some.scope c.loop-scope.stacks
    c.enter_scope.new.stacks c.in-Some.ensures c.in_ok-enter_scope.ensures

pub loop-scope-smaller : goal.loop-scope-smaller
loop-scope-smaller c = let all = ap length c.in-Some.ensures in omega (arith, all, length-append c.pop.new.self (c.in-Some.scope ∷ []))

pub returns : goal.returns
returns c =
    sym (c.loop-scope.invariant
    ∙ none_entered c.args.store.now c.args.scopes.now c.loop-scope.left c.loop-scope.stacks c.in_default.ensures.0)
