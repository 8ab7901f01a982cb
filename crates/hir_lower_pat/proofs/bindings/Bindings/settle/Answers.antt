use Rattle.std.proofs.lemmas.Grind.{common_steps}
use Rattle.hir_lower_builder.specs.Pats.{settle}
use Rattle.std.proofs.Common.{◌≡◌, ◌+◌, arith, suc, subst, sym}
use Rattle.hir_lower_pat.proofs.NameLemmas.{Settled, entry_exists, settled_on, settled_past, drop_entry, drop_none}
use Rattle.hir_lower_pat.proofs.bindings.Bindings.settle.Goals as goal
use Rattle.hir_lower_pat.proofs.bindings.Bindings.settle.Goals.{in-Some, in_default}

pub set_problem-requires : goal.set_problem-requires
set_problem-requires g c =
    entry_exists c.args.self.now.ids c.loop-number.number _ _ (sym c.in-Some.ensures) c.loop-number.invariant.placed.1.1

pub loop-number-preserved : goal.loop-number-preserved
loop-number-preserved g c =
    let b = c.args.self.now in
    let n = c.loop-number.number in
    let first = c.args.state.now in
    let before : Settled b n first c.loop-number.state
    = (c.loop-number.invariant.so_far, c.loop-number.invariant.placed.0, c.loop-number.invariant.placed.1) in
    let settled : Settled b (suc n) first c.match-get_index.state
    = elim c.match-get_index.branch [
      | in-Some w ↦ subst (λ s. Settled b (suc n) first s) (sym w.state-is)
          (settled_on b n first c.loop-number.state _ _ w.problem.result (sym w.in-Some.ensures) w.problem.ensures.tracked
          w.set_problem.ensures before)
      | in_default w ↦ subst (λ s. Settled b (suc n) first s) (sym w.state-is)
          (settled_past b n first c.loop-number.state (sym w.in_default.ensures) before)
    ] in
    let next : suc n ≡ n + 1 = omega arith in
    let all = subst (λ m. Settled b m first c.match-get_index.state) next settled in
    record { so_far = all.0; placed = (all.1, all.2) }

pub returns : goal.returns
unfolding settle
returns g c = grind (arith, common_steps, drop_entry, drop_none)

pub loop-number-init : goal.loop-number-init
unfolding settle
loop-number-init g c = grind (arith, common_steps, drop_entry, drop_none)
