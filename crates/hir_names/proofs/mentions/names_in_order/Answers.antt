use Rattle.std.proofs.Common.{arith, ◌<◌}
use Rattle.std.proofs.lemmas.List.Sorted.{Contains-permutation}
use Rattle.std.specs.Prelude.{length}
use Rattle.hir_names.proofs.AnswerLemmas.{next_listed, reads_within}
use Rattle.hir_names.proofs.mentions.names_in_order.Goals as goal

pub loop-number-init : goal.loop-number-init
loop-number-init c = λ e less reads. absurd (omega (arith, less))

pub loop-number-preserved : goal.loop-number-preserved
loop-number-preserved c =
    next_listed c.args.store.now c.args.scopes.now c.loop-number.names.items c.add_name.new.names.items c.loop-number.number
    c.loop-number.invariant c.in_ok-add_name.ensures.kept c.in_ok-add_name.ensures.added

pub returns : goal.returns
returns c =
    λ e reads.
    let within = reads_within c.args.store.now c.args.scopes.now e reads in
    let all : e.0 < c.loop-number.number = omega (arith, within, c.exprs_len-number-end.ensures, c.loop-number-test.false) in
    let it = c.loop-number.invariant e all reads in
    (it.0, Contains-permutation _ _ (it.0, e) c.sort_unstable.ensures.permutation it.1)
