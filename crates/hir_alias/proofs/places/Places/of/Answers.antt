use Rattle.std.proofs.Common.{◌≡◌, ◌∙◌, ap, sym, ◌+◌, drop}
use Rattle.std.specs.List.{position_from}
use Rattle.hir_store.specs.Params.{is_called}
use Rattle.hir_alias.specs.Placing.{place_of_name, with_first}
use Rattle.hir_alias.proofs.First.{or_later, said_all, said_next}
use Rattle.hir_alias.proofs.places.Places.of.Goals as goal

pub loop-one-preserved : goal.loop-one-preserved
loop-one-preserved c =
    let params = c.args.params.now in
    let l = c.loop-one in
    let one = c.one-item.result in
    let more : c.insert.new.self ≡ with_first l.done one.name l.at = c.in_ok-insert.ensures in
    record {
      counted = ap (λ k. k + 1) l.invariant.counted;
      so_far = λ name.
          ap (λ es. or_later (place_of_name es name) (position_from (is_called name) (l.at + 1) (drop (l.one-index + 1) params))) more
          ∙ sym (said_next l.done params l.one-index one l.at name c.loop-one-test.true c.one-item.is)
          ∙ l.invariant.so_far name;
    }

pub returns : goal.returns
returns c = λ name.
    said_all c.loop-one.done c.args.params.now c.loop-one.one-index c.loop-one.at name c.loop-one-test.false
    (c.loop-one.invariant.so_far name)
