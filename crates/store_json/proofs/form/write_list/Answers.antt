use Rattle.std.proofs.Common.{◌≡◌, ◌+◌, ◌∷◌, ◌∙◌, ap, sym, subst, drop, arith}
use Rattle.std.proofs.lemmas.List.{drop_more, drop_all}
use Rattle.std.proofs.lemmas.Result.{on_ok_weaker}
use Rattle.thm_result_json.specs.Codec.{to_items}
use Rattle.store_json.specs.Append.{AreReadable, with_items}
use Rattle.store_json.proofs.form.write_list.Goals as goal

pub loop-item-preserved : goal.loop-item-preserved
loop-item-preserved g c =
    let l = c.loop-item in
    let xs = c.args.items.now in
    let x = c.item-item.result in
    let here : drop l.item-index xs ≡ x ∷ drop (l.item-index + 1) xs =
    drop_more xs l.item-index x (omega arith) ∙ ap (λ y. y ∷ drop (l.item-index + 1) xs) (sym c.item-item.is) in
    let left = ap (to_items g.T.ToJson.codec) here in
    let rest = to_items g.T.ToJson.codec (drop (l.item-index + 1) xs) in
    let done = c.in_ok-write.ensures in (
      ap (with_items rest) done.text ∙ ap (λ ds. with_items ds l.out.tokens) (sym left) ∙ l.invariant.0,
      λ later. l.invariant.1 (subst AreReadable (sym left) (done.reads, later)),
      done.before ∙ l.invariant.2,
    )

pub returns : goal.returns
returns g c =
    let l = c.loop-item in
    let none = ap (to_items g.T.ToJson.codec) (drop_all l.item-index c.args.items.now (omega arith)) in
    let opened = c.in_ok-begin_array.ensures in
    on_ok_weaker c.end_array.result (λ e. record {
      text = e ∙ sym (ap (λ ds. with_items ds l.out.tokens) none) ∙ l.invariant.0
          ∙ ap (with_items (to_items g.T.ToJson.codec c.args.items.now)) opened.ok;
      reads = l.invariant.1 (subst AreReadable (sym none) tt);
      before = c.end_array.ensures.room.0 ∙ l.invariant.2 ∙ opened.room.0;
    }) c.end_array.ensures.ok
