use Rattle.std.proofs.Common.{◌≡◌, drop}
use Rattle.thm_result_json.specs.Codec.{to_items}
use Rattle.store_json.specs.Append.{AreReadable, with_items}
use Rattle.store_json.proofs.form.write_list.Given as goal

-- what ends the list from here ends it from the start
abbrev pub invariant-loop-item : goal.invariant-loop-item
invariant-loop-item g l =
    let rest = to_items g.T.ToJson.codec (drop l.item-index l.items) in
    let all = to_items g.T.ToJson.codec l.items in
    (with_items rest l.out.tokens ≡ with_items all l.initial.out.tokens)
    × (AreReadable rest → AreReadable all)
    × (l.out.before ≡ l.initial.out.before)
