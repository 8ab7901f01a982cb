use Rattle.std.proofs.Common.{◌≡◌, map}
use Rattle.thm_result_json.specs.Codec.{to_items}
use Rattle.store_json.specs.Append.{AreReadable, with_items}
use Rattle.store_json.proofs.whole.write_entries.Given as goal

-- what ends the list from here ends it from the start
abbrev pub invariant-loop-entry : goal.invariant-loop-entry
invariant-loop-entry g l =
    let rest = to_items g.T.ToJson.codec (map (λ p. p.1) l.entry-iterator) in
    let all = to_items g.T.ToJson.codec (map (λ p. p.1) l.fn.entries) in
    (with_items rest l.out.tokens ≡ with_items all l.initial.out.tokens)
    × (AreReadable rest → AreReadable all)
    × (l.out.before ≡ l.initial.out.before)
