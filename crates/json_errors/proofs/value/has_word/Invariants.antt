use Rattle.std.proofs.Common.{◌≡◌, drop, map}
use Rattle.json_errors.specs.Values.{has_word}
use Rattle.json_errors.proofs.value.has_word.Given as goal

abbrev pub invariant-loop-word : goal.invariant-loop-word
invariant-loop-word l = has_word (map (λ w. w.now) l.words) l.text ≡ has_word (map (λ w. w.now) (drop l.word-index l.words)) l.text
