use Rattle.std.proofs.Common.{◌≡◌, drop}
use Rattle.lower_json.specs.PathTexts.{behind}
use Rattle.lower_json.proofs.path_text.behind.Given as goal

abbrev pub invariant-loop-byte : goal.invariant-loop-byte
invariant-loop-byte l = behind l.front l.text ≡ behind (drop l.byte-index l.front) l.rest
