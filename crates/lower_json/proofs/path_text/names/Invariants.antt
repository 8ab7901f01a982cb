use Rattle.std.proofs.Common.{◌≡◌, ◌++◌, drop, map}
use Rattle.lower_json.specs.PathTexts.{name_of}
use Rattle.lower_json.proofs.path_text.names.Given as goal

abbrev pub invariant-loop-text : goal.invariant-loop-text
invariant-loop-text l = map name_of l.texts ≡ l.names ++ map name_of (drop l.text-index l.texts)
