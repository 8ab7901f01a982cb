use Rattle.std.proofs.Common.{◌≡◌, drop}
use Rattle.json_errors.specs.PathTexts.{is_path_text, is_rest}
use Rattle.json_errors.proofs.path_text.is_path_text.Given as goal

abbrev pub invariant-loop-byte : goal.invariant-loop-byte
invariant-loop-byte l = is_path_text l.text ≡ is_rest l.rctx (drop l.byte-index l.text)
