use Rattle.std.proofs.Common.{◌≡◌, ◌≢◌, ◌^◌, ◌<◌, [], length}
use Rattle.std.specs.Str.{all_ascii_digits}
use Rattle.json_errors.specs.Literals.{written_after}
use Rattle.json_errors.proofs.literal.is_integer.Given as goal

abbrev pub invariant-loop-byte : goal.invariant-loop-byte
invariant-loop-byte l = record {
  some : l.text ≢ [];
  digits : all_ascii_digits l.text ≡ all_ascii_digits l.rest;
  same : written_after 0 l.text ≡ written_after l.number l.rest;
  fits : l.number < 2 ^ 128;
}

abbrev pub decreases-loop-byte : goal.decreases-loop-byte
decreases-loop-byte l = length l.rest
