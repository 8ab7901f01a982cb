use Rattle.std.proofs.Common.{◌≡◌, false}
use Rattle.serde_json.specs.View.{members_view}
use Rattle.json_errors.specs.Floats.{others_have_float}
use Rattle.json_errors.proofs.floats.others_have_float.Given as goal

abbrev pub invariant-loop-key : goal.invariant-loop-key
invariant-loop-key l = record {
  same : l.name ≡ l.fn.name;
  so_far : others_have_float l.name false (members_view l.members.entries) ≡ others_have_float l.name l.met (members_view l.key-iterator);
}
