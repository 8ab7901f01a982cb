use Rattle.std.proofs.Common.{◌≡◌, ◌++◌}
use Rattle.serde_json.specs.View.{members_view}
use Rattle.serde_json.specs.Written.{members_have_float}
use Rattle.json_errors.specs.Members.{pairs, pairs_in}
use Rattle.json_errors.proofs.members.add_each.Given as goal

abbrev pub invariant-loop-name : goal.invariant-loop-name
invariant-loop-name l = record {
  whole : members_have_float (members_view l.members.entries) ≡ members_have_float (members_view l.name-iterator);
  so_far : pairs l.initial.all.items ++ pairs_in (members_view l.members.entries)
      ≡ pairs l.all.items ++ pairs_in (members_view l.name-iterator);
}
