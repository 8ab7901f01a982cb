use Rattle.std.proofs.Common.{◌≡◌, drop}
use Rattle.serde_json.specs.Find.{get}
use Rattle.json_errors.specs.Members.{said}
use Rattle.json_errors.proofs.members.found.Given as goal

abbrev pub invariant-loop-member : goal.invariant-loop-member
invariant-loop-member l = get l.name (said l.members) ≡ get l.name (said (drop l.member-index l.members))
