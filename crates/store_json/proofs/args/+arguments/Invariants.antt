use Rattle.std.proofs.Common.{◌≡◌, List, drop, map}
use Rattle.json.specs.Written.{Written}
use Rattle.thm_result_json.specs.Arguments.{FlatArgs, all_bindings, binding_behind}
use Rattle.store_json.specs.Entries.{HasEntries}
use Rattle.store_json.proofs.args.+arguments.Given as goal

-- what stands there by now leads to what stands there in the end
abbrev pub invariant-write_owns-loop-binding : goal.invariant-write_owns-loop-binding
invariant-write_owns-loop-binding l =
    (front : List FlatArgs) (start : Written) → HasEntries start front l.fn.before l.fn.out
    → (now : List FlatArgs) × (HasEntries start now l.at l.out)
    × ((all_bindings (map binding_behind (drop l.binding-index l.bindings)) now).0 ≡ (all_bindings (map binding_behind l.bindings) front).0)
