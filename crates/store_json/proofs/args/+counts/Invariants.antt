use Rattle.std.proofs.Common.{◌≡◌, List, drop, length, map}
use Rattle.thm_result_json.specs.Arguments.{FlatArgs, all_bindings, binding_behind}
use Rattle.store_json.proofs.args.+counts.Given as goal

abbrev pub invariant-bindings_end-loop-binding : goal.invariant-bindings_end-loop-binding
invariant-bindings_end-loop-binding l =
    (front : List FlatArgs) → length front ≡ l.fn.before
    → (now : List FlatArgs) × (length now ≡ l.at)
    × ((all_bindings (map binding_behind (drop l.binding-index l.bindings)) now).0 ≡ (all_bindings (map binding_behind l.bindings) front).0)
