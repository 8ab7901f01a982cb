use Rattle.std.proofs.Common.{◌≡◌, List, drop, length, map}
use Rattle.thm_result_json.specs.Arguments.{FlatArgs, all_bindings, binding_behind}
use Rattle.thm_result_json.specs.Codec.{to_items}
use Rattle.thm_result_json.specs.Paths.{flat_binding}
use Rattle.store_json.specs.Append.{AreReadable, with_items}
use Rattle.store_json.proofs.args.write_bindings.Given as goal

-- what ends the list from here ends it from the start
abbrev pub invariant-loop-binding : goal.invariant-loop-binding
invariant-loop-binding l =
    (front : List FlatArgs) → length front ≡ l.fn.before
    → (now : List FlatArgs) × (length now ≡ l.at)
    × (with_items (to_items flat_binding (all_bindings (map binding_behind (drop l.binding-index l.bindings)) now).1) l.out.tokens
    ≡ with_items (to_items flat_binding (all_bindings (map binding_behind l.bindings) front).1) l.initial.out.tokens)
    × (AreReadable (to_items flat_binding (all_bindings (map binding_behind (drop l.binding-index l.bindings)) now).1)
    → AreReadable (to_items flat_binding (all_bindings (map binding_behind l.bindings) front).1))
    × (l.out.before ≡ l.initial.out.before)
