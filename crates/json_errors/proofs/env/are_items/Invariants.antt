use Rattle.std.proofs.Common.{◌≡◌, drop, map}
use Rattle.serde_json.specs.View.{view}
use Rattle.json_errors.specs.Env as spec
use Rattle.json_errors.proofs.env.are_items.Given as goal

abbrev pub invariant-loop-name : goal.invariant-loop-name
invariant-loop-name l = record {
  same : l.lang ≡ l.fn.lang;
  so_far : spec.are_items (map (λ n. n.now) l.names) (view l.lang)
      ≡ spec.are_items (map (λ n. n.now) (drop l.name-index l.names)) (view l.lang);
}
