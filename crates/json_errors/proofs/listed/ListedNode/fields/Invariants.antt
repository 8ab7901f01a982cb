use Rattle.std.proofs.Common.{◌≡◌, drop, length, map}
use Rattle.json_errors.specs.Rows.{named_sort}
use Rattle.json_errors.specs.Nodes as spec
use Rattle.json_errors.specs.Nodes.{in_list}
use Rattle.json_errors.proofs.listed.ListedNode.fields.Given as goal

abbrev pub invariant-loop-field : goal.invariant-loop-field
invariant-loop-field l = record {
  same : l.self ≡ l.fn.self;
  kept : length l.levels ≡ length l.initial.levels;
  so_far : spec.fields (in_list l.self) (map named_sort l.fields) l.initial.levels
      ≡ spec.fields (in_list l.self) (map named_sort (drop l.field-index l.fields)) l.levels;
}
