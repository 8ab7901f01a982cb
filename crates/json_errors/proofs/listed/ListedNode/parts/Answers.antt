use Rattle.std.proofs.Common.{rules}
use Rattle.json_errors.specs.Nodes.{in_list}
use Rattle.serde_json.specs.View.{items_view}
use Rattle.json_errors.proofs.Using.{parts_used}
use Rattle.json_errors.proofs.listed.ListedNode.parts.Goals as goal

pub returns-clause-walks : goal.returns-clause-walks
returns-clause-walks c =
    let items = items_view c.args.items.now in
    parts_used (in_list c.args.self.now) c.args.name.now c.args.group c.args.nulls items c.args.levels.now c.use_each.new.levels
    (search rules) (search rules) (search rules) (search rules)
