use Rattle.json_nodes.specs.Types.{of_path_type}
use Rattle.json_nodes.proofs.types.of_path_type.Goals as goal

pub returns : goal.returns
unfolding of_path_type
returns g c = λ e.
    let path = c.field-path.ensures e in
    (path.0, rw (c.id.ensures, c.range.ensures, path.1))

pub field-path-requires : goal.field-path-requires
field-path-requires g c = c.requires
