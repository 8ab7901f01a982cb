-- The children of an expression that are still to come.
use Rattle.std.specs.Prelude.{List, [], ◌++◌, map, Option}
use Rattle.std.specs.List.{flat_map}
use Rattle.std.specs.Option.{option_to_list}
use Rattle.hir_store.specs.Children.{arm_children, field_child, statement_children}
use Rattle.hir_store.specs.declared.children.Parts.{Parts}
use Rattle.hir_store.specs.declared.children.Parts.TheVariants as parts
use Rattle.hir_store.specs.declared.ids.ExprId.{ExprId}

abbrev pub in_parts : Parts → List ExprId
in_parts parts.None = []
in_parts (parts.Exprs ids) = ids.now
in_parts (parts.Fields fields) = map field_child fields.now
in_parts (parts.Statements ss) = flat_map statement_children ss.now
in_parts (parts.Arms arms) = flat_map arm_children arms.now

abbrev pub left : Option ExprId → Option ExprId → Parts → Option ExprId → List ExprId
left first second ps last = option_to_list first ++ (option_to_list second ++ (in_parts ps ++ option_to_list last))
