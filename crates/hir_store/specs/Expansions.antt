-- What calls were expanded to.
use Rattle.std.specs.Prelude.{Bool, true, false, ◌&&◌, nat_eq, List, find, reverse, Option, Some, None}
use Rattle.std.specs.Option.{option_map}
use Rattle.hir_base.specs.declared.node.InFile.{InFile}
use Rattle.hir_base.specs.declared.node.NodeId.{NodeId}
use Rattle.hir_base.specs.declared.node.HirFileId.{HirFileId}
use Rattle.hir_base.specs.declared.node.TextRange.{TextRange}
use Rattle.hir_store.specs.Pointers.{same_range}
use Rattle.hir_store.specs.declared.expansions.ExpandedCall.{ExpandedCall}

abbrev pub same_node : InFile NodeId → InFile NodeId → Bool
same_node a b = nat_eq a.file_id.0 b.file_id.0 && nat_eq a.value.0 b.value.0

abbrev pub same_range_option : Option TextRange → Option TextRange → Bool
same_range_option None None = true
same_range_option (Some a) (Some b) = same_range a b
same_range_option _ _ = false

-- whether this is said of the call
abbrev pub is_of : InFile NodeId → Option TextRange → ExpandedCall → Bool
is_of call range e = same_node e.call call && same_range_option e.range range

-- what the call was expanded to: of what is said of it the last counts
abbrev pub expansion_of : InFile NodeId → Option TextRange → List ExpandedCall → Option HirFileId
expansion_of call range es = option_map (λ e. e.file) (find (is_of call range) (reverse es))
