-- What stands at the nodes of a list.
use Rattle.std.specs.Prelude.{ℕ, suc, zero, List, [], ◌∷◌, Bool, true, false, Option, Some, None, if◌then◌else◌}
use Rattle.std.specs.Prelude.{option_and_then, option_map, unwrap_or}
use Rattle.serde_json.specs.Data.{null, Items}
use Rattle.serde_json.specs.Find.{get_item}
use Rattle.hir_base.specs.declared.node.NodeId.{NodeId}
use Rattle.hir_base.specs.declared.node.TextRange.{TextRange}
use Rattle.hir_syntax.specs.declared.items.TypeAlias.{TypeAlias}
use Rattle.hir_syntax.specs.declared.macros.Fragment.{Fragment}
use Rattle.hir_syntax.specs.declared.macros.Fragment.TheVariants as fragment
use Rattle.hir_syntax.specs.declared.params.ParamList.{ParamList}
use Rattle.hir_syntax.specs.declared.pats.Pat.{Pat}
use Rattle.hir_syntax.specs.declared.types.Param.{roll-Param}
use Rattle.json_errors.specs.Kinds.{kind_at}
use Rattle.json_nodes.specs.Items.{function, type_alias}
use Rattle.json_nodes.specs.Listed.{Listed}
use Rattle.json_errors.specs.declared.kind.ExprNode.{ExprNode}
use Rattle.json_errors.specs.declared.kind.ItemNode.TheVariants as item
use Rattle.json_errors.specs.declared.kind.Kind.{Kind}
use Rattle.json_errors.specs.declared.kind.Kind.TheVariants as kind
use Rattle.json_errors.specs.declared.kind.PartNode.{PartNode}
use Rattle.json_errors.specs.declared.kind.PathNode.{PathNode}
use Rattle.json_nodes.specs.Branches.{branching, of_branch}
use Rattle.json_nodes.specs.Exprs.{flow, plain, operation, member, leaving, partless, of_if, of_literal}
use Rattle.json_nodes.specs.Macros.{of_macro}
use Rattle.json_nodes.specs.Nodes.{node_at}
use Rattle.json_nodes.specs.Others.{of_block, of_stmt, other}
use Rattle.json_nodes.specs.Params.{of_param}
use Rattle.json_nodes.specs.Pats.{of_pat}
use Rattle.json_nodes.specs.Paths.{path, of_path}
use Rattle.json_nodes.specs.Types.{of_type, of_path_type}
use Rattle.json_nodes.specs.Typed.{typed, of_record, of_pat_field}
use Rattle.json_nodes.specs.Args.{of_args}
use Rattle.json_nodes.specs.Bounds.{of_bound}
use Rattle.json_nodes.specs.Groups.{as_expr, as_macro_stmts, as_pat, as_type}
use Rattle.json_nodes.specs.Parts.{Here}
use Rattle.json_errors.specs.ByWord.{or_else}
use Rattle.json_nodes.specs.declared.code_parts.ExprPart.{ExprPart}
use Rattle.json_nodes.specs.Any.{PathPart}
use Rattle.json_nodes.specs.Any.{AnyPart}
use Rattle.json_nodes.specs.declared.part.AnyOf.TheVariants as part
use Rattle.lower_json.specs.declared.document.Root.{Root}
use Rattle.lower_json.specs.declared.document.Root.TheVariants as root
use Rattle.lower_json.specs.declared.document.Tree.{Tree}
use Rattle.lower_json.specs.declared.document.Tree.TheVariants as tree

abbrev pub of_expr : Here → ExprNode → Option ExprPart
of_expr h k = or_else (flow h k) (or_else (plain h k) (or_else (branching h k) (or_else (operation h k) (or_else (member h k)
    (or_else (leaving h k) (or_else (typed h k) (partless h k)))))))

abbrev pub of_path_part : Here → PathNode → Option PathPart
of_path_part h k = or_else (of_path h k) (of_args h k)

abbrev pub of_part : Here → PartNode → Option AnyPart
of_part h k = or_else (option_map part.Type_ (of_bound h k)) (or_else (option_map part.Code (of_branch h k))
    (or_else (option_map part.Code (of_record h k)) (or_else (option_map part.Code (of_macro h k))
    (or_else (option_map part.Pat (of_pat_field h k)) (or_else (option_map part.Param (of_param h k))
    (option_map part.Name (other h k)))))))

-- what stands at a node of each kind
unfoldable pub of_kind : Here → Kind → Option AnyPart
of_kind h kind.IfExpr = option_map part.Expr (of_if h)
of_kind h kind.BlockExpr = option_map part.Expr (of_block h)
of_kind h kind.Literal = option_map part.Expr (of_literal h)
of_kind h kind.PathType = option_map part.Type_ (of_path_type h)
of_kind h (kind.Expr k) = option_map part.Expr (of_expr h k)
of_kind h (kind.Stmt k) = option_map part.Code (of_stmt h k)
of_kind h (kind.Pat k) = option_map part.Pat (of_pat h k)
of_kind h (kind.Type_ k) = option_map part.Type_ (of_type h k)
of_kind h (kind.Path k) = option_map part.Path (of_path_part h k)
of_kind h (kind.Item k) = None
of_kind h (kind.Part k) = of_part h k

-- what stands at a node, by the kinds of all, on so many levels at most
unfoldable pub part_at : ℕ → List (Option Kind) → Items → ℕ → Option AnyPart
part_at zero kinds ns at = None
part_at (suc n) kinds ns at = option_and_then
    (λ d. option_and_then (of_kind (node_at (part_at n kinds ns) at d)) (kind_at kinds at))
    (get_item at ns)

abbrev last_id : NodeId
last_id = record { 0 = 4294967295 }

abbrev last_range : TextRange
last_range = record { start = 4294967295; end = 4294967295 }

-- a pattern as the only parameter of a function; parameter and list have the last of all numbers
abbrev pub only_param : Option Pat → ParamList
only_param p = record {
  id = last_id;
  range = last_range;
  self_ = None;
  params = roll-Param (record { id = last_id; range = last_range; pat = p; ty = None; variadic = false }) ∷ [];
}

-- the tree whose root is such a node, of a kind; the lists of an item stand among the others
abbrev pub tree_of : Root → Option Kind → Here → Listed → Tree
tree_of root.Fn k h l = tree.Fn (function h l)
tree_of root.Path k h l = tree.Path (path h)
tree_of root.Type_ k h l = tree.Type_ (option_and_then as_type (option_and_then (of_kind h) k))
tree_of root.Pat k h l = tree.Pat (only_param (option_and_then as_pat (option_and_then (of_kind h) k)))

-- what stands in the lists of an item at the root, two levels below it
abbrev pub in_lists : List (Option Kind) → Items → Listed
in_lists kinds ns = record { kinds = kinds; nodes = ns; part = part_at 253 kinds ns }

-- the tree at a node, on at most 256 levels; past the end its root says nothing
unfoldable pub tree_at : Root → List (Option Kind) → Items → ℕ → Tree
tree_at want kinds ns at =
    tree_of want (kind_at kinds at) (node_at (part_at 255 kinds ns) at (unwrap_or (get_item at ns) null)) (in_lists kinds ns)

abbrev pub kind_of : List (Option Kind) → ℕ → Option Kind
kind_of kinds at = kind_at kinds at

abbrev pub is_alias : Option Kind → Bool
is_alias (Some (kind.Item item.TypeAlias)) = true
is_alias _ = false

-- the alias whose root is at an index, on at most 256 levels
unfoldable pub alias_at : List (Option Kind) → Items → ℕ → Option TypeAlias
alias_at kinds ns at = option_and_then
    (λ d. if is_alias (kind_of kinds at) then Some (type_alias (node_at (part_at 255 kinds ns) at d) (in_lists kinds ns)) else None)
    (get_item at ns)

-- what stands at a node of a kind, as what a macro call is expanded to: a pattern, a type, statements, or else an expression
abbrev pub fragment_of : Here → Kind → Option Fragment
fragment_of h (kind.Pat k) = option_map fragment.Pat (option_and_then as_pat (of_kind h (kind.Pat k)))
fragment_of h (kind.Type_ k) = option_map fragment.Type_ (option_and_then as_type (of_kind h (kind.Type_ k)))
fragment_of h kind.PathType = option_map fragment.Type_ (option_and_then as_type (of_kind h kind.PathType))
fragment_of h (kind.Part k) = option_map fragment.Stmts (option_and_then as_macro_stmts (of_kind h (kind.Part k)))
fragment_of h k = option_map fragment.Expr (option_and_then as_expr (of_kind h k))

-- the same at an index, on at most 256 levels, wherever the call stands
unfoldable pub fragment_at : List (Option Kind) → Items → ℕ → Option Fragment
fragment_at kinds ns at = option_and_then
    (λ d. option_and_then (fragment_of (node_at (part_at 255 kinds ns) at d)) (kind_at kinds at))
    (get_item at ns)
