-- An environment by which each macro call, however deep, is expanded.
use Rattle.std.specs.Prelude.{◌+◌, ◌-◌, ◌^◌, min}
use Rattle.hir_base.specs.declared.node.HirFileId.{HirFileId}
use Rattle.hir_env.specs.Answers.{Answers, Expanding, expanded}
use Rattle.hir_env.specs.NodeMap.{Site}
use Rattle.hir_env.specs.declared.expand.FragmentKind.{FragmentKind}
use Rattle.hir_env.specs.declared.expand.FragmentKind.TheVariants as kind

-- where the other environment is asked for a tree of the kind: in file 9, by a number
abbrev pub tree_of : FragmentKind → Site
tree_of kind.Expr = record { file_id = record { 0 = 9 }; value = record { 0 = 0 } }
tree_of kind.Stmts = record { file_id = record { 0 = 9 }; value = record { 0 = 1 } }
tree_of kind.Pat = record { file_id = record { 0 = 9 }; value = record { 0 = 2 } }
tree_of kind.Type_ = record { file_id = record { 0 = 9 }; value = record { 0 = 3 } }

-- the file behind that of the node, by the number of the node
abbrev pub file_behind : Site → HirFileId
file_behind node = record { 0 = min (node.file_id.0 + node.value.0) (2 ^ 32 - 1) }

abbrev pub in_file : HirFileId → Expanding → Expanding
in_file f (expanded g root es) = expanded f root es
in_file f x = x

abbrev pub endless_answers : Answers → Answers
endless_answers env = record env {
  expand = λ node call inside kind. in_file (file_behind node) (env.expand (tree_of kind) call inside kind);
}
