-- Where a part of a tree is read.
use Rattle.hir_base.specs.declared.node.NodeId.{NodeId}
use Rattle.hir_base.specs.declared.node.TextRange.{TextRange}
use Rattle.hir_base.specs.declared.node.AstPtr.{AstPtr}
use Rattle.hir_store.specs.Pointers.{Pointer}
use Rattle.hir_env.specs.declared.ctx.LowerCtx.{LowerCtx}
use Rattle.hir_env.specs.NodeMap.{Site}
use Rattle.hir_env.specs.Answers.{Answers}

-- a place, with what the environment answers
pub record ResolveCtx : Type 0 where
  pub answers : Answers
  pub place : LowerCtx

abbrev pub in_file : LowerCtx → AstPtr → Pointer
in_file p n = record { file_id = p.file_id; value = n }

abbrev pub ptr : NodeId → TextRange → AstPtr
ptr id range = record { node = id; range = range }

abbrev pub site_of : Pointer → Site
site_of s = record { file_id = s.file_id; value = s.value.node }
