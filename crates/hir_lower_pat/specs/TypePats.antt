-- The borders of the end of a range in a type, and the patterns that no type has.
use Rattle.std.specs.Prelude.{Bool}
use Rattle.hir_syntax.specs.declared.ast.ElseBranch.TheOpen.{PatKind-F}
use Rattle.hir_store.specs.Stored.{Stored}
use Rattle.hir_store.specs.declared.ids.ExprId.{ExprId}
use Rattle.hir_env.specs.PatLayers.{PatKindLayer}
use Rattle.hir_env.specs.Whole.{written}
use Rattle.hir_lower_builder.specs.Lowering.{Lowering, ◌>>=◌, ◌>>◌, pure, close_barrier, enter_root, leave_root, open_barrier}

-- whether a `yield` stood around it, and whether a root was being lowered before
abbrev pub open_root : Lowering (Bool × Bool)
open_root = do
  outside ← open_barrier
  outer ← enter_root
  pure (outside, outer)

-- answers that are no numbers of entries
abbrev pub HasFlags : Stored → Bool × Bool → Type 0
HasFlags s flags = Unit {0}

abbrev pub shut : Bool × Bool → ExprId → Lowering ExprId
shut around id = do
  close_barrier around.0
  leave_root around.1 id
  pure id

-- all kinds but these
abbrev pub IsOther : PatKindLayer written → Type 0
IsOther PatKind-F.NotNullPat = ⊥
IsOther (PatKind-F.OrPat ps) = ⊥
IsOther (PatKind-F.RangePat o low high) = ⊥
IsOther (PatKind-F.MacroPat call) = ⊥
IsOther _ = Unit {0}
