use Rattle.std.proofs.Common.{◌<◌, ℕ}
use Rattle.std.specs.List.{Contains}
use Rattle.hir_store.specs.declared.ids.ExprId.{ExprId}
use Rattle.hir_names.specs.Reads.{Reads}
use Rattle.hir_names.proofs.mentions.names_in_order.Given as goal

-- so far
abbrev pub invariant-loop-number : goal.invariant-loop-number
invariant-loop-number l = (e : ExprId) → e.0 < l.number → Reads l.store l.scopes e → (place : ℕ) × Contains l.names.items (place, e)
