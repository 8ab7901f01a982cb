use Rattle.std.proofs.Common.{◌≡◌, ℕ, suc, Option, Some, None}
use Rattle.hir_lower_scope.specs.ScopeRibs.{search, sought_first}
use Rattle.hir_scopes.specs.declared.scope.ScopeId.{ScopeId}
use Rattle.hir_scopes.specs.Chains.{IsChain}
use Rattle.hir_scopes.specs.Lookup.{sought_of}
use Rattle.spec_scopes.specs.Scopes.{Scopes, ribs_of}
use Rattle.hir_scopes.proofs.scope.ExprScopes.resolve_name_in_scope.Given as goal

-- what is sought from here is what was sought at the start
abbrev pub invariant-loop-next : goal.invariant-loop-next
invariant-loop-next g l = (ss : Scopes) → IsChain l.fn.self l.fn.scope ss → (zs : Scopes) × IsChain l.self l.next zs
    × (search (g.E.LowerEnv.answers l.env).contexts l.name (sought_first l.fn.hygiene) (ribs_of l.store ss)
    ≡ search (g.E.LowerEnv.answers l.env).contexts l.name (sought_of l.wanted) (ribs_of l.store zs))

abbrev how_far : Option ScopeId → ℕ
how_far None = 0
how_far (Some s) = suc s.0

abbrev pub decreases-loop-next : goal.decreases-loop-next
decreases-loop-next g l = how_far l.next
