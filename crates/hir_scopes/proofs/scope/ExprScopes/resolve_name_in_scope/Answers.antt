use Rattle.std.proofs.Common.{◌∙◌, ap, sym}
use Rattle.hir_lower_scope.specs.ScopeRibs.{number_found, search}
use Rattle.hir_scopes.specs.Lookup.{sought_of}
use Rattle.spec_scopes.specs.Scopes.{ribs_of}
use Rattle.hir_scopes.proofs.FoundLemmas.{resolve_end, resolve_found, resolve_next}
use Rattle.hir_scopes.proofs.scope.ExprScopes.resolve_name_in_scope.Goals as goal

pub loop-next-init : goal.loop-next-init
loop-next-init g c =
    λ ss chain. (
      ss,
      chain,
      ap (λ w. search (g.E.LowerEnv.answers c.args.env.now).contexts c.args.name.now w (ribs_of c.args.store.now ss))
          (sym c.first_wanted-wanted.ensures),
    )

pub returns-in-Some-find_entry : goal.returns-in-Some-find_entry
returns-in-Some-find_entry g c =
    λ ss chain.
    let at = c.loop-next.invariant ss chain in
    sym (ap number_found at.2
    ∙ resolve_found c.args.store.now (g.E.LowerEnv.answers c.args.env.now).contexts c.args.name.now (sought_of c.loop-next.wanted)
    c.args.self.now c.loop-next.next c.in-Some.id c.entries.result.now at.0 c.in-Some.is at.1 c.entries.ensures
    c.in-Some-find_entry.found (λ rs. c.in-Some-find_entry.ensures (g.E.LowerEnv.answers c.args.env.now).contexts rs))

pub loop-next-preserved : goal.loop-next-preserved
loop-next-preserved g c =
    λ ss chain.
    let at = c.loop-next.invariant ss chain in
    let step = resolve_next c.args.store.now (g.E.LowerEnv.answers c.args.env.now).contexts c.args.name.now
    (sought_of c.loop-next.wanted) c.args.self.now c.loop-next.next c.in-Some.id c.entries.result.now at.0 c.in-Some.is at.1
    c.entries.ensures (sought_of c.past_scope-wanted.result) c.macro_def.result c.parent-next.result
    (λ rs. c.in_default-find_entry.ensures (g.E.LowerEnv.answers c.args.env.now).contexts rs) c.macro_def.ensures
    c.past_scope-wanted.ensures c.parent-next.ensures.found in (
      step.0,
      step.1,
      at.2 ∙ step.2,
    )

pub returns : goal.returns
returns g c =
    λ ss chain.
    let at = c.loop-next.invariant ss chain in
    sym (ap number_found at.2
    ∙ resolve_end c.args.store.now (g.E.LowerEnv.answers c.args.env.now).contexts c.args.name.now (sought_of c.loop-next.wanted)
    c.args.self.now c.loop-next.next at.0 c.in_default.is at.1)
