use Rattle.std.proofs.Common.{arith}
use Rattle.std.proofs.lemmas.List.{nil_from_length}
use Rattle.hir_names.proofs.AnswerLemmas.{next_resolved, none_left}
use Rattle.hir_names.proofs.WayLemmas.{empty_in_scope}
use Rattle.hir_names.proofs.resolutions.resolve_each.Goals as goal

pub loop-split-init : goal.loop-split-init
loop-split-init g c = (empty_in_scope c.args.store.now c.args.scopes.now c.new-stacks.result c.new-stacks.ensures, c.requires)

pub loop-split-preserved : goal.loop-split-preserved
loop-split-preserved g c = (
  c.in_ok-here.ensures.here,
  next_resolved c.args.store.now c.args.scopes.now (g.E.LowerEnv.answers c.args.env.now).contexts c.loop-split.left.now _ _
      c.loop-split.answers c.resolve_next.new.answers c.in-Some.ensures.cases.0 c.in_ok-here.ensures.answers c.loop-split.invariant.1,
)

pub loop-split-smaller : goal.loop-split-smaller
loop-split-smaller g c = omega (arith, c.in-Some.ensures.cases.1)

pub returns : goal.returns
returns g c =
    none_left c.args.store.now c.args.scopes.now (g.E.LowerEnv.answers c.args.env.now).contexts c.loop-split.answers c.loop-split.left.now
    (nil_from_length _ c.in_default.ensures.cases) c.loop-split.invariant.1
