use Rattle.std.proofs.Common.{arith, ap, ◌∙◌, sym}
use Rattle.std.proofs.lemmas.List.{nil_from_length}
use Rattle.std.specs.BTreeMap.{is_at}
use Rattle.std.specs.List.{list_any}
use Rattle.hir_names.specs.Sets.{binding_cmp}
use Rattle.hir_names.specs.Upvars.{has_binding, with_upvars}
use Rattle.hir_names.proofs.UpvarLemmas.{next_mention, no_mention}
use Rattle.hir_names.proofs.upvars.add_mentions.Goals as goal

pub loop-split-init : goal.loop-split-init
loop-split-init c = (
  λ b. ap (λ ks. list_any (is_at (binding_cmp b)) ks) c.new-seen.ensures.empty ∙ ap (λ bs. has_binding bs b) (sym c.requires.none),
  ap (λ bs. with_upvars c.args.store.now c.args.resolutions.now c.args.closure bs c.args.left.now) (sym c.requires.none),
)

pub loop-split-preserved : goal.loop-split-preserved
loop-split-preserved c = (
  c.in_ok-add_mention.ensures.seen,
  c.loop-split.invariant.1
      ∙ next_mention c.args.store.now c.args.resolutions.now c.args.closure c.loop-split.left.now _ _ c.loop-split.upvars
      c.add_mention.new.upvars c.in-Some.ensures.cases.0 c.in_ok-add_mention.ensures.upvars,
)

pub loop-split-smaller : goal.loop-split-smaller
loop-split-smaller c = omega (arith, c.in-Some.ensures.cases.1)

pub returns : goal.returns
returns c =
    sym (c.loop-split.invariant.1
    ∙ no_mention c.args.store.now c.args.resolutions.now c.args.closure c.loop-split.left.now c.loop-split.upvars
    (nil_from_length _ c.in_default.ensures.cases))
