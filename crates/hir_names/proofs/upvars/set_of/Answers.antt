use Rattle.std.proofs.Common.{arith, ap, ◌∙◌, sym}
use Rattle.std.proofs.lemmas.List.{nil_from_length}
use Rattle.std.specs.BTreeMap.{is_at}
use Rattle.std.specs.List.{list_any}
use Rattle.std.specs.Prelude.{◌||◌}
use Rattle.hir_names.specs.Sets.{expr_cmp}
use Rattle.hir_names.specs.Upvars.{has_expr}
use Rattle.hir_names.proofs.UpvarLemmas.{all_in, one_more_in}
use Rattle.hir_names.proofs.upvars.set_of.Goals as goal

pub loop-split-init : goal.loop-split-init
loop-split-init c = λ e. ap (λ ks. list_any (is_at (expr_cmp e)) ks || has_expr c.args.left.now e) c.new-set.ensures.empty

pub loop-split-preserved : goal.loop-split-preserved
loop-split-preserved c =
    λ e.
    one_more_in c.loop-split.set c.insert.new.self c.loop-split.left.now _ _ c.in-Some.ensures.cases.0
    (λ x. c.in_ok-insert.ensures.updates.0 x) e
    ∙ c.loop-split.invariant e

pub loop-split-smaller : goal.loop-split-smaller
loop-split-smaller c = omega (arith, c.in-Some.ensures.cases.1)

pub returns : goal.returns
returns c =
    λ e.
    sym (all_in c.loop-split.set c.loop-split.left.now e (nil_from_length _ c.in_default.ensures.cases)) ∙ c.loop-split.invariant e
