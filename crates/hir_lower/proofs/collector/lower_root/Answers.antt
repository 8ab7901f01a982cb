use Rattle.std.proofs.lemmas.Grind.{common_steps}
use Rattle.std.proofs.Common.{arith}
use Rattle.hir_lower.proofs.Collecting.{constant_collected}
use Rattle.hir_lower.proofs.Meanings.{apart_if, defined_if, mapped_if, may_be_owned_if, names_if, outside_if, rooted_if, stays_unless}
use Rattle.hir_lower.proofs.Meanings.{fits_if, too_large_if, within_if}
use Rattle.hir_lower.proofs.Tracking.{root_tracked}
use Rattle.hir_lower.proofs.collector.lower_root.Goals as goal

pub returns-clause-rooted : goal.returns-clause-rooted
returns-clause-rooted g c = λ d m. rooted_if _ _ _ c.root_steps.result c.root_steps.ensures d m

pub returns-clause-outside : goal.returns-clause-outside
returns-clause-outside g c = outside_if _ _ _ c.root_steps.result c.root_steps.ensures

pub returns-clause-stays : goal.returns-clause-stays
returns-clause-stays g c = λ m n. stays_unless _ _ _ c.root_steps.result c.root_steps.ensures m n

pub returns-clause-too_large : goal.returns-clause-too_large
returns-clause-too_large g c = λ d is. too_large_if _ _ _ c.root_steps.result c.root_steps.ensures d is

pub returns-clause-names : goal.returns-clause-names
returns-clause-names g c = λ d. names_if _ _ _ c.root_steps.result c.root_steps.ensures d

pub returns-clause-tracked : goal.returns-clause-tracked
returns-clause-tracked g c = λ d. root_tracked _ _ _ c.root_steps.result c.root_steps.ensures d

pub returns-clause-apart : goal.returns-clause-apart
returns-clause-apart g c = λ d m. apart_if _ _ _ c.root_steps.result c.root_steps.ensures d m

pub returns-clause-defined : goal.returns-clause-defined
returns-clause-defined g c = λ d m known. defined_if _ _ _ c.root_steps.result c.root_steps.ensures d m known

pub returns-clause-mapped : goal.returns-clause-mapped
returns-clause-mapped g c = λ d m. mapped_if _ _ _ c.root_steps.result c.root_steps.ensures d m

pub returns-clause-owners : goal.returns-clause-owners
returns-clause-owners g c = λ m. may_be_owned_if _ _ _ c.root_steps.result c.root_steps.ensures m

pub returns-clause-fits : goal.returns-clause-fits
returns-clause-fits g c = λ d w. fits_if _ _ _ c.root_steps.result c.root_steps.ensures d w

pub returns-clause-within : goal.returns-clause-within
returns-clause-within g c = λ d w. within_if _ _ _ c.root_steps.result c.root_steps.ensures d w

pub returns-clause-collected : goal.returns-clause-collected
returns-clause-collected g c = λ d m k. constant_collected _ _ _ c.root_steps.result
    (rooted_if _ _ _ c.root_steps.result c.root_steps.ensures d m)
    (λ n. stays_unless _ _ _ c.root_steps.result c.root_steps.ensures m n) k

pub returns-clause-lowers : goal.returns-clause-lowers
returns-clause-lowers g c = grind (arith, common_steps)
