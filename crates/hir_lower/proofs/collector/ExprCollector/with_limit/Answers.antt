use Rattle.std.proofs.Common.{rules}
use Rattle.hir_lower.proofs.Collecting.{fresh_collected}
use Rattle.hir_lower.proofs.GeneratedNames.{fresh_apart, fresh_defined, fresh_limits, fresh_mapped}
use Rattle.hir_lower.proofs.collector.ExprCollector.with_limit.Goals as goal

pub returns-clause-place : goal.returns-clause-place
returns-clause-place g c = search rules

pub returns-clause-works : goal.returns-clause-works
returns-clause-works g c = search rules

pub invariant_of-result-clause-defined : goal.invariant_of-result-clause-defined
invariant_of-result-clause-defined g c = λ works. fresh_defined _ _ c.new.ensures

pub invariant_of-result-clause-mapped : goal.invariant_of-result-clause-mapped
invariant_of-result-clause-mapped g c = λ works. fresh_mapped _ _ c.new.ensures

pub invariant_of-result-clause-apart : goal.invariant_of-result-clause-apart
invariant_of-result-clause-apart g c = λ works. fresh_apart _ _ c.new.ensures

pub invariant_of-result-clause-within : goal.invariant_of-result-clause-within
invariant_of-result-clause-within g c = λ works. fresh_limits _ _ c.new.ensures

pub invariant_of-result-clause-collected : goal.invariant_of-result-clause-collected
invariant_of-result-clause-collected g c = λ works. fresh_collected _ _ c.new.ensures
