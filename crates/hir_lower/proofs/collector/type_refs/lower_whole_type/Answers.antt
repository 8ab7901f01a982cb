use Rattle.hir_lower.proofs.Collecting.{type_ref_collected}
use Rattle.hir_lower.proofs.Tracking.{type_ref_tracked}
use Rattle.hir_lower.proofs.TypeRefMeanings.{rooted_type_if, type_apart_if, type_data_if, type_defined_if, type_ends_if}
use Rattle.hir_lower.proofs.TypeRefMeanings.{type_fits_behind_if, type_mapped_if, type_may_be_owned_if, type_names_if, type_outside_if}
use Rattle.hir_lower.proofs.TypeRefMeanings.{type_stays_if, type_too_large_if, type_within_if}
use Rattle.hir_lower.proofs.collector.type_refs.lower_whole_type.Goals as goal

pub returns-clause-data : goal.returns-clause-data
returns-clause-data g c = λ d. type_data_if _ _ _ _ c.lower_type_opt.result c.lower_type_opt.ensures d

pub returns-clause-rooted : goal.returns-clause-rooted
returns-clause-rooted g c = λ d m out. rooted_type_if _ _ _ _ c.lower_type_opt.result c.lower_type_opt.ensures d m out

pub returns-clause-outside : goal.returns-clause-outside
returns-clause-outside g c = λ out. type_outside_if _ _ _ _ c.lower_type_opt.result c.lower_type_opt.ensures out

pub returns-clause-full : goal.returns-clause-full
returns-clause-full g c = λ is. type_ends_if _ _ _ _ c.lower_type_opt.result c.lower_type_opt.ensures is

pub returns-clause-too_large : goal.returns-clause-too_large
returns-clause-too_large g c = λ d is. type_too_large_if _ _ _ _ c.lower_type_opt.result c.lower_type_opt.ensures d is

pub returns-clause-names : goal.returns-clause-names
returns-clause-names g c = λ d. type_names_if _ _ _ _ c.lower_type_opt.result c.lower_type_opt.ensures d

pub returns-clause-tracked : goal.returns-clause-tracked
returns-clause-tracked g c = λ d. type_ref_tracked _ _ _ _ c.lower_type_opt.result c.lower_type_opt.ensures d

pub returns-clause-stays : goal.returns-clause-stays
returns-clause-stays g c = λ m n. type_stays_if _ _ _ _ c.lower_type_opt.result c.lower_type_opt.ensures m n

pub returns-clause-apart : goal.returns-clause-apart
returns-clause-apart g c = λ d m. type_apart_if _ _ _ _ c.lower_type_opt.result c.lower_type_opt.ensures d m

pub returns-clause-defined : goal.returns-clause-defined
returns-clause-defined g c = λ d m out known. type_defined_if _ _ _ _ c.lower_type_opt.result c.lower_type_opt.ensures d m out known

pub returns-clause-mapped : goal.returns-clause-mapped
returns-clause-mapped g c = λ d m. type_mapped_if _ _ _ _ c.lower_type_opt.result c.lower_type_opt.ensures d m

pub returns-clause-owners : goal.returns-clause-owners
returns-clause-owners g c = λ m. type_may_be_owned_if _ _ _ _ c.lower_type_opt.result c.lower_type_opt.ensures m

pub returns-clause-fits : goal.returns-clause-fits
returns-clause-fits g c = λ d w. type_fits_behind_if _ _ _ _ c.lower_type_opt.result c.lower_type_opt.ensures d w

pub returns-clause-within : goal.returns-clause-within
returns-clause-within g c = λ d w. type_within_if _ _ _ _ c.lower_type_opt.result c.lower_type_opt.ensures d w

pub returns-clause-collected : goal.returns-clause-collected
returns-clause-collected g c = λ d m out k. type_ref_collected _ _ _ c.lower_type_opt.result
    (rooted_type_if _ _ _ _ c.lower_type_opt.result c.lower_type_opt.ensures d m out)
    (λ n. type_stays_if _ _ _ _ c.lower_type_opt.result c.lower_type_opt.ensures m n) k
