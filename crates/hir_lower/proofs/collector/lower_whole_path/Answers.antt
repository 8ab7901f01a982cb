use Rattle.hir_lower.proofs.Collecting.{path_collected}
use Rattle.hir_lower.proofs.PathMeanings.{arguments_if, data_if, ends_if, names_if, outside_path_if, path_apart_if, path_defined_if}
use Rattle.hir_lower.proofs.PathMeanings.{path_mapped_if, path_may_be_owned_if, path_names_if, path_stays_if, path_too_large_if}
use Rattle.hir_lower.proofs.PathMeanings.{path_fits_if, path_within_if, rooted_path_if}
use Rattle.hir_lower.proofs.Tracking.{path_tracked}
use Rattle.hir_lower.proofs.collector.lower_whole_path.Goals as goal

pub returns-clause-data : goal.returns-clause-data
returns-clause-data g c = λ d. data_if _ _ _ _ c.lower_path.result c.lower_path.ensures d

pub returns-clause-segments : goal.returns-clause-segments
returns-clause-segments g c = λ d. names_if _ _ _ _ c.lower_path.result c.lower_path.ensures d

pub returns-clause-arguments : goal.returns-clause-arguments
returns-clause-arguments g c = λ d. arguments_if _ _ _ _ c.lower_path.result c.lower_path.ensures d

pub returns-clause-rooted : goal.returns-clause-rooted
returns-clause-rooted g c = λ d m out. rooted_path_if _ _ _ _ c.lower_path.result c.lower_path.ensures d m out

pub returns-clause-outside : goal.returns-clause-outside
returns-clause-outside g c = λ out. outside_path_if _ _ _ _ c.lower_path.result c.lower_path.ensures out

pub returns-clause-full : goal.returns-clause-full
returns-clause-full g c = λ is. ends_if _ _ _ _ c.lower_path.result c.lower_path.ensures is

pub returns-clause-too_large : goal.returns-clause-too_large
returns-clause-too_large g c = λ d is. path_too_large_if _ _ _ _ c.lower_path.result c.lower_path.ensures d is

pub returns-clause-names : goal.returns-clause-names
returns-clause-names g c = λ d. path_names_if _ _ _ _ c.lower_path.result c.lower_path.ensures d

pub returns-clause-tracked : goal.returns-clause-tracked
returns-clause-tracked g c = λ d. path_tracked _ _ _ _ c.lower_path.result c.lower_path.ensures d

pub returns-clause-stays : goal.returns-clause-stays
returns-clause-stays g c = λ m n. path_stays_if _ _ _ _ c.lower_path.result c.lower_path.ensures m n

pub returns-clause-apart : goal.returns-clause-apart
returns-clause-apart g c = λ d m. path_apart_if _ _ _ _ c.lower_path.result c.lower_path.ensures d m

pub returns-clause-defined : goal.returns-clause-defined
returns-clause-defined g c = λ d m out known. path_defined_if _ _ _ _ c.lower_path.result c.lower_path.ensures d m out known

pub returns-clause-mapped : goal.returns-clause-mapped
returns-clause-mapped g c = λ d m. path_mapped_if _ _ _ _ c.lower_path.result c.lower_path.ensures d m

pub returns-clause-owners : goal.returns-clause-owners
returns-clause-owners g c = λ m. path_may_be_owned_if _ _ _ _ c.lower_path.result c.lower_path.ensures m

pub returns-clause-fits : goal.returns-clause-fits
returns-clause-fits g c = λ d w. path_fits_if _ _ _ _ c.lower_path.result c.lower_path.ensures d w

pub returns-clause-within : goal.returns-clause-within
returns-clause-within g c = λ d w. path_within_if _ _ _ _ c.lower_path.result c.lower_path.ensures d w

pub returns-clause-collected : goal.returns-clause-collected
returns-clause-collected g c = λ d m out k. path_collected _ _ _ c.lower_path.result
    (rooted_path_if _ _ _ _ c.lower_path.result c.lower_path.ensures d m out)
    (λ n. path_stays_if _ _ _ _ c.lower_path.result c.lower_path.ensures m n) k
