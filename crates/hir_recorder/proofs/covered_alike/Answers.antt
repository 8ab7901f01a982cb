use Rattle.hir_recorder.proofs.Alike.{covered, covered_by_files}
use Rattle.hir_recorder.proofs.covered_alike.Goals as goal

pub returns-clause-answers : goal.returns-clause-answers
returns-clause-answers c = λ a b xs qs is h k. covered a b xs qs is h k

pub returns-clause-files : goal.returns-clause-files
returns-clause-files c = λ a b one xs qs is h k. covered_by_files a b one xs qs is h k
