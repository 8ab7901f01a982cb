use Rattle.hir_recorder.proofs.Alike.{all_alike}
use Rattle.hir_recorder.proofs.kept_alike.Goals as goal

pub returns : goal.returns
returns c = λ a b xs h k. all_alike a b xs h k
