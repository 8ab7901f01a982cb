use Rattle.thm_semantics.proofs.Functions.{function_headline as proved}
use Rattle.thm_semantics.proofs.same_coroutine.Goals as goal

pub returns : goal.returns
returns c = proved
