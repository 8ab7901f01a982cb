use Rattle.std.proofs.Common.{rules}
use Rattle.hir_lower_type.proofs.lifetimes.lifetime_ref.Goals as goal

pub returns-then-eq-3 : goal.returns-then-eq-3
returns-then-eq-3 c = search rules
