use Rattle.std.proofs.Common.{rules}
use Rattle.hir_lower_type.proofs.bounds.stored_path_bound.Goals as goal

pub returns-then-maybe : goal.returns-then-maybe
returns-then-maybe c = search rules
