use Rattle.std.proofs.Common.{refl}
use Rattle.hir_tables.proofs.Written.{on_ok}
use Rattle.hir_tables.proofs.table.TablesOf.set_legacy.Goals as goal

pub returns-clause-ok : goal.returns-clause-ok
returns-clause-ok g c = on_ok c.insert.result (λ same. rw (← c.self.view_is) (rw same refl)) c.insert.ensures.ok
