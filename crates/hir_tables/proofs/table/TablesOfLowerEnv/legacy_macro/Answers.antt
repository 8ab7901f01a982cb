use Rattle.hir_tables.proofs.table.TablesOfLowerEnv.legacy_macro.Goals as goal

pub returns : goal.returns
returns g c = rw (← c.self.view_is) c.get.ensures
