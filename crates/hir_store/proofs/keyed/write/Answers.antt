use Rattle.hir_store.proofs.KeyLemmas.{written_at}
use Rattle.hir_store.proofs.keyed.write.Goals as goal

pub returns : goal.returns
returns g c = written_at c.args.entries.now.items c.args.place c.index_mut.result.now c.args.value c.index_mut.ensures.value
