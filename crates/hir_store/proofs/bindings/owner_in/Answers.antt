use Rattle.std.proofs.Common.{length, refl, sym}
use Rattle.std.proofs.lemmas.Option.{slice_get_past, slice_get_read}
use Rattle.hir_store.proofs.OwnerLemmas.{owner_missing, owner_read}
use Rattle.hir_store.proofs.bindings.owner_in.Goals as goal

pub returns-in-None : goal.returns-in-None
returns-in-None c =
    let os = c.args.owners.now in
    let found = c.in-None.ensures.lookup in
    sym (owner_missing os c.args.id.0 (slice_get_past os c.args.id.0 found.3))

pub returns-in-Some : goal.returns-in-Some
returns-in-Some c =
    let os = c.args.owners.now in
    let owner = c.in-Some.owner.now in
    let found = c.in-Some.ensures.lookup in
    sym (owner_read os c.args.id.0 owner (slice_get_read os (length os) c.args.id.0 owner refl found.3.0 found.1))
