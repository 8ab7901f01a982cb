use Rattle.hir_names.proofs.BodyLemmas.{no_body, one_body}
use Rattle.hir_names.proofs.upvars.body_alone.Goals as goal

pub returns-in-None : goal.returns-in-None
returns-in-None c = no_body c.args.store.now c.args.closure c.new-left.result _ c.new-left.ensures c.in-None.ensures

pub returns-in_ok-add_part-in-Some : goal.returns-in_ok-add_part-in-Some
returns-in_ok-add_part-in-Some c =
    one_body c.args.store.now c.args.closure c.new-left.result c.add_part.new.left _ c.in-Some.body c.new-left.ensures c.in-Some.ensures
    (c.in_ok-add_part-in-Some.ensures c.args.store.now)
