use Rattle.std.proofs.Common.{ap, subst, sym}
use Rattle.hir_names.specs.Walk.{Leads}
use Rattle.hir_names.proofs.WayLemmas.{leads_more}
use Rattle.hir_names.proofs.places.put_on_way.Goals as goal

pub returns-clause-way : goal.returns-clause-way
returns-clause-way c =
    λ store to leads.
    subst (Leads store c.args.scopes.now to c.parent.result) (sym c.in_ok-push.ensures.ok)
    (leads_more store c.args.scopes.now to c.args.there c.parent.result c.args.way.now c.parent.ensures.found leads)
