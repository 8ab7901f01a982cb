use Rattle.std.proofs.Common.{subst}
use Rattle.hir_names.specs.Steps.{IsStep}
use Rattle.hir_names.specs.Walk.{IsInScope}
use Rattle.hir_names.proofs.WayLemmas.{leads_at, nearer_here, nearer_there}
use Rattle.hir_names.proofs.places.take_step.Goals as goal

pub go_out-outer-requires : goal.go_out-outer-requires
go_out-outer-requires c =
    subst (λ o. IsInScope c.args.store.now c.args.scopes.now o c.args.stacks.now)
    (subst (IsStep c.args.ends) c.in-Out.is c.requires.step) c.requires.here

pub returns-in-Out : goal.returns-in-Out
returns-in-Out c = record {
  here = c.go_out-outer.ensures.here;
  way = λ to leads. leads;
  nearer = nearer_here c.go_out-outer.result c.args.ends.here c.args.ends.there c.in-Out.here
      (subst (IsStep c.args.ends) c.in-Out.is c.requires.step) c.go_out-outer.ensures.before;
}

pub returns-in_ok-outer-in-OnWay : goal.returns-in_ok-outer-in-OnWay
returns-in_ok-outer-in-OnWay c = record {
  here = c.requires.here;
  way = λ to leads.
      c.in_ok-outer-in-OnWay.ensures.way c.args.store.now to
      (leads_at c.args.store.now c.args.scopes.now to c.args.ends.there c.in-OnWay.there c.args.way.now
      (subst (IsStep c.args.ends) c.in-OnWay.is c.requires.step) leads);
  nearer = nearer_there c.in_ok-outer-in-OnWay.outer c.args.ends.here c.args.ends.there c.in-OnWay.there
      (subst (IsStep c.args.ends) c.in-OnWay.is c.requires.step) c.in_ok-outer-in-OnWay.ensures.before;
}
