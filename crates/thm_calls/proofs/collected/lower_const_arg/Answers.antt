use Rattle.thm_calls.specs.Promises.{ConstPromise}
use Rattle.thm_calls.proofs.Promised.{of_each}
use Rattle.thm_calls.proofs.Ruled as ruled
use Rattle.thm_calls.proofs.collected.lower_const_arg.Goals as goal

pub returns-clause-promise : goal.returns-clause-promise
returns-clause-promise g c = record {
  calls = c.lower_const_arg.ensures.calls;
  rooted = c.lower_const_arg.ensures.rooted;
  full = c.lower_const_arg.ensures.full;
  too_large = c.lower_const_arg.ensures.too_large;
  fits = c.lower_const_arg.ensures.fits;
  names = c.lower_const_arg.ensures.names;
  tracked = c.lower_const_arg.ensures.tracked;
  stays = c.lower_const_arg.ensures.stays;
}

pub returns-clause-by_rules : goal.returns-clause-by_rules
returns-clause-by_rules g c =
    let old = c.args.collector.now in
    of_each (ruled.const_arg (g.E.LowerEnv.answers old.db.now) old.place c.args.arg.now) ConstPromise (returns-clause-promise g c)

pub returns-clause-db : goal.returns-clause-db
returns-clause-db g c = c.lower_const_arg.ensures.db

pub returns-clause-place : goal.returns-clause-place
returns-clause-place g c = c.lower_const_arg.ensures.place
