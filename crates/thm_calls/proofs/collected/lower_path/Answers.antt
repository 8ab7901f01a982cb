use Rattle.thm_calls.specs.Promises.{PathPromise}
use Rattle.thm_calls.specs.Readings.{path_reading_at}
use Rattle.thm_calls.proofs.Promised.{of_each, these_arguments}
use Rattle.thm_calls.proofs.Ruled as ruled
use Rattle.thm_calls.proofs.collected.lower_path.Goals as goal

pub returns-clause-promise : goal.returns-clause-promise
returns-clause-promise g c = record {
  calls = c.lower_path.ensures.calls;
  reads_back = c.lower_path.ensures.data;
  segments = c.lower_path.ensures.segments;
  arguments = these_arguments _ _ c.args.path.now c.lower_path.result c.lower_path.ensures.arguments;
  rooted = c.lower_path.ensures.rooted;
  full = c.lower_path.ensures.full;
  too_large = c.lower_path.ensures.too_large;
  fits = c.lower_path.ensures.fits;
  names = c.lower_path.ensures.names;
  tracked = c.lower_path.ensures.tracked;
  stays = c.lower_path.ensures.stays;
}

pub returns-clause-by_rules : goal.returns-clause-by_rules
returns-clause-by_rules g c =
    let old = c.args.collector.now in
    let env = g.E.LowerEnv.answers old.db.now in
    let impl = g.I.ImplTraitMode.mode c.args.impl_trait.now in
    let x = c.args.path.now in
    of_each (ruled.path env old.place impl x)
    (λ y o. PathPromise x (record { read = y; arguments = (path_reading_at old.place impl x env).arguments }) o)
    (returns-clause-promise g c)

pub returns-clause-impl_trait : goal.returns-clause-impl_trait
returns-clause-impl_trait g c = c.lower_path.ensures.impl_trait

pub returns-clause-db : goal.returns-clause-db
returns-clause-db g c = c.lower_path.ensures.db

pub returns-clause-place : goal.returns-clause-place
returns-clause-place g c = c.lower_path.ensures.place
